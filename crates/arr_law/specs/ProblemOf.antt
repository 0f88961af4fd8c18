-- The problem that a list of operations is.
use Rattle.std.specs.Prelude.{ℕ, suc, ◌&&◌, ◌==◌, nat_lt, Bool, false, cond, List, [], ◌∷◌, Option, Some, None, length, get_or, map}
use Rattle.std.specs.List.{list_any, flat_map, position_or_len}
use Rattle.std.specs.Option.{option_map}
use Rattle.arr_num.specs.declared.code.Code.TheVariants.{Free}
use Rattle.arr_num.specs.declared.elem.Elem.TheVariants.{U8}
use Rattle.arr_view.specs.Strided.{Strided}
use Rattle.arr_view.specs.Views.{has, identical}
use Rattle.arr_ops.specs.declared.op.Op.{Op}
use Rattle.arr_ops.specs.Ops.{array_of, inputs, outputs, views, freed, fusible, dep, makes_base}
use Rattle.arr_ops.specs.Costs.{distinct, weight}
use Rattle.arr_law.specs.Problem.{Problem}

-- no operation: no view, no base
abbrev pub nothing : Op
nothing = record { code = Free; to = U8; from = U8; out = None; first = None; second = None; axis = None; slot = None; frees = None; makes = false }

-- operations are numbered from 1
abbrev pub op_at : List Op → ℕ → Op
op_at list f = get_or (nothing ∷ list) f nothing

-- the number of the first that passes
abbrev pub first_where : (Op → Bool) → List Op → Option ℕ
first_where test list = cond (list_any test list) (Some (suc (position_or_len test list))) None

-- one of each class of identical views, by first sight
abbrev pub views_of : List Op → List Strided
views_of list = distinct identical (flat_map views list)

abbrev pub no_view : Strided
no_view = record { base = 0; start = 0; lengths = []; strides = [] }

abbrev pub view_at : List Op → ℕ → Strided
view_at list c = get_or (views_of list) c no_view

-- a view by its number: 0 is the output, 1 and 2 are the operands
abbrev pub numbered_view : Op → ℕ → Option Strided
numbered_view op k = cond (k == 0) op.out (cond (k == 1) (array_of op.first) (cond (k == 2) (array_of op.second) None))

abbrev pub problem_of : List Op → Problem
problem_of list =
    record {
      count = length list;
      fusible = λ f g. fusible (op_at list f) (op_at list g);
      dep = λ f g. nat_lt f g && dep (op_at list f) (op_at list g);
      classes = length (views_of list);
      reads = λ f c. list_any (identical (view_at list c)) (inputs (op_at list f));
      writes = λ f c. list_any (identical (view_at list c)) (outputs (op_at list f));
      weight = λ c. weight list (view_at list c);
      base = λ c. (view_at list c).base;
      creator = λ b. first_where (λ op. makes_base op b) list;
      freer = λ b. first_where (λ op. has (freed op) b) list;
      frees = λ f. (op_at list f).frees;
      names = λ f b. has (map (λ (v : Strided). v.base) (views (op_at list f))) b;
      view = λ f k. option_map (λ v. position_or_len (identical v) (views_of list)) (numbered_view (op_at list f) k);
    }
