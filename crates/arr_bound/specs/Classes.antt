-- What each class of identical views is to a leaf.
use Rattle.std.specs.Prelude.{◌≡◌, ℕ, ◌+◌, ◌/◌, ◌<◌, ◌≤◌, Bool, ◌&&◌, cond, List, length, get_or}
use Rattle.std.specs.List.{list_any}
use Rattle.arr_sets.specs.Bits.{is_set}
use Rattle.arr_view.specs.Strided.{Strided}
use Rattle.arr_view.specs.Views.{identical}
use Rattle.arr_ops.specs.declared.op.Op.{Op}
use Rattle.arr_ops.specs.Ops.{inputs, outputs}
use Rattle.arr_law.specs.Problem.{is_op}
use Rattle.arr_law.specs.ProblemOf.{op_at, problem_of, view_at, views_of}
use Rattle.arr_bound.specs.declared.classes.Class.{Class}

-- an operation writes a view identical to this one, or reads one
abbrev pub touches_at : List Op → Strided → Bool → ℕ → Bool
touches_at list view written g = cond written (list_any (identical view) (outputs (op_at list g))) (list_any (identical view) (inputs (op_at list g)))

-- the words say of each operation whether it passes
pub record IsRow (list : List Op) (test : ℕ → Bool) (words : List ℕ) : Type 0 where
  pub long : length words ≡ length list / 64 + 1
  pub each : (g : ℕ) → is_set words g ≡ (is_op (problem_of list) g && test g)

pub record IsClass (list : List Op) (c : ℕ) (class : Class) : Type 0 where
  pub view : class.view ≡ view_at list c
  pub weight : class.weight ≡ (problem_of list).weight c
  pub small : class.weight ≤ 8388608
  pub creator : class.creator ≡ (problem_of list).creator ((problem_of list).base c)
  pub freer : class.freer ≡ (problem_of list).freer ((problem_of list).base c)
  pub readers : IsRow list (λ f. (problem_of list).reads f c) class.readers.items
  pub writers : IsRow list (λ f. (problem_of list).writes f c) class.writers.items

-- the first so many classes of the list
pub record AreClasses (list : List Op) (limit : ℕ) (classes : List Class) : Type 0 where
  pub long : length classes ≡ limit
  pub each : (c : ℕ) → c < limit → (d : Class) → IsClass list c (get_or classes c d)

-- all classes of a list of so few operations
abbrev pub AreAllClasses : List Op → List Class → Type 0
AreAllClasses list classes = (length list ≤ 256) × (length (views_of list) ≤ 768) × AreClasses list (length (views_of list)) classes
