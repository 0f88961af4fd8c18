-- What the steps of an accepted script keep to: each operation is lawful and names live bases alone, and a creator makes the next base.
use Rattle.std.specs.Prelude.{ℕ, List, [], ◌∷◌, ◌++◌, Bool, not, ◌&&◌, ◌||◌, ◌==◌, nat_lt, nat_le, length, map, get_or, cond, Option, Some, None, is_some, is_none}
use Rattle.std.specs.List.{list_all, list_any, filter}
use Rattle.std.specs.Option.{option_and_then}
use Rattle.arr_num.specs.declared.elem.Elem.{Elem}
use Rattle.arr_num.specs.declared.elem.Elem.TheVariants.{U8}
use Rattle.arr_view.specs.Strided.{Strided}
use Rattle.arr_view.specs.Views.{elements, positions}
use Rattle.arr_ops.specs.declared.op.Op.{Op}
use Rattle.arr_ops.specs.Ops.{inputs, outputs}
use Rattle.arr_num.specs.Types.{same_elem}
use Rattle.arr_ops.specs.Formed.{well_formed, with_slot}
use Rattle.arr_ops.specs.declared.gather.Gather.{Gather}
use Rattle.arr_ops.specs.declared.gather.Scatter.{Scatter}
use Rattle.arr_ops.specs.Gathers.{is_gather, is_scatter}
use Rattle.arr_elab.specs.declared.step.Step.{Step}
use Rattle.arr_elab.specs.declared.step.Step.TheVariants as step
use Rattle.arr_elab.specs.declared.step.Step.TheVariants.{Act, Name, Forget, Done, Cut}

-- the length and type of each base made so far, the first base of the statement, and the base of each name
pub record Scene : Type 0 where
  pub bases : List (ℕ × Elem)
  pub first : ℕ
  pub names : List (ℕ × ℕ)

abbrev pub opening : Scene
opening = record { bases = []; first = 0; names = [] }

abbrev pub length_of : Scene → ℕ → ℕ
length_of scene b = (get_or scene.bases b (0, U8)).0

abbrev pub type_of : Scene → ℕ → Elem
type_of scene b = (get_or scene.bases b (0, U8)).1

-- a name stands for it, or the statement made it
abbrev pub is_live : Scene → ℕ → Bool
is_live scene b = nat_lt b (length scene.bases) && (nat_le scene.first b || list_any (λ (name : ℕ × ℕ). name.1 == b) scene.names)

-- a view of a live base of this type, inside it
abbrev pub stands : Scene → Elem → Strided → Bool
stands scene t v = is_live scene v.base && (same_elem t (type_of scene v.base) && list_all (λ e. nat_lt e (length_of scene v.base)) (elements v))

abbrev pub makes_next : Scene → Op → Bool
makes_next scene op = list_all (λ (o : Strided). o.base == length scene.bases) (outputs op)

-- an operation that may come next; its slot comes later, and it frees nothing
abbrev pub may_act : Scene → Op → Bool
may_act scene op =
    is_none op.slot && (is_none op.frees && (well_formed (with_slot op) && (list_all (stands scene op.from) (inputs op)
    && cond op.makes (makes_next scene op) (list_all (stands scene op.to) (outputs op)))))

abbrev pub made_by : Op → List (ℕ × Elem)
made_by op = map (λ (o : Strided). (positions o.lengths, op.to)) (filter (λ _. op.makes) (outputs op))

-- it makes the next base
abbrev pub may_gather : Scene → Gather → Bool
may_gather scene g = is_gather g && (stands scene g.to g.source && (stands scene g.of g.index && (g.out.base == length scene.bases)))

abbrev pub may_scatter : Scene → Scatter → Bool
may_scatter scene g = is_scatter g && (stands scene g.to g.target && (stands scene g.of g.index && stands scene g.to g.values))

abbrev pub other_names : ℕ → List (ℕ × ℕ) → List (ℕ × ℕ)
other_names n names = filter (λ (name : ℕ × ℕ). not (name.0 == n)) names

abbrev pub allowed : Bool → Scene → Option Scene
allowed test scene = cond test (Some scene) None

-- what a step leaves, where it may come
abbrev pub after_step : Scene → Step → Option Scene
after_step scene (Act op) = allowed (may_act scene op) (record scene { bases = scene.bases ++ made_by op })
after_step scene (step.Gather g) = allowed (may_gather scene g) (record scene { bases = scene.bases ++ (positions g.out.lengths, g.to) ∷ [] })
after_step scene (step.Scatter g) = allowed (may_scatter scene g) scene
after_step scene (Name n b) = allowed (is_live scene b) (record scene { names = (n, b) ∷ other_names n scene.names })
after_step scene (Forget n) = Some (record scene { names = other_names n scene.names })
after_step scene Done = Some (record scene { first = length scene.bases })
after_step scene Cut = Some scene

abbrev pub after_steps : Scene → List Step → Option Scene
after_steps scene [] = Some scene
after_steps scene (s ∷ steps) = option_and_then (λ next. after_steps next steps) (after_step scene s)

abbrev pub is_recording : List Step → Bool
is_recording steps = is_some (after_steps opening steps)
