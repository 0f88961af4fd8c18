-- Leaves: groups of operations of which each surely pays for a view.
use Rattle.std.specs.Prelude.{ℕ, ◌*◌, Bool, true, not, ◌&&◌, ◌||◌, ◌==◌, nat_lt, List, Option, Some, None, length, slice_get, unwrap_or}
use Rattle.std.specs.List.{list_all, sum_by}
use Rattle.std.specs.Option.{option_and_then}
use Rattle.arr_ops.specs.Formed.{all_pairs}
use Rattle.arr_law.specs.declared.charge.Charge.{Charge}
use Rattle.arr_law.specs.declared.fact.Fact.TheVariants.{Apart}
use Rattle.arr_law.specs.Problem.{Problem, is_op}
use Rattle.arr_law.specs.Facts.{Facts}

-- there is no such operation, or it is known to stand in another block
abbrev pub is_apart : Facts → ℕ → Option ℕ → Bool
is_apart facts f None = true
is_apart facts f (Some g) = facts (Apart f g)

-- under the facts the block of f pays for the class: it reads a view of it, and no creator of the base stands there, or it writes one, and no FREE
abbrev pub surely_charges : Problem → Facts → ℕ → ℕ → Bool
surely_charges problem facts f c =
    (problem.reads f c && is_apart facts f (problem.creator (problem.base c)))
    || (problem.writes f c && is_apart facts f (problem.freer (problem.base c)))

-- the class of the view that a group names, or `classes` where it names none
abbrev pub class_of : Problem → Charge → ℕ
class_of problem charge = unwrap_or (option_and_then (λ f. problem.view f charge.operand) (slice_get charge.ops 0)) problem.classes

-- the group names a view, and ascending operations, pairwise Apart, that each surely charge it
abbrev pub is_group : Problem → Facts → Charge → Bool
is_group problem facts charge =
    (nat_lt (class_of problem charge) problem.classes && list_all (is_op problem) charge.ops)
    && ((all_pairs nat_lt charge.ops && all_pairs (λ f g. facts (Apart f g)) charge.ops)
    && list_all (λ f. surely_charges problem facts f (class_of problem charge)) charge.ops)

-- lawful groups, no two of one class
abbrev pub is_leaf : Problem → Facts → List Charge → Bool
is_leaf problem facts charges =
    list_all (is_group problem facts) charges && all_pairs (λ (a b : Charge). not (class_of problem a == class_of problem b)) charges

-- in bytes
abbrev pub worth : Problem → List Charge → ℕ
worth problem charges = sum_by (λ (a : Charge). problem.weight (class_of problem a) * length a.ops) charges
