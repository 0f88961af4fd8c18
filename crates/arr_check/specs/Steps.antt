-- What a step gives, and what a record of a tree does.
use Rattle.std.specs.Prelude.{◌≡◌, ℕ, ◌≤◌, Bool, true, false, cond, not, ◌&&◌, ◌||◌, ◌==◌, List, [], ◌∷◌, ◌++◌, Option, Some, None, length, map, reverse, take}
use Rattle.std.specs.List.{list_all}
use Rattle.arr_ops.specs.declared.op.Op.{Op}
use Rattle.arr_law.specs.declared.fact.Fact.{Fact}
use Rattle.arr_law.specs.declared.fact.Fact.TheVariants.{Before, Same}
use Rattle.arr_law.specs.declared.record.Record.{Record}
use Rattle.arr_law.specs.declared.reject.Reject.{Reject}
use Rattle.arr_law.specs.Problem.{Problem, ends_base_of, is_op}
use Rattle.arr_law.specs.ProblemOf.{problem_of}
use Rattle.arr_law.specs.Facts.{Facts, facts_of, root_facts, with_fact}
use Rattle.arr_law.specs.Rules.{Rule, applies, free_rule, other_users}
use Rattle.arr_law.specs.Trees.{tree_fault, subtrees}
use Rattle.arr_check.specs.declared.tree.Move.{Move}
use Rattle.arr_check.specs.declared.tree.Move.TheVariants.{Wrong, Add, Split, Close}
use Rattle.arr_check.specs.declared.tree.Tree.{Tree}
use Rattle.arr_check.specs.declared.tree.Waiting.{Waiting}
use Rattle.arr_check.specs.declared.known.Known.{Known}
use Rattle.arr_check.specs.Known.{are_ops, knows, IsFine}

-- what a rule gives, where it applies
abbrev pub given : Problem → Facts → Option Rule → Option Fact
given problem facts None = None
given problem facts (Some rule) = cond (applies problem facts rule) (Some rule.gives) None

-- rule 9, which version 2 alone has
abbrev pub free_rule_in : Problem → ℕ → ℕ → ℕ → Option Rule
free_rule_in problem version f g = cond ((version == 2) && ends_base_of problem f g) (Some (free_rule problem f g)) None

-- the same by what is known of a list
abbrev pub given_in : List Op → Known → Option Rule → Option Fact
given_in list known rule = given (problem_of list) (knows list known) rule

-- an operation is no other user of a base that f ends and g has, or it stands before f
abbrev pub user_precedes : Problem → Facts → ℕ → ℕ → ℕ → Bool
user_precedes problem facts f g u = not (ends_base_of problem u g && (not (u == f) && not (u == g))) || facts (Before u f)

-- the other users stand before f
abbrev pub users_precede : Problem → Facts → ℕ → ℕ → Bool
users_precede problem facts f g = list_all facts (map (λ u. Before u f) (other_users problem f g))

-- rule 9 gives that f and g share a block, which is new
abbrev pub free_step : Problem → ℕ → Facts → ℕ → ℕ → Bool
free_step problem version facts f g =
    (version == 2)
    && (is_op problem f && (is_op problem g && (not (f == g) && (ends_base_of problem f g && (users_precede problem facts f g && not (facts (Same f g)))))))

-- ---- a record of a tree

-- it is new, and speaks of operations of the list
pub record IsNew (problem : Problem) (facts : Facts) (x : Fact) : Type 0 where
  pub ops : are_ops problem x ≡ true
  pub new : facts x ≡ false

pub record IsRight (problem : Problem) (version bound : ℕ) (facts : Facts) (r : Record) (next : List Facts) : Type 0 where
  pub right : tree_fault problem version bound facts r ≡ None
  pub leads : subtrees problem version facts r ≡ next

abbrev pub DoesMove : Problem → ℕ → ℕ → Facts → Record → Move → Type 0
DoesMove problem version bound facts r (Wrong fault) = tree_fault problem version bound facts r ≡ Some fault
DoesMove problem version bound facts r (Add x) = IsRight problem version bound facts r (with_fact x facts ∷ []) × IsNew problem facts x
DoesMove problem version bound facts r (Split x y) = IsRight problem version bound facts r (with_fact x facts ∷ with_fact y facts ∷ []) × IsNew problem facts x × IsNew problem facts y
DoesMove problem version bound facts r Close = IsRight problem version bound facts r []

-- ---- what is still to come of a tree

-- for each open branch, from the newest on, the facts of its second subtree
abbrev pub waiting : Problem → List Fact → List Waiting → List Facts
waiting problem trail waits = map (λ (w : Waiting). facts_of problem (take w.mark trail ++ w.second ∷ [])) waits

-- the facts of each subtree that is still to come
abbrev pub pending_of : Problem → List Fact → List Waiting → Bool → List Facts
pending_of problem trail waits true = []
pending_of problem trail waits false = facts_of problem trail ∷ waiting problem trail waits

abbrev pub pending : Problem → Tree → List Facts
pending problem tree = pending_of problem tree.known.trail.items (reverse tree.waits.items) tree.whole

-- nothing of the tree was read
abbrev pub IsFresh : Problem → Tree → Type 0
IsFresh problem tree = pending problem tree ≡ root_facts problem ∷ []

-- a subtree is whole: what waited for its end is still to come
abbrev pub GoesBack : Problem → Tree → Tree → Type 0
GoesBack problem old new = pending problem new ≡ waiting problem old.known.trail.items (reverse old.waits.items)

-- each mark lies in the list before it, from the newest on, and the fact that waits was not known there
abbrev pub AreWaits : Problem → List Fact → ℕ → List Waiting → Type 0
AreWaits problem trail n [] = Unit {0}
AreWaits problem trail n (w ∷ waits) = (w.mark ≤ n) × IsNew problem (facts_of problem (take w.mark trail)) w.second × AreWaits problem trail w.mark waits

pub record IsTree (problem : Problem) (tree : Tree) : Type 0 where
  pub fine : IsFine problem tree.known
  pub waits : AreWaits problem tree.known.trail.items (length tree.known.trail.items) (reverse tree.waits.items)

-- a record is wrong, or the tree goes on with what follows it
abbrev pub Grows : Problem → ℕ → ℕ → Tree → Tree → Record → Option Reject → Type 0
Grows problem version bound old new r (Some fault) = tree_fault problem version bound (facts_of problem old.known.trail.items) r ≡ Some fault
Grows problem version bound old new r None =
    (tree_fault problem version bound (facts_of problem old.known.trail.items) r ≡ None)
    × (pending problem new ≡ subtrees problem version (facts_of problem old.known.trail.items) r ++ waiting problem old.known.trail.items (reverse old.waits.items))
    × IsTree problem new
