-- The tree of a certificate, record by record.
use Rattle.std.specs.Prelude.{ℕ, Bool, true, false, not, ◌&&◌, nat_lt, nat_le, List, [], ◌∷◌, ◌++◌, Option, Some, None}
use Rattle.arr_law.specs.declared.fact.Fact.TheVariants.{Same, Apart}
use Rattle.arr_law.specs.declared.record.Record.{Record}
use Rattle.arr_law.specs.declared.record.Record.TheVariants.{Step, Branch, Dead, Worth, End}
use Rattle.arr_law.specs.declared.reject.Reject.{Reject}
use Rattle.arr_law.specs.declared.reject.Reject.TheVariants.{Unfinished, Misplaced, BadStep, BadBranch, BadLeaf, WeakLeaf}
use Rattle.arr_law.specs.Problem.{Problem, is_op}
use Rattle.arr_law.specs.Facts.{Facts, with_fact}
use Rattle.arr_law.specs.Rules.{Rule, rule_named, applies}
use Rattle.arr_law.specs.Leaves.{is_leaf, worth}

-- a fault, unless the test passes
abbrev pub unless : Bool → Reject → Option Reject
unless true fault = None
unless false fault = Some fault

abbrev pub or_else : Option Reject → Option Reject → Option Reject
or_else None next = next
or_else (Some fault) next = Some fault

abbrev pub step_fault : Problem → Facts → Option Rule → Option Reject
step_fault problem facts None = Some BadStep
step_fault problem facts (Some rule) = unless (applies problem facts rule) BadStep

-- the operations rise, and it is open whether they stand in one block
abbrev pub may_branch : Problem → Facts → ℕ → ℕ → Bool
may_branch problem facts f g = ((is_op problem f && is_op problem g) && nat_lt f g) && (not (facts (Same f g)) && not (facts (Apart f g)))

abbrev pub is_dead : Facts → ℕ → ℕ → Bool
is_dead facts f g = nat_lt f g && (facts (Same f g) && facts (Apart f g))

-- what is wrong with a record of a tree under these facts
abbrev pub tree_fault : Problem → ℕ → ℕ → Facts → Record → Option Reject
tree_fault problem version bound facts (Step rule f g h) = step_fault problem facts (rule_named problem version rule f g h)
tree_fault problem version bound facts (Branch f g) = unless (may_branch problem facts f g) BadBranch
tree_fault problem version bound facts (Dead f g) = unless (is_dead facts f g) BadLeaf
tree_fault problem version bound facts (Worth charges) = or_else (unless (is_leaf problem facts charges) BadLeaf) (unless (nat_le bound (worth problem charges)) WeakLeaf)
tree_fault problem version bound facts End = Some Unfinished
tree_fault problem version bound facts _ = Some Misplaced

abbrev pub after_rule : Facts → Option Rule → List Facts
after_rule facts None = []
after_rule facts (Some rule) = with_fact rule.gives facts ∷ []

-- the facts of the subtrees that follow a record: one after a step, two after a branch, none after a leaf
abbrev pub subtrees : Problem → ℕ → Facts → Record → List Facts
subtrees problem version facts (Step rule f g h) = after_rule facts (rule_named problem version rule f g h)
subtrees problem version facts (Branch f g) = with_fact (Same f g) facts ∷ with_fact (Apart f g) facts ∷ []
subtrees problem version facts _ = []

pub data Walk : Type 0 where
  -- the trees are whole, and this is left
  Whole : (rest : List Record) → Walk
  -- the records end too early
  Short : Walk
  -- the first wrong record, with what is left from it on
  Wrong : (from : List Record) (fault : Reject) → Walk

abbrev pub go_on : Option Reject → List Record → Walk → Walk
go_on None from rest = rest
go_on (Some fault) from rest = Wrong from fault

-- records read as one tree after another, one for each of the facts that are pending
abbrev pub walk : Problem → ℕ → ℕ → List Facts → List Record → Walk
walk problem version bound [] records = Whole records
walk problem version bound (facts ∷ pending) [] = Short
walk problem version bound (facts ∷ pending) (r ∷ records) =
    go_on (tree_fault problem version bound facts r) (r ∷ records) (walk problem version bound (subtrees problem version facts r ++ pending) records)
