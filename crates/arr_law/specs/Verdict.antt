-- What a certificate is answered: yes, or the line and the kind of the first wrong record.
use Rattle.std.specs.Prelude.{ℕ, suc, Bool, true, false, cond, ◌&&◌, ◌==◌, List, [], ◌∷◌, ◌++◌, Option, Some, None}
use Rattle.arr_law.specs.declared.certificate.Certificate.{Certificate}
use Rattle.arr_law.specs.declared.record.Record.{Record}
use Rattle.arr_law.specs.declared.record.Record.TheVariants.{Flush, Plan, Cost, Bound, Step, Branch, Dead, Worth, End}
use Rattle.arr_law.specs.declared.reject.Reject.{Reject}
use Rattle.arr_law.specs.declared.reject.Reject.TheVariants.{Unfinished, Trailing, Misplaced, BadHead, BadPlan, NotFusible, Backward, WrongCost}
use Rattle.arr_law.specs.Problem.{Problem}
use Rattle.arr_law.specs.Facts.{Facts, root_facts}
use Rattle.arr_law.specs.Plans.{are_places, is_together, is_forward, price}
use Rattle.arr_law.specs.Trees.{unless, or_else, tree_fault, subtrees}

-- ---- the records of one list

-- what is to come next
pub data State : Type 0 where
  AtHead : State
  AtPlan : (version : ℕ) → State
  AtCost : (version : ℕ) (places : List ℕ) → State
  AtBound : (version : ℕ) (places : List ℕ) (cost : ℕ) → State
  -- the facts of each subtree that is still to come
  AtTree : (version : ℕ) (places : List ℕ) (cost bound : ℕ) (pending : List Facts) → State
  Finished : (places : List ℕ) (cost bound : ℕ) → State

abbrev pub is_tree_record : Record → Bool
is_tree_record (Step rule f g h) = true
is_tree_record (Branch f g) = true
is_tree_record (Dead f g) = true
is_tree_record (Worth charges) = true
is_tree_record _ = false

-- what is wrong with a record once the tree is whole
abbrev pub end_fault : Record → Option Reject
end_fault End = None
end_fault r = Some (cond (is_tree_record r) Trailing Misplaced)

abbrev pub plan_fault : Problem → List ℕ → Option Reject
plan_fault problem places =
    or_else (unless (are_places problem places) BadPlan) (or_else (unless (is_together problem places) NotFusible) (unless (is_forward problem places) Backward))

-- what is wrong with a record of the list of this number
abbrev pub record_fault : Problem → ℕ → State → Record → Option Reject
record_fault problem number AtHead (Flush n count version) = unless ((n == number) && (count == problem.count)) BadHead
record_fault problem number (AtPlan v) (Plan places) = plan_fault problem places
record_fault problem number (AtCost v places) (Cost c) = unless (c == price problem places) WrongCost
record_fault problem number (AtBound v places c) (Bound b) = None
record_fault problem number (AtTree v places c b []) r = end_fault r
record_fault problem number (AtTree v places c b (facts ∷ pending)) r = tree_fault problem v b facts r
record_fault problem number _ _ = Some Misplaced

-- what is to come after a right record
abbrev pub after : Problem → State → Record → State
after problem AtHead (Flush n count version) = AtPlan version
after problem (AtPlan v) (Plan places) = AtCost v places
after problem (AtCost v places) (Cost c) = AtBound v places c
after problem (AtBound v places c) (Bound b) = AtTree v places c b (root_facts problem ∷ [])
after problem (AtTree v places c b []) r = Finished places c b
after problem (AtTree v places c b (facts ∷ pending)) r = AtTree v places c b (subtrees problem v facts r ++ pending)
after problem state r = state

-- ---- records as they are read, each with the number of its line

pub data Reading : Type 0 where
  -- no record is left; the number of the line after the last
  Ends : (line : ℕ) → Reading
  -- a line that can't be read, and the records end there
  Stops : (line : ℕ) (fault : Reject) → Reading
  Reads : (line : ℕ) (r : Record) (rest : Reading) → Reading

pub data Answer : Type 0 where
  -- the plan, its cost, the bound, and what is left
  Yes : (places : List ℕ) (cost bound : ℕ) (rest : Reading) → Answer
  No : (line : ℕ) (fault : Reject) → Answer

abbrev pub answer_unless : Option Reject → ℕ → Answer → Answer
answer_unless None line next = next
answer_unless (Some fault) line next = No line fault

abbrev pub if_finished : State → Reading → Answer → Answer
if_finished (Finished places c b) reading next = Yes places c b reading
if_finished _ reading next = next

-- the answer to the certificate of the list of this number
abbrev pub answer : Problem → ℕ → State → Reading → Answer
answer problem number state (Ends line) = if_finished state (Ends line) (No line Unfinished)
answer problem number state (Stops line fault) = if_finished state (Stops line fault) (No line fault)
answer problem number state (Reads line r rest) =
    if_finished state (Reads line r rest)
    (answer_unless (record_fault problem number state r) line (answer problem number (after problem state r) rest))

-- ---- all lists

pub data Verdict : Type 0 where
  -- the cost and the bound of each list
  Accepted : (bounds : List (ℕ × ℕ)) → Verdict
  -- those of the lists before, and the number of the list at which the record stands
  Rejected : (bounds : List (ℕ × ℕ)) (flush line : ℕ) (fault : Reject) → Verdict

-- what is wrong with what is left after the last list
abbrev pub left_fault : Reading → Option (ℕ × Reject)
left_fault (Ends line) = None
left_fault (Stops line fault) = Some (line, fault)
left_fault (Reads line r rest) = Some (line, Trailing)

abbrev pub last_verdict : List (ℕ × ℕ) → ℕ → Option (ℕ × Reject) → Verdict
last_verdict bounds number None = Accepted bounds
last_verdict bounds number (Some fault) = Rejected bounds number fault.0 fault.1

abbrev pub with_answer : Answer → List (ℕ × ℕ) → ℕ → (List (ℕ × ℕ) → Reading → Verdict) → Verdict
with_answer (Yes places c b rest) bounds number next = next (bounds ++ (c, b) ∷ []) rest
with_answer (No line fault) bounds number next = Rejected bounds number line fault

-- the verdict on the lists from this number on
abbrev pub verdict_from : List Problem → List (ℕ × ℕ) → ℕ → Reading → Verdict
verdict_from [] bounds number reading = last_verdict bounds number (left_fault reading)
verdict_from (problem ∷ problems) bounds number reading =
    with_answer (answer problem number AtHead reading) bounds number (λ more rest. verdict_from problems more (suc number) rest)

abbrev pub verdict : List Problem → Reading → Verdict
verdict problems reading = verdict_from problems [] 1 reading

-- ---- a certificate by itself

abbrev pub records_of : Certificate → List Record
records_of c = Flush c.number c.count c.version ∷ Plan c.places ∷ Cost c.cost ∷ Bound c.bound ∷ (c.tree ++ End ∷ [])

-- records, each on a line of its own
abbrev pub reading_of : ℕ → List Record → Reading
reading_of line [] = Ends line
reading_of line (r ∷ records) = Reads line r (reading_of (suc line) records)

abbrev pub is_yes : Answer → Bool
is_yes (Yes places c b (Ends line)) = true
is_yes _ = false

-- the certificate is one of the list of its number, and nothing is left
abbrev pub accepts : Problem → Certificate → Bool
accepts problem c = is_yes (answer problem c.number AtHead (reading_of 1 (records_of c)))
