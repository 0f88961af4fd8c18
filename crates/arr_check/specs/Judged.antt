-- How a reading goes on: the records that were read, and what the answer to the certificate is.
use Rattle.std.specs.Prelude.{◌≡◌, ℕ, Bool, true, false, List, [], ◌∷◌, Option, Some, None, Result, Ok, Err, IsTrue, ⊤}
use Rattle.arr_io.specs.declared.source.Source.{Ghosts}
use Rattle.arr_ops.specs.declared.op.Op.{Op}
use Rattle.arr_ops.specs.Formed.{is_formed}
use Rattle.arr_law.specs.declared.record.Record.{Record}
use Rattle.arr_law.specs.declared.reject.Reject.{Reject}
use Rattle.arr_law.specs.declared.reject.Reject.TheVariants.{Malformed, TooLong, Trailing}
use Rattle.arr_law.specs.Laws.{IsCertified}
use Rattle.arr_law.specs.Problem.{Problem}
use Rattle.arr_law.specs.ProblemOf.{problem_of}
use Rattle.arr_law.specs.Verdict.{No, Yes, Reading, Reads, State, AtHead, Finished, answer, left_fault}
use Rattle.arr_cert.specs.declared.item.Item.{Item}
use Rattle.arr_cert.specs.declared.item.Item.TheVariants as item
use Rattle.arr_cert.specs.declared.reader.Reader.{Reader}
use Rattle.arr_cert.specs.Proofs.{last_line, unread}
use Rattle.arr_cert.specs.Reading.{IsFirst, IsRead, Told, Unread, lines, marked}
use Rattle.arr_check.specs.declared.verdict.Verdict.{Verdict}
use Rattle.arr_check.specs.declared.verdict.Verdict.TheVariants as verdict

-- records that were read, each with the number of its line, before a rest
abbrev pub onto : List (ℕ × Record) → Reading → Reading
onto [] rest = rest
onto (l ∷ front) rest = Reads l.0 l.1 (onto front rest)

abbrev pub where_told : Option (List ℕ) → (List ℕ → Type 0) → Type 0
where_told None P = ⊤
where_told (Some bytes) P = P bytes

-- the unread bytes, where they are told, are read as this
abbrev pub IsReadAs : Unread → Reading → Type 0
IsReadAs u all = where_told u.bytes (λ bytes. IsRead (marked u.line u.room (lines bytes)) all)

-- the bytes between, where they are told, are read as these records
abbrev pub Between : List (ℕ × Record) → Unread → Unread → Type 0
Between front old new = Told old new (λ before after. (rest : Reading) → IsRead after rest → IsRead before (onto front rest))

-- the certificate is answered yes, and what follows the records that were read is left
pub record Passes (problem : Problem) (number : ℕ) (old new : Unread) (cost bound : ℕ) : Type 0 where
  pub front : List (ℕ × Record)
  pub places : List ℕ
  pub answered : (rest : Reading) → answer problem number AtHead (onto front rest) ≡ Yes places cost bound rest
  pub read : Between front old new

-- from a state on, the answer is no
pub record Fails (problem : Problem) (number : ℕ) (old : Unread) (s : State) (line : ℕ) (kind : Reject) : Type 0 where
  pub whole : Reading
  pub answered : answer problem number s whole ≡ No line kind
  pub read : IsReadAs old whole

-- the verdict is the answer to the certificate of the list of this number
abbrev pub Judged : Problem → ℕ → Unread → Unread → Verdict → Type 0
Judged problem number old new (verdict.Yes cost bound) = Passes problem number old new cost bound
Judged problem number old new (verdict.No line kind) = Fails problem number old AtHead line kind

-- so of a list, by what a reader and its source had before and have after
abbrev pub Judges : {S : Type 0} → Ghosts S → List Op → ℕ → Reader → Reader → S → S → Verdict → Type 0
Judges g list number old new before after verdict = Judged (problem_of list) number (unread g old before) (unread g new after) verdict

abbrev pub is_yes : Verdict → Bool
is_yes (verdict.Yes cost bound) = true
is_yes _ = false

-- a plan that was read is legal at this cost, and no legal plan costs less than the bound
abbrev pub IsSure : List Op → Verdict → Type 0
IsSure list (verdict.Yes cost bound) = (places : List ℕ) × IsCertified list places cost bound
IsSure list (verdict.No line kind) = ⊤

-- what is left after the last list has this fault, or nothing is left
pub record Left (old : Unread) (fault : Option (ℕ × Reject)) : Type 0 where
  pub whole : Reading
  pub answered : left_fault whole ≡ fault
  pub read : IsReadAs old whole

-- the law of a yes
abbrev pub YesIsSure : Type 0
YesIsSure =
    (list : List Op) (number : ℕ) (old new : Unread) (cost bound : ℕ) → IsTrue (is_formed list)
    → Passes (problem_of list) number old new cost bound → (places : List ℕ) × IsCertified list places cost bound

-- ---- what private calls say

-- the records that were read lead from one state to another
pub record Leads (problem : Problem) (number : ℕ) (old new : Unread) (s t : State) : Type 0 where
  pub front : List (ℕ × Record)
  pub goes : (rest : Reading) → answer problem number s (onto front rest) ≡ answer problem number t rest
  pub read : Between front old new

abbrev pub is_open : State → Bool
is_open (Finished places c b) = false
is_open _ = true

-- the next record, or what is wrong where none can be read
abbrev pub Finds : {S : Type 0} → Ghosts S → Reader → Reader → S → S → Result Record Reject → Type 0
Finds g old new before after (Ok r) = Told (unread g old before) (unread g new after) (IsFirst (item.Record r) (last_line new))
Finds g old new before after (Err kind) = (problem : Problem) (number : ℕ) (s : State) → is_open s ≡ true → Fails problem number (unread g old before) s (last_line new) kind

-- what is wrong with a line behind the last certificate
abbrev pub left_kind : Item → Option Reject
left_kind (item.Record r) = Some Trailing
left_kind item.End = None
left_kind item.Malformed = Some Malformed
left_kind item.TooLong = Some TooLong
