-- What `check` answers: the verdict on a proof, and its lines.
use Rattle.std.specs.Prelude.{ℕ, suc, ◌==◌, cond, ⊤, List, [], ◌∷◌, ◌++◌, length, map, codes, decimal, Option}
use Rattle.arr_ops.specs.declared.op.Op.{Op}
use Rattle.arr_record.specs.declared.part.Part.{Part}
use Rattle.arr_record.specs.declared.part.Part.TheVariants.{Flush}
use Rattle.arr_rewrite.specs.NormalForm.{normal_form}
use Rattle.arr_law.specs.declared.reject.Reject.{Reject}
use Rattle.arr_law.specs.declared.reject.Reject.TheVariants.{TooLong, Malformed, Unfinished, Trailing, Misplaced, BadHead, BadPlan, NotFusible, Backward, WrongCost, BadStep, BadBranch, BadLeaf, WeakLeaf}
use Rattle.arr_law.specs.Laws.{IsCertified}
use Rattle.arr_law.specs.ProblemOf.{problem_of}
use Rattle.arr_law.specs.Verdict.{Reading, Verdict, Accepted, Rejected, verdict}
use Rattle.arr_cert.specs.Reading.{IsRead, lines, marked}
use Rattle.arr_check.specs.Judged.{where_told}

-- ---- the verdict

-- the lists that are planned, one for each flush
abbrev pub lists_of : List Part → List (List Op)
lists_of [] = []
lists_of (Flush list ∷ parts) = normal_form list ∷ lists_of parts
lists_of (_ ∷ parts) = lists_of parts

-- how many bytes a proof may have
abbrev pub most_proof : ℕ
most_proof = 67108864

-- the bytes of a proof, so far as they are told, are read as these records
abbrev pub IsProof : Option (List ℕ) → Reading → Type 0
IsProof proof reading = where_told proof (λ bytes. IsRead (marked 1 most_proof (lines bytes)) reading)

-- the verdict on the certificates of what parts flush
abbrev pub checks : List Part → Reading → Verdict
checks parts reading = verdict (map problem_of (lists_of parts)) reading

-- cost and bound of each certificate that was accepted
abbrev pub bounds_of : Verdict → List (ℕ × ℕ)
bounds_of (Accepted bounds) = bounds
bounds_of (Rejected bounds flush line fault) = bounds

abbrev pub verdict_status : Verdict → ℕ
verdict_status (Accepted bounds) = 0
verdict_status (Rejected bounds flush line fault) = 6

-- each of these lists has a plan of such a cost, and none that costs less than the bound
abbrev pub AreBounds : List (List Op) → List (ℕ × ℕ) → Type 0
AreBounds lists [] = ⊤
AreBounds [] (bound ∷ bounds) = ⊥
AreBounds (list ∷ lists) (bound ∷ bounds) = ((places : List ℕ) × IsCertified list places bound.0 bound.1) × AreBounds lists bounds

-- ---- its lines

-- a plan that costs no more than the bound is optimal
abbrev pub mark_of : ℕ × ℕ → List ℕ
mark_of bound = cond (bound.1 == bound.0) (codes "optimal") (codes "budget")

-- the line of a flush whose certificate was accepted: its number, the cost and the bound
unfoldable pub flush_line : ℕ → ℕ × ℕ → List ℕ
flush_line number bound = codes "flush " ++ decimal number ++ codes " cost " ++ decimal bound.0 ++ codes " bound " ++ decimal bound.1 ++ codes " " ++ mark_of bound ++ codes "\n"

-- those of flushes from a number on
abbrev pub flush_lines : ℕ → List (ℕ × ℕ) → List ℕ
flush_lines number [] = []
flush_lines number (bound ∷ bounds) = flush_line number bound ++ flush_lines (suc number) bounds

-- how many flushes were accepted
unfoldable pub accepted_line : ℕ → List ℕ
accepted_line count = codes "accepted " ++ decimal count ++ codes "\n"

abbrev pub reject_name : Reject → List ℕ
reject_name TooLong = codes "TooLong"
reject_name Malformed = codes "Malformed"
reject_name Unfinished = codes "Unfinished"
reject_name Trailing = codes "Trailing"
reject_name Misplaced = codes "Misplaced"
reject_name BadHead = codes "BadHead"
reject_name BadPlan = codes "BadPlan"
reject_name NotFusible = codes "NotFusible"
reject_name Backward = codes "Backward"
reject_name WrongCost = codes "WrongCost"
reject_name BadStep = codes "BadStep"
reject_name BadBranch = codes "BadBranch"
reject_name BadLeaf = codes "BadLeaf"
reject_name WeakLeaf = codes "WeakLeaf"

-- at which flush and line, and why
unfoldable pub rejected_line : ℕ → ℕ → Reject → List ℕ
rejected_line flush line fault = codes "rejected flush " ++ decimal flush ++ codes " line " ++ decimal line ++ codes " " ++ reject_name fault ++ codes "\n"

-- the last line
abbrev pub last_line : Verdict → List ℕ
last_line (Accepted bounds) = accepted_line (length bounds)
last_line (Rejected bounds flush line fault) = rejected_line flush line fault

abbrev pub verdict_text : Verdict → List ℕ
verdict_text v = flush_lines 1 (bounds_of v) ++ last_line v
