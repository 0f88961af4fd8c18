-- What the lines of a verdict say of the lists that were planned.
use Rattle.std.proofs.Common.{◌≡◌, ◌⊎◌, ⊎_elim, ℕ, suc, List, [], ◌∷◌, ◌++◌, map, refl, ap, sym, ◌∙◌, subst, arith, Option, Some, None, true, append-nil, append_assoc}
use Rattle.std.specs.List.{list_all}
use Rattle.std.specs.Io.KnownBytes.{Appends}
use Rattle.arr_ops.specs.declared.op.Op.{Op}
use Rattle.arr_ops.specs.Formed.{is_formed}
use Rattle.arr_ops.proofs.Tests.{both_left, both_right}
use Rattle.arr_elab.proofs.Recorded.{recorded}
use Rattle.arr_record.specs.declared.part.Part.{Part}
use Rattle.arr_record.specs.declared.part.Part.TheVariants.{Flush, Gather, Scatter}
use Rattle.arr_record.specs.Parts.{parts_of}
use Rattle.arr_record.specs.Runs.{is_part, is_sized}
use Rattle.arr_record.proofs.Walk.{all_parts}
use Rattle.arr_rewrite.specs.NormalForm.{normal_form}
use Rattle.arr_rewrite.proofs.Laws.{normal_formed}
use Rattle.arr_law.specs.ProblemOf.{problem_of}
use Rattle.arr_law.specs.Verdict.{Answer, Yes, No, AtHead, Reading, Verdict, answer, last_verdict, left_fault, verdict_from, with_answer}
use Rattle.arr_law.specs.declared.reject.Reject.{Reject}
use Rattle.arr_law.proofs.Lists.{yes_certifies}
use Rattle.arr_run.specs.declared.words.Command.TheVariants.{Check}
use Rattle.arr_run.specs.Answers.{Answer as Reply, Given, IsCheck, answer_status, answer_text, check_verdict, checked, is_final, refused}
use Rattle.arr_run.specs.Checked.{AreBounds, bounds_of, lists_of}
use Rattle.arr_run.specs.Laws.{ChecksCertify, ChecksProof}

-- ---- the lists are formed

one_more : (list : List Op) (lists : List (List Op)) → is_formed list ≡ true → list_all is_formed lists ≡ true → list_all is_formed (list ∷ lists) ≡ true
one_more list lists h k = rw h k

formed_lists : (parts : List Part) → list_all is_part parts ≡ true → list_all is_formed (lists_of parts) ≡ true
formed_lists [] h = refl
formed_lists (Flush list ∷ parts) h =
    one_more (normal_form list) (lists_of parts) (normal_formed list (both_left (is_formed list) (is_sized list) (both_left (is_part (Flush list)) (list_all is_part parts) h)))
    (formed_lists parts (both_right (is_part (Flush list)) (list_all is_part parts) h))
formed_lists (Gather g ∷ parts) h = formed_lists parts (both_right (is_part (Gather g)) (list_all is_part parts) h)
formed_lists (Scatter s ∷ parts) h = formed_lists parts (both_right (is_part (Scatter s)) (list_all is_part parts) h)

-- ---- each bound is one of its list

record Sure (lists : List (List Op)) (v : Verdict) (before : List (ℕ × ℕ)) : Type 0 where
  pub more : List (ℕ × ℕ)
  pub is : bounds_of v ≡ before ++ more
  pub sure : AreBounds lists more

none : (lists : List (List Op)) → AreBounds lists []
none [] = tt
none (list ∷ lists) = tt

at_end : (before : List (ℕ × ℕ)) (n : ℕ) (fault : Option (ℕ × Reject)) → Sure [] (last_verdict before n fault) before
at_end before n None = record { more = []; is = sym (append-nil before); sure = tt }
at_end before n (Some fault) = record { more = []; is = sym (append-nil before); sure = tt }

one_answer : (list : List Op) (lists : List (List Op)) (before : List (ℕ × ℕ)) (n : ℕ) (reading : Reading) (next : List (ℕ × ℕ) → Reading → Verdict) → is_formed list ≡ true
    → ((more : List (ℕ × ℕ)) (rest : Reading) → Sure lists (next more rest) more) → (a : Answer) → answer (problem_of list) n AtHead reading ≡ a → Sure (list ∷ lists) (with_answer a before n next) before
one_answer list lists before n reading next formed h (Yes places c b rest) e =
    let s = h (before ++ (c, b) ∷ []) rest in
    record { more = (c, b) ∷ s.more; is = s.is ∙ append_assoc before ((c, b) ∷ []) s.more; sure = ((places, yes_certifies list n reading rest places c b formed e), s.sure) }
one_answer list lists before n reading next formed h (No line fault) e = record { more = []; is = sym (append-nil before); sure = none (list ∷ lists) }

all_sure : (lists : List (List Op)) (before : List (ℕ × ℕ)) (n : ℕ) (reading : Reading) → list_all is_formed lists ≡ true → Sure lists (verdict_from (map problem_of lists) before n reading) before
all_sure [] before n reading h = at_end before n (left_fault reading)
all_sure (list ∷ lists) before n reading h =
    one_answer list lists before n reading (λ more rest. verdict_from (map problem_of lists) more (suc n) rest) (both_left (is_formed list) (list_all is_formed lists) h)
    (λ more rest. all_sure lists more (suc n) rest (both_right (is_formed list) (list_all is_formed lists) h)) (answer (problem_of list) n AtHead reading) refl

checked_bounds : {given : Given} (c : IsCheck given) → AreBounds (lists_of (parts_of c.steps)) (bounds_of (check_verdict c))
checked_bounds c =
    let a = c.accepted in
    let formed = formed_lists (parts_of c.steps) (all_parts c.steps (recorded a.statements c.steps a.accepts)) in
    let s = all_sure (lists_of (parts_of c.steps)) [] 1 c.reading formed in
    subst (AreBounds (lists_of (parts_of c.steps))) (sym s.is) s.sure

-- ---- what a status says

said : (script : List ℕ) (proof old new : Option (List ℕ)) (status : ℕ) (given : Given) (a : Reply given (Some Check)) → given.script ≡ script → given.proof ≡ proof → (status ≡ 0) ⊎ (status ≡ 6) → answer_status a ≡ status
    → Appends old new (answer_text a) → ChecksProof script proof status old new
said script proof old new status given (checked c) is_script is_proof known e w =
    record { given = given; script_is = is_script; proof_is = is_proof; check = c; status_is = e; wrote = w; bounds = checked_bounds c }
said script proof old new status given (refused why) is_script is_proof known e w = absurd (⊎_elim (λ f. omega arith) (λ f. omega arith) known)

-- status 0 and 6: the lines of a verdict were written, and each flush that they name has such a plan, and none below the bound
pub certify : ChecksCertify
certify script proof old new status store after known s =
    let final : is_final status ≡ true = ⊎_elim (λ f. ap is_final f) (λ f. ap is_final f) known in
    let d = s.2.whole final in
    said script proof old new status s.0 d.answer s.1.0 s.1.1 known d.status_is d.wrote
