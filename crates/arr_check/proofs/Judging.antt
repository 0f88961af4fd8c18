-- One turn of the checker.
use Rattle.std.proofs.Common.{◌≡◌, ℕ, List, true, Option, Some, None, Result, Ok, Err, IsTrue, refl, sym, subst}
use Rattle.std.specs.Prelude.{IfOk, MatchOption}
use Rattle.std.proofs.lemmas.Bool.{false≢true}
use Rattle.arr_ops.specs.declared.op.Op.{Op}
use Rattle.arr_ops.specs.Formed.{is_formed}
use Rattle.arr_law.specs.declared.record.Record.{Record}
use Rattle.arr_law.specs.declared.reject.Reject.{Reject}
use Rattle.arr_law.specs.Problem.{Problem}
use Rattle.arr_law.specs.ProblemOf.{problem_of}
use Rattle.arr_law.specs.Verdict.{State, AtHead, AtPlan, AtCost, AtBound, AtTree, Finished, after}
use Rattle.arr_cert.specs.declared.item.Item.TheVariants as item
use Rattle.arr_cert.specs.Reading.{IsFirst, Told, Unread}
use Rattle.arr_cert.proofs.Decided.{read_always}
use Rattle.arr_check.specs.declared.stages.Stage.{Stage}
use Rattle.arr_check.specs.declared.stages.Stage.TheVariants as stage
use Rattle.arr_check.specs.declared.tree.Tree.{Tree}
use Rattle.arr_check.specs.declared.verdict.Verdict.{Verdict}
use Rattle.arr_check.specs.declared.verdict.Verdict.TheVariants as verdict
use Rattle.arr_check.specs.Judged.{Fails, IsSure, Judged, Leads, Passes, is_open}
use Rattle.arr_check.specs.Stages.{IsAt, Turns, is_ready}
use Rattle.arr_check.proofs.Readings.{fails_here, fails_later, goes_on, passes, yes_is_sure}

pub open_at : (P : Problem) (k : Stage) (tree : Tree) (s : State) → IsAt P k tree s → is_ready k ≡ true → is_open s ≡ true
open_at P k tree AtHead at ready = refl
open_at P k tree (AtPlan v) at ready = refl
open_at P k tree (AtCost v places) at ready = refl
open_at P k tree (AtBound v places c) at ready = refl
open_at P k tree (AtTree v places c b facts) at ready = refl
open_at P (stage.Done c b) tree (Finished places d e) at ready = absurd (false≢true ready)
open_at P stage.Head tree (Finished places d e) at ready = absurd at
open_at P (stage.Plan v) tree (Finished places d e) at ready = absurd at
open_at P (stage.Cost v p) tree (Finished places d e) at ready = absurd at
open_at P (stage.Bound v c) tree (Finished places d e) at ready = absurd at
open_at P (stage.Tree v c b) tree (Finished places d e) at ready = absurd at

yes_at : (P : Problem) (number : ℕ) (u v : Unread) (tree : Tree) (s : State) (c b : ℕ) → IsAt P (stage.Done c b) tree s → Leads P number u v AtHead s → Passes P number u v c b
yes_at P number u v tree AtHead c b at lead = absurd at
yes_at P number u v tree (AtPlan w) c b at lead = absurd at
yes_at P number u v tree (AtCost w places) c b at lead = absurd at
yes_at P number u v tree (AtBound w places d) c b at lead = absurd at
yes_at P number u v tree (AtTree w places d e facts) c b at lead = absurd at
yes_at P number u v tree (Finished places d e) c b at lead =
    subst (λ k. Passes P number u v k b) (sym at.0) (subst (λ k. Passes P number u v d k) (sym at.1) (passes P number u v places d e lead))

pub answered_yes : (P : Problem) (number : ℕ) (u v : Unread) (k : Stage) (tree : Tree) (s : State) (c b : ℕ) → IsAt P k tree s → k ≡ stage.Done c b → Leads P number u v AtHead s → Passes P number u v c b
answered_yes P number u v k tree s c b at e lead = yes_at P number u v tree s c b (subst (λ (j : Stage). IsAt P j tree s) e at) lead

pub answered_no : (P : Problem) (number : ℕ) (u v w : Unread) (k : Stage) (tree new : Tree) (s : State) (line : ℕ) (r : Record) (kind : Reject) → IsAt P k tree s → is_ready k ≡ true → Leads P number u v AtHead s
    → Told v w (IsFirst (item.Record r) line) → ((t : State) → IsAt P k tree t → Turns P number t new r (Err kind)) → Fails P number u AtHead line kind
answered_no P number u v w k tree new s line r kind at ready lead first turns =
    fails_later P number u v AtHead s line kind lead (fails_here read_always P number v w s line r kind first (open_at P k tree s at ready) (turns s at))

pub answered_none : (P : Problem) (number : ℕ) (u v : Unread) (k : Stage) (tree : Tree) (s : State) (line : ℕ) (kind : Reject) → IsAt P k tree s → is_ready k ≡ true → Leads P number u v AtHead s
    → ((problem : Problem) (n : ℕ) (t : State) → is_open t ≡ true → Fails problem n v t line kind) → Fails P number u AtHead line kind
answered_none P number u v k tree s line kind at ready lead found =
    fails_later P number u v AtHead s line kind lead (found P number s (open_at P k tree s at ready))

pub turned : (P : Problem) (number : ℕ) (u v w : Unread) (k next : Stage) (tree new : Tree) (s : State) (line : ℕ) (r : Record) → IsAt P k tree s → is_ready k ≡ true → Leads P number u v AtHead s
    → Told v w (IsFirst (item.Record r) line) → ((t : State) → IsAt P k tree t → Turns P number t new r (Ok next)) → Leads P number u w AtHead (after P s r)
turned P number u v w k next tree new s line r at ready lead first turns =
    goes_on P number u v w AtHead s line r lead first (open_at P k tree s at ready) (turns s at).0

pub sure_of : (list : List Op) (number : ℕ) (old new : Unread) (v : Verdict) → IsTrue (is_formed list) → Judged (problem_of list) number old new v → IsSure list v
sure_of list number old new (verdict.Yes c b) formed judged = yes_is_sure list number old new c b formed judged
sure_of list number old new (verdict.No line kind) formed judged = tt

pub ready_at : (k : Stage) (o : Option (ℕ × ℕ)) → o ≡ None → MatchOption o (is_ready k ≡ true) (λ p. k ≡ stage.Done p.0 p.1) → is_ready k ≡ true
ready_at k None e m = m
ready_at k (Some p) e m = absurd (cc)

pub sure_if : {E : Type 0} (list : List Op) (number : ℕ) (old new : Unread) (result : Result Verdict E) → IsTrue (is_formed list) → IfOk result (Judged (problem_of list) number old new) → IfOk result (IsSure list)
sure_if list number old new (Ok v) formed judged = sure_of list number old new v formed judged
sure_if list number old new (Err e) formed judged = judged
