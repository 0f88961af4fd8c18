use Rattle.std.proofs.Common.{◌≤◌, length, sym, subst}
use Rattle.std.specs.Prelude.{IsTrue}
use Rattle.arr_ops.specs.Formed.{is_formed}
use Rattle.arr_law.specs.ProblemOf.{problem_of}
use Rattle.arr_state.specs.Known.{HoldRoots}
use Rattle.arr_state.specs.Kept.{IsKept}
use Rattle.arr_state.proofs.state.State.new.Goals as goal

pub opened-requires-clause-few : goal.opened-requires-clause-few
opened-requires-clause-few c = subst (λ l. length l ≤ 256) (sym c.as_slice.ensures.value) c.in_ok-ops.ensures.few

pub opened-requires-clause-formed : goal.opened-requires-clause-formed
opened-requires-clause-formed c = subst (λ l. IsTrue (is_formed l)) (sym c.as_slice.ensures.value) c.in_ok-ops.ensures.formed

pub invariant_of-result : goal.invariant_of-result
invariant_of-result c = (
  subst (λ l. HoldRoots (problem_of l) c.in_ok-roots.roots.items) (sym c.in_ok-ops.ensures.is) c.in_ok-roots.ensures.held,
  subst (λ l. IsKept (problem_of l) c.in_ok-held.held) c.as_slice.ensures.value c.in_ok-held.ensures.kept,
)
