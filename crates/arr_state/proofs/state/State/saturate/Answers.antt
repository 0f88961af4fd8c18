use Rattle.std.proofs.Common.{List, subst}
use Rattle.arr_ops.specs.declared.op.Op.{Op}
use Rattle.arr_law.specs.ProblemOf.{problem_of}
use Rattle.arr_state.specs.Kept.{IsKept}
use Rattle.arr_state.proofs.state.State.saturate.Goals as goal

pub returns-clause-about : goal.returns-clause-about
returns-clause-about c x e =
    let kept : IsKept (problem_of c.self.inside.ops.items) c.saturate.new.known = subst (λ (list : List Op). IsKept (problem_of list) c.saturate.new.known) c.as_slice.ensures.value c.saturate.ensures.kept in
    kept.about x e
