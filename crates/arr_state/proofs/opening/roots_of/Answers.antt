use Rattle.std.proofs.Common.{◌≡◌, length, arith, subst}
use Rattle.arr_law.specs.ProblemOf.{problem_of}
use Rattle.arr_state.specs.Known.{after}
use Rattle.arr_state.specs.Opening.{no_facts, all_below}
use Rattle.arr_state.proofs.Openings.{all_next, open_held}
use Rattle.arr_state.proofs.opening.roots_of.Goals as goal

pub loop-f-preserved : goal.loop-f-preserved
loop-f-preserved c = all_next (problem_of c.args.graph.now) c.loop-f.f (after no_facts c.loop-f.roots.items) (after no_facts c.push_row.new.roots.items) c.loop-f.invariant c.in_ok-push_row.ensures

pub returns-clause-held : goal.returns-clause-held
returns-clause-held c =
    let e : c.loop-f.f ≡ length c.args.graph.now = omega (arith, c.loop-f-test.false, c.len-f-end.ensures.value, c.loop-f.auto.f-end) in
    open_held c.args.graph.now c.len-f-end.ensures.formed c.loop-f.roots.items (subst (λ n. after no_facts c.loop-f.roots.items ≡ all_below (problem_of c.args.graph.now) n) e c.loop-f.invariant)
