use Rattle.std.proofs.Common.{◌∙◌, ap, cond, not, ◌&&◌}
use Rattle.std.specs.Prelude.{◌==◌}
use Rattle.arr_law.specs.declared.fact.Fact.TheVariants.{Apart, Before}
use Rattle.arr_law.specs.Facts.{Facts, with_fact}
use Rattle.arr_law.specs.ProblemOf.{problem_of}
use Rattle.arr_state.specs.Known.{after}
use Rattle.arr_state.specs.Opening.{no_facts}
use Rattle.arr_state.proofs.opening.push_pair.Goals as goal

pub returns : goal.returns
returns c =
    let old : Facts = after no_facts c.args.roots.now.items in
    let mid : Facts = after no_facts c.push_if.new.roots.items in
    c.in_ok-push_if-2.ensures
    ∙ (ap (λ b. cond b (with_fact (Before c.args.f c.args.g) mid) mid) c.is_before.ensures
    ∙ ap (λ (m : Facts). cond (not (c.args.f == c.args.g) && (problem_of c.args.graph.now).dep c.args.f c.args.g) (with_fact (Before c.args.f c.args.g) m) m)
    (c.in_ok-push_if.ensures ∙ ap (λ b. cond b (with_fact (Apart c.args.f c.args.g) old) old) c.are_apart.ensures))
