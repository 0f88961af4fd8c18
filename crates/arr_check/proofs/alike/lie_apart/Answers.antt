use Rattle.std.proofs.Common.{inl, inr}
use Rattle.std.proofs.lemmas.Bool.{ltb-true}
use Rattle.arr_view.specs.Views.{elements}
use Rattle.arr_check.proofs.Apart.{apart}
use Rattle.arr_check.proofs.alike.lie_apart.Goals as goal

pub returns-then-greatest-other_least : goal.returns-then-greatest-other_least
returns-then-greatest-other_least c told =
    apart c.ends-least.result.0 c.ends-least.result.1 c.ends-other_least.result.0 c.ends-other_least.result.1 (elements c.args.a.now) (elements c.args.b.now) c.ends-least.ensures.all c.ends-other_least.ensures.all
    (inl c.if-greatest-other_least.true)

pub returns : goal.returns
returns c told =
    apart c.ends-least.result.0 c.ends-least.result.1 c.ends-other_least.result.0 c.ends-other_least.result.1 (elements c.args.a.now) (elements c.args.b.now) c.ends-least.ensures.all c.ends-other_least.ensures.all
    (inr (ltb-true c.ends-other_least.result.1 c.ends-least.result.0 told))
