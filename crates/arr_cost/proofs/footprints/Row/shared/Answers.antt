use Rattle.std.proofs.Common.{◌∙◌, ◌&&◌, ap₂}
use Rattle.arr_cost.proofs.Digits.{and_bit}
use Rattle.arr_cost.proofs.footprints.Row.shared.Goals as goal

pub returns : goal.returns
returns c = λ i l. and_bit c.kept.result c.kept-2.result i ∙ ap₂ (λ a b. a && b) (c.kept.ensures i l) (c.kept-2.ensures i l)
