use Rattle.std.proofs.Common.{◌∙◌, ◌||◌, ap₂}
use Rattle.arr_cost.proofs.Digits.{or_bit}
use Rattle.arr_cost.proofs.footprints.row_of.Goals as goal

pub returns-clause-reads : goal.returns-clause-reads
returns-clause-reads c = λ i l. or_bit c.class_bit.result c.class_bit-2.result i ∙ ap₂ (λ a b. a || b) (c.class_bit.ensures i l) (c.class_bit-2.ensures i l)
