use Rattle.std.proofs.Common.{rules, ◌<◌, ◌^◌, ◌-◌, ◌∙◌, ◌&&◌, ◌||◌, ap, ap₂, not, bit_or}
use Rattle.arr_cost.specs.Footprints.{keeps}
use Rattle.arr_cost.proofs.Digits.{and_bit, not_bit, or_bit}
use Rattle.arr_cost.proofs.footprints.Row.lost.Goals as goal

pub returns : goal.returns
returns c = λ i l.
    let small : c.kept-3.result < 2 ^ 64 = search rules in
    and_bit (bit_or c.kept.result c.kept-2.result) (18446744073709551615 - c.kept-3.result) i
    ∙ ap₂ (λ a b. a && b)
    (or_bit c.kept.result c.kept-2.result i ∙ ap₂ (λ a b. a || b) (c.kept.ensures i l) (c.kept-2.ensures i l))
    (not_bit c.kept-3.result i small l ∙ ap not (c.kept-3.ensures i l ∙ ap (λ row. keeps row i) c.joined.ensures))
