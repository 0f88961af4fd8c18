use Rattle.std.proofs.Common.{rules, refl, ◌≡◌, ◌<◌, ◌^◌, ◌-◌, ◌∙◌, ◌&&◌, ◌||◌, ap₂, bit_and}
use Rattle.arr_cost.specs.Footprints.{has_bit}
use Rattle.arr_cost.proofs.Digits.{and_bit, not_bit, or_bit}
use Rattle.arr_cost.proofs.footprints.Row.kept.Goals as goal

pub returns : goal.returns
returns c = λ i l.
    let row = c.args.self.now in
    let makes : row.makes < 2 ^ 64 = search rules in
    let frees : row.frees < 2 ^ 64 = search rules in
    or_bit (bit_and row.reads (18446744073709551615 - row.makes)) (bit_and row.writes (18446744073709551615 - row.frees)) i
    ∙ ap₂ (λ a b. a || b)
    (and_bit row.reads (18446744073709551615 - row.makes) i ∙ ap₂ (λ a b. a && b) (same (has_bit row.reads i)) (not_bit row.makes i makes l))
    (and_bit row.writes (18446744073709551615 - row.frees) i ∙ ap₂ (λ a b. a && b) (same (has_bit row.writes i)) (not_bit row.frees i frees l))
  where
    same : {X : Type 0} (x : X) → x ≡ x
    same x = refl
