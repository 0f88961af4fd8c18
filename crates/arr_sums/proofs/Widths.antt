-- How many positions of an axis lie side by side.
use Rattle.std.proofs.Common.{◌≡◌, cond, ap}
use Rattle.std.proofs.lemmas.Bool.{eq-eqb, ne_eqb}
use Rattle.arr_sums.specs.declared.axis.Axis.{Axis}
use Rattle.arr_sums.specs.Along.{width_of}

pub lane_width : (axis : Axis) → axis.inner ≡ 1 → width_of axis ≡ axis.length
lane_width axis e = ap (λ t. cond t axis.length axis.inner) (eq-eqb axis.inner 1 e)

pub row_width : (axis : Axis) → (axis.inner ≡ 1 → ⊥) → width_of axis ≡ axis.inner
row_width axis ne = ap (λ t. cond t axis.length axis.inner) (ne_eqb axis.inner 1 ne)
