use Rattle.std.proofs.Common.{ℕ, ◌+◌, drop}
use Rattle.arr_overlap.specs.Legs.{with_dimensions, AreLegs, LeadTo}
use Rattle.arr_overlap.proofs.pairs.add_dimensions.Given as goal

abbrev pub invariant-loop-axis : goal.invariant-loop-axis
invariant-loop-axis l = record {
  are : (k : ℕ) → AreLegs k l.fn.legs.items → AreLegs (k + l.axis) l.legs.items;
  led : (t : ℕ) → LeadTo (with_dimensions l.view.lengths l.view.strides l.fn.legs.items) t → LeadTo (with_dimensions (drop l.axis l.view.lengths) (drop l.axis l.view.strides) l.legs.items) t;
  back : (t : ℕ) → LeadTo (with_dimensions (drop l.axis l.view.lengths) (drop l.axis l.view.strides) l.legs.items) t → LeadTo (with_dimensions l.view.lengths l.view.strides l.fn.legs.items) t;
}
