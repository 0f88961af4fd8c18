use Rattle.std.proofs.Common.{◌≡◌, ℕ, ◌%◌, true, ap, sym, ◌∙◌}
use Rattle.std.specs.Prelude.{not}
use Rattle.std.proofs.lemmas.Bool.{eq-eqb, false≢true}
use Rattle.arr_view.specs.Views.{elements}
use Rattle.arr_overlap.specs.Filters.{in_step, is_spaced}
use Rattle.arr_overlap.proofs.Apart.{apart}
use Rattle.arr_overlap.proofs.Spacing.{divides-from, elements_in_step, spaced_by, steps_apart}
use Rattle.arr_overlap.proofs.filters.step_apart.Goals as goal

pub returns-then-step-gt1 : goal.returns-then-step-gt1
returns-then-step-gt1 c v w o p told =
    let d : ℕ = c.common_divisor-step.result in
    let gcd = c.common_divisor-step.ensures in
    let first : is_spaced d v.strides ≡ true = spaced_by d c.args.a.now.step v.strides (divides-from d c.args.a.now.step gcd.0) o.spaced in
    let second : is_spaced d w.strides ≡ true = spaced_by d c.args.b.now.step w.strides (divides-from d c.args.b.now.step gcd.1) p.spaced in
    let differ : (v.start % d) ≡ (w.start % d) → ⊥ =
    λ same.
    false≢true (sym (ap not (eq-eqb (c.args.a.now.start % d) (c.args.b.now.start % d) (ap (λ x. x % d) o.start ∙ same ∙ sym (ap (λ x. x % d) p.start)))) ∙ told) in
    apart (in_step d v.start) (in_step d w.start) (elements v) (elements w) (elements_in_step v d o.lawful first) (elements_in_step w d p.lawful second) (steps_apart d v.start w.start differ)
