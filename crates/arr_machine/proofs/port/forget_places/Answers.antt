use Rattle.std.proofs.Common.{◌≡◌, ◌≢◌, ◌≤◌, ◌∙◌, true, false, None, get_or, set, refl, sym, subst, arith}
use Rattle.std.specs.Prelude.{◌==◌, nat_lt}
use Rattle.std.proofs.lemmas.Bool.{eqb-true, eqb-false, ltb-true, ltb-false}
use Rattle.std.proofs.lemmas.List.{get_or_past, get_or-set_other, get_or-set_same, length-set}
use Rattle.arr_machine.proofs.port.forget_places.Goals as goal

pub loop-index-init : goal.loop-index-init
loop-index-init c = record { long = refl; none = λ r l. absurd (omega arith) }

pub loop-index-preserved : goal.loop-index-preserved
loop-index-preserved c =
    record {
      long = length-set c.loop-index.places c.loop-index.index None ∙ c.loop-index.invariant.long;
      none = λ r l. elim (r == c.loop-index.index) as (λ z. (r == c.loop-index.index) ≡ z → get_or (set c.loop-index.places c.loop-index.index None) r None ≡ None) [
        | true ↦ λ e.
            let same : r ≡ c.loop-index.index = eqb-true r c.loop-index.index e in
            subst (λ q. get_or (set c.loop-index.places c.loop-index.index None) q None ≡ None) (sym same)
            (get_or-set_same c.loop-index.places c.loop-index.index None None (omega (arith, c.loop-index.invariant.long, c.loop-index-test.true)))
        | false ↦ λ e.
            let ne : r ≢ c.loop-index.index = eqb-false r c.loop-index.index e in
            get_or-set_other c.loop-index.places c.loop-index.index r None None ne ∙ c.loop-index.invariant.none r (omega arith)
      ] refl;
    }

pub returns-clause-none : goal.returns-clause-none
returns-clause-none c r =
    elim (nat_lt r c.loop-index.index) as (λ z. nat_lt r c.loop-index.index ≡ z → get_or c.loop-index.places r None ≡ None) [
      | true ↦ λ e. c.loop-index.invariant.none r (ltb-true r c.loop-index.index e)
      | false ↦ λ e.
          let far : c.loop-index.index ≤ r = ltb-false r c.loop-index.index e in
          get_or_past c.loop-index.places r None (omega (arith, c.loop-index.invariant.long, c.loop-index-test.false))
    ] refl
