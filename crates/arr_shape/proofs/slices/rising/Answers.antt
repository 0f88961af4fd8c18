use Rattle.std.proofs.Common.{◌≡◌, ◌<◌, ◌≤◌, ◌+◌, ◌-◌, ◌/◌, ◌≤ℤ◌, ℕ, suc, ℤ, pos, negsuc, cond, to_z, of_z, rules, refl, ap, ap₂, sym, ◌∙◌, subst, arith, unsigned_abs}
use Rattle.std.specs.Prelude.{◌==◌, unwrap_or, Ok}
use mir.Val.{SFits}
use Rattle.std.specs.Int.{w128}
use Rattle.std.proofs.lemmas.Int.{ints, to_z-of_z}
use Rattle.arr_shape.specs.declared.bounds.Cut.{Cut}
use Rattle.arr_shape.specs.Slices.{IsCut}
use Rattle.arr_shape.proofs.Cuts.{stepped, made_up, lawful_up}
use Rattle.arr_shape.proofs.slices.rising.Goals as goal

upward : (z : ℤ) → pos 1 ≤ℤ z → (z ≡ pos (unsigned_abs z)) × (0 < unsigned_abs z)
upward (pos n) h = (refl, omega (arith, ints))
upward (negsuc n) h = absurd (omega (arith, ints))

same_cut : (a b : Cut) → a.first ≡ b.first → a.count ≡ b.count → a.step ≡ b.step → a ≡ b
same_cut a b p q r = λ i. record { first = p i; count = q i; step = r i }

pub returns : goal.returns
returns c =
    let n : ℕ = c.args.length in
    let slice = c.args.slice.now in
    let z : ℤ = slice.step in
    let d : ℕ = unsigned_abs z in
    let fits : SFits w128 z = search rules in
    let even : to_z w128 (of_z w128 z) ≡ z = to_z-of_z w128 z fits in
    let up = upward z c.requires.up in
    let first : ℕ = c.unwrap_or-start.result in
    let stop : ℕ = c.unwrap_or-stop.result in
    let from : first ≡ unwrap_or slice.start 0 = c.unwrap_or-start.ensures in
    let to : stop ≡ unwrap_or slice.stop n = c.unwrap_or-stop.ensures in
    let count : c.stepping.result.count ≡ suc ((stop - 1 - first) / d) = c.stepping.ensures.count ∙ ap (λ y. (stop - 1 - first) / unsigned_abs y + 1) even ∙ (let e : (stop - 1 - first) / d + 1 ≡ suc ((stop - 1 - first) / d) = omega arith in e) in
    let is : c.stepping.result ≡ stepped first ((stop - 1 - first) / d) (pos d) =
    same_cut c.stepping.result (stepped first ((stop - 1 - first) / d) (pos d)) c.stepping.ensures.first count (c.stepping.ensures.step ∙ ap (λ y. cond ((stop - 1 - first) / unsigned_abs y == 0) (pos 0) y) even ∙ ap (λ y. cond ((stop - 1 - first) / d == 0) (pos 0) y) up.0) in
    let low : first ≤ n = omega arith in
    let high : stop ≤ n = omega arith in
    let some : first < stop = omega arith in
    record {
      cut =
          ap Ok (is ∙ ap₂ (λ x y. stepped x ((y - 1 - x) / d) (pos d)) from to)
          ∙ sym (made_up n slice.start slice.stop d up.1 (subst (λ x. x ≤ n) from low) (subst (λ x. x ≤ n) to high) (subst (λ x. x < unwrap_or slice.stop n) from (subst (λ y. first < y) to some)));
      lawful = subst (IsCut n) (sym is) (lawful_up n first (stop - 1 - first) d up.1 (omega arith));
    }
