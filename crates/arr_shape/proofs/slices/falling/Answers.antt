use Rattle.std.proofs.Common.{◌≡◌, ◌≤◌, ◌+◌, ◌-◌, ◌/◌, ◌≤ℤ◌, ℕ, suc, ℤ, pos, negsuc, cond, false, to_z, of_z, rules, ap, ap₂, sym, ◌∙◌, subst, arith, unsigned_abs}
use Rattle.std.specs.Prelude.{◌==◌, unwrap_or, Ok}
use mir.Val.{SFits}
use Rattle.std.specs.Int.{w128}
use Rattle.std.proofs.lemmas.Int.{ints, to_z-of_z}
use Rattle.std.proofs.lemmas.Bool.{le-ltb}
use Rattle.arr_shape.specs.declared.bounds.Cut.{Cut}
use Rattle.arr_shape.specs.Slices.{IsCut, floor_of, lies_above}
use Rattle.arr_shape.proofs.Cuts.{stepped, made_down, lawful_down}
use Rattle.arr_shape.proofs.slices.falling.Goals as goal
use Rattle.arr_shape.proofs.slices.falling.Goals.{in-Some-2, in-None}

downward : (z : ℤ) → z ≤ℤ negsuc 0 → (z ≡ negsuc (unsigned_abs z - 1)) × (suc (unsigned_abs z - 1) ≡ unsigned_abs z)
downward (pos n) h = absurd (omega (arith, ints))
downward (negsuc n) h = (omega (arith, ints), omega arith)

same_cut : (a b : Cut) → a.first ≡ b.first → a.count ≡ b.count → a.step ≡ b.step → a ≡ b
same_cut a b p q r = λ i. record { first = p i; count = q i; step = r i }

pub returns : goal.returns
returns c =
    let n : ℕ = c.args.length in
    let slice = c.args.slice.now in
    let z : ℤ = slice.step in
    let k : ℕ = unsigned_abs z - 1 in
    let fits : SFits w128 z = search rules in
    let even : to_z w128 (of_z w128 z) ≡ z = to_z-of_z w128 z fits in
    let down = downward z c.requires.down in
    let first : ℕ = c.unwrap_or-start.result in
    let floor : ℕ = c.match-slice.floor in
    let from : first ≡ unwrap_or slice.start (n - 1) = c.unwrap_or-start.ensures in
    let bottom : (floor ≡ floor_of slice.stop) × (lies_above (n - 1) slice.stop ≡ false) = elim c.match-slice.branch [
      | in-Some-2 w ↦ (
        w.floor-is ∙ (let e : w.in-Some-2.stop + 1 ≡ suc w.in-Some-2.stop = omega arith in e) ∙ ap floor_of (sym w.in-Some-2.is),
        ap (lies_above (n - 1)) w.in-Some.is ∙ le-ltb (n - 1) w.in-Some.stop w.if-stop-last.false,
      )
      | in-None w ↦ (w.floor-is ∙ ap floor_of (sym w.in-None.is), ap (lies_above (n - 1)) w.in-None.is)
    ] in
    let count : c.stepping.result.count ≡ suc ((first - floor) / suc k) =
    c.stepping.ensures.count ∙ ap (λ y. (first - floor) / unsigned_abs y + 1) even ∙ ap (λ d. (first - floor) / d + 1) (sym down.1) ∙ (let e : (first - floor) / suc k + 1 ≡ suc ((first - floor) / suc k) = omega arith in e) in
    let is : c.stepping.result ≡ stepped first ((first - floor) / suc k) (negsuc k) =
    same_cut c.stepping.result (stepped first ((first - floor) / suc k) (negsuc k)) c.stepping.ensures.first count
    (c.stepping.ensures.step ∙ ap (λ y. cond ((first - floor) / unsigned_abs y == 0) (pos 0) y) even ∙ ap₂ (λ d y. cond ((first - floor) / d == 0) (pos 0) y) (sym down.1) down.0) in
    let low : first ≤ n - 1 = omega arith in
    let some : floor ≤ first = omega arith in
    let one : 1 ≤ n = c.requires.some in
    record {
      cut =
          ap Ok (is ∙ ap₂ (λ x y. stepped x ((x - y) / suc k) (negsuc k)) from bottom.0)
          ∙ sym (made_down n slice.start slice.stop k one (subst (λ x. x ≤ n - 1) from low) bottom.1 (subst (λ x. floor_of slice.stop ≤ x) from (subst (λ y. y ≤ first) bottom.0 some)));
      lawful = subst (IsCut n) (sym is) (lawful_down n first (first - floor) k (omega arith) (omega arith));
    }
