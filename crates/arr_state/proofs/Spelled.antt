-- The two spellings of a fact.
use Rattle.std.proofs.Common.{◌≡◌, ℕ, List, [], ◌∷◌, true, ◌&&◌, ◌||◌, refl, sym, ap, ◌∙◌}
use Rattle.std.specs.Prelude.{◌==◌}
use Rattle.std.proofs.lemmas.Bool.{and_parts, and_from, or_left, or_right, true≢false, eqb-true, eq-eqb}
use Rattle.arr_ops.proofs.Tests.{or_cases}
use Rattle.arr_law.specs.declared.fact.Fact.{Fact}
use Rattle.arr_law.specs.declared.fact.Fact.TheVariants.{Same, Apart, Before}
use Rattle.arr_law.specs.Facts.{Facts, is_fact, with_fact}
use Rattle.arr_law.specs.Floor.{IsSymmetric}
use Rattle.arr_law.specs.Problem.{Problem}
use Rattle.arr_state.specs.Known.{after, AreOps}

abbrev pub turned : Fact → Fact
turned (Same f g) = Same g f
turned (Apart f g) = Apart g f
turned (Before f g) = Before f g

pub is_fact-same : (x : Fact) → is_fact x x ≡ true
is_fact-same (Same f g) = or_left ((f == f) && (g == g)) ((f == g) && (g == f)) (and_from (f == f) (g == g) (eq-eqb f f refl) (eq-eqb g g refl))
is_fact-same (Apart f g) = or_left ((f == f) && (g == g)) ((f == g) && (g == f)) (and_from (f == f) (g == g) (eq-eqb f f refl) (eq-eqb g g refl))
is_fact-same (Before f g) = and_from (f == f) (g == g) (eq-eqb f f refl) (eq-eqb g g refl)

pub with_here : (facts : Facts) (x : Fact) → with_fact x facts x ≡ true
with_here facts x = or_left (is_fact x x) (facts x) (is_fact-same x)

-- a fact is another where it is that one or that one turned
pub same_or_turned : (x y : Fact) → is_fact x y ≡ true → (P : Type 0) → (y ≡ x → P) → (y ≡ turned x → P) → P
same_or_turned (Same f g) (Same h k) e P s t =
    or_cases ((f == h) && (g == k)) ((f == k) && (g == h)) e
    (λ p. let q = and_parts (f == h) (g == k) p in s (sym (ap (λ a. Same a g) (eqb-true f h q.0) ∙ ap (λ b. Same h b) (eqb-true g k q.1))))
    (λ p. let q = and_parts (f == k) (g == h) p in t (sym (ap (λ a. Same a f) (eqb-true g h q.1) ∙ ap (λ b. Same h b) (eqb-true f k q.0))))
same_or_turned (Apart f g) (Apart h k) e P s t =
    or_cases ((f == h) && (g == k)) ((f == k) && (g == h)) e
    (λ p. let q = and_parts (f == h) (g == k) p in s (sym (ap (λ a. Apart a g) (eqb-true f h q.0) ∙ ap (λ b. Apart h b) (eqb-true g k q.1))))
    (λ p. let q = and_parts (f == k) (g == h) p in t (sym (ap (λ a. Apart a f) (eqb-true g h q.1) ∙ ap (λ b. Apart h b) (eqb-true f k q.0))))
same_or_turned (Before f g) (Before h k) e P s t = let q = and_parts (f == h) (g == k) e in s (sym (ap (λ a. Before a g) (eqb-true f h q.0) ∙ ap (λ b. Before h b) (eqb-true g k q.1)))
same_or_turned (Same f g) (Apart h k) e P s t = absurd (true≢false (sym e))
same_or_turned (Same f g) (Before h k) e P s t = absurd (true≢false (sym e))
same_or_turned (Apart f g) (Same h k) e P s t = absurd (true≢false (sym e))
same_or_turned (Apart f g) (Before h k) e P s t = absurd (true≢false (sym e))
same_or_turned (Before f g) (Same h k) e P s t = absurd (true≢false (sym e))
same_or_turned (Before f g) (Apart h k) e P s t = absurd (true≢false (sym e))

pub turned_is : (x : Fact) → is_fact (turned x) x ≡ true
turned_is (Same f g) = or_right ((g == f) && (f == g)) ((g == g) && (f == f)) (and_from (g == g) (f == f) (eq-eqb g g refl) (eq-eqb f f refl))
turned_is (Apart f g) = or_right ((g == f) && (f == g)) ((g == g) && (f == f)) (and_from (g == g) (f == f) (eq-eqb g g refl) (eq-eqb f f refl))
turned_is (Before f g) = and_from (f == f) (g == g) (eq-eqb f f refl) (eq-eqb g g refl)

swap_then : (a b c d e f : ℕ) → (((a == c) && (b == d)) || ((a == d) && (b == c))) ≡ true → (((c == e) && (d == f)) || ((c == f) && (d == e))) ≡ true → (((a == e) && (b == f)) || ((a == f) && (b == e))) ≡ true
swap_then a b c d e f p q =
    or_cases ((a == c) && (b == d)) ((a == d) && (b == c)) p
    (λ p1. let h = and_parts (a == c) (b == d) p1 in
    or_cases ((c == e) && (d == f)) ((c == f) && (d == e)) q
    (λ q1. let k = and_parts (c == e) (d == f) q1 in straight (eqb-true a c h.0 ∙ eqb-true c e k.0) (eqb-true b d h.1 ∙ eqb-true d f k.1))
    (λ q1. let k = and_parts (c == f) (d == e) q1 in crossed (eqb-true a c h.0 ∙ eqb-true c f k.0) (eqb-true b d h.1 ∙ eqb-true d e k.1)))
    (λ p1. let h = and_parts (a == d) (b == c) p1 in
    or_cases ((c == e) && (d == f)) ((c == f) && (d == e)) q
    (λ q1. let k = and_parts (c == e) (d == f) q1 in crossed (eqb-true a d h.0 ∙ eqb-true d f k.1) (eqb-true b c h.1 ∙ eqb-true c e k.0))
    (λ q1. let k = and_parts (c == f) (d == e) q1 in straight (eqb-true a d h.0 ∙ eqb-true d e k.1) (eqb-true b c h.1 ∙ eqb-true c f k.0)))
  where
    straight : a ≡ e → b ≡ f → (((a == e) && (b == f)) || ((a == f) && (b == e))) ≡ true
    straight x y = or_left ((a == e) && (b == f)) ((a == f) && (b == e)) (and_from (a == e) (b == f) (eq-eqb a e x) (eq-eqb b f y))

    crossed : a ≡ f → b ≡ e → (((a == e) && (b == f)) || ((a == f) && (b == e))) ≡ true
    crossed x y = or_right ((a == e) && (b == f)) ((a == f) && (b == e)) (and_from (a == f) (b == e) (eq-eqb a f x) (eq-eqb b e y))

is_fact-then : (x y z : Fact) → is_fact x y ≡ true → is_fact y z ≡ true → is_fact x z ≡ true
is_fact-then (Same a b) (Same c d) (Same e f) p q = swap_then a b c d e f p q
is_fact-then (Apart a b) (Apart c d) (Apart e f) p q = swap_then a b c d e f p q
is_fact-then (Before a b) (Before c d) (Before e f) p q =
    let h = and_parts (a == c) (b == d) p in
    let k = and_parts (c == e) (d == f) q in
    and_from (a == e) (b == f) (eq-eqb a e (eqb-true a c h.0 ∙ eqb-true c e k.0)) (eq-eqb b f (eqb-true b d h.1 ∙ eqb-true d f k.1))
is_fact-then (Same a b) (Same c d) (Apart e f) p q = absurd (true≢false (sym q))
is_fact-then (Same a b) (Same c d) (Before e f) p q = absurd (true≢false (sym q))
is_fact-then (Apart a b) (Apart c d) (Same e f) p q = absurd (true≢false (sym q))
is_fact-then (Apart a b) (Apart c d) (Before e f) p q = absurd (true≢false (sym q))
is_fact-then (Before a b) (Before c d) (Same e f) p q = absurd (true≢false (sym q))
is_fact-then (Before a b) (Before c d) (Apart e f) p q = absurd (true≢false (sym q))
is_fact-then (Same a b) (Apart c d) z p q = absurd (true≢false (sym p))
is_fact-then (Same a b) (Before c d) z p q = absurd (true≢false (sym p))
is_fact-then (Apart a b) (Same c d) z p q = absurd (true≢false (sym p))
is_fact-then (Apart a b) (Before c d) z p q = absurd (true≢false (sym p))
is_fact-then (Before a b) (Same c d) z p q = absurd (true≢false (sym p))
is_fact-then (Before a b) (Apart c d) z p q = absurd (true≢false (sym p))

pub symmetric-with : (facts : Facts) (x : Fact) → IsSymmetric facts → IsSymmetric (with_fact x facts)
symmetric-with facts x s y z e k = or_cases (is_fact x y) (facts y) k (λ here. or_left (is_fact x z) (facts z) (is_fact-then x y z here e)) (λ there. or_right (is_fact x z) (facts z) (s y z e there))

pub symmetric_after : (facts : Facts) (trail : List Fact) → IsSymmetric facts → IsSymmetric (after facts trail)
symmetric_after facts [] s = s
symmetric_after facts (x ∷ trail) s = symmetric_after (with_fact x facts) trail (symmetric-with facts x s)

pub turned_ops : (problem : Problem) (x : Fact) → AreOps problem x → AreOps problem (turned x)
turned_ops problem (Same f g) a = record { left = a.right; right = a.left }
turned_ops problem (Apart f g) a = record { left = a.right; right = a.left }
turned_ops problem (Before f g) a = a
