-- The turns of a script, one after another.
use Rattle.std.proofs.Common.{◌≡◌, ℕ, suc, ◌+◌, ◌-◌, ◌<◌, ◌≤◌, ◌%◌, List, ◌++◌, refl, sym, ap, subst, arith, ◌∙◌, append_assoc, append-nil}
use Rattle.std.specs.List.{flat_map}
use Rattle.rand_core.specs.Steps.{first_words}
use Rattle.rand_pcg.specs.Lcg.{Lcg}
use Rattle.rand_pcg.specs.Pcg.{pcg32}
use Rattle.arr_demo.specs.Script.{opening, turn, closing, drawn_script}

module _ (rows columns : ℕ) where
  all_turns : ℕ → Lcg → List ℕ
  all_turns n g = flat_map (turn rows columns) (first_words pcg32 n g)

  -- one more turn, and those that are still to come
  pub one_turn : (n i word : ℕ) (old new : Lcg) (text more : List ℕ) → i < n → (let drawn : ℕ × Lcg = (word, new) in drawn) ≡ pcg32 old → more ≡ text ++ turn rows columns word
      → more ++ flat_map (turn rows columns) (first_words pcg32 (n - (i + 1)) new) ≡ text ++ flat_map (turn rows columns) (first_words pcg32 (n - i) old)
  unfolding first_words
  one_turn n i word old new text more below drawn grown =
      let left : n - i ≡ suc (n - (i + 1)) = omega arith in
      let is_word : word ≡ (pcg32 old).0 = ap (λ (x : ℕ × Lcg). x.0) drawn in
      let is_new : new ≡ (pcg32 old).1 = ap (λ (x : ℕ × Lcg). x.1) drawn in
      rw (left, grown, is_word, is_new) (append_assoc text (turn rows columns (pcg32 old).0) (flat_map (turn rows columns) (first_words pcg32 (n - (i + 1)) (pcg32 old).1)))

  -- none is still to come
  pub no_turn : (n i : ℕ) (words : Lcg) (text whole : List ℕ) → n ≤ i → text ++ flat_map (turn rows columns) (first_words pcg32 (n - i) words) ≡ whole → text ≡ whole
  unfolding first_words
  no_turn n i words text whole over e =
      let none : n - i ≡ 0 = omega arith in
      sym (append-nil text) ∙ subst (λ k. text ++ flat_map (turn rows columns) (first_words pcg32 k words) ≡ whole) none e

abbrev Draws : Lcg → ℕ → Lcg → Type 0
Draws old word new = (let drawn : ℕ × Lcg = (word, new) in drawn) ≡ pcg32 old

-- the parts of a script are the script that is drawn
pub whole_script : (first second third fourth : Lcg) (a b n : ℕ) (text whole : List ℕ) → Draws first a second → Draws second b third → Draws third n fourth
    → text ≡ opening (8 + a % 57) (8 + b % 57) ++ flat_map (turn (8 + a % 57) (8 + b % 57)) (first_words pcg32 (4 + n % 13) fourth)
    → whole ≡ text ++ closing → whole ≡ drawn_script first
whole_script first second third fourth a b n text whole one two three turns e =
    let is_a : a ≡ (pcg32 first).0 = ap (λ (x : ℕ × Lcg). x.0) one in
    let is_second : second ≡ (pcg32 first).1 = ap (λ (x : ℕ × Lcg). x.1) one in
    let is_b : b ≡ (pcg32 second).0 = ap (λ (x : ℕ × Lcg). x.0) two in
    let is_third : third ≡ (pcg32 second).1 = ap (λ (x : ℕ × Lcg). x.1) two in
    let is_n : n ≡ (pcg32 third).0 = ap (λ (x : ℕ × Lcg). x.0) three in
    let is_fourth : fourth ≡ (pcg32 third).1 = ap (λ (x : ℕ × Lcg). x.1) three in
    rw (e, turns, is_a, is_b, is_n, is_fourth, is_third, is_second) refl
