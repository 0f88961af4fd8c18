-- Runs of ones, in a word and in a row of words.
use Rattle.std.proofs.Common.{◌≡◌, ℕ, ◌+◌, ◌-◌, ◌*◌, ◌/◌, ◌%◌, ◌^◌, ◌<◌, ◌≤◌, List, ◌++◌, Bool, true, false, length, get_or, set, take, drop, replicate, min, max, refl, ap, ap₂, sym, ◌∙◌, arith, length-append, length-drop}
use Rattle.std.specs.Prelude.{◌==◌, ◌&&◌, ◌||◌, bit_or, nat_le, nat_lt}
use Rattle.std.specs.Int.{bit_at}
use Rattle.std.proofs.Math.Nat.{mod-eq_of_lt, mul_comm, mul-sub, one-le-pow}
use Rattle.std.proofs.Math.Pow.{pow_mono}
use Rattle.std.proofs.lemmas.Bool.{and_from, and_parts, eqb-true, eqb-false, false≢true, leb-false, leb-true, le-leb, lt-ltb, ltb-false, ltb-true}
use Rattle.std.proofs.lemmas.List.{append-nil, drop_all, take_all, ext_get_or, get_or-append_right, get_or-drop, get_or-replicate, get_or-set_other, get_or-set_same, get_or-take, get_or_append_left, length-replicate, length-take-le}
use Rattle.std.proofs.lemmas.Nat.{pow-add}
use Rattle.std.proofs.lemmas.Nat.Bits.{bit_at-lt, bit_at_mask_above, bit_at_mask_below, bit_at_mask_inside, bit_at_or, ones_shr}
use Rattle.arr_sets.specs.Bits.{in_run, is_set, members, with_run}
use Rattle.arr_sets.proofs.Members.{length-members, member_at}

-- ---- in a word

ones_moved : (w l : ℕ) → (2 ^ w - 1) * 2 ^ l ≡ 2 ^ (w + l) - 2 ^ l
ones_moved w l =
    mul_comm (2 ^ w - 1) (2 ^ l) ∙ mul-sub (2 ^ l) (2 ^ w) 1
    ∙ ap₂ (λ a b. a - b) (mul_comm (2 ^ l) (2 ^ w) ∙ sym (pow-add 2 w l)) (let e : 2 ^ l * 1 ≡ 2 ^ l = omega arith in e)

pub ones_between : (low high : ℕ) → low < high → high ≤ 64 → (2 ^ 64 - 1) / 2 ^ (64 - (high - low)) * 2 ^ low % 2 ^ 64 ≡ 2 ^ high - 2 ^ low
ones_between low high some within =
    let width : 64 - (64 - (high - low)) ≡ high - low = omega arith in
    let sum : (high - low) + low ≡ high = omega arith in
    let up : 2 ^ high ≤ 2 ^ 64 = pow_mono within in
    let one : 1 ≤ 2 ^ low = one-le-pow low 2 (omega arith) in
    ap (λ m. m * 2 ^ low % 2 ^ 64) (ones_shr 64 (64 - (high - low)) (omega arith) ∙ ap (λ k. 2 ^ k - 1) width)
    ∙ ap (λ m. m % 2 ^ 64) (ones_moved (high - low) low ∙ ap (λ k. 2 ^ k - 2 ^ low) sum) ∙ mod-eq_of_lt (omega arith)

word_digit : (w low high j : ℕ) → (bit_at (bit_or w (2 ^ high - 2 ^ low)) j == 1) ≡ (in_run low high j || (bit_at w j == 1))
word_digit w low high j =
    elim (nat_le low j) as (λ t. nat_le low j ≡ t → (bit_at (bit_or w (2 ^ high - 2 ^ low)) j == 1) ≡ ((t && nat_lt j high) || (bit_at w j == 1))) [
      | false ↦ λ e. outside (bit_at_mask_below low high j (leb-false low j e))
      | true ↦ λ e.
          elim (nat_lt j high) as (λ t. nat_lt j high ≡ t → (bit_at (bit_or w (2 ^ high - 2 ^ low)) j == 1) ≡ (t || (bit_at w j == 1))) [
            | false ↦ λ f. outside (bit_at_mask_above low high j (ltb-false j high f))
            | true ↦ λ f.
                let below : bit_at w j < 2 = bit_at-lt w j in
                let one : max (bit_at w j) 1 ≡ 1 = omega arith in
                ap (λ b. b == 1) (bit_at_or w (2 ^ high - 2 ^ low) j ∙ ap (max (bit_at w j)) (bit_at_mask_inside low high j (leb-true low j e) (ltb-true j high f)) ∙ one)
          ] refl
    ] refl
  where
    outside : bit_at (2 ^ high - 2 ^ low) j ≡ 0 → (bit_at (bit_or w (2 ^ high - 2 ^ low)) j == 1) ≡ (bit_at w j == 1)
    outside none =
        let same : max (bit_at w j) 0 ≡ bit_at w j = omega arith in
        ap (λ b. b == 1) (bit_at_or w (2 ^ high - 2 ^ low) j ∙ ap (max (bit_at w j)) none ∙ same)

-- ---- in a row of words

same_tests : (a b : Bool) → (a ≡ true → b ≡ true) → (b ≡ true → a ≡ true) → a ≡ b
same_tests true b f g = sym (f refl)
same_tests false true f g = g refl
same_tests false false f g = refl

abbrev Within : ℕ → ℕ → ℕ → Type 0
Within from end i = (from ≤ i) × (i < end)

within : (from end i : ℕ) → in_run from end i ≡ true → Within from end i
within from end i e = let parts = and_parts (nat_le from i) (nat_lt i end) e in (leb-true from i parts.0, ltb-true i end parts.1)

run_from : (from end i : ℕ) → Within from end i → in_run from end i ≡ true
run_from from end i w = and_from (nat_le from i) (nat_lt i end) (le-leb from i w.0) (lt-ltb i end w.1)

same_runs : (from end i from' end' j : ℕ) → (Within from end i → Within from' end' j) → (Within from' end' j → Within from end i) → in_run from end i ≡ in_run from' end' j
same_runs from end i from' end' j f g =
    same_tests (in_run from end i) (in_run from' end' j) (λ e. run_from from' end' j (f (within from end i e))) (λ e. run_from from end i (g (within from' end' j e)))

no_run : (from end i : ℕ) → end ≤ i → in_run from end i ≡ false
no_run from end i h = same_tests (in_run from end i) false (λ e. let w = within from end i e in absurd (omega (arith, w.1))) (λ e. absurd (false≢true e))

module _ (words : List ℕ) (from end index low high : ℕ) (was : ℕ → Bool) (begun : from / 64 ≤ index) (here : index < length words) (more : 64 * index < end)
    (low_is : low ≡ max (64 * index) from - 64 * index) (high_is : high ≡ min (end - 64 * index) 64)
    (before : (i : ℕ) → is_set words i ≡ (in_run from (min end (64 * index)) i || was i)) where
  abbrev written : List ℕ
  written = set words index (bit_or (get_or words index 0) (2 ^ high - 2 ^ low))

  in_word : (i : ℕ) → i / 64 ≡ index → is_set written i ≡ (in_run from (min end (64 * (index + 1))) i || was i)
  in_word i at =
      let spot : i ≡ 64 * index + i % 64 = omega arith in
      let digit : i % 64 < 64 = omega arith in
      let later : min end (64 * index) ≤ i = omega arith in
      ap (λ k. bit_at (get_or written k 0) (i % 64) == 1) at
      ∙ ap (λ w. bit_at w (i % 64) == 1) (get_or-set_same words index (bit_or (get_or words index 0) (2 ^ high - 2 ^ low)) 0 here)
      ∙ word_digit (get_or words index 0) low high (i % 64)
      ∙ ap₂ (λ a b. a || b)
      (same_runs low high (i % 64) from (min end (64 * (index + 1))) i (λ w. (let p = w.0 in let q = w.1 in (omega arith, omega arith))) (λ w. (let p = w.0 in let q = w.1 in (omega arith, omega arith))))
      (ap (λ k. bit_at (get_or words k 0) (i % 64) == 1) (sym at) ∙ before i ∙ ap (λ b. b || was i) (no_run from (min end (64 * index)) i later))

  elsewhere : (i : ℕ) → (i / 64 ≡ index → ⊥) → is_set written i ≡ (in_run from (min end (64 * (index + 1))) i || was i)
  elsewhere i other =
      ap (λ w. bit_at w (i % 64) == 1) (get_or-set_other words index (i / 64) (bit_or (get_or words index 0) (2 ^ high - 2 ^ low)) 0 other)
      ∙ before i
      ∙ ap (λ b. b || was i)
      (same_runs from (min end (64 * index)) i from (min end (64 * (index + 1))) i (λ w. (let p = w.0 in let q = w.1 in (omega arith, omega arith))) (λ w. (let p = w.0 in let q = w.1 in (omega arith, omega arith))))

  pub run_turn : (i : ℕ) → is_set written i ≡ (in_run from (min end (64 * (index + 1))) i || was i)
  run_turn i =
      elim (i / 64 == index) as (λ b. (i / 64 == index) ≡ b → is_set written i ≡ (in_run from (min end (64 * (index + 1))) i || was i)) [
        | true ↦ λ e. in_word i (eqb-true (i / 64) index e)
        | false ↦ λ e. elsewhere i (λ z. eqb-false (i / 64) index e z)
      ] refl

-- ---- the set

pub length-with_run : (row : List Bool) (from count : ℕ) → from + count ≤ length row → length (with_run row from count) ≡ length row
length-with_run row from count h =
    length-append (take from row ++ replicate count true) (drop (from + count) row)
    ∙ ap₂ (λ a b. a + b) (length-append (take from row) (replicate count true) ∙ ap₂ (λ a b. a + b) (length-take-le from row (omega arith)) (length-replicate count true)) (length-drop (from + count) row)
    ∙ omega arith

pub run_at : (row : List Bool) (from count i : ℕ) → from + count ≤ length row → i < length row → get_or (with_run row from count) i false ≡ (in_run from (from + count) i || get_or row i false)
run_at row from count i h l =
    elim (nat_lt i from) as (λ b. nat_lt i from ≡ b → get_or (with_run row from count) i false ≡ (in_run from (from + count) i || get_or row i false)) [
      | true ↦ λ e.
          let low : i < from = ltb-true i from e in
          let fronts : length (take from row) ≡ from = length-take-le from row (omega arith) in
          get_or_append_left (take from row ++ replicate count true) (drop (from + count) row) false i (omega (arith, length-append (take from row) (replicate count true)))
          ∙ get_or_append_left (take from row) (replicate count true) false i (omega arith)
          ∙ get_or-take from row i false low
          ∙ ap (λ b. b || get_or row i false) (sym (same_tests (in_run from (from + count) i) false (λ f. let w = within from (from + count) i f in absurd (omega (arith, w.0))) (λ f. absurd (false≢true f))))
      | false ↦ λ e. from_on (ltb-false i from e)
    ] refl
  where
    from_on : from ≤ i → get_or (with_run row from count) i false ≡ (in_run from (from + count) i || get_or row i false)
    from_on low =
        let fronts : length (take from row) ≡ from = length-take-le from row (omega arith) in
        let ones : length (replicate count true) ≡ count = length-replicate count true in
        let both : length (take from row ++ replicate count true) ≡ from + count = length-append (take from row) (replicate count true) ∙ omega arith in
        elim (nat_lt i (from + count)) as (λ b. nat_lt i (from + count) ≡ b → get_or (with_run row from count) i false ≡ (in_run from (from + count) i || get_or row i false)) [
          | true ↦ λ e.
              let high : i < from + count = ltb-true i (from + count) e in
              get_or_append_left (take from row ++ replicate count true) (drop (from + count) row) false i (omega arith)
              ∙ get_or-append_right (take from row) (replicate count true) from i false fronts low
              ∙ get_or-replicate count (i - from) true false (omega arith)
              ∙ ap (λ b. b || get_or row i false) (sym (run_from from (from + count) i (low, high)))
          | false ↦ λ e.
              let high : from + count ≤ i = ltb-false i (from + count) e in
              get_or-append_right (take from row ++ replicate count true) (drop (from + count) row) (from + count) i false both high
              ∙ get_or-drop (from + count) row (i - (from + count)) false
              ∙ ap (λ k. get_or row k false) (let k : (from + count) + (i - (from + count)) ≡ i = omega arith in k)
              ∙ ap (λ b. b || get_or row i false) (sym (no_run from (from + count) i high))
        ] refl

pub run_members : (words new : List ℕ) (n from count : ℕ) → from + count ≤ n → ((i : ℕ) → is_set new i ≡ (in_run from (from + count) i || is_set words i))
    → members new n ≡ with_run (members words n) from count
run_members words new n from count h each =
    let long : length (members words n) ≡ n = length-members words n in
    let new_long : length (members new n) ≡ n = length-members new n in
    ext_get_or false (members new n) (with_run (members words n) from count) (new_long ∙ sym (length-with_run (members words n) from count (omega arith) ∙ long)) (λ i l.
    let below : i < n = omega arith in
    member_at new n i below ∙ each i ∙ ap (λ b. in_run from (from + count) i || b) (sym (member_at words n i below)) ∙ sym (run_at (members words n) from count i (omega arith) (omega arith)))

-- nothing is set from the bound on
pub none_past : (words new : List ℕ) (n from end : ℕ) → end ≤ n → ((i : ℕ) → is_set new i ≡ (in_run from end i || is_set words i)) → ((i : ℕ) → n ≤ i → is_set words i ≡ false)
    → (i : ℕ) → n ≤ i → is_set new i ≡ false
none_past words new n from end h each none i above = each i ∙ ap₂ (λ a b. a || b) (no_run from end i (omega arith)) (none i above)

-- all words of a row are written
pub all_written : (xs ys : List ℕ) (n : ℕ) → length ys ≡ n → length xs ≡ n → take n (ys ++ drop (length ys) xs) ≡ ys
all_written xs ys n a b = ap (λ zs. take n (ys ++ zs)) (drop_all (length ys) xs (omega arith)) ∙ ap (take n) (append-nil ys) ∙ take_all n ys (omega arith)
