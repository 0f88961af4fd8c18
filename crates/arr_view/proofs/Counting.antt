-- Counting positions, one length after another.
use Rattle.std.proofs.Common.{◌≡◌, ℕ, zero, suc, ◌+◌, ◌*◌, ◌<◌, ◌≤◌, ◌⊎◌, inl, inr, List, [], ◌∷◌, Bool, true, false, cond, ◌&&◌, refl, ap, ap₂, sym, ◌∙◌, arith, length, drop, get_or}
use Rattle.std.proofs.Math.Nat.{mul_assoc, mul-le-mul_left}
use Rattle.std.specs.Prelude.{nat_le, Some, None}
use Rattle.std.specs.List.{list_all}
use Rattle.std.proofs.lemmas.Bool.{and_parts, leb-true, le-leb, lt-leb}
use Rattle.std.proofs.lemmas.List.{at_drop_more}
use Rattle.arr_view.specs.Views.{positions}

pub some_position : (ns : List ℕ) → list_all (nat_le 1) ns ≡ true → 1 ≤ positions ns
some_position [] h = omega arith
some_position (n ∷ ns) h =
    let parts = and_parts (nat_le 1 n) (list_all (nat_le 1) ns) h in
    let here : 1 ≤ n = leb-true 1 n parts.0 in
    let rest : 1 ≤ positions ns = some_position ns parts.1 in
    let grown : n * 1 ≤ n * positions ns = mul-le-mul_left n rest in
    omega arith

-- no length is 0, and c times the positions are few enough
abbrev pub few_from : ℕ → List ℕ → Bool
few_from c ns = list_all (nat_le 1) ns && nat_le (c * positions ns) 1048576

pub few_more : (c n : ℕ) (ns : List ℕ) → 1 ≤ n → few_from c (n ∷ ns) ≡ few_from (c * n) ns
few_more c n ns h =
    ap₂ (λ x y. (x && list_all (nat_le 1) ns) && nat_le y 1048576) (le-leb 1 n h) (sym (mul_assoc c n (positions ns)))

pub too_many : (c : ℕ) (ns : List ℕ) → 1048576 < c → few_from c ns ≡ false
too_many c ns h =
    elim (list_all (nat_le 1) ns) as (λ b. list_all (nat_le 1) ns ≡ b → (b && nat_le (c * positions ns) 1048576) ≡ false) [
      | true ↦ λ e.
          let some : 1 ≤ positions ns = some_position ns e in
          let grown : c * 1 ≤ c * positions ns = mul-le-mul_left c some in
          lt-leb (c * positions ns) 1048576 (omega arith)
      | false ↦ λ e. refl
    ] refl

pub none_at : (c : ℕ) (ns : List ℕ) → few_from c (0 ∷ ns) ≡ false
none_at c ns = refl

-- one turn that goes on
pub goes_on : (c i : ℕ) (ns : List ℕ) → i < length ns → 1 ≤ c * get_or ns i 0 → few_from c (drop i ns) ≡ few_from (c * get_or ns i 0) (drop (i + 1) ns)
goes_on c i ns l h =
    at_drop_more (few_from c) ns i 0 l ∙ few_more c (get_or ns i 0) (drop (i + 1) ns) (some_factor c (get_or ns i 0) h)
  where
    some_factor : (c n : ℕ) → 1 ≤ c * n → 1 ≤ n
    some_factor c zero h = omega arith
    some_factor c (suc n) h = omega arith

-- one turn that ends it
pub ends_at : (c i : ℕ) (ns : List ℕ) → i < length ns → (c * get_or ns i 0 ≡ 0) ⊎ (1048576 < c * get_or ns i 0) → 1 ≤ c → few_from c (drop i ns) ≡ false
ends_at c i ns l h k =
    at_drop_more (few_from c) ns i 0 l ∙ either (get_or ns i 0) (drop (i + 1) ns) h
  where
    either : (n : ℕ) (rest : List ℕ) → (c * n ≡ 0) ⊎ (1048576 < c * n) → few_from c (n ∷ rest) ≡ false
    either zero rest h = refl
    either (suc n) rest (inl e) =
        let grown : c * 1 ≤ c * suc n = mul-le-mul_left c (let o : 1 ≤ suc n = omega arith in o) in
        absurd (omega arith)
    either (suc n) rest (inr u) = few_more c (suc n) rest (omega arith) ∙ too_many (c * suc n) rest u

pub value_more : (c i : ℕ) (ns : List ℕ) → i < length ns → c * positions (drop i ns) ≡ (c * get_or ns i 0) * positions (drop (i + 1) ns)
value_more c i ns l = at_drop_more (λ ms. c * positions ms) ns i 0 l ∙ sym (mul_assoc c (get_or ns i 0) (positions (drop (i + 1) ns)))

-- the answers, by the test
pub answer_none : (ns : List ℕ) → few_from 1 ns ≡ false → None ≡ cond (list_all (nat_le 1) ns && nat_le (positions ns) 1048576) (Some (positions ns)) None
answer_none ns e =
    let same : 1 * positions ns ≡ positions ns = omega arith in
    ap (λ b. cond b (Some (positions ns)) None) (sym e ∙ ap (λ n. list_all (nat_le 1) ns && nat_le n 1048576) same)

pub answer_some : (ns : List ℕ) (c : ℕ) → few_from 1 ns ≡ true → c ≡ positions ns → Some c ≡ cond (list_all (nat_le 1) ns && nat_le (positions ns) 1048576) (Some (positions ns)) None
answer_some ns c e v =
    let same : 1 * positions ns ≡ positions ns = omega arith in
    ap Some v ∙ ap (λ b. cond b (Some (positions ns)) None) (sym e ∙ ap (λ n. list_all (nat_le 1) ns && nat_le n 1048576) same)
