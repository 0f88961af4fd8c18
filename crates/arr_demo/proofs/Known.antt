-- What is known while a script of the demo is evaluated: names, and few small bases.
use Rattle.std.proofs.Common.{◌≡◌, ℕ, suc, ◌+◌, ◌*◌, ◌≤◌, List, [], ◌∷◌, ◌++◌, length, refl, sym, ap, arith, Bool, true, false, cond, ◌||◌, nat_lt, nat_le, ◌∙◌, None, length-append}
use Rattle.std.specs.Prelude.{Ok}
use Rattle.std.specs.List.{list_all, count_by}
use Rattle.std.specs.Str.{bytes_eq}
use Rattle.std.proofs.lemmas.Bool.{and_from, and_parts, le-leb, leb-true, le-ltb}
use Rattle.std.proofs.lemmas.Slice.Eq.{bytes_eq-Decides}
use Rattle.arr_view.specs.Views.{positions, whole_view}
use Rattle.arr_tree.specs.declared.refusal.Place.{Place}
use Rattle.arr_elab.proofs.Named.{count_more, one_most}
use Rattle.arr_elab.specs.State.{State, Names, stands_for, with_name, is_named, live, live_from, fresh, most_live, is_bound}

-- ---- names

same_name : (x : List ℕ) → bytes_eq x x ≡ true
same_name x = (bytes_eq-Decides x x).1 refl

-- the name now stands for the value
pub with_same : (names : Names) (x : List ℕ) (value : _) → stands_for (with_name names x value) x ≡ value
with_same [] x value = ap (λ b. cond b value None) (same_name x)
with_same (e ∷ names) x value = go (with_same names x value) (bytes_eq e.0 x) refl
  where
    go : stands_for (with_name names x value) x ≡ value → (b : Bool) → bytes_eq e.0 x ≡ b
        → stands_for (cond b ((x, value) ∷ names) (e ∷ with_name names x value)) x ≡ value
    go others true h = ap (λ b. cond b value (stands_for names x)) (same_name x)
    go others false h = ap (λ b. cond b e.1 (stands_for (with_name names x value) x)) h ∙ others

-- no other name does
pub with_other : (names : Names) (x y : List ℕ) (value : _) → bytes_eq x y ≡ false → stands_for (with_name names x value) y ≡ stands_for names y
with_other [] x y value d = ap (λ b. cond b value None) d
with_other (e ∷ names) x y value d = go (with_other names x y value d) (bytes_eq e.0 x) refl
  where
    go : stands_for (with_name names x value) y ≡ stands_for names y → (b : Bool) → bytes_eq e.0 x ≡ b → stands_for (cond b ((x, value) ∷ names) (e ∷ with_name names x value)) y ≡ stands_for (e ∷ names) y
    go others true h =
        let same : e.0 ≡ x = (bytes_eq-Decides e.0 x).0 h in
        let apart : bytes_eq e.0 y ≡ false = ap (λ z. bytes_eq z y) same ∙ d in
        ap (λ b. cond b value (stands_for names y)) d ∙ sym (ap (λ b. cond b e.1 (stands_for names y)) apart)
    go others false h = ap (λ (o : _). cond (bytes_eq e.0 y) e.1 o) others

pub few_with : (names : Names) (x : List ℕ) (value : _) → length (with_name names x value) ≤ suc (length names)
few_with [] x value = omega arith
few_with (e ∷ names) x value = go (few_with names x value) (bytes_eq e.0 x)
  where
    go : length (with_name names x value) ≤ suc (length names) → (b : Bool) → length (cond b ((x, value) ∷ names) (e ∷ with_name names x value)) ≤ suc (suc (length names))
    go others true = omega arith
    go others false = omega (arith, others)

pub few_bound : (names : Names) → count_by is_bound names ≤ length names
few_bound [] = omega arith
few_bound (e ∷ names) = omega (arith, count_more e names, one_most e.1, few_bound names)

-- ---- bases

-- there are at most so many names and bases, and no base has more than 4,096 elements
pub record Small (k : ℕ) (names : Names) (bases : List ℕ) : Type 0 where
  pub few : length bases ≤ k
  pub named : length names ≤ k
  pub each : list_all (λ n. nat_le n 4096) bases ≡ true

pub smaller : (k n : ℕ) (names : Names) (bases : List ℕ) → k ≤ n → Small k names bases → Small n names bases
smaller k n names bases h s = record { few = omega (arith, s.few); named = omega (arith, s.named); each = s.each }

-- one base more
pub one_base : (k n : ℕ) (names : Names) (bases : List ℕ) → n ≤ 4096 → Small k names bases → Small (suc k) names (bases ++ n ∷ [])
one_base k n names bases h s = record {
  few = omega (arith, length-append bases (n ∷ []), s.few);
  named = omega (arith, s.named);
  each = all_more bases s.each;
}
  where
    all_more : (ns : List ℕ) → list_all (λ m. nat_le m 4096) ns ≡ true → list_all (λ m. nat_le m 4096) (ns ++ n ∷ []) ≡ true
    all_more [] e = and_from (nat_le n 4096) true (le-leb n 4096 h) refl
    all_more (m ∷ ns) e = let q = and_parts (nat_le m 4096) _ e in and_from (nat_le m 4096) _ q.0 (all_more ns q.1)

pub one_name : (k : ℕ) (names : Names) (bases : List ℕ) (x : List ℕ) (value : _) → Small k names bases → Small (suc k) (with_name names x value) bases
one_name k names bases x value s = record { few = omega (arith, s.few); named = omega (arith, s.named, few_with names x value); each = s.each }

live_small : (names : Names) (first b : ℕ) (ns : List ℕ) → list_all (λ n. nat_le n 4096) ns ≡ true → live_from names first b ns ≤ 4096 * length ns
live_small names first b [] e = omega arith
live_small names first b (n ∷ ns) e =
    let q = and_parts (nat_le n 4096) _ e in
    let low = leb-true n 4096 q.0 in
    omega (arith, either (nat_le first b || is_named names b) low, live_small names first (suc b) ns q.1)
  where
    either : (t : Bool) → n ≤ 4096 → cond t n 0 ≤ 4096
    either true h = h
    either false h = omega arith

-- a fresh base is not refused
pub fresh_is : (at : Place) (lengths : List ℕ) (s : State) (k : ℕ) → Small k s.names s.bases → k ≤ 1000 → positions lengths ≤ 4096
    → fresh at lengths s ≡ Ok (whole_view (length s.bases) lengths, record s { bases = s.bases ++ positions lengths ∷ [] })
unfolding fresh
fresh_is at lengths s k small few size =
    let l = live_small s.names s.first 0 s.bases small.each in
    let test : nat_lt most_live (live s + positions lengths) ≡ false = le-ltb most_live (live s + positions lengths) (omega (arith, l, small.few)) in
    rw test refl
