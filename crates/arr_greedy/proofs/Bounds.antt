-- Which rows of pairs need no look, by their bounds.
use Rattle.std.proofs.Common.{◌≡◌, ◌⊎◌, ℕ, zero, suc, ◌+◌, ◌-◌, ◌≤◌, ◌<◌, List, [], ◌∷◌, ◌++◌, Bool, true, false, cond, not, length, drop, get_or, set, inl, inr, Option, Some, None, refl, ap, sym, subst, ◌∙◌, arith}
use Rattle.std.specs.Prelude.{nat_lt}
use Rattle.std.specs.List.{All, filter}
use Rattle.std.specs.Option.{option_map}
use Rattle.std.proofs.lemmas.Bool.{false≢true, cases_eq, le-ltb, ltb-false, ltb-true}
use Rattle.std.proofs.lemmas.List.{at_drop_more, get_or-drop, get_or-set_other, get_or-set_same, length-drop}
use Rattle.arr_ops.specs.Formed.{all_pairs}
use Rattle.arr_ops.specs.Order.{In}
use Rattle.arr_ops.proofs.Members.{all_in, filter_in, in_append, in_filter}
use Rattle.arr_ops.proofs.Pairs.{Pairs}
use Rattle.arr_ops.proofs.Tests.{pairs_of}
use Rattle.arr_heur.specs.Planners.{heaviest, pairs}
use Rattle.arr_heur.proofs.Merge.{in_map}
use Rattle.arr_heur.proofs.Merged.{heaviest_in}
use Rattle.arr_greedy.specs.Fast.{best_after, better, covers, may_beat, row_pairs}
use Rattle.arr_greedy.proofs.Scan.{better_none}

-- ---- pairs of a row

pub front_in : {X : Type 0} (xs ys : List X) (x : X) → In x xs → In x (xs ++ ys)
front_in [] ys x i = absurd i
front_in (z ∷ zs) ys x (inl e) = inl e
front_in (z ∷ zs) ys x (inr i) = inr (front_in zs ys x i)

pub back_in : {X : Type 0} (xs ys : List X) (x : X) → In x ys → In x (xs ++ ys)
back_in [] ys x i = i
back_in (z ∷ zs) ys x i = inr (back_in zs ys x i)

drop_next : (k : ℕ) (ks : List ℕ) (place : ℕ) → drop (suc place + 1) (k ∷ ks) ≡ drop (place + 1) ks
drop_next k ks place = ap (λ n. drop n (k ∷ ks)) (let e : suc place + 1 ≡ suc (place + 1) = omega arith in e)

pub row_in : (keys : List ℕ) (place : ℕ) → place < length keys → (p : ℕ × ℕ) → In p (row_pairs (get_or keys place 0) (drop (place + 1) keys)) → In p (pairs keys)
row_in [] place l p i = absurd (omega arith)
row_in (k ∷ ks) zero l p i = front_in (row_pairs k ks) (pairs ks) p i
row_in (k ∷ ks) (suc place) l p i = back_in (row_pairs k ks) (pairs ks) p (row_in ks place (omega arith) p (subst (λ rest. In p (row_pairs (get_or ks place 0) rest)) (drop_next k ks place) i))

-- a pair of a row: its first, and where its second is from
pub of_row : (x : ℕ) (ys : List ℕ) (p : ℕ × ℕ) → In p (row_pairs x ys) → (p.0 ≡ x) × In p.1 ys
of_row x ys p i =
    let r = in_map (λ y. pair y) ys p i in
    (ap (λ (q : ℕ × ℕ). q.0) r.2, subst (λ y. In y ys) (sym (ap (λ (q : ℕ × ℕ). q.1) r.2)) r.1)
  where
    pair : ℕ → ℕ × ℕ
    pair y = (x, y)

pub both_in : (keys : List ℕ) (p : ℕ × ℕ) → In p (pairs keys) → In p.0 keys × In p.1 keys
both_in [] p i = absurd i
both_in (k ∷ ks) p i =
    elim (in_append (row_pairs k ks) (pairs ks) p i) as (λ _. In p.0 (k ∷ ks) × In p.1 (k ∷ ks)) [
      | inl j ↦ let r = of_row k ks p j in (inl r.0, inr r.1)
      | inr j ↦ let r = both_in ks p j in (inr r.0, inr r.1)
    ]

abbrev pub Rising : List ℕ → Type 0
Rising keys = Pairs (λ a b. nat_lt a b ≡ true) keys

pub at_in : (keys : List ℕ) (place : ℕ) → place < length keys → In (get_or keys place 0) keys
at_in [] place l = absurd (omega arith)
at_in (k ∷ ks) zero l = inl refl
at_in (k ∷ ks) (suc place) l = inr (at_in ks place (omega arith))

not_self : (k : ℕ) (ks : List ℕ) → Rising (k ∷ ks) → In k ks → ⊥
not_self k ks h i = let l : k < k = ltb-true k k (all_in (λ b. nat_lt k b ≡ true) ks h.0 k i) in absurd (omega arith)

-- a pair whose first stands at a place is one of that row
pub in_row : (keys : List ℕ) → Rising keys → (place : ℕ) → place < length keys → (p : ℕ × ℕ) → In p (pairs keys) → p.0 ≡ get_or keys place 0 → In p (row_pairs (get_or keys place 0) (drop (place + 1) keys))
in_row [] h place l p i e = absurd i
in_row (k ∷ ks) h zero l p i e =
    elim (in_append (row_pairs k ks) (pairs ks) p i) as (λ _. In p (row_pairs k ks)) [
      | inl j ↦ j
      | inr j ↦ absurd (not_self k ks h (subst (λ x. In x ks) e (both_in ks p j).0))
    ]
in_row (k ∷ ks) h (suc place) l p i e =
    subst (λ rest. In p (row_pairs (get_or ks place 0) rest)) (sym (drop_next k ks place)) (elim (in_append (row_pairs k ks) (pairs ks) p i) as (λ _. In p (row_pairs (get_or ks place 0) (drop (place + 1) ks))) [
      | inl j ↦ absurd (not_self k ks h (subst (λ x. In x ks) (sym e ∙ (of_row k ks p j).0) (at_in ks place (omega arith))))
      | inr j ↦ in_row ks h.1 place (omega arith) p j e
    ])

pub pair_rises : (keys : List ℕ) → Rising keys → (p : ℕ × ℕ) → In p (pairs keys) → p.0 < p.1
pair_rises [] h p i = absurd i
pair_rises (k ∷ ks) h p i =
    elim (in_append (row_pairs k ks) (pairs ks) p i) as (λ _. p.0 < p.1) [
      | inl j ↦
          let r = of_row k ks p j in
          let a : p.0 ≡ k = r.0 in
          let l : k < p.1 = ltb-true k p.1 (all_in (λ b. nat_lt k b ≡ true) ks h.0 p.1 r.1) in
          omega arith
      | inr j ↦ pair_rises ks h.1 p j
    ]

pub in_index : (xs : List ℕ) (x : ℕ) → In x xs → (i : ℕ) × (i < length xs) × (get_or xs i 0 ≡ x)
in_index [] x i = absurd i
in_index (y ∷ ys) x (inl e) = (0, omega arith, sym e)
in_index (y ∷ ys) x (inr j) = let r = in_index ys x j in let l : r.0 < length ys = r.1 in (suc r.0, omega arith, r.2)

pub key_is : (P : ℕ → Type 0) (keys : List ℕ) → All P keys → (x : ℕ) → In x keys → P x
key_is P keys h x i = let r = in_index keys x i in subst P r.2 (h r.0 0 r.1)

pub in_below : (keys : List ℕ) (w : ℕ) → All (λ k. k < w) keys → (x : ℕ) → In x keys → x < w
in_below keys w h x i = key_is (λ k. k < w) keys h x i

pub pairs_next : (keys : List ℕ) (place : ℕ) → place < length keys → (p : ℕ × ℕ) → In p (pairs (drop place keys))
    → In p (row_pairs (get_or keys place 0) (drop (place + 1) keys)) ⊎ In p (pairs (drop (place + 1) keys))
pairs_next keys place l p i =
    in_append (row_pairs (get_or keys place 0) (drop (place + 1) keys)) (pairs (drop (place + 1) keys)) p (subst (λ ks. In p (pairs ks)) (at_drop_more (λ ks. ks) keys place 0 l) i)

-- where the second of a row's pair stands
pub record RowPlace (keys : List ℕ) (place : ℕ) (p : ℕ × ℕ) : Type 0 where
  pub at : ℕ
  pub behind : place + 1 ≤ at
  pub inside : at < length keys
  pub first : p.0 ≡ get_or keys place 0
  pub second : p.1 ≡ get_or keys at 0

pub row_place : (keys : List ℕ) (place : ℕ) (p : ℕ × ℕ) → In p (row_pairs (get_or keys place 0) (drop (place + 1) keys)) → RowPlace keys place p
row_place keys place p i =
    let r = of_row (get_or keys place 0) (drop (place + 1) keys) p i in
    let n = in_index (drop (place + 1) keys) p.1 r.1 in
    let l : n.0 < length (drop (place + 1) keys) = n.1 in
    let long : length (drop (place + 1) keys) ≡ length keys - (place + 1) = length-drop (place + 1) keys in
    record {
      at = place + 1 + n.0;
      behind = omega arith;
      inside = omega arith;
      first = r.0;
      second = sym n.2 ∙ get_or-drop (place + 1) keys n.0 0;
    }

-- ---- the heaviest of a row is its bound

covers_more : (s m n : ℕ) → m ≤ n → covers (Some m) s ≡ true → covers (Some n) s ≡ true
covers_more s m n l e = at (nat_lt m s) refl e
  where
    at : (t : Bool) → nat_lt m s ≡ t → not t ≡ true → not (nat_lt n s) ≡ true
    at true f g = absurd (false≢true g)
    at false f g = let k : s ≤ m = ltb-false m s f in ap not (le-ltb n s (omega arith))

covers_self : (s : ℕ) → covers (Some s) s ≡ true
covers_self s = ap not (le-ltb s s (omega arith))

pub heaviest_covers : {X : Type 0} (w : X → ℕ) (xs : List X) (x : X) → In x xs → covers (option_map w (heaviest w xs)) (w x) ≡ true
heaviest_covers w [] x i = absurd i
heaviest_covers {X} w (y ∷ ys) x i =
    elim (heaviest w ys) as (λ o. ((z : X) → In z ys → covers (option_map w o) (w z) ≡ true) → covers (option_map w (elim o as (λ _. Option X) [ None ↦ Some y | Some z ↦ cond (nat_lt (w y) (w z)) (Some z) (Some y) ])) (w x) ≡ true) [
      | None ↦ λ h. elim i as (λ _. covers (Some (w y)) (w x) ≡ true) [ inl e ↦ subst (λ z. covers (Some (w y)) (w z) ≡ true) (sym e) (covers_self (w y)) | inr j ↦ absurd (false≢true (h x j)) ]
      | Some z ↦ λ h. elim (nat_lt (w y) (w z)) as (λ t. nat_lt (w y) (w z) ≡ t → covers (option_map w (cond t (Some z) (Some y))) (w x) ≡ true) [
        | true ↦ λ f.
            let l : w y < w z = ltb-true (w y) (w z) f in
            elim i as (λ _. covers (Some (w z)) (w x) ≡ true) [ inl e ↦ subst (λ v. covers (Some (w z)) (w v) ≡ true) (sym e) (covers_more (w y) (w y) (w z) (omega arith) (covers_self (w y))) | inr j ↦ h x j ]
        | false ↦ λ f.
            let l : w z ≤ w y = ltb-false (w y) (w z) f in
            elim i as (λ _. covers (Some (w y)) (w x) ≡ true) [ inl e ↦ subst (λ v. covers (Some (w y)) (w v) ≡ true) (sym e) (covers_self (w y)) | inr j ↦ covers_more (w x) (w z) (w y) l (h x j) ]
      ] refl
    ] (λ z j. heaviest_covers w ys z j)

-- ---- a row that can't be better

beaten : (saved : ℕ → ℕ → ℕ) (found : Option (ℕ × ℕ)) (bound : Option ℕ) (p : ℕ × ℕ) → may_beat saved found bound ≡ false → covers bound (saved p.0 p.1) ≡ true → better (λ q. saved q.0 q.1) found (Some p) ≡ found
beaten saved found None p e f = absurd (false≢true f)
beaten saved None (Some m) p e f = absurd (false≢true (sym e))
beaten saved (Some q) (Some m) p e f =
    let a : m ≤ saved q.0 q.1 = ltb-false (saved q.0 q.1) m e in
    let b : saved p.0 p.1 ≤ m = ltb-false m (saved p.0 p.1) (not_true (nat_lt m (saved p.0 p.1)) f) in
    ap (λ t. cond t (Some p) (Some q)) (le-ltb (saved q.0 q.1) (saved p.0 p.1) (omega arith))
  where
    not_true : (t : Bool) → not t ≡ true → t ≡ false
    not_true true g = absurd (false≢true g)
    not_true false g = refl

pub row_beaten : (saved : ℕ → ℕ → ℕ) (test : ℕ × ℕ → Bool) (found : Option (ℕ × ℕ)) (bounds : List (Option ℕ)) (keys : List ℕ) (place : ℕ) → place < length keys
    → may_beat saved found (get_or bounds (get_or keys place 0) None) ≡ false
    → ((p : ℕ × ℕ) → In p (pairs keys) → test p ≡ true → covers (get_or bounds p.0 None) (saved p.0 p.1) ≡ true)
    → found ≡ best_after (λ p. saved p.0 p.1) test found (row_pairs (get_or keys place 0) (drop (place + 1) keys))
row_beaten saved test found bounds keys place l e h =
    sym (at (heaviest (λ p. saved p.0 p.1) (filter test row)) refl)
  where
    left : ℕ
    left = get_or keys place 0

    row : List (ℕ × ℕ)
    row = row_pairs left (drop (place + 1) keys)

    at : (o : Option (ℕ × ℕ)) → heaviest (λ (p : ℕ × ℕ). saved p.0 p.1) (filter test row) ≡ o → better (λ p. saved p.0 p.1) found o ≡ found
    at None f = better_none (λ p. saved p.0 p.1) found
    at (Some p) f =
        let r = in_filter test row p (heaviest_in (λ (p : ℕ × ℕ). saved p.0 p.1) (filter test row) p f) in
        let first : p.0 ≡ left = (of_row left (drop (place + 1) keys) p r.0).0 in
        beaten saved found (get_or bounds left None) p e (subst (λ x. covers (get_or bounds x None) (saved p.0 p.1) ≡ true) first (h p (row_in keys place l p r.0) r.1))

-- ---- a row with a new bound

pub row_bounded : (saved : ℕ → ℕ → ℕ) (test : ℕ × ℕ → Bool) (bounds : List (Option ℕ)) (keys : List ℕ) (place : ℕ) (best : Option (ℕ × ℕ)) → all_pairs nat_lt keys ≡ true → place < length keys
    → get_or keys place 0 < length bounds
    → best ≡ best_after (λ p. saved p.0 p.1) test None (row_pairs (get_or keys place 0) (drop (place + 1) keys))
    → ((p : ℕ × ℕ) → In p (pairs keys) → test p ≡ true → covers (get_or bounds p.0 None) (saved p.0 p.1) ≡ true)
    → (p : ℕ × ℕ) → In p (pairs keys) → test p ≡ true → covers (get_or (set bounds (get_or keys place 0) (option_map (λ (p : ℕ × ℕ). saved p.0 p.1) best)) p.0 None) (saved p.0 p.1) ≡ true
row_bounded saved test bounds keys place best rises l inside e h p i t =
    let left : ℕ = get_or keys place 0 in
    let bound : Option ℕ = option_map (λ (p : ℕ × ℕ). saved p.0 p.1) best in
    elim (cases_eq p.0 left) as (λ _. covers (get_or (set bounds left bound) p.0 None) (saved p.0 p.1) ≡ true) [
      | inl q ↦
          let row : List (ℕ × ℕ) = row_pairs left (drop (place + 1) keys) in
          ap (λ x. covers (get_or (set bounds left bound) x None) (saved p.0 p.1)) q
          ∙ ap (λ o. covers o (saved p.0 p.1)) (get_or-set_same bounds left bound None inside)
          ∙ ap (λ o. covers (option_map (λ (p : ℕ × ℕ). saved p.0 p.1) o) (saved p.0 p.1)) e
          ∙ heaviest_covers (λ (p : ℕ × ℕ). saved p.0 p.1) (filter test row) p (filter_in test row p (in_row keys (pairs_of nat_lt keys rises) place l p i q) t)
      | inr q ↦ ap (λ o. covers o (saved p.0 p.1)) (get_or-set_other bounds left p.0 bound None q) ∙ h p i t
    ]
