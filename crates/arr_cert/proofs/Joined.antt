-- A text that is made of parts, each behind a sign that no part has.
use Rattle.std.proofs.Common.{◌≡◌, ◌≢◌, ℕ, suc, ◌+◌, ◌<◌, ◌≤◌, List, [], ◌∷◌, ◌++◌, length, get_or, take, drop, Bool, true, cond, not, ◌&&◌, refl, sym, ap, ◌∙◌, arith, append_assoc}
use Rattle.std.specs.Prelude.{⊤}
use Rattle.std.specs.List.{flat_map, list_all, before_first, prefix_len}
use Rattle.std.proofs.lemmas.Bool.{and_parts, eq-eqb}
use Rattle.std.proofs.lemmas.List.{take-append-drop, append-nil, drop_all, drop-drop, length-drop}
use Rattle.std.proofs.lemmas.List.Folds.{length-prefix_len}
use Rattle.std.proofs.lemmas.List.Sums.{prefix_len-le-length}
use Rattle.std.proofs.Math.Seq.{drop-cons}
use Rattle.arr_cert.specs.Spelled.{is_sign}

-- ---- one part

abbrev pub is_free : ℕ → List ℕ → Bool
is_free sign xs = list_all (λ b. not (is_sign sign b)) xs

-- it is empty, or the sign comes first
abbrev pub Cuts : ℕ → List ℕ → Type 0
Cuts sign [] = ⊤
Cuts sign (y ∷ ys) = y ≡ sign

pub before_cut : (sign : ℕ) (xs ys : List ℕ) → is_free sign xs ≡ true → Cuts sign ys → before_first (is_sign sign) (xs ++ ys) ≡ xs
before_cut sign [] [] f c = refl
before_cut sign [] (y ∷ ys) f c = ap (λ b. take (cond (not b) (1 + prefix_len (λ x. not (is_sign sign x)) ys) 0) (y ∷ ys)) (eq-eqb y sign c)
before_cut sign (x ∷ xs) ys f c =
    let p = and_parts (not (is_sign sign x)) (is_free sign xs) f in
    let next : 1 + prefix_len (λ b. not (is_sign sign b)) (xs ++ ys) ≡ suc (prefix_len (λ b. not (is_sign sign b)) (xs ++ ys)) = omega arith in
    ap (λ b. take (cond b (1 + prefix_len (λ x. not (is_sign sign x)) (xs ++ ys)) 0) (x ∷ (xs ++ ys))) p.0
    ∙ (ap (λ k. take k (x ∷ (xs ++ ys))) next ∙ ap (λ t. x ∷ t) (before_cut sign xs ys p.1 c))

pub drop_front : (xs ys : List ℕ) → drop (length xs) (xs ++ ys) ≡ ys
drop_front [] ys = refl
drop_front (x ∷ xs) ys = drop_front xs ys

pub free_join : (sign : ℕ) (xs ys : List ℕ) → is_free sign xs ≡ true → is_free sign ys ≡ true → is_free sign (xs ++ ys) ≡ true
free_join sign [] ys p q = q
free_join sign (x ∷ xs) ys p q =
    let r = and_parts (not (is_sign sign x)) (is_free sign xs) p in
    ap (λ b. b && is_free sign (xs ++ ys)) r.0 ∙ free_join sign xs ys r.1 q

-- ---- parts one after another

abbrev pub joined : {X : Type 0} → ℕ → (X → List ℕ) → List X → List ℕ
joined sign spell xs = flat_map (λ x. sign ∷ spell x) xs

abbrev pub Each : {X : Type 0} → (X → Type 0) → List X → Type 0
Each P [] = ⊤
Each P (x ∷ xs) = P x × Each P xs

-- the text is these parts, and nothing else
pub record IsJoined {X : Type 0} (sign : ℕ) (spell : X → List ℕ) (P : X → Type 0) (text : List ℕ) (xs : List X) : Type 0 where
  pub same : text ≡ joined sign spell xs
  pub each : Each P xs

-- these parts were read, up to a place
pub record Listed {X : Type 0} (sign : ℕ) (spell : X → List ℕ) (P : X → Type 0) (text : List ℕ) (at : ℕ) (xs : List X) : Type 0 where
  pub front : text ≡ joined sign spell xs ++ drop at text
  pub each : Each P xs
  pub inside : at ≤ length text
  pub only : (ys : List X) → IsJoined sign spell P text ys → (zs : List X) × IsJoined sign spell P (drop at text) zs

joined_push : {X : Type 0} (sign : ℕ) (spell : X → List ℕ) (xs : List X) (x : X) → joined sign spell (xs ++ x ∷ []) ≡ joined sign spell xs ++ (sign ∷ spell x)
joined_push sign spell [] x = append-nil (sign ∷ spell x)
joined_push sign spell (y ∷ ys) x = ap (λ t. (sign ∷ spell y) ++ t) (joined_push sign spell ys x) ∙ sym (append_assoc (sign ∷ spell y) (joined sign spell ys) (sign ∷ spell x))

each_push : {X : Type 0} (P : X → Type 0) (xs : List X) (x : X) → Each P xs → P x → Each P (xs ++ x ∷ [])
each_push P [] x e p = (p, tt)
each_push P (y ∷ ys) x e p = (e.0, each_push P ys x e.1 p)

cuts_joined : {X : Type 0} (sign : ℕ) (spell : X → List ℕ) (xs : List X) → Cuts sign (joined sign spell xs)
cuts_joined sign spell [] = tt
cuts_joined sign spell (x ∷ xs) = refl

pub listed_none : {X : Type 0} (sign : ℕ) (spell : X → List ℕ) (P : X → Type 0) (text : List ℕ) → Listed sign spell P text 0 []
listed_none sign spell P text = record { front = refl; each = tt; inside = omega arith; only = λ ys j. (ys, j) }

-- how the rest of a text stands at a place
rest_at : (text : List ℕ) (at : ℕ) → at < length text → drop at text ≡ get_or text at 0 ∷ drop (at + 1) text
rest_at text at l = let next : suc at ≡ at + 1 = omega arith in drop-cons text at 0 l ∙ ap (λ k. get_or text at 0 ∷ drop k text) next

-- what the rest is, if it is parts: the sign, a part, and further parts
head_of : {X : Type 0} (sign : ℕ) (spell : X → List ℕ) (P : X → Type 0) (text : List ℕ) (at : ℕ) (ys : List X) → at < length text → ((x : X) → P x → is_free sign (spell x) ≡ true) → IsJoined sign spell P (drop at text) ys
    → (get_or text at 0 ≡ sign) × (y : X) × (zs : List X) × P y × (before_first (is_sign sign) (drop (at + 1) text) ≡ spell y) × (drop (at + 1) text ≡ spell y ++ joined sign spell zs) × Each P zs
head_of sign spell P text at [] l free j = absurd (cons_nil (sym (rest_at text at l) ∙ j.same))
  where
    cons_nil : {b : ℕ} {bs : List ℕ} → b ∷ bs ≡ [] → ⊥
    cons_nil e = absurd (cc)
head_of sign spell P text at (y ∷ ys) l free j =
    let e : get_or text at 0 ∷ drop (at + 1) text ≡ sign ∷ (spell y ++ joined sign spell ys) = sym (rest_at text at l) ∙ j.same in
    let tail : drop (at + 1) text ≡ spell y ++ joined sign spell ys = ap (drop 1) e in
    (ap (λ t. get_or t 0 0) e, y, ys, j.each.0, ap (before_first (is_sign sign)) tail ∙ before_cut sign (spell y) (joined sign spell ys) (free y j.each.0) (cuts_joined sign spell ys), tail, j.each.1)

-- another sign stands there
pub none_sign : {X : Type 0} (sign : ℕ) (spell : X → List ℕ) (P : X → Type 0) (text : List ℕ) (at : ℕ) (xs : List X) → ((x : X) → P x → is_free sign (spell x) ≡ true) → Listed sign spell P text at xs → at < length text
    → get_or text at 0 ≢ sign → (ys : List X) → IsJoined sign spell P text ys → ⊥
none_sign sign spell P text at xs free listed l n ys j =
    let zs = listed.only ys j in
    n (head_of sign spell P text at zs.0 l free zs.1).0

-- what stands behind the sign is no part
pub none_part : {X : Type 0} (sign : ℕ) (spell : X → List ℕ) (P : X → Type 0) (text : List ℕ) (at : ℕ) (xs : List X) → ((x : X) → P x → is_free sign (spell x) ≡ true) → Listed sign spell P text at xs → at < length text
    → ((x : X) → P x → before_first (is_sign sign) (drop (at + 1) text) ≡ spell x → ⊥) → (ys : List X) → IsJoined sign spell P text ys → ⊥
none_part sign spell P text at xs free listed l n ys j =
    let zs = listed.only ys j in
    let h = head_of sign spell P text at zs.0 l free zs.1 in
    n h.1 h.3 h.4

-- one more part
pub listed_more : {X : Type 0} (sign : ℕ) (spell : X → List ℕ) (P : X → Type 0) (text : List ℕ) (at to : ℕ) (xs : List X) (x : X) → ((x : X) → P x → is_free sign (spell x) ≡ true) → Listed sign spell P text at xs → at < length text
    → get_or text at 0 ≡ sign → before_first (is_sign sign) (drop (at + 1) text) ≡ spell x → to ≡ at + 1 + length (before_first (is_sign sign) (drop (at + 1) text)) → P x → Listed sign spell P text to (xs ++ x ∷ [])
listed_more {X} sign spell P text at to xs x free listed l is piece e p =
    let tail = drop (at + 1) text in
    let place : at + 1 + length (spell x) ≡ to = ap (λ t. at + 1 + length t) (sym piece) ∙ sym e in
    let size : prefix_len (λ b. not (is_sign sign b)) tail ≡ length (spell x) = sym (length-prefix_len (λ b. not (is_sign sign b)) tail) ∙ ap length piece in
    let rest : drop (length (spell x)) tail ≡ drop to text = drop-drop (length (spell x)) (at + 1) text ∙ ap (λ k. drop k text) place in
    let split : tail ≡ spell x ++ drop to text = sym (take-append-drop (prefix_len (λ b. not (is_sign sign b)) tail) tail) ∙ (ap (λ t. t ++ drop (prefix_len (λ b. not (is_sign sign b)) tail) tail) piece ∙ ap (λ t. spell x ++ t) (ap (λ k. drop k tail) size ∙ rest)) in
    record {
      front =
          listed.front ∙ (ap (λ t. joined sign spell xs ++ t) (rest_at text at l ∙ (ap (λ b. b ∷ tail) is ∙ ap (λ t. sign ∷ t) split)) ∙ (sym (append_assoc (joined sign spell xs) (sign ∷ spell x) (drop to text)) ∙ ap (λ t. t ++ drop to text) (sym (joined_push sign spell xs x))));
      each = each_push P xs x listed.each p;
      inside = omega (arith, place, l, size, prefix_len-le-length (λ b. not (is_sign sign b)) tail, length-drop (at + 1) text);
      only = λ ys j.
          let zs = listed.only ys j in
          let h = head_of sign spell P text at zs.0 l free zs.1 in
          (h.2, record { same = sym rest ∙ (ap (λ t. drop (length t) tail) (sym piece ∙ h.4) ∙ (ap (drop (length (spell h.1))) h.5 ∙ drop_front (spell h.1) (joined sign spell h.2))); each = h.6 });
    }

pub listed_all : {X : Type 0} (sign : ℕ) (spell : X → List ℕ) (P : X → Type 0) (text : List ℕ) (at : ℕ) (xs : List X) → Listed sign spell P text at xs → length text ≤ at → IsJoined sign spell P text xs
listed_all sign spell P text at xs listed l = record { same = listed.front ∙ (ap (λ t. joined sign spell xs ++ t) (drop_all at text l) ∙ append-nil (joined sign spell xs)); each = listed.each }
