-- Flags in rows, and one that is set.
use Rattle.std.proofs.Common.{◌≡◌, ◌≢◌, ℕ, ◌+◌, ◌*◌, ◌<◌, List, Bool, true, false, cond, not, ◌||◌, ◌&&◌, refl, ap, ap₂, sym, ◌∙◌, arith, length, get_or, set, inl, inr}
use Rattle.std.proofs.lemmas.Bool.{eq-eqb, ne_eqb, cases_eq, cases_lt, lt-ltb, le-ltb}
use Rattle.std.proofs.lemmas.List.{get_or-set_same, get_or-set_other}
use Rattle.std.proofs.lemmas.Nat.{mul-add-lt, same_from_place}
use Rattle.std.specs.Prelude.{◌==◌, nat_lt}
use Rattle.arr_greedy.specs.Fast.{flag, amount}

pub flag_set : (rows : List Bool) (w row column : ℕ) (v : Bool) → length rows ≡ w * w → row < w → column < w → (x y : ℕ) → x < w → y < w
    → flag (set rows (row * w + column) v) w x y ≡ cond (x == row && y == column) v (flag rows w x y)
flag_set rows w row column v size r c x y l m =
    elim (cases_eq x row) as (λ _. flag (set rows (row * w + column) v) w x y ≡ cond (x == row && y == column) v (flag rows w x y)) [
      | inl e ↦ elim (cases_eq y column) as (λ _. flag (set rows (row * w + column) v) w x y ≡ cond (x == row && y == column) v (flag rows w x y)) [
        | inl f ↦
            ap₂ (λ i j. get_or (set rows (row * w + column) v) (i * w + j) false) e f
            ∙ get_or-set_same rows (row * w + column) v false (let k : row * w + column < w * w = mul-add-lt row w column w r c in omega arith)
            ∙ sym (ap₂ (λ s t. cond (s && t) v (flag rows w x y)) (eq-eqb x row e) (eq-eqb y column f))
        | inr f ↦
            get_or-set_other rows (row * w + column) (x * w + y) v false (λ k. f (same_from_place x y row column w m c k).1)
            ∙ sym (ap₂ (λ s t. cond (s && t) v (flag rows w x y)) (eq-eqb x row e) (ne_eqb y column f))
      ]
      | inr e ↦
          get_or-set_other rows (row * w + column) (x * w + y) v false (λ k. e (same_from_place x y row column w m c k).0)
          ∙ sym (ap (λ s. cond (s && (y == column)) v (flag rows w x y)) (ne_eqb x row e))
    ]

pub amount_set : (rows : List ℕ) (w row column : ℕ) (v : ℕ) → length rows ≡ w * w → row < w → column < w → (x y : ℕ) → x < w → y < w
    → amount (set rows (row * w + column) v) w x y ≡ cond (x == row && y == column) v (amount rows w x y)
amount_set rows w row column v size r c x y l m =
    elim (cases_eq x row) as (λ _. amount (set rows (row * w + column) v) w x y ≡ cond (x == row && y == column) v (amount rows w x y)) [
      | inl e ↦ elim (cases_eq y column) as (λ _. amount (set rows (row * w + column) v) w x y ≡ cond (x == row && y == column) v (amount rows w x y)) [
        | inl f ↦
            ap₂ (λ i j. get_or (set rows (row * w + column) v) (i * w + j) 0) e f
            ∙ get_or-set_same rows (row * w + column) v 0 (let k : row * w + column < w * w = mul-add-lt row w column w r c in omega arith)
            ∙ sym (ap₂ (λ s t. cond (s && t) v (amount rows w x y)) (eq-eqb x row e) (eq-eqb y column f))
        | inr f ↦
            get_or-set_other rows (row * w + column) (x * w + y) v 0 (λ k. f (same_from_place x y row column w m c k).1)
            ∙ sym (ap₂ (λ s t. cond (s && t) v (amount rows w x y)) (eq-eqb x row e) (ne_eqb y column f))
      ]
      | inr e ↦
          get_or-set_other rows (row * w + column) (x * w + y) v 0 (λ k. e (same_from_place x y row column w m c k).0)
          ∙ sym (ap (λ s. cond (s && (y == column)) v (amount rows w x y)) (ne_eqb x row e))
    ]

-- ---- loops that set one flag a turn, over what the rows were, are, and are next

pub less_more : (x i : ℕ) → x ≢ i → nat_lt x (i + 1) ≡ nat_lt x i
less_more x i h =
    elim (cases_lt x i) as (λ _. nat_lt x (i + 1) ≡ nat_lt x i) [
      | inl l ↦ lt-ltb x (i + 1) (omega arith) ∙ sym (lt-ltb x i l)
      | inr l ↦ le-ltb x (i + 1) (omega arith) ∙ sym (le-ltb x i l)
    ]

pub less_self : (i : ℕ) → nat_lt i i ≡ false
less_self i = le-ltb i i (omega arith)

pub less_next : (i : ℕ) → nat_lt i (i + 1) ≡ true
less_next i = lt-ltb i (i + 1) (omega arith)

and_not : (b : Bool) → (b && false) ≡ false
and_not true = refl
and_not false = refl

pub column_step : (o l n : ℕ → ℕ → Bool) (w left right i : ℕ) (v : Bool) → i < w → left < w → right < w
    → ((x y : ℕ) → x < w → y < w → l x y ≡ cond ((y == left && not (x == left)) && nat_lt x i) (o x left && o x right) (o x y))
    → v ≡ (l i left && (i == left || l i right))
    → ((x y : ℕ) → x < w → y < w → n x y ≡ cond (x == i && y == left) v (l x y))
    → (x y : ℕ) → x < w → y < w → n x y ≡ cond ((y == left && not (x == left)) && nat_lt x (i + 1)) (o x left && o x right) (o x y)
column_step o l n w left right i v im lm rm inv e put x y xm ym =
    elim (cases_eq x i) as (λ _. n x y ≡ cond ((y == left && not (x == left)) && nat_lt x (i + 1)) (o x left && o x right) (o x y)) [
      | inl f ↦ elim (cases_eq y left) as (λ _. n x y ≡ cond ((y == left && not (x == left)) && nat_lt x (i + 1)) (o x left && o x right) (o x y)) [
        | inl g ↦
            put x y xm ym ∙ ap₂ (λ s t. cond (s && t) v (l x y)) (eq-eqb x i f) (eq-eqb y left g) ∙ e
            ∙ ap₂ (λ p q. p && (i == left || q)) (same left lm) (same right rm)
            ∙ whole (i == left) (o i left) (o i right)
            ∙ sym (ap₂ (λ a b. cond ((b == left && not (a == left)) && nat_lt a (i + 1)) (o a left && o a right) (o a b)) f g
            ∙ ap₂ (λ s t. cond ((s && not (i == left)) && t) (o i left && o i right) (o i left)) (eq-eqb left left refl) (less_next i))
        | inr g ↦
            put x y xm ym ∙ ap₂ (λ s t. cond (s && t) v (l x y)) (eq-eqb x i f) (ne_eqb y left g)
            ∙ inv x y xm ym
            ∙ ap (λ t. cond ((t && not (x == left)) && nat_lt x i) (o x left && o x right) (o x y)) (ne_eqb y left g)
            ∙ sym (ap (λ t. cond ((t && not (x == left)) && nat_lt x (i + 1)) (o x left && o x right) (o x y)) (ne_eqb y left g))
      ]
      | inr f ↦
          put x y xm ym ∙ ap (λ s. cond (s && (y == left)) v (l x y)) (ne_eqb x i f) ∙ inv x y xm ym
          ∙ ap (λ t. cond ((y == left && not (x == left)) && t) (o x left && o x right) (o x y)) (sym (less_more x i f))
    ]
  where
    same : (k : ℕ) → k < w → l i k ≡ o i k
    same k m = inv i k im m ∙ ap (λ t. cond t (o i left && o i right) (o i k)) (ap (λ t. (k == left && not (i == left)) && t) (less_self i) ∙ and_not (k == left && not (i == left)))

    whole : (t p q : Bool) → (p && (t || q)) ≡ cond ((true && not t) && true) (p && q) p
    whole true true q = refl
    whole true false q = refl
    whole false p q = refl
