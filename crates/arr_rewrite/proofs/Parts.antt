-- Lists taken apart and put together, and tests on them.
use Rattle.std.proofs.Common.{◌≡◌, ℕ, List, [], ◌∷◌, ◌++◌, Bool, true, false, not, ◌||◌, refl, ap₂, sym, ◌∙◌, map, subst, Some}
use Rattle.std.proofs.lemmas.Bool.{false≢true, eqb-true, eq-eqb}
use Rattle.std.specs.Prelude.{◌==◌, nat_eq}
use Rattle.std.specs.List.{AllByRecursion}
use Rattle.arr_view.specs.Views.{has}
use Rattle.arr_ops.proofs.Pairs.{Pairs}
use Rattle.arr_ops.proofs.Spots.{all_two, all_right}
use Rattle.arr_ops.proofs.Writes.{or_left, or_right}
use Rattle.arr_ops.specs.Ops.{inputs, view_of}
use Rattle.arr_ops.specs.declared.op.Op.{Op}
use Rattle.arr_ops.specs.declared.op.Operand.TheVariants.{Array}
use Rattle.arr_view.specs.Strided.{Strided}

-- v is one of these
abbrev pub Among : {X : Type 0} → List X → X → Type 1
Among {X} xs v = (P : X → Type 0) → AllByRecursion P xs → P v

pub all_among : {X : Type 0} (P : X → Type 0) (xs : List X) → ((v : X) → Among xs v → P v) → AllByRecursion P xs
all_among P [] h = tt
all_among P (x ∷ xs) h = (h x (λ Q a. a.0), all_among P xs (λ v k. h v (λ Q a. k Q a.1)))

pub all_join : {X : Type 0} (P : X → Type 0) (xs ys : List X) → AllByRecursion P xs → AllByRecursion P ys → AllByRecursion P (xs ++ ys)
all_join P [] ys a b = b
all_join P (x ∷ xs) ys a b = (a.0, all_join P xs ys a.1 b)

pub map_all : {X Y : Type 0} (P : Y → Type 0) (f : X → Y) (xs : List X) → AllByRecursion (λ x. P (f x)) xs → AllByRecursion P (map f xs)
map_all P f [] h = tt
map_all P f (x ∷ xs) h = (h.0, map_all P f xs h.1)

pub all_true : {X : Type 0} (P : X → Type 0) → ((x : X) → P x) → (xs : List X) → AllByRecursion P xs
all_true P h [] = tt
all_true P h (x ∷ xs) = (h x, all_true P h xs)

-- rows turned into columns
pub turned : {X Y : Type 0} (R : X → Y → Type 0) (xs : List X) (ys : List Y) → AllByRecursion (λ x. AllByRecursion (R x) ys) xs → AllByRecursion (λ y. AllByRecursion (λ x. R x y) xs) ys
turned R [] ys h = all_true (λ y. AllByRecursion (λ x. R x y) []) (λ y. tt) ys
turned R (x ∷ xs) ys h = all_two (R x) (λ y. AllByRecursion (λ x. R x y) xs) (λ y. AllByRecursion (λ x. R x y) (x ∷ xs)) (λ y a b. (a, b)) ys h.0 (turned R xs ys h.1)

pub all_replaced : {X : Type 0} (P : X → Type 0) (front back : List X) (x y : X) → (P x → P y) → AllByRecursion P (front ++ x ∷ back) → AllByRecursion P (front ++ y ∷ back)
all_replaced P [] back x y g h = (g h.0, h.1)
all_replaced P (f ∷ front) back x y g h = (h.0, all_replaced P front back x y g h.1)

pub pairs_replaced : {X : Type 0} (R : X → X → Type 0) (front back : List X) (x y : X) → AllByRecursion (λ f. R f x → R f y) front → AllByRecursion (λ g. R x g → R y g) back
    → Pairs R (front ++ x ∷ back) → Pairs R (front ++ y ∷ back)
pairs_replaced R [] back x y a b h = (all_two (λ g. R x g → R y g) (R x) (R y) (λ g k r. k r) back b h.0, h.1)
pairs_replaced R (f ∷ front) back x y a b h = (all_replaced (R f) front back x y a.0 h.0, pairs_replaced R front back x y a.1 b h.1)

pub not_is : (y : Bool) → not y ≡ true → y ≡ false
not_is true h = absurd (false≢true h)
not_is false h = refl

pub none_of : (b : ℕ) (xs : List ℕ) → has xs b ≡ false → AllByRecursion (λ x. nat_eq b x ≡ false) xs
none_of b [] h = tt
none_of b (x ∷ xs) h = (or_left (nat_eq b x) (has xs b) h, none_of b xs (or_right (nat_eq b x) (has xs b) h))

pub of_none : (b : ℕ) (xs : List ℕ) → AllByRecursion (λ x. nat_eq b x ≡ false) xs → has xs b ≡ false
of_none b [] h = refl
of_none b (x ∷ xs) h = ap₂ (λ p q. p || q) h.0 (of_none b xs h.1)

pub equal_turned : (a b : ℕ) → (a == b) ≡ false → (b == a) ≡ false
equal_turned a b h = elim (b == a) as (λ t. (b == a) ≡ t → t ≡ false) [ true ↦ λ e. absurd (false≢true (sym h ∙ eq-eqb a b (sym (eqb-true b a e)))) | false ↦ λ e. refl ] refl

pub one : (b : Bool) → (b || false) ≡ true → b ≡ true
one true h = refl
one false h = h

-- ---- the operands of an operation

pub at_first : (P : Strided → Type 0) (op : Op) (v : Strided) → op.first ≡ Some (Array v) → AllByRecursion P (inputs op) → P v
at_first P op v e h = (subst (λ f. AllByRecursion P (view_of f ++ view_of op.second)) e h).0

pub at_second : (P : Strided → Type 0) (op : Op) (v : Strided) → op.second ≡ Some (Array v) → AllByRecursion P (inputs op) → P v
at_second P op v e h = (subst (λ f. AllByRecursion P (view_of f)) e (all_right P (view_of op.first) (view_of op.second) h)).0
