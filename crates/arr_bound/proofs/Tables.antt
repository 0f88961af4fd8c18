-- What the tables of a list hold.
use Rattle.std.proofs.Common.{◌≡◌, ℕ, zero, suc, ◌+◌, ◌-◌, ◌/◌, ◌<◌, ◌≤◌, List, [], ◌∷◌, ◌++◌, length, get_or, Bool, true, false, cond, not, ◌&&◌, ◌||◌, Option, Some, None, refl, sym, ap, ap₂, ◌∙◌, subst, arith, ⊎_elim, replicate, length-append}
use Rattle.std.specs.Prelude.{nat_le, ◌==◌}
use Rattle.std.specs.List.{list_any, filter, flat_map, position_or_len, AllByRecursion}
use Rattle.std.specs.Option.{option_map, option_to_list}
use Rattle.std.proofs.lemmas.Bool.{and_parts, and_from, not-true, eq-eqb, ne_eqb, false≢true, false_from_ne_true, cases_eq, le-leb, leb-true}
use Rattle.std.proofs.lemmas.List.{get_or_default, get_or_append_left, get_or-append_right}
use Rattle.std.proofs.lemmas.List.Sums.{position_or_len_is}
use Rattle.std.proofs.lemmas.List.Folds.{list_any_at}
use Rattle.arr_view.specs.Strided.{Strided}
use Rattle.arr_view.specs.Views.{identical}
use Rattle.arr_ops.specs.declared.op.Op.{Op}
use Rattle.arr_ops.specs.Ops.{views}
use Rattle.arr_ops.specs.Costs.{distinct}
use Rattle.arr_ops.proofs.Tests.{or_cases}
use Rattle.arr_ops.proofs.Pairs.{Pairs, All_filter, Pairs_filter, Pairs_weaker}
use Rattle.arr_ops.proofs.Alike.{identical_symm, identical_trans}
use Rattle.arr_sets.specs.Bits.{is_set}
use Rattle.arr_sets.proofs.Members.{none_set}
use Rattle.arr_cost.proofs.Touched.{few_views}
use Rattle.arr_law.specs.ProblemOf.{nothing, no_view, op_at, first_where, views_of, view_at, numbered_view, problem_of}
use Rattle.arr_bound.specs.declared.classes.Class.{Class}
use Rattle.arr_bound.specs.Classes.{IsRow, IsClass, AreClasses}

-- ---- the first operation that passes

abbrev pub NoneBefore : (Op → Bool) → List Op → ℕ → Type 0
NoneBefore test list i = (k : ℕ) → k < i → (d : Op) → test (get_or list k d) ≡ false

pub before_more : (test : Op → Bool) (list : List Op) (i : ℕ) (op : Op) → i < length list → op ≡ get_or list i op → test op ≡ false → NoneBefore test list i → NoneBefore test list (i + 1)
before_more test list i op l is fails none k m d =
    ⊎_elim (λ (e : k ≡ i). ap (λ j. test (get_or list j d)) e ∙ ap test (get_or_default list i d op l ∙ sym is) ∙ fails) (λ (ne : k ≡ i → ⊥). none k (omega arith) d) (cases_eq k i)

none_any : (test : Op → Bool) (list : List Op) → ((k : ℕ) → k < length list → (d : Op) → test (get_or list k d) ≡ false) → list_any test list ≡ false
none_any test [] none = refl
none_any test (x ∷ xs) none = ap₂ (λ a b. a || b) (none 0 (omega arith) x) (none_any test xs (λ k l d. none (suc k) (omega arith) d))

pub found_first : (test : Op → Bool) (list : List Op) (i : ℕ) (op : Op) → i < length list → op ≡ get_or list i op → test op ≡ true → NoneBefore test list i → Some (i + 1) ≡ first_where test list
found_first test list i op l is yes_ none =
    let here : test (get_or list i op) ≡ true = ap test (sym is) ∙ yes_ in
    let place : position_or_len test list ≡ i = position_or_len_is test list i op (omega arith) (λ k m. none k m op) (λ m. here) in
    sym (ap (λ b. cond b (Some (suc (position_or_len test list))) None) (list_any_at test list i op l here) ∙ ap Some (let e : suc (position_or_len test list) ≡ i + 1 = omega (arith, place) in e))

pub found_none : (test : Op → Bool) (list : List Op) (i : ℕ) → length list ≤ i → NoneBefore test list i → None ≡ first_where test list
found_none test list i l none = sym (ap (λ b. cond b (Some (suc (position_or_len test list))) None) (none_any test list (λ k m d. none k (omega arith) d)))

-- ---- rows of operations

-- the row so far says of each of the first so many operations whether it passes
abbrev pub RowBelow : (ℕ → Bool) → ℕ → List ℕ → Type 0
RowBelow test n row = (g : ℕ) → is_set row g ≡ ((nat_le 1 g && nat_le g n) && test g)

pub row_none : (test : ℕ → Bool) (row : List ℕ) (k : ℕ) → row ≡ replicate k 0 → RowBelow test 0 row
row_none test row k e g = ap (λ r. is_set r g) e ∙ none_set k g ∙ ap (λ b. b && test g) (sym (empty g))
  where
    empty : (g : ℕ) → (nat_le 1 g && nat_le g 0) ≡ false
    empty zero = refl
    empty (suc g) = false_from_ne_true (nat_le 1 (suc g) && nat_le (suc g) 0) (λ e. let l : suc g ≤ 0 = leb-true (suc g) 0 (and_parts (nat_le 1 (suc g)) (nat_le (suc g) 0) e).1 in absurd (omega arith))

same_test : (a b : Bool) → (a ≡ true → b ≡ true) → (b ≡ true → a ≡ true) → a ≡ b
same_test true true f g = refl
same_test true false f g = absurd (false≢true (f refl))
same_test false true f g = absurd (false≢true (g refl))
same_test false false f g = refl

or_off : (a b : Bool) → (a || (b && false)) ≡ a
or_off true b = refl
or_off false true = refl
or_off false false = refl

or_on : (a b : Bool) → (a ≡ true → b ≡ true) → (a || (b && true)) ≡ b
or_on true b f = sym (f refl)
or_on false true f = refl
or_on false false f = refl

pub row_more : (test : ℕ → Bool) (n : ℕ) (row next : List ℕ) (b : Bool) → b ≡ test (n + 1) → ((g : ℕ) → is_set next g ≡ (is_set row g || (b && (n + 1 == g)))) → RowBelow test n row → RowBelow test (n + 1) next
row_more test n row next b is put below g = put g ∙ ⊎_elim here there (cases_eq (n + 1) g)
  where
    here : n + 1 ≡ g → (is_set row g || (b && (n + 1 == g))) ≡ ((nat_le 1 g && nat_le g (n + 1)) && test g)
    here e =
        ap (λ t. is_set row g || (b && t)) (eq-eqb (n + 1) g e)
        ∙ or_on (is_set row g) b (λ s. is ∙ (ap test e ∙ (and_parts (nat_le 1 g && nat_le g n) (test g) (sym (below g) ∙ s)).1))
        ∙ (is ∙ ap test e) ∙ ap (λ t. t && test g) (sym (and_from (nat_le 1 g) (nat_le g (n + 1)) (le-leb 1 g (omega arith)) (le-leb g (n + 1) (omega arith))))

    there : (n + 1 ≡ g → ⊥) → (is_set row g || (b && (n + 1 == g))) ≡ ((nat_le 1 g && nat_le g (n + 1)) && test g)
    there ne =
        ap (λ t. is_set row g || (b && t)) (ne_eqb (n + 1) g ne) ∙ or_off (is_set row g) b ∙ below g
        ∙ ap (λ t. (nat_le 1 g && t) && test g) (same_test (nat_le g n) (nat_le g (n + 1)) (λ t. let l : g ≤ n = leb-true g n t in le-leb g (n + 1) (omega arith)) (λ t. let l : g ≤ n + 1 = leb-true g (n + 1) t in le-leb g n (omega arith)))

pub row_whole : (list : List Op) (test : ℕ → Bool) (n : ℕ) (row : List ℕ) → n ≡ length list → length row ≡ length list / 64 + 1 → RowBelow test n row → IsRow list test row
row_whole list test n row e long below = record { long = long; each = λ g. below g ∙ ap (λ m. (nat_le 1 g && nat_le g m) && test g) e }

-- an operation by its place is the one of its number
pub op_here : (list : List Op) (i : ℕ) (op : Op) → i < length list → op ≡ get_or list i op → op_at list (i + 1) ≡ op
op_here list i op l is = ap (λ k. get_or (nothing ∷ list) k nothing) (let e : i + 1 ≡ suc i = omega arith in e) ∙ get_or_default list i nothing op l ∙ sym is

-- ---- classes

pub classes_more : (list : List Op) (n : ℕ) (classes next : List Class) (class : Class) → next ≡ classes ++ class ∷ [] → IsClass list n class → AreClasses list n classes → AreClasses list (n + 1) next
classes_more list n classes next class e is all =
    subst (AreClasses list (n + 1)) (sym e) (record {
      long = omega (arith, length-append classes (class ∷ []), all.long);
      each = λ c l d. ⊎_elim
          (λ (same : c ≡ n). subst (IsClass list c) (sym (get_or-append_right classes (class ∷ []) n c d all.long (omega arith) ∙ ap (λ k. get_or (class ∷ []) k d) (let z : c - n ≡ 0 = omega arith in z))) (subst (λ k. IsClass list k class) (sym same) is))
          (λ (ne : c ≡ n → ⊥). let m : c < n = omega arith in subst (IsClass list c) (sym (get_or_append_left classes (class ∷ []) d c (omega (arith, m, all.long)))) (all.each c m d))
          (cases_eq c n);
    })

filter_short : (p : Strided → Bool) (vs : List Strided) → length (filter p vs) ≤ length vs
filter_short p [] = omega arith
filter_short p (v ∷ vs) = go (p v) (filter_short p vs)
  where
    go : (b : Bool) → length (filter p vs) ≤ length vs → length (cond b (v ∷ filter p vs) (filter p vs)) ≤ suc (length vs)
    go true l = omega arith
    go false l = omega arith

distinct_short : (vs : List Strided) → length (distinct identical vs) ≤ length vs
distinct_short [] = omega arith
distinct_short (v ∷ vs) = omega (arith, distinct_short vs, filter_short (λ w. not (identical v w)) (distinct identical vs))

pub few_classes : (list : List Op) → length list ≤ 256 → length (views_of list) ≤ 768
few_classes list l = omega (arith, distinct_short (flat_map views list), few_views list)

-- ---- the class of a view

every : (P : Strided → Type 0) (vs : List Strided) → ((v : Strided) → P v) → AllByRecursion P vs
every P [] h = tt
every P (v ∷ vs) h = (h v, every P vs h)

differ : (vs : List Strided) → Pairs (λ u v. identical u v ≡ false) (distinct identical vs)
differ [] = tt
differ (v ∷ vs) = (
  All_filter (λ w. identical v w ≡ false) (λ w. not (identical v w)) (distinct identical vs) (every (λ w. not (identical v w) ≡ true → identical v w ≡ false) (distinct identical vs) (λ w k. not-true _ k)),
  Pairs_filter (λ u w. identical u w ≡ false) (λ w. not (identical v w)) (distinct identical vs) (Pairs_weaker (λ u w. identical u w ≡ false) (λ x y. not (identical v x) ≡ true → not (identical v y) ≡ true → identical x y ≡ false) (λ x y k a b. k) (distinct identical vs) (differ vs)),
)

all_get : (P : Strided → Type 0) (vs : List Strided) (i : ℕ) (d : Strided) → i < length vs → AllByRecursion P vs → P (get_or vs i d)
all_get P [] i d l h = absurd (omega arith)
all_get P (v ∷ vs) zero d l h = h.0
all_get P (v ∷ vs) (suc i) d l h = all_get P vs i d (omega arith) h.1

pairs_get : (R : Strided → Strided → Type 0) (vs : List Strided) (i j : ℕ) (d : Strided) → i < j → j < length vs → Pairs R vs → R (get_or vs i d) (get_or vs j d)
pairs_get R [] i j d l m h = absurd (omega arith)
pairs_get R (v ∷ vs) i zero d l m h = absurd (omega arith)
pairs_get R (v ∷ vs) zero (suc j) d l m h = all_get (R v) vs j d (omega arith) h.0
pairs_get R (v ∷ vs) (suc i) (suc j) d l m h = pairs_get R vs i j d (omega arith) (omega arith) h.1

pub class_is : (list : List Op) (c : ℕ) (v : Strided) → c < length (views_of list) → identical (view_at list c) v ≡ true → position_or_len (identical v) (views_of list) ≡ c
class_is list c v l same =
    position_or_len_is (identical v) (views_of list) c no_view (omega arith)
    (λ k m. false_from_ne_true (identical v (view_at list k)) (λ e.
    let turned : identical (view_at list k) (view_at list c) ≡ true = identical_trans (view_at list k) v (view_at list c) (identical_symm v (view_at list k) e) (identical_symm (view_at list c) v same) in
    absurd (false≢true (sym (pairs_get (λ u w. identical u w ≡ false) (views_of list) k c no_view m l (differ (flat_map views list))) ∙ turned))))
    (λ m. identical_symm (view_at list c) v same)

-- the view of a number that is of a class
pub view_is : (list : List Op) (c f k : ℕ) (op : Op) (v : Strided) → c < length (views_of list) → v ≡ view_at list c → op ≡ op_at list f → list_any (identical v) (option_to_list (numbered_view op k)) ≡ true → (problem_of list).view f k ≡ Some c
view_is list c f k op v l here is e =
    go (numbered_view (op_at list f) k) (subst (λ o. list_any (identical (view_at list c)) (option_to_list (numbered_view o k)) ≡ true) is (subst (λ w. list_any (identical w) (option_to_list (numbered_view op k)) ≡ true) here e))
  where
    go : (o : Option Strided) → list_any (identical (view_at list c)) (option_to_list o) ≡ true → option_map (λ v. position_or_len (identical v) (views_of list)) o ≡ Some c
    go None e = absurd (false≢true e)
    go (Some w) e = ap Some (class_is list c w l (or_cases (identical (view_at list c) w) false e (λ t. t) (λ n. absurd (false≢true n))))
