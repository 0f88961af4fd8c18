-- Operations by their numbers, and what the tables tell of them.
use Rattle.std.proofs.Common.{◌≡◌, ℕ, zero, suc, ◌+◌, ◌-◌, ◌*◌, ◌<◌, ◌≤◌, List, [], ◌∷◌, Bool, true, false, cond, not, ◌||◌, Option, Some, None, length, map, get_or, refl, ap, ap₂, sym, subst, ◌∙◌, arith}
use Rattle.std.specs.Prelude.{◌==◌, nat_le}
use Rattle.std.specs.List.{AllByRecursion, filter, flat_map, list_any, list_all, position_or_len}
use Rattle.std.specs.Option.{option_map, option_to_list}
use Rattle.std.proofs.lemmas.Bool.{and_parts, leb-true, eq-eqb, eqb-true, lt-ltb, false≢true}
use Rattle.std.proofs.lemmas.List.Folds.{list_any-append}
use Rattle.arr_view.specs.Strided.{Strided}
use Rattle.arr_view.specs.Views.{has, identical}
use Rattle.arr_ops.specs.declared.op.Op.{Op}
use Rattle.arr_ops.specs.Ops.{array_of, inputs, outputs, view_of, views}
use Rattle.arr_ops.specs.Costs.{distinct}
use Rattle.arr_ops.proofs.Alike.{identical_symm, identical_trans}
use Rattle.arr_ops.proofs.Merged.{distinct_apart}
use Rattle.arr_ops.proofs.Pairs.{Pairs}
use Rattle.arr_law.specs.Problem.{is_op, ends_base_of}
use Rattle.arr_law.specs.ProblemOf.{no_view, nothing, numbered_view, op_at, problem_of, view_at, views_of}
use Rattle.arr_check.specs.declared.classed.Classed.{Classed}
use Rattle.arr_check.specs.Classed.{class_of, classes_of, has_classes, is_class, view_in, Stands}
use Rattle.arr_check.proofs.Rows.{at_map}
use Rattle.arr_check.proofs.Firsts.{firsts_distinct}
use Rattle.arr_check.proofs.ClassTests.{Known, all_few, all_known, array_views, found, parts}

-- ---- numbers

pub inside : (list : List Op) (f : ℕ) → is_op (problem_of list) f ≡ true → (1 ≤ f) × (f ≤ length list)
inside list f e = let p = and_parts (nat_le 1 f) (nat_le f (length list)) e in (leb-true 1 f p.0, leb-true f (length list) p.1)

any_default : {A : Type 0} (xs : List A) (i : ℕ) (d e : A) → i < length xs → get_or xs i d ≡ get_or xs i e
any_default [] i d e h = absurd (omega arith)
any_default (x ∷ xs) zero d e h = refl
any_default (x ∷ xs) (suc i) d e h = any_default xs i d e (omega arith)

numbered : (list : List Op) (f : ℕ) (op : Op) → (1 ≤ f) × (f ≤ length list) → get_or list (f - 1) op ≡ op_at list f
numbered list zero op l = absurd (omega (arith, l.0))
numbered list (suc k) op l =
    let back : suc k - 1 ≡ k = omega arith in
    ap (λ i. get_or list i op) back ∙ any_default list k op nothing (omega (arith, l.1))

pub named_at : (list now : List Op) (f : ℕ) (op : Op) → list ≡ now → is_op (problem_of now) f ≡ true → op ≡ get_or list (f - 1) op → op ≡ op_at now f
named_at list now f op same e here = here ∙ ap (λ l. get_or l (f - 1) op) same ∙ numbered now f op (inside now f e)

-- ---- the classes of an operation

all_at : {X : Type 0} (p : X → Bool) (xs : List X) (i : ℕ) (d : X) → list_all p xs ≡ true → i < length xs → p (get_or xs i d) ≡ true
all_at p [] i d h l = absurd (omega arith)
all_at p (x ∷ xs) zero d h l = (and_parts (p x) (list_all p xs) h).0
all_at p (x ∷ xs) (suc i) d h l = all_at p xs i d (and_parts (p x) (list_all p xs) h).1 (omega arith)

known_at : (list : List Op) (f : ℕ) → (1 ≤ f) × (f ≤ length list) → has_classes (views_of list) (op_at list f) ≡ true
known_at list zero l = absurd (omega (arith, l.0))
known_at list (suc k) l =
    all_at (has_classes (views_of list)) list k nothing (all_known list (flat_map views list) (views_of list) refl (sym (firsts_distinct (flat_map views list)))) (omega (arith, l.1))

listed : (list : List Op) (f : ℕ) (a : Classed) → (1 ≤ f) × (f ≤ length list) → get_or (map (classes_of (views_of list)) list) (f - 1) a ≡ classes_of (views_of list) (op_at list f)
listed list zero a l = absurd (omega (arith, l.0))
listed list (suc k) a l =
    let back : suc k - 1 ≡ k = omega arith in
    ap (λ i. get_or (map (classes_of (views_of list)) list) i a) back ∙ at_map (classes_of (views_of list)) list k nothing a (omega (arith, l.1))

pub stands_at_number : (list now : List Op) (table : List Classed) (f : ℕ) (a : Classed) → list ≡ now → table ≡ map (classes_of (views_of list)) list → is_op (problem_of now) f ≡ true → a ≡ get_or table (f - 1) a
    → Stands (views_of now) (op_at now f) a
stands_at_number list now table f a same t e here =
    let l = inside now f e in
    record {
      same = here ∙ ap (λ ts. get_or ts (f - 1) a) t ∙ ap (λ (ops : List Op). get_or (map (classes_of (views_of ops)) ops) (f - 1) a) same ∙ listed now f a l;
      known = known_at now f l;
    }

pub stands : (list now : List Op) (classes : List Strided) (table : List Classed) (f : ℕ) (op : Op) (a : Classed) → list ≡ now → classes ≡ views_of list → table ≡ map (classes_of (views_of list)) list
    → is_op (problem_of now) f ≡ true → op ≡ get_or list (f - 1) op → a ≡ get_or table (f - 1) a → Stands classes op a
stands list now classes table f op a same cs t e here there =
    subst (λ k. Stands k op a) (sym (cs ∙ ap views_of same))
    (subst (λ o. Stands (views_of now) o a) (sym (named_at list now f op same e here)) (stands_at_number list now table f a same t e there))

-- ---- one class

at_all : {X : Type 0} (P : X → Type 0) (xs : List X) (i : ℕ) (d : X) → AllByRecursion P xs → i < length xs → P (get_or xs i d)
at_all P [] i d h l = absurd (omega arith)
at_all P (x ∷ xs) zero d h l = h.0
at_all P (x ∷ xs) (suc i) d h l = at_all P xs i d h.1 (omega arith)

apart_place : (xs : List Strided) (c : ℕ) (v : Strided) → Pairs (λ x y. identical y x ≡ false) xs → c < length xs → identical v (view_in xs c) ≡ true → position_or_len (identical v) xs ≡ c
apart_place [] c v p l e = absurd (omega arith)
apart_place (x ∷ xs) zero v p l e = ap (λ b. cond (not b) (1 + position_or_len (identical v) xs) 0) e
apart_place (x ∷ xs) (suc c) v p l e =
    elim (identical v x) as (λ b. identical v x ≡ b → cond (not b) (1 + position_or_len (identical v) xs) 0 ≡ suc c) [
      | true ↦ λ f. absurd (false≢true (sym (at_all (λ y. identical y x ≡ false) xs c no_view p.0 (omega arith)) ∙ identical_trans (view_in xs c) v x (identical_symm v (view_in xs c) e) f))
      | false ↦ λ f. let r : position_or_len (identical v) xs ≡ c = apart_place xs c v p.1 (omega arith) e in omega arith
    ] refl

apart : (list : List Op) → Pairs (λ x y. identical y x ≡ false) (views_of list)
apart list = distinct_apart identical identical_symm identical_trans (λ v. 0) (λ u v e. refl) (flat_map views list)

same_tests : (a b : Bool) → (a ≡ true → b ≡ true) → (b ≡ true → a ≡ true) → a ≡ b
same_tests true true f g = refl
same_tests true false f g = absurd (false≢true (f refl))
same_tests false true f g = absurd (false≢true (g refl))
same_tests false false f g = refl

or_none : (b : Bool) → (b || false) ≡ b
or_none true = refl
or_none false = refl

class_some : (classes : List Strided) (v : Strided) → list_any (identical v) classes ≡ true → class_of classes (Some v) ≡ Some (position_or_len (identical v) classes)
class_some classes v h =
    let n : ℕ = position_or_len (identical v) classes in
    ap (λ b. cond b (Some n) None) (lt-ltb n (length classes) (found (identical v) classes no_view h).0)

class_has : (list : List Op) (o : Option Strided) (c : ℕ) → Known (views_of list) o → c < length (views_of list) → is_class (class_of (views_of list) o) c ≡ list_any (identical (view_at list c)) (option_to_list o)
class_has list None c k l = refl
class_has list (Some v) c k l =
    let any : list_any (identical v) (views_of list) ≡ true = (and_parts (list_any (identical v) (views_of list)) true k).0 in
    let r = found (identical v) (views_of list) no_view any in
    let n : ℕ = position_or_len (identical v) (views_of list) in
    ap (λ o. is_class o c) (class_some (views_of list) v any)
    ∙ same_tests (n == c) (identical (view_at list c) v)
    (λ e. identical_symm v (view_at list c) (subst (λ i. identical v (view_in (views_of list) i) ≡ true) (eqb-true n c e) r.1))
    (λ e. eq-eqb n c (apart_place (views_of list) c v (apart list) l (identical_symm (view_at list c) v e)))
    ∙ sym (or_none (identical (view_at list c) v))

pub writes_is : (now : List Op) (f c : ℕ) (a : Classed) → Stands (views_of now) (op_at now f) a → c < length (views_of now) → is_class a.out c ≡ list_any (identical (view_at now c)) (outputs (op_at now f))
writes_is now f c a s l = ap (λ (x : Classed). is_class x.out c) s.same ∙ class_has now (op_at now f).out c (parts (views_of now) (op_at now f) s.known).out l

pub reads_is : (now : List Op) (f c : ℕ) (a : Classed) → Stands (views_of now) (op_at now f) a → c < length (views_of now)
    → (is_class a.first c || is_class a.second c) ≡ list_any (identical (view_at now c)) (inputs (op_at now f))
reads_is now f c a s l =
    let p = parts (views_of now) (op_at now f) s.known in
    let test : Strided → Bool = identical (view_at now c) in
    ap₂ (λ x y. x || y)
    (ap (λ (x : Classed). is_class x.first c) s.same ∙ class_has now (array_of (op_at now f).first) c p.first l ∙ ap (list_any test) (array_views (op_at now f).first))
    (ap (λ (x : Classed). is_class x.second c) s.same ∙ class_has now (array_of (op_at now f).second) c p.second l ∙ ap (list_any test) (array_views (op_at now f).second))
    ∙ sym (list_any-append test (view_of (op_at now f).first) (view_of (op_at now f).second))

-- ---- the class of a numbered view

placed_is : (classes : List Strided) (o : Option Strided) → Known classes o → class_of classes o ≡ option_map (λ v. position_or_len (identical v) classes) o
placed_is classes None k = refl
placed_is classes (Some v) k = class_some classes v (and_parts (list_any (identical v) classes) true k).0

abbrev pub viewed : List Op → ℕ → ℕ → Option ℕ
viewed now f k = option_map (λ v. position_or_len (identical v) (views_of now)) (numbered_view (op_at now f) k)

pub view_0 : (now : List Op) (f k : ℕ) (a : Classed) → Stands (views_of now) (op_at now f) a → k ≡ 0 → a.out ≡ viewed now f k
view_0 now f k a s e = ap (λ (x : Classed). x.out) s.same ∙ placed_is (views_of now) (op_at now f).out (parts (views_of now) (op_at now f) s.known).out ∙ ap (viewed now f) (sym e)

pub view_1 : (now : List Op) (f k : ℕ) (a : Classed) → Stands (views_of now) (op_at now f) a → k ≡ 1 → a.first ≡ viewed now f k
view_1 now f k a s e = ap (λ (x : Classed). x.first) s.same ∙ placed_is (views_of now) (array_of (op_at now f).first) (parts (views_of now) (op_at now f) s.known).first ∙ ap (viewed now f) (sym e)

pub view_2 : (now : List Op) (f k : ℕ) (a : Classed) → Stands (views_of now) (op_at now f) a → k ≡ 2 → a.second ≡ viewed now f k
view_2 now f k a s e = ap (λ (x : Classed). x.second) s.same ∙ placed_is (views_of now) (array_of (op_at now f).second) (parts (views_of now) (op_at now f) s.known).second ∙ ap (viewed now f) (sym e)

-- ---- a FREE and the users of its base

pub ends_is : (now : List Op) (f g b : ℕ) (of og : Op) (r : Bool) → of ≡ op_at now f → og ≡ op_at now g → og.frees ≡ Some b → r ≡ has (map (λ (v : Strided). v.base) (views of)) b → r ≡ ends_base_of (problem_of now) f g
ends_is now f g b of og r ef eg e h =
    h ∙ ap (λ (o : Op). has (map (λ (v : Strided). v.base) (views o)) b) ef ∙ sym (or_none (has (map (λ (v : Strided). v.base) (views (op_at now f))) b))
    ∙ ap (λ bs. list_any (has (map (λ (v : Strided). v.base) (views (op_at now f)))) (option_to_list bs)) (sym e ∙ ap (λ (o : Op). o.frees) eg)

-- ---- how many classes there are

filter_few : {X : Type 0} (p : X → Bool) (xs : List X) → length (filter p xs) ≤ length xs
filter_few p [] = omega arith
filter_few p (x ∷ xs) =
    elim (p x) as (λ b. length (cond b (x ∷ filter p xs) (filter p xs)) ≤ suc (length xs)) [
      | true ↦ let r : length (filter p xs) ≤ length xs = filter_few p xs in omega arith
      | false ↦ let r : length (filter p xs) ≤ length xs = filter_few p xs in omega arith
    ]

distinct_few : (vs : List Strided) → length (distinct identical vs) ≤ length vs
distinct_few [] = omega arith
distinct_few (v ∷ vs) =
    let a : length (filter (λ w. not (identical v w)) (distinct identical vs)) ≤ length (distinct identical vs) = filter_few (λ w. not (identical v w)) (distinct identical vs) in
    let r : length (distinct identical vs) ≤ length vs = distinct_few vs in
    omega arith

pub views_few : (list : List Op) → length list ≤ 256 → length (views_of list) ≤ 768
views_few list l =
    let a : length (views_of list) ≤ length (flat_map views list) = distinct_few (flat_map views list) in
    let b : length (flat_map views list) ≤ 3 * length list = all_few list in
    omega arith
