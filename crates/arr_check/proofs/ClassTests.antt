-- What classes tell of views, and of two operations.
use Rattle.std.proofs.Common.{◌≡◌, ℕ, zero, suc, ◌+◌, ◌<◌, ◌≤◌, ◌*◌, List, [], ◌∷◌, ◌++◌, Bool, true, false, cond, not, ◌||◌, ◌&&◌, Option, Some, None, length, map, get_or, refl, ap, ap₂, sym, subst, ◌∙◌, arith}
use Rattle.std.specs.Prelude.{◌==◌, nat_lt, fold}
use Rattle.std.specs.List.{list_all, list_any, position_or_len, flat_map}
use Rattle.std.specs.Option.{option_to_list}
use Rattle.std.specs.Prelude.{is_some}
use lib.Pointwise.{pointwise}
use lib.Dec.{eqb}
use Rattle.std.proofs.lemmas.Bool.{and_parts, and_from, eq-eqb, eqb-true, lt-ltb, false≢true}
use Rattle.std.proofs.lemmas.List.{length-append}
use Rattle.std.proofs.lemmas.List.Folds.{list_any-append, list_all-append}
use Rattle.arr_num.specs.Kinds.{is_reduction, walks_input}
use Rattle.arr_view.specs.Strided.{Strided}
use Rattle.arr_view.specs.Views.{has, identical, overlap, same_lists, share}
use Rattle.arr_check.specs.Classed.{firsts, view_in, with_first}
use Rattle.arr_ops.specs.declared.op.Op.{Op}
use Rattle.arr_ops.specs.declared.op.Operand.{Operand}
use Rattle.arr_ops.specs.declared.op.Operand.TheVariants.{Array, Number}
use Rattle.arr_ops.specs.Ops.{array_of, crosses, disturbs, freed, inputs, named, outputs, same_walk, serial, some_pair, view_of, views}
use Rattle.arr_ops.proofs.Alike.{Alike, alike, identical_symm, identical_trans, identical_if}
use Rattle.arr_check.specs.declared.classed.Classed.{Classed}
use Rattle.arr_check.specs.Classed.{class_of, classes_of, cross, first_view, has_classes, meet, within, Stands}
use Rattle.arr_law.specs.ProblemOf.{no_view}
use Rattle.arr_check.proofs.Rows.{at_map}

-- ---- the class of a view

pub found : {X : Type 0} (p : X → Bool) (xs : List X) (d : X) → list_any p xs ≡ true → (position_or_len p xs < length xs) × (p (get_or xs (position_or_len p xs) d) ≡ true)
found p [] d h = absurd (false≢true h)
found p (x ∷ xs) d h =
    elim (p x) as (λ b. p x ≡ b → (b || list_any p xs) ≡ true → (cond (not b) (1 + position_or_len p xs) 0 < suc (length xs)) × (p (get_or (x ∷ xs) (cond (not b) (1 + position_or_len p xs) 0) d) ≡ true)) [
      | true ↦ λ e k. (omega arith, e)
      | false ↦ λ e k.
          let r = found p xs d k in
          let less : position_or_len p xs < length xs = r.0 in
          let next : 1 + position_or_len p xs ≡ suc (position_or_len p xs) = omega arith in
          (omega arith, ap (λ n. p (get_or (x ∷ xs) n d)) next ∙ r.1)
    ] refl h

pub record Placed (classes : List Strided) (v : Strided) (o : Option ℕ) : Type 0 where
  pub at : ℕ
  pub is : o ≡ Some at
  pub inside : at < length classes
  pub same : identical v (view_in classes at) ≡ true

pub placed : (classes : List Strided) (v : Strided) → list_any (identical v) classes ≡ true → Placed classes v (class_of classes (Some v))
placed classes v h =
    let r = found (identical v) classes no_view h in
    record {
      at = position_or_len (identical v) classes;
      is = ap (λ b. cond b (Some (position_or_len (identical v) classes)) None) (lt-ltb (position_or_len (identical v) classes) (length classes) r.0);
      inside = r.0;
      same = r.1;
    }

pub class_within : (classes : List Strided) (v : Option Strided) → within (length classes) (class_of classes v) ≡ true
class_within classes None = refl
class_within classes (Some v) =
    let n : ℕ = position_or_len (identical v) classes in
    elim (nat_lt n (length classes)) as (λ b. nat_lt n (length classes) ≡ b → within (length classes) (cond b (Some n) None) ≡ true) [ true ↦ λ e. e | false ↦ λ e. refl ] refl

same_count : {X : Type 0} (p q : X → Bool) (xs : List X) → ((x : X) → p x ≡ q x) → position_or_len p xs ≡ position_or_len q xs
same_count p q [] h = refl
same_count p q (x ∷ xs) h = ap₂ (λ b n. cond (not b) (1 + n) 0) (h x) (same_count p q xs h)

same_tests : (a b : Bool) → (a ≡ true → b ≡ true) → (b ≡ true → a ≡ true) → a ≡ b
same_tests true true f g = refl
same_tests true false f g = absurd (false≢true (f refl))
same_tests false true f g = absurd (false≢true (g refl))
same_tests false false f g = refl

-- one class exactly where the views are identical
same_class : (classes : List Strided) (v w : Strided) (p : Placed classes v (class_of classes (Some v))) (q : Placed classes w (class_of classes (Some w))) → (p.at == q.at) ≡ identical v w
same_class classes v w p q =
    same_tests (p.at == q.at) (identical v w)
    (λ e. identical_trans v (view_in classes p.at) w p.same
    (identical_symm w (view_in classes p.at) (subst (λ k. identical w (view_in classes k) ≡ true) (sym (eqb-true p.at q.at e)) q.same)))
    (λ e. eq-eqb p.at q.at (unwrapped p.at q.at (sym p.is ∙ one e ∙ q.is)))
  where
    one : identical v w ≡ true → class_of classes (Some v) ≡ class_of classes (Some w)
    one e =
        ap (λ n. cond (nat_lt n (length classes)) (Some n) None)
        (same_count (identical v) (identical w) classes (λ x.
        same_tests (identical v x) (identical w x) (λ f. identical_trans w v x (identical_symm v w e) f) (λ f. identical_trans v w x e f)))

    unwrapped : (a b : ℕ) → Some a ≡ Some b → a ≡ b
    unwrapped a b e = (cc)

overlap_alike : (v w x y : Strided) → identical v w ≡ true → identical x y ≡ true → overlap w y ≡ overlap v x
overlap_alike v w x y e f =
    let a : Alike v w = alike v w e in
    let b : Alike x y = alike x y f in
    ap₂ (λ s t. s && t) (ap₂ (λ s t. s == t) (sym a.base) (sym b.base)) (ap₂ share (sym a.places) (sym b.places))

-- every one of at most one view has a class
abbrev pub Known : List Strided → Option Strided → Type 0
Known classes v = list_all (λ w. list_any (identical w) classes) (option_to_list v) ≡ true

pub meet_is : (classes : List Strided) (v w : Option Strided) → Known classes v → Known classes w → meet classes (class_of classes v) (class_of classes w) ≡ some_pair overlap (option_to_list v) (option_to_list w)
meet_is classes None w h k = refl
meet_is classes (Some v) None h k = let p = placed classes v (and_parts (list_any (identical v) classes) true h).0 in ap (λ o. meet classes o None) p.is
meet_is classes (Some v) (Some w) h k =
    let p = placed classes v (and_parts (list_any (identical v) classes) true h).0 in
    let q = placed classes w (and_parts (list_any (identical w) classes) true k).0 in
    ap₂ (meet classes) p.is q.is ∙ overlap_alike v (view_in classes p.at) w (view_in classes q.at) p.same q.same ∙ or_none (overlap v w)
  where
    or_none : (b : Bool) → b ≡ ((b || false) || false)
    or_none true = refl
    or_none false = refl

pub cross_is : (classes : List Strided) (never : Bool) (v w : Option Strided) → Known classes v → Known classes w
    → cross classes never (class_of classes v) (class_of classes w) ≡ some_pair (λ o u. overlap o u && (never || not (identical o u))) (option_to_list v) (option_to_list w)
cross_is classes never None w h k = refl
cross_is classes never (Some v) None h k = let p = placed classes v (and_parts (list_any (identical v) classes) true h).0 in ap (λ o. cross classes never o None) p.is
cross_is classes never (Some v) (Some w) h k =
    let p = placed classes v (and_parts (list_any (identical v) classes) true h).0 in
    let q = placed classes w (and_parts (list_any (identical w) classes) true k).0 in
    ap₂ (cross classes never) p.is q.is
    ∙ ap₂ (λ s t. s && (never || not t)) (overlap_alike v (view_in classes p.at) w (view_in classes q.at) p.same q.same) (same_class classes v w p q)
    ∙ or_none (overlap v w && (never || not (identical v w)))
  where
    or_none : (b : Bool) → b ≡ ((b || false) || false)
    or_none true = refl
    or_none false = refl

-- ---- operations

pub array_views : (o : Option Operand) → option_to_list (array_of o) ≡ view_of o
array_views None = refl
array_views (Some (Array v)) = refl
array_views (Some (Number z)) = refl

-- some pair with each of three lists
pair_three : (test : Strided → Strided → Bool) (us vs ws : List Strided) (v : Option Strided) → some_pair test (option_to_list v) (us ++ (vs ++ ws))
    ≡ ((some_pair test (option_to_list v) us || some_pair test (option_to_list v) vs) || some_pair test (option_to_list v) ws)
pair_three test us vs ws None = refl
pair_three test us vs ws (Some v) =
    ap (λ b. b || false) (list_any-append (test v) us (vs ++ ws) ∙ ap (λ b. list_any (test v) us || b) (list_any-append (test v) vs ws))
    ∙ regroup (list_any (test v) us) (list_any (test v) vs) (list_any (test v) ws)
  where
    regroup : (a b c : Bool) → ((a || (b || c)) || false) ≡ (((a || false) || (b || false)) || (c || false))
    regroup true b c = refl
    regroup false true c = refl
    regroup false false true = refl
    regroup false false false = refl

pair_two : (test : Strided → Strided → Bool) (us vs : List Strided) (v : Option Strided) → some_pair test (option_to_list v) (us ++ vs)
    ≡ (some_pair test (option_to_list v) us || some_pair test (option_to_list v) vs)
pair_two test us vs None = refl
pair_two test us vs (Some v) =
    ap (λ b. b || false) (list_any-append (test v) us vs) ∙ regroup (list_any (test v) us) (list_any (test v) vs)
  where
    regroup : (a b : Bool) → ((a || b) || false) ≡ ((a || false) || (b || false))
    regroup true b = refl
    regroup false true = refl
    regroup false false = refl

pub record Parts (classes : List Strided) (op : Op) : Type 0 where
  pub out : Known classes op.out
  pub first : Known classes (array_of op.first)
  pub second : Known classes (array_of op.second)

pub parts : (classes : List Strided) (op : Op) → has_classes classes op ≡ true → Parts classes op
parts classes op h =
    let test : Strided → Bool = λ w. list_any (identical w) classes in
    let a = and_parts (list_all test (outputs op)) (list_all test (inputs op)) (sym (list_all-append test (outputs op) (inputs op)) ∙ h) in
    let b = and_parts (list_all test (view_of op.first)) (list_all test (view_of op.second)) (sym (list_all-append test (view_of op.first) (view_of op.second)) ∙ a.1) in
    record {
      out = a.0;
      first = ap (list_all test) (array_views op.first) ∙ b.0;
      second = ap (list_all test) (array_views op.second) ∙ b.1;
    }

pub disturbs_is : (classes : List Strided) (f g : Op) (a b : Classed) → Stands classes f a → Stands classes g b
    → (((meet classes a.out b.out || meet classes a.out b.first) || meet classes a.out b.second) || list_any (has (named g)) (freed f)) ≡ disturbs f g
disturbs_is classes f g a b s t =
    let p = parts classes f s.known in
    let q = parts classes g t.known in
    ap₂ (λ (x y : Classed). ((meet classes x.out y.out || meet classes x.out y.first) || meet classes x.out y.second) || list_any (has (named g)) (freed f)) s.same t.same
    ∙ ap (λ m. m || list_any (has (named g)) (freed f))
    (ap₂ (λ m n. m || n)
    (ap₂ (λ m n. m || n) (meet_is classes f.out g.out p.out q.out) (meet_is classes f.out (array_of g.first) p.out q.first ∙ ap (some_pair overlap (outputs f)) (array_views g.first)))
    (meet_is classes f.out (array_of g.second) p.out q.second ∙ ap (some_pair overlap (outputs f)) (array_views g.second))
    ∙ sym (pair_three overlap (outputs g) (view_of g.first) (view_of g.second) f.out))

abbrev pub crossing : Op → Strided → Strided → Bool
crossing f o v = overlap o v && (is_reduction f.code || not (identical o v))

pub crosses_is : (classes : List Strided) (f g : Op) (a b : Classed) → Stands classes f a → Stands classes g b
    → ((cross classes (is_reduction f.code) a.out b.out || cross classes (is_reduction f.code) a.out b.first) || cross classes (is_reduction f.code) a.out b.second) ≡ crosses f g
crosses_is classes f g a b s t =
    let p = parts classes f s.known in
    let q = parts classes g t.known in
    let r : Bool = is_reduction f.code in
    ap₂ (λ (x y : Classed). (cross classes r x.out y.out || cross classes r x.out y.first) || cross classes r x.out y.second) s.same t.same
    ∙ ap₂ (λ m n. m || n)
    (ap₂ (λ m n. m || n) (cross_is classes r f.out g.out p.out q.out) (cross_is classes r f.out (array_of g.first) p.out q.first ∙ ap (some_pair (crossing f) (outputs f)) (array_views g.first)))
    (cross_is classes r f.out (array_of g.second) p.out q.second ∙ ap (some_pair (crossing f) (outputs f)) (array_views g.second))
    ∙ sym (pair_three (crossing f) (outputs g) (view_of g.first) (view_of g.second) f.out)

pub serial_is : (classes : List Strided) (f : Op) (a : Classed) → Stands classes f a
    → (cross classes (is_reduction f.code) a.out a.first || cross classes (is_reduction f.code) a.out a.second) ≡ serial f
serial_is classes f a s =
    let p = parts classes f s.known in
    let r : Bool = is_reduction f.code in
    ap (λ (x : Classed). cross classes r x.out x.first || cross classes r x.out x.second) s.same
    ∙ ap₂ (λ m n. m || n) (cross_is classes r f.out (array_of f.first) p.out p.first ∙ ap (some_pair (crossing f) (outputs f)) (array_views f.first))
    (cross_is classes r f.out (array_of f.second) p.out p.second ∙ ap (some_pair (crossing f) (outputs f)) (array_views f.second))
    ∙ sym (pair_two (crossing f) (view_of f.first) (view_of f.second) f.out)

pub record Within (classes : List Strided) (a : Classed) : Type 0 where
  pub out : within (length classes) a.out ≡ true
  pub first : within (length classes) a.first ≡ true
  pub second : within (length classes) a.second ≡ true

pub all_within : (classes : List Strided) (f : Op) (a : Classed) → Stands classes f a → Within classes a
all_within classes f a s = record {
  out = ap (λ (x : Classed). within (length classes) x.out) s.same ∙ class_within classes f.out;
  first = ap (λ (x : Classed). within (length classes) x.first) s.same ∙ class_within classes (array_of f.first);
  second = ap (λ (x : Classed). within (length classes) x.second) s.same ∙ class_within classes (array_of f.second);
}

-- ---- the table

all_at : {X : Type 0} (p : X → Bool) (xs : List X) (i : ℕ) (d : X) → list_all p xs ≡ true → i < length xs → p (get_or xs i d) ≡ true
all_at p [] i d h l = absurd (omega arith)
all_at p (x ∷ xs) zero d h l = (and_parts (p x) (list_all p xs) h).0
all_at p (x ∷ xs) (suc i) d h l = all_at p xs i d (and_parts (p x) (list_all p xs) h).1 (omega arith)

pub stands_at : (classes : List Strided) (ops : List Op) (table : List Classed) (i : ℕ) (op : Op) (a : Classed) → table ≡ map (classes_of classes) ops → list_all (has_classes classes) ops ≡ true → i < length ops
    → op ≡ get_or ops i op → a ≡ get_or table i a → Stands classes op a
stands_at classes ops table i op a t k l eo ea = record {
  same = ea ∙ ap (λ ts. get_or ts i a) t ∙ at_map (classes_of classes) ops i op a l ∙ ap (classes_of classes) (sym eo);
  known = ap (has_classes classes) eo ∙ all_at (has_classes classes) ops i op k l;
}

-- ---- every view of the list has a class

keeps : (seen : List Strided) (v w : Strided) → list_any (identical w) seen ≡ true → list_any (identical w) (with_first seen v) ≡ true
keeps seen v w h = elim (list_any (identical v) seen) as (λ b. list_any (identical w) (cond b seen (seen ++ v ∷ [])) ≡ true) [
  | true ↦ h
  | false ↦ list_any-append (identical w) seen (v ∷ []) ∙ ap (λ b. b || (identical w v || false)) h
]

comes : (seen : List Strided) (v : Strided) → list_any (identical v) (with_first seen v) ≡ true
comes seen v = elim (list_any (identical v) seen) as (λ b. list_any (identical v) seen ≡ b → list_any (identical v) (cond b seen (seen ++ v ∷ [])) ≡ true) [
  | true ↦ λ e. e
  | false ↦ λ e. list_any-append (identical v) seen (v ∷ []) ∙ ap (λ b. list_any (identical v) seen || (b || false)) (itself v) ∙ or_true (list_any (identical v) seen)
] refl
  where
    itself : (v : Strided) → identical v v ≡ true
    itself v = identical_if v v (record { base = refl; lengths = refl; places = refl })

    or_true : (b : Bool) → (b || true) ≡ true
    or_true true = refl
    or_true false = refl

all_kept : (vs seen : List Strided) (w : Strided) → list_any (identical w) seen ≡ true → list_any (identical w) (fold with_first seen vs) ≡ true
all_kept [] seen w h = h
all_kept (v ∷ vs) seen w h = all_kept vs (with_first seen v) w (keeps seen v w h)

all_come : (vs seen : List Strided) → list_all (λ w. list_any (identical w) (fold with_first seen vs)) vs ≡ true
all_come [] seen = refl
all_come (v ∷ vs) seen =
    and_from (list_any (identical v) (fold with_first seen (v ∷ vs))) _ (all_kept vs (with_first seen v) v (comes seen v)) (all_come vs (with_first seen v))

by_ops : (p : Strided → Bool) (ops : List Op) → list_all p (flat_map views ops) ≡ true → list_all (λ op. list_all p (views op)) ops ≡ true
by_ops p [] h = refl
by_ops p (op ∷ ops) h =
    let r = and_parts (list_all p (views op)) (list_all p (flat_map views ops)) (sym (list_all-append p (views op) (flat_map views ops)) ∙ h) in
    and_from (list_all p (views op)) (list_all (λ o. list_all p (views o)) ops) r.0 (by_ops p ops r.1)

pub all_known : (ops : List Op) (all classes : List Strided) → all ≡ flat_map views ops → classes ≡ firsts all → list_all (has_classes classes) ops ≡ true
all_known ops all classes e f =
    subst (λ cs. list_all (has_classes cs) ops ≡ true) (sym (f ∙ ap firsts e)) (by_ops (λ w. list_any (identical w) (firsts (flat_map views ops))) ops (all_come (flat_map views ops) []))

views_few : (op : Op) → length (views op) ≤ 3
views_few op = omega (arith, length-append (outputs op) (inputs op), length-append (view_of op.first) (view_of op.second), at_most op.out, one op.first, one op.second)
  where
    at_most : (o : Option Strided) → length (option_to_list o) ≤ 1
    at_most None = omega arith
    at_most (Some v) = omega arith

    one : (o : Option Operand) → length (view_of o) ≤ 1
    one None = omega arith
    one (Some (Array v)) = omega arith
    one (Some (Number z)) = omega arith

pub all_few : (ops : List Op) → length (flat_map views ops) ≤ 3 * length ops
all_few [] = omega arith
all_few (op ∷ ops) = omega (arith, length-append (views op) (flat_map views ops), views_few op, all_few ops)

-- ---- one test or another

pub first_decides : (a b d : Bool) → a ≡ true → (a || b) ≡ d → a ≡ d
first_decides true b d e f = f
first_decides false b d e f = absurd (false≢true e)

pub second_decides : (a b d : Bool) → a ≡ false → (a || b) ≡ d → b ≡ d
second_decides true b d e f = absurd (false≢true (sym e))
second_decides false b d e f = f

-- ---- shapes that are walked

pub same_lists_is : (xs ys : List ℕ) → pointwise eqb xs ys ≡ same_lists xs ys
same_lists_is [] [] = refl
same_lists_is [] (y ∷ ys) = refl
same_lists_is (x ∷ xs) [] = refl
same_lists_is (x ∷ xs) (y ∷ ys) = ap (λ b. (x == y) && b) (same_lists_is xs ys)

-- the shapes of views
abbrev pub shapes : List Strided → List (List ℕ)
shapes vs = map (λ (v : Strided). v.lengths) vs

pub both_walk : (vs ws : List Strided) (v w : Strided) → Some v ≡ first_view vs → Some w ≡ first_view ws → same_lists v.lengths w.lengths ≡ same_walk (shapes vs) (shapes ws)
both_walk [] ws v w e f = absurd (false≢true (sym (ap is_some e)))
both_walk (x ∷ vs) [] v w e f = absurd (false≢true (sym (ap is_some f)))
both_walk (x ∷ vs) (y ∷ ws) v w e f = ap₂ (λ (a b : Strided). same_lists a.lengths b.lengths) (held v x e) (held w y f)
  where
    held : (a b : Strided) → Some a ≡ Some b → a ≡ b
    held a b k = (cc)

pub right_walks_none : (vs ws : List Strided) → None ≡ first_view ws → false ≡ same_walk (shapes vs) (shapes ws)
right_walks_none [] [] e = refl
right_walks_none (v ∷ vs) [] e = refl
right_walks_none vs (w ∷ ws) e = absurd (false≢true (ap is_some e))

-- the views of which the first gives the shape
abbrev pub walkers : Op → List Strided
walkers op = cond (walks_input op.code) (inputs op) (outputs op)
