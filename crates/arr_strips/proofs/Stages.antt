-- A block's operations, one after another, each find what they need.
use Rattle.std.proofs.Common.{◌≡◌, ℕ, ◌+◌, ◌≤◌, ◌<◌, suc, zero, pos, List, [], ◌∷◌, ◌++◌, Bool, true, false, cond, not, ◌||◌, ◌&&◌, refl, ap, ap₂, sym, ◌∙◌, subst, arith, map, length, get_or, replicate, Option, Some, None}
use Rattle.std.proofs.lemmas.Bool.{false≢true, eqb-true, eq-eqb, eqb-false, ne_eqb, ltb-true}
use Rattle.std.proofs.lemmas.List.{length-replicate}
use Rattle.std.proofs.lemmas.List.FromFn.{get_or-range_with_len}
use Rattle.std.specs.Prelude.{nat_eq, nat_lt, ◌==◌, is_some}
use Rattle.std.specs.List.{AllByRecursion, list_any, list_all, range_with_len}
use Rattle.std.specs.Option.{option_to_list}
use Rattle.arr_view.specs.Strided.{Strided}
use Rattle.arr_view.specs.Views.{elements, positions, has, identical, repeats, is_view}
use Rattle.arr_view.proofs.Checks.{lawful}
use Rattle.arr_view.proofs.Counting.{some_position}
use Rattle.arr_num.specs.Kinds.{is_reduction}
use Rattle.arr_ops.specs.declared.op.Op.{Op}
use Rattle.arr_ops.specs.Ops.{outputs, inputs, views, freed, named, serial, makes_base, creates}
use Rattle.arr_ops.specs.Memory.{Memory, out_lengths, computed, step}
use Rattle.arr_ops.specs.Formed.{well_formed, kind_kept, writes_once, is_whole, inside_made, may_precede}
use Rattle.arr_ops.proofs.Pairs.{Pairs, All_weaker}
use Rattle.arr_ops.proofs.Tests.{both_left, both_right, same_from_test, all_of, or_cases}
use Rattle.arr_ops.proofs.Lengths.{length-elements}
use Rattle.arr_ops.proofs.Spots.{all_left, all_right, all_two, views_of, strides_of}
use Rattle.arr_strips.specs.Columns.{place_at, look, Live, live_after, fills, filled, fold_outs, count}
use Rattle.arr_strips.proofs.Cells.{room}
use Rattle.arr_strips.specs.Strips.{outline, size}
use Rattle.arr_strips.proofs.Values.{Columnar, Folding}
use Rattle.arr_strips.proofs.Eager.{Meets, Clear, Suited, Placed, Ready, Runs, all_outs, outs_filled, outline_step}
use Rattle.arr_strips.proofs.Strips.{Once}
use Rattle.arr_strips.proofs.Fused.{Prints, none_after}
use Rattle.arr_strips.proofs.Sames.{untrue, or_true, same_base, same_elements, identical_itself, identical_on, none_if, any_all, all_append, turn}
use Rattle.arr_strips.proofs.Sorts.{sorts, outs_some, outs_none, ins_one, ins_none, ins_folded, column_some, column_not, column_none, fold_some, fold_not, fold_none, reducing_is, walked_plain, walked_showing, walked_reducing, AtShape, once_of, Longs, Heeds, AllHeed, heeds_all, walkings, walkings_of}

-- ---- lists

any_lift : {X : Type 0} (p q : X → Bool) (xs : List X) → list_any p xs ≡ true → AllByRecursion (λ x. p x ≡ true → q x ≡ true) xs → list_any q xs ≡ true
any_lift p q [] h a = h
any_lift p q (x ∷ xs) h a =
    or_cases (p x) (list_any p xs) h (λ e. ap (λ t. t || list_any q xs) (a.0 e)) (λ e. or_true (q x) (list_any q xs) (any_lift p q xs e a.1))

pub all_pull : {X Y : Type 0} (P : Y → Type 0) (Q : X → Y → Type 0) (xs : List X) → ((y : Y) → P y → AllByRecursion (λ x. Q x y) xs) → AllByRecursion (λ x. (y : Y) → P y → Q x y) xs
all_pull P Q [] h = tt
all_pull P Q (x ∷ xs) h = ((λ y p. (h y p).0), all_pull P Q xs (λ y p. (h y p).1))

pub all_when : {X : Type 0} (A : Type 0) (Q : X → Type 0) (xs : List X) → (A → AllByRecursion Q xs) → AllByRecursion (λ x. A → Q x) xs
all_when A Q [] h = tt
all_when A Q (x ∷ xs) h = ((λ a. (h a).0), all_when A Q xs (λ a. (h a).1))

pub all_at : (p : ℕ → Bool) (xs : List ℕ) (i : ℕ) → list_all p xs ≡ true → i < length xs → p (get_or xs i 0) ≡ true
all_at p [] i h l = absurd (omega arith)
all_at p (x ∷ xs) zero h l = both_left (p x) (list_all p xs) h
all_at p (x ∷ xs) (suc i) h l = all_at p xs i (both_right (p x) (list_all p xs) h) (omega arith)

all_weak : (p q : ℕ → Bool) → ((e : ℕ) → p e ≡ true → q e ≡ true) → (xs : List ℕ) → list_all p xs ≡ true → list_all q xs ≡ true
all_weak p q f [] h = refl
all_weak p q f (x ∷ xs) h = ap₂ (λ a b. a && b) (f x (both_left (p x) (list_all p xs) h)) (all_weak p q f xs (both_right (p x) (list_all p xs) h))

has_bases : (vs : List Strided) → AllByRecursion (λ (v : Strided). has (map (λ (w : Strided). w.base) vs) v.base ≡ true) vs
has_bases [] = tt
has_bases (v ∷ vs) = (
  ap (λ t. t || has (map (λ (w : Strided). w.base) vs) v.base) (eq-eqb v.base v.base refl),
  All_weaker (λ (u : Strided). has (map (λ (w : Strided). w.base) vs) u.base ≡ true) (λ (u : Strided). has (map (λ (w : Strided). w.base) (v ∷ vs)) u.base ≡ true)
      (λ u t. or_true (nat_eq u.base v.base) _ t) vs (has_bases vs),
)

has_left : (xs ys : List ℕ) (b : ℕ) → has xs b ≡ true → has (xs ++ ys) b ≡ true
has_left [] ys b h = absurd (false≢true h)
has_left (x ∷ xs) ys b h = or_cases (nat_eq b x) (has xs b) h (λ e. ap (λ t. t || has (xs ++ ys) b) e) (λ t. or_true (nat_eq b x) _ (has_left xs ys b t))

pub names_views : (f : Op) → AllByRecursion (λ (v : Strided). has (named f) v.base ≡ true) (views f)
names_views f =
    All_weaker (λ (v : Strided). has (map (λ (w : Strided). w.base) (views f)) v.base ≡ true) (λ (v : Strided). has (named f) v.base ≡ true)
    (λ v t. has_left (map (λ (w : Strided). w.base) (views f)) (freed f) v.base t) (views f) (has_bases (views f))

-- ---- what may stand before what

spared : (frees : Option ℕ) (names : List ℕ) (b : ℕ) → list_all (λ k. not (has names k)) (option_to_list frees) ≡ true → has names b ≡ true → has (option_to_list frees) b ≡ false
spared None names b h t = refl
spared (Some k) names b h t =
    elim (nat_eq b k) as (λ z. nat_eq b k ≡ z → (z || false) ≡ false) [
      | true ↦ λ e. absurd (false≢true (sym (untrue (has names k) (both_left (not (has names k)) true h)) ∙ ap (has names) (sym (eqb-true b k e)) ∙ t))
      | false ↦ λ e. refl
    ] refl

-- f frees no base that g names
pub unfreed : (f g : Op) → may_precede f g ≡ true → (b : ℕ) → has (named g) b ≡ true → has (freed f) b ≡ false
unfreed f g h b t = spared f.frees (named g) b (both_right (not g.makes || list_all (λ (o : Strided). not (has (named f) o.base)) (outputs g)) _ h) t

-- g makes no base that f names
pub unmade : (f g : Op) → may_precede f g ≡ true → (b : ℕ) → has (named f) b ≡ true → makes_base g b ≡ false
unmade f g h b t = at g.makes (both_left (not g.makes || list_all (λ (o : Strided). not (has (named f) o.base)) (outputs g)) _ h)
  where
    none : (os : List Strided) → list_all (λ (o : Strided). not (has (named f) o.base)) os ≡ true → list_any (λ (o : Strided). o.base == b) os ≡ false
    none [] k = refl
    none (o ∷ os) k =
        elim (o.base == b) as (λ z. (o.base == b) ≡ z → (z || list_any (λ (o : Strided). o.base == b) os) ≡ false) [
          | true ↦ λ e. absurd (false≢true (sym (untrue (has (named f) o.base) (both_left (not (has (named f) o.base)) _ k)) ∙ ap (has (named f)) (eqb-true o.base b e) ∙ t))
          | false ↦ λ e. none os (both_right (not (has (named f) o.base)) _ k)
        ] refl

    at : (z : Bool) → (not z || list_all (λ (o : Strided). not (has (named f) o.base)) (outputs g)) ≡ true → (z && list_any (λ (o : Strided). o.base == b) (outputs g)) ≡ false
    at true k = none (outputs g) k
    at false k = refl

made_elsewhere : (f : Op) (b : ℕ) → has (named f) b ≡ false → makes_base f b ≡ false
made_elsewhere f b h = at f.makes (none (outputs f) (all_left (λ (v : Strided). has (named f) v.base ≡ true) (outputs f) (inputs f) (names_views f)))
  where
    none : (os : List Strided) → AllByRecursion (λ (v : Strided). has (named f) v.base ≡ true) os → list_any (λ (o : Strided). o.base == b) os ≡ false
    none [] k = refl
    none (o ∷ os) k =
        elim (o.base == b) as (λ z. (o.base == b) ≡ z → (z || list_any (λ (o : Strided). o.base == b) os) ≡ false) [
          | true ↦ λ e. absurd (false≢true (sym h ∙ ap (has (named f)) (sym (eqb-true o.base b e)) ∙ k.0))
          | false ↦ λ e. none os k.1
        ] refl

    at : (z : Bool) → list_any (λ (o : Strided). o.base == b) (outputs f) ≡ false → (z && list_any (λ (o : Strided). o.base == b) (outputs f)) ≡ false
    at true k = k
    at false k = refl

-- a base that a creator may make is not named before
unnamed : (f k : Op) → may_precede f k ≡ true → k.makes ≡ true → AllByRecursion (λ (o : Strided). has (named f) o.base ≡ false) (outputs k)
unnamed f k h m =
    All_weaker (λ (o : Strided). not (has (named f) o.base) ≡ true) (λ (o : Strided). has (named f) o.base ≡ false) (λ o t. untrue _ t) (outputs k)
    (all_of (λ (o : Strided). not (has (named f) o.base)) (outputs k)
    (ap (λ z. not z || list_all (λ (o : Strided). not (has (named f) o.base)) (outputs k)) (sym m) ∙ both_left (not k.makes || list_all (λ (o : Strided). not (has (named f) o.base)) (outputs k)) _ h))

-- ---- one operation by itself

module _ (n : ℕ) where
  pub record Alone (f : Op) : Type 0 where
    pub suited : Suited n f
    pub sizes : AllByRecursion (λ (o : Strided). positions o.lengths ≡ count f) (outputs f)
    pub longs : Longs n (walkings f)
    pub out_longs : AllByRecursion (λ (o : Strided). length (elements o) ≡ count f) (outputs f)
    pub once : AllByRecursion (Once (count f)) (outputs f)
    pub column_once : AllByRecursion (Once n) (filled f)
    pub own : AllHeed n f (walkings f)
    pub kept : AllByRecursion (λ (o : Strided). f.frees ≡ None) (outputs f)
    pub whole : AllByRecursion (λ (o : Strided). f.makes ≡ true → (elements o ≡ range_with_len 0 (count f)) × AllByRecursion (λ (v : Strided). (v.base == o.base) ≡ false) (inputs f)) (outputs f)
    pub prints : (k : ℕ) → f.slot ≡ Some k → Prints f
    pub some : AllByRecursion (λ (v : Strided). 1 ≤ n) (walkings f)

  -- f, and g after it
  pub record Beside (f g : Op) : Type 0 where
    pub precedes : may_precede f g ≡ true
    pub inside : inside_made f g ≡ true
    pub forth : AllHeed n f (walkings g)
    pub back : AllHeed n g (walkings f)

-- what is so of each operation
sizes_of : (out : Option Strided) → AllByRecursion (λ (o : Strided). positions o.lengths ≡ positions (out_lengths out)) (option_to_list out)
sizes_of None = tt
sizes_of (Some o) = (refl, tt)

some_not : {k : ℕ} → None ≡ Some k → ⊥
some_not e = cc

module _ (f : Op) (well : well_formed f ≡ true) where
  longs_of : AllByRecursion (λ (o : Strided). length (elements o) ≡ count f) (outputs f)
  longs_of =
      all_two (λ v. is_view v ≡ true) (λ (o : Strided). positions o.lengths ≡ count f) (λ (o : Strided). length (elements o) ≡ count f) (λ o x y. length-elements o (strides_of o x) ∙ y) (outputs f)
      (all_left (λ v. is_view v ≡ true) (outputs f) (inputs f) (views_of f well)) (sizes_of f.out)

  onces_of : AllByRecursion (Once (count f)) (outputs f)
  onces_of =
      all_two (λ (o : Strided). length (elements o) ≡ count f) (λ o. not (repeats o) ≡ true) (Once (count f))
      (λ o l t i j x y e. once_of (elements o) (untrue (repeats o) t) i j (omega arith) (omega arith) e) (outputs f) longs_of
      (all_of (λ o. not (repeats o)) (outputs f) (both_left (writes_once f) _ (both_right (list_all is_view (views f)) _ (both_right (kind_kept f) _ well))))

  abbrev test : Strided → Bool
  test o = is_whole o && list_all (λ (v : Strided). not (v.base == o.base)) (inputs f)

  tests : f.makes ≡ true → AllByRecursion (λ o. test o ≡ true) (outputs f)
  tests m =
      all_of test (outputs f) (both_right (is_some f.out) _ (ap (λ z. not z || (is_some f.out && list_all test (outputs f))) (sym m)
      ∙ both_right (writes_once f) _ (both_right (list_all is_view (views f)) _ (both_right (kind_kept f) _ well))))

  wholes : AllByRecursion (λ (o : Strided). f.makes ≡ true → (elements o ≡ range_with_len 0 (count f)) × AllByRecursion (λ (v : Strided). (v.base == o.base) ≡ false) (inputs f)) (outputs f)
  wholes =
      all_two (λ (o : Strided). positions o.lengths ≡ count f) (λ o. f.makes ≡ true → test o ≡ true)
      (λ (o : Strided). f.makes ≡ true → (elements o ≡ range_with_len 0 (count f)) × AllByRecursion (λ (v : Strided). (v.base == o.base) ≡ false) (inputs f))
      (λ o e t m. (
        same_from_test (elements o) (range_with_len 0 (positions o.lengths)) (both_left (is_whole o) _ (t m)) ∙ ap (range_with_len 0) e,
        All_weaker (λ (v : Strided). not (v.base == o.base) ≡ true) (λ (v : Strided). (v.base == o.base) ≡ false) (λ v k. untrue _ k) (inputs f)
            (all_of (λ (v : Strided). not (v.base == o.base)) (inputs f) (both_right (is_whole o) _ (t m))),
      )) (outputs f) (sizes_of f.out) (all_when (f.makes ≡ true) (λ o. test o ≡ true) (outputs f) tests)

-- an operation that walks the shape
module _ (shape : List ℕ) where
  abbrev area : ℕ
  area = positions shape

  view_long : (v : Strided) → is_view v ≡ true → v.lengths ≡ shape → length (elements v) ≡ area
  view_long v h e = length-elements v (strides_of v h) ∙ ap positions e

  view_some : (v : Strided) → is_view v ≡ true → v.lengths ≡ shape → 1 ≤ area
  view_some v h e = subst (λ (s : List ℕ). 1 ≤ positions s) e (some_position v.lengths (lawful v h).lengths)

  -- what differs from sort to sort
  record Mode (f : Op) : Type 0 where
    columnar : AllByRecursion (λ (o : Strided). Columnar area f) (filled f)
    folding : AllByRecursion (λ (o : Strided). Folding area f) (fold_outs f)
    walks_at : AllByRecursion (λ (v : Strided). v.lengths ≡ shape) (walkings f)
    kept : AllByRecursion (λ (o : Strided). f.frees ≡ None) (outputs f)
    prints : (k : ℕ) → f.slot ≡ Some k → Prints f

  mode_of : (f : Op) → well_formed f ≡ true → AtShape shape f → Mode f
  mode_of f well at =
      sorts f well
      (λ o z p.
      let here : o.lengths ≡ shape = (subst (λ (ss : List (List ℕ)). AllByRecursion (λ s. s ≡ shape) ss) (walked_plain f o z p.out) at).0 in
      record {
        columnar = column_some (λ (o : Strided). Columnar area f) f o z.not_fold p.out (z.columns area (ap (λ x. positions (out_lengths x)) p.out ∙ ap positions here));
        folding = fold_not (λ (o : Strided). Folding area f) f z.not_fold;
        walks_at = all_append (λ (v : Strided). v.lengths ≡ shape) (filled f) (inputs f) (column_some (λ (v : Strided). v.lengths ≡ shape) f o z.not_fold p.out here)
            (All_weaker (λ (v : Strided). v.lengths ≡ o.lengths) (λ (v : Strided). v.lengths ≡ shape) (λ v e. e ∙ here) (inputs f) p.shapes);
        kept = outs_some (λ (o : Strided). f.frees ≡ None) f o p.out p.no_free;
        prints = λ k e. absurd (some_not (sym p.no_slot ∙ e));
      })
      (λ v s.
      let here : v.lengths ≡ shape = (subst (λ (ss : List (List ℕ)). AllByRecursion (λ s. s ≡ shape) ss) (walked_showing f v s) at).0 in
      record {
        columnar = column_none (λ (o : Strided). Columnar area f) f s.no_out;
        folding = fold_none (λ (o : Strided). Folding area f) f s.no_out;
        walks_at = all_append (λ (v : Strided). v.lengths ≡ shape) (filled f) (inputs f) (column_none (λ (v : Strided). v.lengths ≡ shape) f s.no_out) (ins_one (λ (v : Strided). v.lengths ≡ shape) f v s here);
        kept = outs_none (λ (o : Strided). f.frees ≡ None) f s.no_out;
        prints = λ k e. record { view = v; kind_is = s.kind_is; first_is = s.first_is };
      })
      (λ s. record {
        columnar = column_none (λ (o : Strided). Columnar area f) f s.no_out;
        folding = fold_none (λ (o : Strided). Folding area f) f s.no_out;
        walks_at = all_append (λ (v : Strided). v.lengths ≡ shape) (filled f) (inputs f) (column_none (λ (v : Strided). v.lengths ≡ shape) f s.no_out) (ins_none (λ (v : Strided). v.lengths ≡ shape) f s);
        kept = outs_none (λ (o : Strided). f.frees ≡ None) f s.no_out;
        prints = λ k e. absurd (some_not (sym s.no_slot ∙ e));
      })
      (λ o v s.
      let here : v.lengths ≡ shape = (subst (λ (ss : List (List ℕ)). AllByRecursion (λ s. s ≡ shape) ss) (walked_reducing f o v s) at).0 in
      record {
        columnar = column_not (λ (o : Strided). Columnar area f) f (reducing_is f o v s);
        folding = fold_some (λ (o : Strided). Folding area f) f o (reducing_is f o v s) s.out (s.folding_at area);
        walks_at = all_append (λ (v : Strided). v.lengths ≡ shape) (filled f) (inputs f) (column_not (λ (v : Strided). v.lengths ≡ shape) f (reducing_is f o v s))
            (ins_folded (λ (v : Strided). v.lengths ≡ shape) f o v s here);
        kept = outs_some (λ (o : Strided). f.frees ≡ None) f o s.out s.no_free;
        prints = λ k e. absurd (some_not (sym s.no_slot ∙ e));
      })

  self_meets : (out : Option Strided) → AllByRecursion (Once area) (option_to_list out) → AllByRecursion (λ v. AllByRecursion (λ o. Meets area o v) (option_to_list out)) (option_to_list out)
  self_meets None once = tt
  self_meets (Some o) once = (((λ i j a b base e. (once.0 i j a b e, identical_itself o)), tt), tt)

  self_clear : (z : Bool) (out : Option Strided) → AllByRecursion (λ v. AllByRecursion (λ o. Clear area o v) (option_to_list (cond z out None))) (option_to_list (cond z None out))
  self_clear true out = tt
  self_clear false None = tt
  self_clear false (Some o) = (tt, tt)

  pub alone_of : (f : Op) → well_formed f ≡ true → not (serial f) ≡ true → AtShape shape f → Alone area f
  alone_of f well parallel at =
      let mode : Mode f = mode_of f well at in
      let seen : AllByRecursion (λ v. is_view v ≡ true) (walkings f) = walkings_of (λ v. is_view v ≡ true) f (views_of f well) in
      let longs : Longs area (walkings f) = all_two (λ v. is_view v ≡ true) (λ (v : Strided). v.lengths ≡ shape) (λ (v : Strided). length (elements v) ≡ area) view_long (walkings f) seen mode.walks_at in
      let sized : AllByRecursion (λ (o : Strided). count f ≡ area) (filled f) =
      all_two (λ (o : Strided). positions o.lengths ≡ count f) (λ (o : Strided). o.lengths ≡ shape) (λ (o : Strided). count f ≡ area) (λ o x y. sym x ∙ ap positions y) (filled f)
      (outs_filled (λ (o : Strided). positions o.lengths ≡ count f) f (sizes_of f.out)) (all_left (λ (v : Strided). v.lengths ≡ shape) (filled f) (inputs f) mode.walks_at) in
      let once : AllByRecursion (Once area) (filled f) =
      all_two (λ (o : Strided). count f ≡ area) (Once (count f)) (Once area) (λ o e k. subst (λ c. Once c o) e k) (filled f) sized (outs_filled (Once (count f)) f (onces_of f well)) in
      let column_longs : Longs area (filled f) = all_left (λ (v : Strided). length (elements v) ≡ area) (filled f) (inputs f) longs in
      let in_longs : Longs area (inputs f) = all_right (λ (v : Strided). length (elements v) ≡ area) (filled f) (inputs f) longs in
      record {
        suited = record { columnar = mode.columnar; sized = sized; folding = mode.folding; long = in_longs };
        sizes = sizes_of f.out;
        longs = longs;
        out_longs = longs_of f well;
        once = onces_of f well;
        column_once = once;
        own = all_append (Heeds area f) (filled f) (inputs f)
            (all_two (λ v. AllByRecursion (λ o. Meets area o v) (filled f)) (λ v. AllByRecursion (λ o. Clear area o v) (fold_outs f)) (Heeds area f) (λ v x y. record { meets = x; clear = y }) (filled f)
            (self_meets (fills f) once) (self_clear (is_reduction f.code) f.out))
            (heeds_all area f (inputs f) once column_longs in_longs (untrue (serial f) parallel));
        kept = mode.kept;
        whole = wholes f well;
        prints = mode.prints;
        some = all_two (λ v. is_view v ≡ true) (λ (v : Strided). v.lengths ≡ shape) (λ (v : Strided). 1 ≤ area) view_some (walkings f) seen mode.walks_at;
      }

-- ---- stages

module _ (n : ℕ) where
  -- the views in a base that f makes lie inside it
  pub made_inside : (f g : Op) → Alone n f → inside_made f g ≡ true → AllByRecursion (λ (v : Strided). makes_base f v.base ≡ true → list_all (λ e. nat_lt e (count f)) (elements v) ≡ true) (views g)
  made_inside f g a d =
      All_weaker (λ (v : Strided). f.makes ≡ true → AllByRecursion (λ (o : Strided). (o.base == v.base) ≡ true → list_all (λ e. nat_lt e (count f)) (elements v) ≡ true) (outputs f))
      (λ (v : Strided). makes_base f v.base ≡ true → list_all (λ e. nat_lt e (count f)) (elements v) ≡ true)
      (λ v h t. any_all (λ (o : Strided). o.base == v.base) (λ (o : Strided). (o.base == v.base) ≡ true → list_all (λ e. nat_lt e (count f)) (elements v) ≡ true) (outputs f) (both_right f.makes _ t) (h (both_left f.makes _ t)) (λ o e k. k e))
      (views g)
      (all_when (f.makes ≡ true) (λ v. AllByRecursion (λ (o : Strided). (o.base == v.base) ≡ true → list_all (λ e. nat_lt e (count f)) (elements v) ≡ true) (outputs f)) (views g)
      (λ m. turn (λ (o v : Strided). (o.base == v.base) ≡ true → list_all (λ e. nat_lt e (count f)) (elements v) ≡ true) (outputs f) (views g)
      (all_two (λ (o : Strided). positions o.lengths ≡ count f) (λ (o : Strided). list_all (λ (v : Strided). not (o.base == v.base) || list_all (λ e. nat_lt e (positions o.lengths)) (elements v)) (views g) ≡ true)
      (λ (o : Strided). AllByRecursion (λ (v : Strided). (o.base == v.base) ≡ true → list_all (λ e. nat_lt e (count f)) (elements v) ≡ true) (views g))
      (λ o size h. All_weaker (λ (v : Strided). (not (o.base == v.base) || list_all (λ e. nat_lt e (positions o.lengths)) (elements v)) ≡ true) (λ (v : Strided). (o.base == v.base) ≡ true → list_all (λ e. nat_lt e (count f)) (elements v) ≡ true)
      (λ v t e. ap (λ k. list_all (λ e. nat_lt e k) (elements v)) (sym size) ∙ ap (λ z. not z || list_all (λ e. nat_lt e (positions o.lengths)) (elements v)) (sym e) ∙ t) (views g)
      (all_of (λ (v : Strided). not (o.base == v.base) || list_all (λ e. nat_lt e (positions o.lengths)) (elements v)) (views g) h))
      (outputs f) a.sizes
      (all_of (λ (o : Strided). list_all (λ (v : Strided). not (o.base == v.base) || list_all (λ e. nat_lt e (positions o.lengths)) (elements v)) (views g)) (outputs f)
      (ap (λ z. not z || list_all (λ (o : Strided). list_all (λ (v : Strided). not (o.base == v.base) || list_all (λ e. nat_lt e (positions o.lengths)) (elements v)) (views g)) (outputs f)) (sym m) ∙ d)))))

  -- where a view meets an output of f, it is the column of f
  abbrev Near : Op → Strided → Strided → Type 0
  Near f v o = (i j : ℕ) → i < length (elements o) → j < n → o.base ≡ v.base → place_at o i ≡ place_at v j → list_any (λ u. identical u v) (filled f) ≡ true

  near : (f : Op) (v : Strided) → Longs n (filled f) → Heeds n f v → AllByRecursion (Near f v) (outputs f)
  near f v long h =
      all_outs (Near f v) f (columns (fills f) long h.meets)
      (All_weaker (λ o. Clear n o v) (Near f v) (λ o c i j a b base at. absurd (c i j a b base at)) (fold_outs f) h.clear)
    where
      columns : (out : Option Strided) → Longs n (option_to_list out) → AllByRecursion (λ o. Meets n o v) (option_to_list out)
          → AllByRecursion (λ o. (i j : ℕ) → i < length (elements o) → j < n → o.base ≡ v.base → place_at o i ≡ place_at v j → list_any (λ u. identical u v) (option_to_list out) ≡ true) (option_to_list out)
      columns None l m = tt
      columns (Some o) l m = ((λ i j a b base at. let long : length (elements o) ≡ n = l.0 in ap (λ t. t || false) (m.0 i j (omega arith) b base at).1), tt)

  -- what f makes that a view of g lies in, is that view
  made_is : (f g : Op) → Alone n f → Beside n f g → Alone n g → AllByRecursion (λ (v : Strided). makes_base f v.base ≡ true → list_any (λ o. identical o v) (filled f) ≡ true) (walkings g)
  made_is f g a d c =
      all_two (λ (v : Strided). (length (elements v) ≡ n) × (1 ≤ n)) (λ (v : Strided). AllByRecursion (Near f v) (outputs f) × (makes_base f v.base ≡ true → list_all (λ e. nat_lt e (count f)) (elements v) ≡ true))
      (λ (v : Strided). makes_base f v.base ≡ true → list_any (λ o. identical o v) (filled f) ≡ true)
      (λ v x y t.
      let longv : length (elements v) ≡ n = x.0 in
      let least : 1 ≤ n = x.1 in
      let first : place_at v 0 < count f = ltb-true (place_at v 0) (count f) (all_at (λ k. nat_lt k (count f)) (elements v) 0 (y.1 t) (omega arith)) in
      any_all (λ (o : Strided). o.base == v.base) (λ (o : Strided). Near f v o × ((length (elements o) ≡ count f) × (elements o ≡ range_with_len 0 (count f)))) (outputs f) (both_right f.makes _ t)
      (all_two (Near f v) (λ (o : Strided). (length (elements o) ≡ count f) × (elements o ≡ range_with_len 0 (count f))) (λ (o : Strided). Near f v o × ((length (elements o) ≡ count f) × (elements o ≡ range_with_len 0 (count f))))
      (λ o p q. (p, q)) (outputs f) y.0
      (all_two (λ (o : Strided). length (elements o) ≡ count f)
      (λ (o : Strided). f.makes ≡ true → (elements o ≡ range_with_len 0 (count f)) × AllByRecursion (λ (v : Strided). (v.base == o.base) ≡ false) (inputs f))
      (λ (o : Strided). (length (elements o) ≡ count f) × (elements o ≡ range_with_len 0 (count f))) (λ o p q. (p, (q (both_left f.makes _ t)).0)) (outputs f) a.out_longs a.whole))
      (λ o e q.
      let long : length (elements o) ≡ count f = q.1.0 in
      let there : place_at o (place_at v 0) ≡ place_at v 0 =
      ap (λ es. get_or es (place_at v 0) 0) q.1.1 ∙ get_or-range_with_len 0 (count f) (place_at v 0) 0 first ∙ (let z : 0 + place_at v 0 ≡ place_at v 0 = omega arith in z) in
      q.0 (place_at v 0) 0 (omega arith) (omega arith) (eqb-true o.base v.base e) there))
      (walkings g)
      (all_two (λ (v : Strided). length (elements v) ≡ n) (λ (v : Strided). 1 ≤ n) (λ (v : Strided). (length (elements v) ≡ n) × (1 ≤ n)) (λ v x y. (x, y)) (walkings g) c.longs c.some)
      (all_two (λ v. AllByRecursion (Near f v) (outputs f)) (λ (v : Strided). makes_base f v.base ≡ true → list_all (λ e. nat_lt e (count f)) (elements v) ≡ true)
      (λ (v : Strided). AllByRecursion (Near f v) (outputs f) × (makes_base f v.base ≡ true → list_all (λ e. nat_lt e (count f)) (elements v) ≡ true)) (λ v x y. (x, y)) (walkings g)
      (All_weaker (Heeds n f) (λ v. AllByRecursion (Near f v) (outputs f)) (λ v h. near f v (all_left (λ (v : Strided). length (elements v) ≡ n) (filled f) (inputs f) a.longs) h) (walkings g) d.forth)
      (walkings_of (λ (v : Strided). makes_base f v.base ≡ true → list_all (λ e. nat_lt e (count f)) (elements v) ≡ true) g (made_inside f g a d.inside)))

  -- ---- inputs are live

  abbrev pub Covers : Live → List Op → List Op → Type 0
  Covers live rest ks = AllByRecursion (λ k. AllByRecursion (λ (v : Strided). (live v || creates rest v.base) ≡ true) (inputs k)) ks

  covers_more : (f : Op) (rest : List Op) (live : Live) → Alone n f → (ks : List Op) → AllByRecursion (Beside n f) ks → AllByRecursion (Alone n) ks → Covers live (f ∷ rest) ks → Covers (live_after f live) rest ks
  covers_more f rest live a [] b c h = tt
  covers_more f rest live a (k ∷ ks) b c h = (
    all_two (λ (v : Strided). (has (named k) v.base ≡ true) × (makes_base f v.base ≡ true → list_any (λ o. identical o v) (filled f) ≡ true)) (λ (v : Strided). (live v || creates (f ∷ rest) v.base) ≡ true)
        (λ (v : Strided). (live_after f live v || creates rest v.base) ≡ true)
        (λ v x y. covered (has (freed f) v.base) (list_any (λ o. identical o v) (filled f)) (live v) (makes_base f v.base) (creates rest v.base) (unfreed f k b.0.precedes v.base x.0) x.1 y)
        (inputs k)
        (all_two (λ (v : Strided). has (named k) v.base ≡ true) (λ (v : Strided). makes_base f v.base ≡ true → list_any (λ o. identical o v) (filled f) ≡ true)
        (λ (v : Strided). (has (named k) v.base ≡ true) × (makes_base f v.base ≡ true → list_any (λ o. identical o v) (filled f) ≡ true)) (λ v p q. (p, q)) (inputs k)
        (all_right (λ (v : Strided). has (named k) v.base ≡ true) (outputs k) (inputs k) (names_views k))
        (all_right (λ (v : Strided). makes_base f v.base ≡ true → list_any (λ o. identical o v) (filled f) ≡ true) (filled k) (inputs k) (made_is f k a b.0 c.0))) h.0,
    covers_more f rest live a ks b.1 c.1 h.1,
  )
    where
      covered : (fr any lv mk cr : Bool) → fr ≡ false → (mk ≡ true → any ≡ true) → (lv || (mk || cr)) ≡ true → ((not fr && (any || lv)) || cr) ≡ true
      covered true any lv mk cr e f h = absurd (false≢true (sym e))
      covered false true lv mk cr e f h = refl
      covered false false true mk cr e f h = refl
      covered false false false true cr e f h = absurd (false≢true (f refl))
      covered false false false false cr e f h = h

  -- no later operation makes what f names
  none_later : (f : Op) (b : ℕ) → has (named f) b ≡ true → (rest : List Op) → AllByRecursion (Beside n f) rest → creates rest b ≡ false
  none_later f b t rest h =
      none_if (λ g. makes_base g b) rest (All_weaker (Beside n f) (λ g. makes_base g b ≡ false) (λ g d. unmade f g d.precedes b t) rest h)

  own_not : (f : Op) → Alone n f → AllByRecursion (λ (v : Strided). makes_base f v.base ≡ false) (inputs f)
  own_not f a =
      All_weaker (λ (v : Strided). f.makes ≡ true → AllByRecursion (λ (o : Strided). (o.base == v.base) ≡ false) (outputs f)) (λ (v : Strided). makes_base f v.base ≡ false)
      (λ v h. at v.base f.makes (λ m. none_if (λ (o : Strided). o.base == v.base) (outputs f) (h m))) (inputs f)
      (all_when (f.makes ≡ true) (λ v. AllByRecursion (λ (o : Strided). (o.base == v.base) ≡ false) (outputs f)) (inputs f)
      (λ m. turn (λ (o v : Strided). (o.base == v.base) ≡ false) (outputs f) (inputs f)
      (All_weaker (λ (o : Strided). f.makes ≡ true → (elements o ≡ range_with_len 0 (count f)) × AllByRecursion (λ (v : Strided). (v.base == o.base) ≡ false) (inputs f))
      (λ (o : Strided). AllByRecursion (λ (v : Strided). (o.base == v.base) ≡ false) (inputs f))
      (λ o h. All_weaker (λ (v : Strided). (v.base == o.base) ≡ false) (λ (v : Strided). (o.base == v.base) ≡ false) (λ v e. ne_eqb o.base v.base (λ d. eqb-false v.base o.base e (sym d))) (inputs f) (h m).1)
      (outputs f) a.whole)))
    where
      at : (b : ℕ) (z : Bool) → (z ≡ true → list_any (λ (o : Strided). o.base == b) (outputs f) ≡ false) → (z && list_any (λ (o : Strided). o.base == b) (outputs f)) ≡ false
      at b true h = h refl
      at b false h = refl

  head_known : (f : Op) (rest : List Op) (live : Live) → Alone n f → AllByRecursion (Beside n f) rest → AllByRecursion (λ (v : Strided). (live v || creates (f ∷ rest) v.base) ≡ true) (inputs f)
      → AllByRecursion (λ v. live v ≡ true) (inputs f)
  head_known f rest live a b h =
      all_two (λ (v : Strided). (makes_base f v.base ≡ false) × (has (named f) v.base ≡ true)) (λ (v : Strided). (live v || creates (f ∷ rest) v.base) ≡ true) (λ v. live v ≡ true)
      (λ v x y. only (live v) (makes_base f v.base) (creates rest v.base) x.0 (none_later f v.base x.1 rest b) y) (inputs f)
      (all_two (λ (v : Strided). makes_base f v.base ≡ false) (λ (v : Strided). has (named f) v.base ≡ true) (λ (v : Strided). (makes_base f v.base ≡ false) × (has (named f) v.base ≡ true)) (λ v p q. (p, q))
      (inputs f) (own_not f a) (all_right (λ (v : Strided). has (named f) v.base ≡ true) (outputs f) (inputs f) (names_views f))) h
    where
      only : (lv mk cr : Bool) → mk ≡ false → cr ≡ false → (lv || (mk || cr)) ≡ true → lv ≡ true
      only true mk cr a b h = refl
      only false true cr a b h = absurd (false≢true (sym a))
      only false false cr a b h = absurd (false≢true (sym b ∙ h))

  -- ---- outputs have room

  lies : Memory → Strided → Bool
  lies m o = list_all (λ e. nat_lt e (room m o.base)) (elements o)

  pub record Spot (m : Memory) (rest : List Op) (makes : Bool) (o : Strided) : Type 0 where
    pub there : makes ≡ false → (creates rest o.base || list_all (λ e. nat_lt e (room m o.base)) (elements o)) ≡ true
    pub fresh : makes ≡ true → m.bases o.base ≡ None

  abbrev pub Spots : Memory → List Op → List Op → Type 0
  Spots m rest ks = AllByRecursion (λ (k : Op). AllByRecursion (Spot m rest k.makes) (outputs k)) ks

  room_after : (m : Memory) (live : Live) (f : Op) → Ready n m live f → (b : ℕ) → has (freed f) b ≡ false → room (step m f) b ≡ cond (makes_base f b) (count f) (room m b)
  room_after m live f r b kept =
      ap size (outline_step n m (λ p v. look m v p) live f (λ v on p l. refl) r b (m.bases b) kept refl) ∙ at (makes_base f b)
    where
      at : (z : Bool) → size (outline (cond z (Some (record { elem = f.to; numbers = replicate (count f) (pos 0) })) (m.bases b))) ≡ cond z (count f) (room m b)
      at true = length-replicate (count f) (pos 0)
      at false = refl

  spots_more : (m : Memory) (live : Live) (f : Op) (rest : List Op) → Alone n f → Ready n m live f → (ks : List Op) → AllByRecursion (Beside n f) ks → Spots m (f ∷ rest) ks → Spots (step m f) rest ks
  spots_more m live f rest a r [] b h = tt
  spots_more m live f rest a r (k ∷ ks) b h = (
    all_two (λ (o : Strided). ((has (named k) o.base ≡ true) × (makes_base f o.base ≡ true → list_all (λ e. nat_lt e (count f)) (elements o) ≡ true)) × (k.makes ≡ true → has (named f) o.base ≡ false))
        (Spot m (f ∷ rest) k.makes) (Spot (step m f) rest k.makes)
        (λ o x s.
        let kept : has (freed f) o.base ≡ false = unfreed f k b.0.precedes o.base x.0.0 in
        record {
          there = λ e. ap (λ z. creates rest o.base || list_all (λ e. nat_lt e z) (elements o)) (room_after m live f r o.base kept)
              ∙ kept_inside o (makes_base f o.base) (creates rest o.base) x.0.1 (s.there e);
          fresh = λ e. none_after f.frees f.out f.makes f.to (computed m f) m.bases o.base (made_elsewhere f o.base (x.1 e)) (s.fresh e);
        }) (outputs k)
        (all_two (λ (o : Strided). (has (named k) o.base ≡ true) × (makes_base f o.base ≡ true → list_all (λ e. nat_lt e (count f)) (elements o) ≡ true)) (λ (o : Strided). k.makes ≡ true → has (named f) o.base ≡ false)
        (λ (o : Strided). ((has (named k) o.base ≡ true) × (makes_base f o.base ≡ true → list_all (λ e. nat_lt e (count f)) (elements o) ≡ true)) × (k.makes ≡ true → has (named f) o.base ≡ false)) (λ o p q. (p, q)) (outputs k)
        (all_left (λ (o : Strided). (has (named k) o.base ≡ true) × (makes_base f o.base ≡ true → list_all (λ e. nat_lt e (count f)) (elements o) ≡ true)) (outputs k) (inputs k)
        (all_two (λ (o : Strided). has (named k) o.base ≡ true) (λ (o : Strided). makes_base f o.base ≡ true → list_all (λ e. nat_lt e (count f)) (elements o) ≡ true)
        (λ (o : Strided). (has (named k) o.base ≡ true) × (makes_base f o.base ≡ true → list_all (λ e. nat_lt e (count f)) (elements o) ≡ true)) (λ o p q. (p, q)) (views k) (names_views k) (made_inside f k a b.0.inside)))
        (all_when (k.makes ≡ true) (λ (o : Strided). has (named f) o.base ≡ false) (outputs k) (λ e. unnamed f k b.0.precedes e))) h.0,
    spots_more m live f rest a r ks b.1 h.1,
  )
    where
      kept_inside : (o : Strided) (mk cr : Bool) → (mk ≡ true → list_all (λ e. nat_lt e (count f)) (elements o) ≡ true)
          → ((mk || cr) || list_all (λ e. nat_lt e (room m o.base)) (elements o)) ≡ true → (cr || list_all (λ e. nat_lt e (cond mk (count f) (room m o.base))) (elements o)) ≡ true
      kept_inside o mk true f h = refl
      kept_inside o true false f h = f refl
      kept_inside o false false f h = h

  head_placed : (m : Memory) (f : Op) (rest : List Op) → Alone n f → AllByRecursion (Beside n f) rest → AllByRecursion (Spot m (f ∷ rest) f.makes) (outputs f) → AllByRecursion (Placed (count f) m.bases f.makes) (outputs f)
  head_placed m f rest a b h =
      all_two (λ (o : Strided). ((length (elements o) ≡ count f) × Once (count f) o) × ((has (named f) o.base ≡ true) × (f.makes ≡ true → elements o ≡ range_with_len 0 (count f)))) (Spot m (f ∷ rest) f.makes) (Placed (count f) m.bases f.makes)
      (λ o x s.
      let long : length (elements o) ≡ count f = x.0.0 in
      record {
        long = long;
        once = x.0.1;
        inside = λ e p l. ltb-true (place_at o p) (room m o.base) (all_at (λ e. nat_lt e (room m o.base)) (elements o) p
            (only (makes_base f o.base) (creates rest o.base) _ (ap (λ z. z && list_any (λ (u : Strided). u.base == o.base) (outputs f)) e) (none_later f o.base x.1.0 rest b) (s.there e)) (omega arith));
        fresh = λ e. (s.fresh e, x.1.1 e);
      }) (outputs f)
      (all_two (λ (o : Strided). (length (elements o) ≡ count f) × Once (count f) o) (λ (o : Strided). (has (named f) o.base ≡ true) × (f.makes ≡ true → elements o ≡ range_with_len 0 (count f)))
      (λ (o : Strided). ((length (elements o) ≡ count f) × Once (count f) o) × ((has (named f) o.base ≡ true) × (f.makes ≡ true → elements o ≡ range_with_len 0 (count f)))) (λ o p q. (p, q)) (outputs f)
      (all_two (λ (o : Strided). length (elements o) ≡ count f) (Once (count f)) (λ (o : Strided). (length (elements o) ≡ count f) × Once (count f) o) (λ o p q. (p, q)) (outputs f)
      a.out_longs a.once)
      (all_two (λ (o : Strided). has (named f) o.base ≡ true) (λ (o : Strided). f.makes ≡ true → (elements o ≡ range_with_len 0 (count f)) × AllByRecursion (λ (v : Strided). (v.base == o.base) ≡ false) (inputs f))
      (λ (o : Strided). (has (named f) o.base ≡ true) × (f.makes ≡ true → elements o ≡ range_with_len 0 (count f))) (λ o p q. (p, λ e. (q e).0)) (outputs f)
      (all_left (λ (o : Strided). has (named f) o.base ≡ true) (outputs f) (inputs f) (names_views f)) a.whole)) h
    where
      only : (mk cr li : Bool) → mk ≡ false → cr ≡ false → ((mk || cr) || li) ≡ true → li ≡ true
      only true cr li a b h = absurd (false≢true (sym a))
      only false true li a b h = absurd (false≢true (sym b))
      only false false li a b h = h

  -- ---- live views are known

  abbrev pub KnownTo : List Op → Strided → Type 0
  KnownTo ks v = AllByRecursion (λ k. Heeds n k v) ks

  pub meets_alike : (o u v : Strided) → identical u v ≡ true → Meets n o u → Meets n o v
  meets_alike o u v e h i j a b base at =
      let r = h i j a b (base ∙ sym (same_base u v e)) (at ∙ ap (λ es. get_or es j 0) (sym (same_elements u v e))) in
      (r.0, identical_on o u v r.1 e)

  pub heeds_alike : (k : Op) (u v : Strided) → identical u v ≡ true → Heeds n k u → Heeds n k v
  heeds_alike k u v e h =
      record {
        meets = All_weaker (λ o. Meets n o u) (λ o. Meets n o v) (λ o x. meets_alike o u v e x) (filled k) h.meets;
        clear = All_weaker (λ o. Clear n o u) (λ o. Clear n o v)
            (λ o x i j a b base at. x i j a b (base ∙ sym (same_base u v e)) (at ∙ ap (λ es. get_or es j 0) (sym (same_elements u v e)))) (fold_outs k) h.clear;
      }

  pub known_alike : (ks : List Op) (u v : Strided) → identical u v ≡ true → KnownTo ks u → KnownTo ks v
  known_alike ks u v e h = All_weaker (λ k. Heeds n k u) (λ k. Heeds n k v) (λ k t. heeds_alike k u v e t) ks h

  -- the column of f, to what comes later
  outs_known : (f : Op) (ks : List Op) → AllByRecursion (Beside n f) ks → AllByRecursion (KnownTo ks) (filled f)
  outs_known f ks b =
      turn (λ k v. Heeds n k v) ks (filled f) (All_weaker (Beside n f) (λ k. AllByRecursion (Heeds n k) (filled f)) (λ k d. all_left (Heeds n k) (filled f) (inputs f) d.back) ks b)

  known_more : (f : Op) (rest : List Op) (live : Live) → AllByRecursion (Beside n f) rest → ((v : Strided) → live v ≡ true → KnownTo rest v) → (v : Strided) → live_after f live v ≡ true → KnownTo rest v
  known_more f rest live b h v on =
      or_cases (list_any (λ o. identical o v) (filled f)) (live v) (both_right (not (has (freed f) v.base)) _ on)
      (λ e. any_all (λ o. identical o v) (KnownTo rest) (filled f) e (outs_known f rest b) (λ o i k. known_alike rest o v i k)) (h v)

  pub stages : (rest : List Op) (m : Memory) (live : Live) → Pairs (Beside n) rest → AllByRecursion (Alone n) rest → Covers live rest rest → Spots m rest rest → ((v : Strided) → live v ≡ true → KnownTo rest v)
      → Runs n m live rest
  stages [] m live b a c s k = tt
  stages (f ∷ rest) m live b a c s k =
      let ready : Ready n m live f =
      record {
        suited = a.0.suited;
        known = head_known f rest live a.0 b.0 c.0;
        meets = all_pull (λ v. live v ≡ true) (λ o v. Meets n o v) (filled f) (λ v on. (k v on).0.meets);
        clear = all_pull (λ v. live v ≡ true) (λ o v. Clear n o v) (fold_outs f) (λ v on. (k v on).0.clear);
        placed = head_placed m f rest a.0 b.0 s.0;
      } in (
        ready,
        stages rest (step m f) (live_after f live) b.1 a.1 (covers_more f rest live a.0 rest b.0 a.1 c.1) (spots_more m live f rest a.0 ready rest b.0 s.1)
            (known_more f rest live b.0 (λ v on. (k v on).1)),
      )
