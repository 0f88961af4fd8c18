-- Which classes overlap.
use Rattle.std.proofs.Common.{◌≡◌, ℕ, zero, suc, ◌+◌, ◌<◌, ◌≤◌, List, [], ◌∷◌, ◌++◌, Bool, true, false, length, take, map, set, get_or, refl, ap, ap₂, sym, subst, ◌∙◌, arith}
use Rattle.std.specs.Prelude.{◌&&◌, ◌||◌, ◌==◌, nat_lt, Option, Some, None}
use Rattle.std.specs.List.{list_all}
use Rattle.std.proofs.lemmas.Bool.{and_parts, and_from, eqb-true, eqb-false, eq-eqb, ltb-true, ltb-false, false≢true}
use Rattle.std.proofs.lemmas.List.{get_or-take, length-take-le, get_or-set_same, get_or-set_other, length-set, length-append}
use Rattle.arr_sets.specs.Bits.{meets}
use Rattle.arr_view.specs.Strided.{Strided}
use Rattle.arr_view.specs.Views.{elements, has, is_view, overlap, share, most_elements}
use Rattle.arr_overlap.specs.declared.filters.Outline.{Outline}
use Rattle.arr_overlap.specs.Classes.{AreMarks, AreOutlines, overlaps_among, view_at}
use Rattle.arr_overlap.specs.Filters.{IsOutline}
use Rattle.arr_overlap.specs.Marks.{Marks}
use Rattle.arr_view.proofs.Known.{same_tests}
use Rattle.arr_overlap.proofs.Marking.{elements_below}

-- ---- two rows of marks meet exactly where the lists share a number

-- a number that stands in both
record Common (test other : ℕ → Bool) : Type 0 where
  at : ℕ
  here : test at ≡ true
  there : other at ≡ true

or_cases : (a b : Bool) (P : Type 0) → (a || b) ≡ true → (a ≡ true → P) → (b ≡ true → P) → P
or_cases true b P e f g = f refl
or_cases false b P e f g = g e

or_right : (a : Bool) → (a || true) ≡ true
or_right true = refl
or_right false = refl

met_at : (xs ys : List Bool) → meets xs ys ≡ true → Common (λ i. get_or xs i false) (λ i. get_or ys i false)
met_at [] ys e = absurd (false≢true e)
met_at (x ∷ xs) [] e = absurd (false≢true e)
met_at (x ∷ xs) (y ∷ ys) e =
    or_cases (x && y) (meets xs ys) _ e
    (λ h. let p = and_parts x y h in record { at = 0; here = p.0; there = p.1 })
    (λ h. let r = met_at xs ys h in record { at = suc r.at; here = r.here; there = r.there })

at_met : (xs ys : List Bool) (i : ℕ) → get_or xs i false ≡ true → get_or ys i false ≡ true → meets xs ys ≡ true
at_met [] ys i h t = absurd (false≢true h)
at_met (x ∷ xs) [] i h t = absurd (false≢true t)
at_met (x ∷ xs) (y ∷ ys) zero h t = ap (λ b. b || meets xs ys) (and_from x y h t)
at_met (x ∷ xs) (y ∷ ys) (suc i) h t = ap (λ b. (x && y) || b) (at_met xs ys i h t) ∙ or_right (x && y)

shared_at : (es fs : List ℕ) → share es fs ≡ true → Common (has es) (has fs)
shared_at [] fs e = absurd (false≢true e)
shared_at (x ∷ es) fs e =
    or_cases (has fs x) (share es fs) _ e
    (λ h. record { at = x; here = ap (λ b. b || has es x) (eq-eqb x x refl); there = h })
    (λ h. let r = shared_at es fs h in record { at = r.at; here = ap (λ b. (r.at == x) || b) r.here ∙ or_right (r.at == x); there = r.there })

pub at_shared : (es fs : List ℕ) (x : ℕ) → has es x ≡ true → has fs x ≡ true → share es fs ≡ true
at_shared [] fs x h t = absurd (false≢true h)
at_shared (y ∷ es) fs x h t =
    or_cases (x == y) (has es x) _ h
    (λ e. ap (λ b. b || share es fs) (ap (has fs) (sym (eqb-true x y e)) ∙ t))
    (λ e. ap (λ b. has fs y || b) (at_shared es fs x e t) ∙ or_right (has fs y))

-- a bit that is set lies within the row
bit_within : (bits : List Bool) (i : ℕ) → get_or bits i false ≡ true → i < length bits
bit_within [] i e = absurd (false≢true e)
bit_within (b ∷ bits) zero e = omega arith
bit_within (b ∷ bits) (suc i) e = let h = bit_within bits i e in omega arith

element_within : (es : List ℕ) (x : ℕ) → list_all (λ e. nat_lt e most_elements) es ≡ true → has es x ≡ true → x < most_elements
element_within [] x all e = absurd (false≢true e)
element_within (y ∷ es) x all e =
    let p = and_parts (nat_lt y most_elements) _ all in
    or_cases (x == y) (has es x) _ e
    (λ h. let same : x ≡ y = eqb-true x y h in let low : y < most_elements = ltb-true y most_elements p.0 in omega arith)
    (λ h. element_within es x p.1 h)

pub marks_meet : (bits others : List Bool) (es fs : List ℕ) → Marks bits es → Marks others fs → list_all (λ e. nat_lt e most_elements) es ≡ true → meets bits others ≡ share es fs
marks_meet bits others es fs m n below =
    same_tests (meets bits others) (share es fs)
    (λ e.
    let r = met_at bits others e in
    let long : length bits ≡ most_elements = m.long in
    let i : ℕ = r.at in
    let low : i < length bits = bit_within bits r.at r.here in
    let inside : i < most_elements = omega arith in
    at_shared es fs r.at (sym (m.each i inside) ∙ r.here) (sym (n.each i inside) ∙ r.there))
    (λ e.
    let r = shared_at es fs e in
    let inside : r.at < most_elements = element_within es r.at below r.here in
    at_met bits others r.at (m.each r.at inside ∙ r.here) (n.each r.at inside ∙ r.there))

-- ---- outlines and marks

at_end : {A : Type 0} (xs : List A) (x d : A) → get_or (xs ++ x ∷ []) (length xs) d ≡ x
at_end [] x d = refl
at_end (y ∷ xs) x d = at_end xs x d

before_end : {A : Type 0} (xs : List A) (x d : A) (i : ℕ) → i < length xs → get_or (xs ++ x ∷ []) i d ≡ get_or xs i d
before_end [] x d i h = absurd (omega arith)
before_end (y ∷ xs) x d zero h = refl
before_end (y ∷ xs) x d (suc i) h = before_end xs x d i (omega arith)

-- what holds below a number and at it holds below the next one
next_too : (P : ℕ → Type 0) (n : ℕ) → ((i : ℕ) → i < n → P i) → P n → (i : ℕ) → i < n + 1 → P i
next_too P n below here i h =
    elim (nat_lt i n) as (λ b. nat_lt i n ≡ b → P i) [
      | true ↦ λ e. below i (ltb-true i n e)
      | false ↦ λ e. let le : n ≤ i = ltb-false i n e in subst P (let same : n ≡ i = omega arith in same) here
    ] refl

pub one_more_outline : (views : List Strided) (outlines : List Outline) (i : ℕ) (v : Strided) (o : Outline) → view_at views i ≡ v → IsOutline o v → AreOutlines i outlines views
    → AreOutlines (i + 1) (outlines ++ o ∷ []) views
one_more_outline views outlines i v o here is known =
    let long : length outlines ≡ i = known.long in
    record {
      long = let l = length-append outlines (o ∷ []) in omega arith;
      each = next_too (λ k. (d : Outline) → IsOutline (get_or (outlines ++ o ∷ []) k d) (view_at views k)) i
          (λ k h d. subst (λ x. IsOutline x (view_at views k)) (sym (before_end outlines o d k (omega arith))) (known.each k h d))
          (λ d. subst (λ x. IsOutline x (view_at views i)) (sym (ap (λ n. get_or (outlines ++ o ∷ []) n d) (sym long) ∙ at_end outlines o d)) (subst (IsOutline o) (sym here) is));
    }

-- no view is marked
pub none_marked : (marks : List (Option (List Bool))) (views : List Strided) → length marks ≡ length views → ((i : ℕ) → get_or marks i None ≡ None) → AreMarks marks views
none_marked marks views long none = record { long = long; each = λ i h row e. absurd (let f : None ≡ Some row = sym (none i) ∙ e in cc) }

pub marks_more : (marks : List (Option (List Bool))) (views : List Strided) (at : ℕ) (row : List Bool) → AreMarks marks views → at < length views → Marks row (elements (view_at views at)) → AreMarks (set marks at (Some row)) views
marks_more marks views at row known h m =
    let long : length marks ≡ length views = known.long in
    record {
      long = length-set marks at (Some row) ∙ known.long;
      each = λ i l r e.
          elim (i == at) as (λ b. (i == at) ≡ b → Marks r (elements (view_at views i))) [
            | true ↦ λ f.
                let same : i ≡ at = eqb-true i at f in
                let found : Some row ≡ Some r = sym (get_or-set_same marks at (Some row) None (omega arith)) ∙ ap (λ k. get_or (set marks at (Some row)) k None) (sym same) ∙ e in
                let rows : row ≡ r = cc in
                subst (λ x. Marks x (elements (view_at views i))) rows (subst (λ k. Marks row (elements (view_at views k))) (sym same) m)
            | false ↦ λ f. known.each i l r (sym (get_or-set_other marks at i (Some row) None (λ z. let z' : i ≡ at = z in eqb-false i at f z')) ∙ e)
          ] refl;
    }

-- ---- one row

-- the row says of the first so many views which of them v overlaps, and has no other number
pub record Row (v : Strided) (views : List Strided) (i : ℕ) (row : List Bool) : Type 0 where
  pub long : length row ≡ length views
  pub done : (k : ℕ) → k < i → get_or row k false ≡ overlap v (view_at views k)
  pub rest : (k : ℕ) → i ≤ k → get_or row k false ≡ false

pub row_met : (v : Strided) (views : List Strided) (i : ℕ) (row : List Bool) → i < length views → overlap v (view_at views i) ≡ true → Row v views i row → Row v views (i + 1) (set row i true)
row_met v views i row inside met known =
    let long : length row ≡ length views = known.long in
    record {
      long = length-set row i true ∙ known.long;
      done = next_too (λ k. get_or (set row i true) k false ≡ overlap v (view_at views k)) i
          (λ k h. get_or-set_other row i k true false (omega arith) ∙ known.done k h)
          (get_or-set_same row i true false (omega arith) ∙ sym met);
      rest = λ k h. get_or-set_other row i k true false (omega arith) ∙ known.rest k (omega arith);
    }

pub row_apart : (v : Strided) (views : List Strided) (i : ℕ) (row : List Bool) → overlap v (view_at views i) ≡ false → Row v views i row → Row v views (i + 1) row
row_apart v views i row apart known = record {
  long = known.long;
  done = next_too (λ k. get_or row k false ≡ overlap v (view_at views k)) i known.done (known.rest i (omega arith) ∙ sym apart);
  rest = λ k h. known.rest k (omega arith);
}

by_places : (test : Strided → Bool) (row : List Bool) (views : List Strided) (d : Strided) → length row ≡ length views
    → ((k : ℕ) → k < length views → get_or row k false ≡ test (get_or views k d)) → row ≡ map test views
by_places test [] [] d long each = refl
by_places test [] (w ∷ views) d long each = absurd (omega arith)
by_places test (b ∷ row) [] d long each = absurd (omega arith)
by_places test (b ∷ row) (w ∷ views) d long each =
    ap₂ (λ x xs. x ∷ xs) (each 0 (omega arith)) (by_places test row views d (omega arith) (λ k h. each (suc k) (omega arith)))

pub row_whole : (v : Strided) (views : List Strided) (i : ℕ) (row : List Bool) → length views ≤ i → Row v views i row → row ≡ map (overlap v) views
row_whole v views i row end known = by_places (overlap v) row views _ known.long (λ k h. known.done k (omega arith))

-- ---- a pair

pub any_default : {A : Type 0} (xs : List A) (i : ℕ) (d e : A) → i < length xs → get_or xs i d ≡ get_or xs i e
any_default [] i d e h = absurd (omega arith)
any_default (x ∷ xs) zero d e h = refl
any_default (x ∷ xs) (suc i) d e h = any_default xs i d e (omega arith)

pub view_there : (views : List Strided) (i : ℕ) (v : Strided) → i < length views → v ≡ get_or views i v → view_at views i ≡ v
view_there views i v h e = any_default views i _ v h ∙ sym e

pub marks_decide : (views : List Strided) (marks : List (Option (List Bool))) (i j : ℕ) (row other : List Bool) → AreMarks marks views → i < length views → j < length views
    → is_view (view_at views i) ≡ true → (view_at views i).base ≡ (view_at views j).base → get_or marks i None ≡ Some row → get_or marks j None ≡ Some other
    → meets row other ≡ overlap (view_at views i) (view_at views j)
marks_decide views marks i j row other known li lj law same e f =
    let v = view_at views i in
    let w = view_at views j in
    sym (ap₂ (λ x y. x && y) (eq-eqb v.base w.base same) (sym (marks_meet row other (elements v) (elements w) (known.each i li row e) (known.each j lj other f) (elements_below v law))))

share_turned : (es fs : List ℕ) → share es fs ≡ share fs es
share_turned es fs =
    same_tests (share es fs) (share fs es) (λ e. let r = shared_at es fs e in at_shared fs es r.at r.there r.here) (λ e. let r = shared_at fs es e in at_shared es fs r.at r.there r.here)

pub overlap_turned : (v w : Strided) → overlap v w ≡ overlap w v
overlap_turned v w =
    ap₂ (λ x y. x && y) (same_tests (v.base == w.base) (w.base == v.base) (λ e. eq-eqb w.base v.base (sym (eqb-true v.base w.base e))) (λ e. eq-eqb v.base w.base (sym (eqb-true w.base v.base e)))) (share_turned (elements v) (elements w))

-- ---- all rows

map_at : {A B : Type 0} (f : A → B) (xs : List A) (i : ℕ) (d : A) (e : B) → i < length xs → get_or (map f xs) i e ≡ f (get_or xs i d)
map_at f [] i d e h = absurd (omega arith)
map_at f (x ∷ xs) zero d e h = refl
map_at f (x ∷ xs) (suc i) d e h = map_at f xs i d e (omega arith)

pub row_there : (views : List Strided) (rows : List (List Bool)) (a : ℕ) (row : List Bool) → rows ≡ overlaps_among views → a < length views → get_or rows a row ≡ map (overlap (view_at views a)) views
row_there views rows a row e h = ap (λ rs. get_or rs a row) e ∙ map_at (λ v. map (overlap v) views) views a _ row h

pub bit_there : (views : List Strided) (v : Strided) (b : ℕ) → b < length views → get_or (map (overlap v) views) b false ≡ overlap v (view_at views b)
bit_there views v b h = map_at (overlap v) views b _ false h

-- a row that is there already
pub earlier_row : (views : List Strided) (rows : List (List Bool)) (n a : ℕ) (row : List Bool) → rows ≡ map (λ v. map (overlap v) views) (take n views) → a < n → n ≤ length views
    → get_or rows a row ≡ map (overlap (view_at views a)) views
earlier_row views rows n a row e h l =
    ap (λ rs. get_or rs a row) e ∙ map_at (λ v. map (overlap v) views) (take n views) a _ row (let t : length (take n views) ≡ n = length-take-le n views l in omega arith)
    ∙ ap (λ v. map (overlap v) views) (get_or-take n views a _ h)
