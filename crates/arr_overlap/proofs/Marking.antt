-- Elements that are marked one after another.
use Rattle.std.proofs.Common.{◌≡◌, ℕ, zero, suc, ◌<◌, ℤ, pos, negsuc, List, [], ◌∷◌, ◌++◌, Bool, true, false, length, map, get_or, set, replicate, refl, ap, ap₂, sym, ◌∙◌, arith, append_assoc, append-nil}
use Rattle.std.specs.Prelude.{◌==◌, ◌&&◌, ◌||◌, nat_eq, nat_lt}
use Rattle.std.specs.List.{list_all}
use Rattle.std.proofs.lemmas.Bool.{and_parts, and_from, eqb-true, eqb-false, eq-eqb, ne_eqb, ltb-true, false≢true}
use Rattle.std.proofs.lemmas.List.{get_or-set_same, get_or-set_other, length-set, length-replicate}
use Rattle.std.proofs.lemmas.List.Folds.{list_any-append}
use Rattle.arr_view.specs.Strided.{Strided}
use Rattle.arr_view.specs.Views.{elements, has, is_place, is_view, overlap, places, repeated, share, to_place, most_elements}
use Rattle.arr_view.proofs.Checks.{lawful}
use Rattle.arr_overlap.specs.Marks.{Marks}

-- ---- elements lie below the bound

all_below : (zs : List ℤ) → list_all is_place zs ≡ true → list_all (λ e. nat_lt e most_elements) (map to_place zs) ≡ true
all_below [] h = refl
all_below (pos n ∷ zs) h = let p = and_parts (nat_lt n most_elements) _ h in and_from (nat_lt n most_elements) _ p.0 (all_below zs p.1)
all_below (negsuc n ∷ zs) h = absurd (false≢true h)

at_seam : (test : ℕ → Bool) (front rest : List ℕ) (x : ℕ) → list_all test (front ++ x ∷ rest) ≡ true → test x ≡ true
at_seam test [] rest x h = (and_parts (test x) _ h).0
at_seam test (y ∷ front) rest x h = at_seam test front rest x (and_parts (test y) _ h).1

pub elements_below : (v : Strided) → is_view v ≡ true → list_all (λ e. nat_lt e most_elements) (elements v) ≡ true
unfolding elements
elements_below v law = all_below (places v.lengths v.strides (pos v.start)) (lawful v law).inside

pub below : (v : Strided) (front rest : List ℕ) (x : ℕ) → is_view v ≡ true → elements v ≡ front ++ x ∷ rest → x < most_elements
unfolding elements
below v front rest x law whole =
    ltb-true x most_elements (at_seam (λ e. nat_lt e most_elements) front rest x (ap (list_all (λ e. nat_lt e most_elements)) (sym whole) ∙ all_below (places v.lengths v.strides (pos v.start)) (lawful v law).inside))

-- ---- marks

none_marked : (n x : ℕ) → get_or (replicate n false) x false ≡ false
none_marked zero x = refl
none_marked (suc n) zero = refl
none_marked (suc n) (suc x) = none_marked n x

pub marks_none : (bits : List Bool) → bits ≡ replicate most_elements false → Marks bits []
marks_none bits e = record { long = ap length e ∙ length-replicate most_elements false; each = λ x h. ap (λ b. get_or b x false) e ∙ none_marked most_elements x }

has_more : (xs : List ℕ) (x y : ℕ) → has (xs ++ x ∷ []) y ≡ (has xs y || (y == x))
has_more xs x y = list_any-append (nat_eq y) xs (x ∷ []) ∙ ap (λ b. has xs y || b) (or_false (y == x))
  where
    or_false : (b : Bool) → (b || false) ≡ b
    or_false true = refl
    or_false false = refl

pub or_true : (b : Bool) → (b || true) ≡ true
or_true true = refl
or_true false = refl

or_none : (b : Bool) → (b || false) ≡ b
or_none true = refl
or_none false = refl

pub marks_more : (bits : List Bool) (xs : List ℕ) (x : ℕ) → Marks bits xs → x < most_elements → Marks (set bits x true) (xs ++ x ∷ [])
marks_more bits xs x marks h =
    let long : length bits ≡ most_elements = marks.long in
    record {
      long = length-set bits x true ∙ marks.long;
      each = λ y k.
          elim (y == x) as (λ b. (y == x) ≡ b → get_or (set bits x true) y false ≡ has (xs ++ x ∷ []) y) [
            | true ↦ λ e.
                ap (λ i. get_or (set bits x true) i false) (eqb-true y x e) ∙ get_or-set_same bits x true false (omega arith)
                ∙ sym (has_more xs x y ∙ ap (λ b. has xs y || b) e ∙ or_true (has xs y))
            | false ↦ λ e.
                get_or-set_other bits x y true false (λ z. let z' : y ≡ x = z in eqb-false y x e z') ∙ marks.each y k
                ∙ sym (has_more xs x y ∙ ap (λ b. has xs y || b) e ∙ or_none (has xs y))
          ] refl;
    }

-- ---- repetitions

symmetric : (x y : ℕ) → (x == y) ≡ false → (y == x) ≡ false
symmetric x y e = ne_eqb y x (λ z. let z' : y ≡ x = z in eqb-false x y e (sym z'))

pub neither : (p q : Bool) → (p || q) ≡ false → (p ≡ false) × (q ≡ false)
neither true q e = absurd (false≢true (sym e))
neither false q e = (refl, e)

pub fresh_more : (xs : List ℕ) (x : ℕ) → repeated xs ≡ false → has xs x ≡ false → repeated (xs ++ x ∷ []) ≡ false
fresh_more [] x f h = refl
fresh_more (y ∷ ys) x f h =
    let a = neither (has ys y) (repeated ys) f in
    let b = neither (x == y) (has ys x) h in
    ap₂ (λ p q. p || q) (has_more ys x y ∙ ap₂ (λ p q. p || q) a.0 (symmetric x y b.0)) (fresh_more ys x a.1 b.1)

has_here : (xs rest : List ℕ) (x : ℕ) → has (xs ++ x ∷ rest) x ≡ true
has_here xs rest x = list_any-append (nat_eq x) xs (x ∷ rest) ∙ ap (λ b. has xs x || (b || has rest x)) (eq-eqb x x refl) ∙ or_true (has xs x)

pub found_again : (xs rest : List ℕ) (x : ℕ) → has xs x ≡ true → repeated (xs ++ x ∷ rest) ≡ true
found_again [] rest x h = absurd (false≢true h)
found_again (y ∷ ys) rest x h =
    elim (x == y) as (λ b. (x == y) ≡ b → (has (ys ++ x ∷ rest) y || repeated (ys ++ x ∷ rest)) ≡ true) [
      | true ↦ λ e. ap (λ b. b || repeated (ys ++ x ∷ rest)) (ap (has (ys ++ x ∷ rest)) (sym (eqb-true x y e)) ∙ has_here ys rest x)
      | false ↦ λ e. ap (λ b. has (ys ++ x ∷ rest) y || b) (found_again ys rest x (sym (ap (λ b. b || has ys x) e) ∙ h)) ∙ or_true (has (ys ++ x ∷ rest) y)
    ] refl

-- ---- common elements

pub shared : (xs rest ys : List ℕ) (x : ℕ) → has ys x ≡ true → share (xs ++ x ∷ rest) ys ≡ true
shared xs rest ys x h = list_any-append (has ys) xs (x ∷ rest) ∙ ap (λ b. share xs ys || (b || share rest ys)) h ∙ or_true (share xs ys)

pub unshared : (xs ys : List ℕ) (x : ℕ) → share xs ys ≡ false → has ys x ≡ false → share (xs ++ x ∷ []) ys ≡ false
unshared xs ys x s h = list_any-append (has ys) xs (x ∷ []) ∙ ap₂ (λ a b. a || (b || false)) s h

-- ---- the list that is walked

pub one_more : (all front iterator rest : List ℕ) (x : ℕ) → all ≡ front ++ iterator → iterator ≡ x ∷ rest → all ≡ (front ++ x ∷ []) ++ rest
one_more all front iterator rest x whole next = whole ∙ ap (λ r. front ++ r) next ∙ sym (append_assoc front (x ∷ []) rest)

pub next_one : (all front iterator rest : List ℕ) (x : ℕ) → all ≡ front ++ iterator → iterator ≡ x ∷ rest → all ≡ front ++ x ∷ rest
next_one all front iterator rest x whole next = whole ∙ ap (λ r. front ++ r) next

pub at_end : (all front iterator : List ℕ) → all ≡ front ++ iterator → iterator ≡ [] → all ≡ front
at_end all front iterator whole none = whole ∙ ap (λ r. front ++ r) none ∙ append-nil front

-- views of one base meet exactly where their elements do
pub meet_on : (v w : Strided) (b : Bool) → v.base ≡ w.base → share (elements v) (elements w) ≡ b → overlap v w ≡ b
meet_on v w b same e = ap₂ (λ x y. x && y) (eq-eqb v.base w.base same) e
