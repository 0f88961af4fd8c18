-- The numbers of a view, one at a time.
use Rattle.std.proofs.Common.{◌≡◌, ℕ, ◌*◌, ◌<◌, ◌≤◌, [], ◌∷◌, refl, arith, ℤ, pos, List, length, get_or, true, ap, Option, Some, None, FitsSigned}
use Rattle.std.specs.Int.{w128}
use Rattle.std.proofs.lemmas.Bool.{false≢true}
use Rattle.std.proofs.lemmas.List.{get_or-map, length-map}
use Rattle.std.specs.List.{list_all}
use Rattle.std.specs.Prelude.{nat_lt}
use Rattle.arr_num.specs.declared.elem.Elem.{Elem}
use Rattle.arr_num.specs.declared.elem.Elem.TheVariants.{U8, I32, I64, U64}
use Rattle.arr_num.specs.Numbers.{width}
use Rattle.arr_num.proofs.Wrapping.{fits_of_type}
use Rattle.arr_view.specs.Strided.{Strided}
use Rattle.arr_view.specs.Views.{elements}
use Rattle.arr_ops.specs.Fits.{meets_need}
use Rattle.arr_num.specs.Types.{same_elem, same_elem_is}
use Rattle.arr_ops.specs.Gathers.{need}
use Rattle.arr_ops.specs.Memory.{Cell, read}
use Rattle.arr_ops.proofs.Tests.{both_left, both_right}
use Rattle.arr_store.specs.Cells.{number_at, size_at, takes, width_at}
use Rattle.arr_picks.proofs.Named.{below_at}
use Rattle.arr_gather.specs.Steps.{Holds}

-- a need that is met: the places lie inside
pub places_inside : (c : Option Cell) (t : Elem) (v : Strided) → meets_need c (need t v) ≡ true → list_all (λ e. nat_lt e (size_at c)) (elements v) ≡ true
places_inside None t v h = absurd (false≢true h)
places_inside (Some c) t v h = both_right _ _ (both_right (same_elem c.elem t) _ h)

pub element_inside : (f : ℕ → Option Cell) (t : Elem) (v : Strided) (k : ℕ) → Holds f t v → k < length (elements v) → get_or (elements v) k 0 < size_at (f v.base)
element_inside f t v k h l = below_at (size_at (f v.base)) (elements v) k (places_inside (f v.base) t v h) l

pub length-read : (c : Option Cell) (ps : List ℕ) → length (read c ps) ≡ length ps
length-read None ps = length-map ps (λ p. pos 0)
length-read (Some c) ps = length-map ps (λ p. get_or c.numbers p (pos 0))

get_or-read : (c : Option Cell) (ps : List ℕ) (k : ℕ) → k < length ps → get_or (read c ps) k (pos 0) ≡ number_at c (get_or ps k 0)
get_or-read None ps k l = get_or-map (λ p. pos 0) ps k 0 (pos 0) l
get_or-read (Some c) ps k l = get_or-map (λ p. get_or c.numbers p (pos 0)) ps k 0 (pos 0) l

pub taken_fits : (c : Option Cell) (z : ℤ) → takes c z ≡ true → FitsSigned w128 z
taken_fits None z h = absurd (false≢true h)
taken_fits (Some c) z h = fits_of_type c.elem z h

pub some_width : (t : Elem) → 1 ≤ width t
some_width U8 = omega arith
some_width I32 = omega arith
some_width I64 = omega arith
some_width U64 = omega arith

pub some_weight : (t : Elem) (n : ℕ) → 1 ≤ n → 1 ≤ n * width t
some_weight U8 n some = omega arith
some_weight I32 n some = omega arith
some_weight I64 n some = omega arith
some_weight U64 n some = omega arith

pub counted : (c : Option Cell) (p : ℕ) → p < size_at c → 1 ≤ width_at c
counted None p l = absurd (omega arith)
counted (Some c) p l = some_width c.elem

-- the base of a view has the view's type
pub holds_width : (f : ℕ → Option Cell) (t : Elem) (v : Strided) → Holds f t v → width_at (f v.base) ≡ width t
holds_width f t v h = one (f v.base) h
  where
    one : (c : Option Cell) → meets_need c (need t v) ≡ true → width_at c ≡ width t
    one None e = absurd (false≢true e)
    one (Some c) e = ap width (same_elem_is c.elem t (both_left (same_elem c.elem t) _ e))

pub read_first : (c : Option Cell) (p : ℕ) (ps : List ℕ) → read c (p ∷ ps) ≡ number_at c p ∷ read c ps
read_first None p ps = refl
read_first (Some c) p ps = refl

pub read_none : (c : Option Cell) → read c [] ≡ []
read_none None = refl
read_none (Some c) = refl

-- the base of a view is there
pub record Target (c : Option Cell) (t : Elem) : Type 0 where
  pub numbers : List ℤ
  pub is : c ≡ Some (record { elem = t; numbers = numbers })

pub target_of : (f : ℕ → Option Cell) (t : Elem) (v : Strided) → Holds f t v → Target (f v.base) t
target_of f t v h = one (f v.base) h
  where
    one : (c : Option Cell) → meets_need c (need t v) ≡ true → Target c t
    one None e = absurd (false≢true e)
    one (Some c) e = record { numbers = c.numbers; is = ap (λ u. Some (record { elem = u; numbers = c.numbers })) (same_elem_is c.elem t (both_left (same_elem c.elem t) _ e)) }
