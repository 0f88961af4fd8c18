-- The numbers in memory are of their base's type, and each step keeps that.
use Rattle.std.proofs.Common.{◌≡◌, ℕ, suc, zero, ℤ, pos, List, [], ◌∷◌, ◌++◌, Bool, true, false, cond, refl, subst, Option, Some, None, map, take, drop, get_or, set}
use Rattle.std.specs.Prelude.{◌==◌}
use Rattle.std.specs.List.{AllByRecursion, flat_map, fold, range_with_len}
use Rattle.arr_view.specs.Strided.{Strided}
use Rattle.arr_view.specs.Views.{elements, has, positions}
use Rattle.arr_ops.specs.Ops.{freed}
use Rattle.arr_num.specs.Kinds.{Kind, Binary, Unary, Counting, Reduction, Scan, Ending, Printing, kind}
use Rattle.arr_num.specs.Numbers.{in_type, value, greatest, least, fold_start}
use Rattle.arr_ops.specs.Memory.{Memory, Cell, Keeps, Drops, Becomes, Writes, changed, output_change, write, read, computed, step, eager, results, results_of, zip_with, folded, scanned, lane, lengths_of, or_zero}
use Rattle.arr_num.specs.declared.elem.Elem.{Elem}
use Rattle.arr_num.specs.declared.elem.Elem.TheVariants.{U8, I32, I64, U64}
use Rattle.arr_num.specs.declared.code.Code.{Code}
use Rattle.arr_num.specs.declared.code.Code.TheVariants.{MultiplyReduce, MultiplyAccumulate, MinimumReduce, MaximumReduce}
use Rattle.arr_ops.specs.declared.op.Op.{Op}
use Rattle.arr_num.proofs.Wrapping.{in_type_wrap}
use Rattle.arr_num.specs.Numbers.{whole}

pub in_type_value : (code : Code) (t : Elem) (x y : ℤ) → in_type t (value code t x y) ≡ true
unfolding value
in_type_value code t x y = in_type_wrap t (whole code t x y)

abbrev pub AllIn : Elem → List ℤ → Type 0
AllIn t xs = AllByRecursion (λ z. in_type t z ≡ true) xs

pub zero_in : (t : Elem) → in_type t (pos 0) ≡ true
zero_in U8 = refl
zero_in I32 = refl
zero_in I64 = refl
zero_in U64 = refl

one_in : (t : Elem) → in_type t (pos 1) ≡ true
one_in U8 = refl
one_in I32 = refl
one_in I64 = refl
one_in U64 = refl

greatest_in : (t : Elem) → in_type t (greatest t) ≡ true
greatest_in U8 = refl
greatest_in I32 = refl
greatest_in I64 = refl
greatest_in U64 = refl

least_in : (t : Elem) → in_type t (least t) ≡ true
least_in U8 = refl
least_in I32 = refl
least_in I64 = refl
least_in U64 = refl

start_in : (code : Code) (t : Elem) → in_type t (fold_start code t) ≡ true
start_in MultiplyReduce t = one_in t
start_in MultiplyAccumulate t = one_in t
start_in MinimumReduce t = greatest_in t
start_in MaximumReduce t = least_in t
start_in _ t = zero_in t

zip_in : (t : Elem) (f : ℤ → ℤ → ℤ) → ((x y : ℤ) → in_type t (f x y) ≡ true) → (xs ys : List ℤ) → AllIn t (zip_with f xs ys)
zip_in t f h [] ys = tt
zip_in t f h (x ∷ xs) [] = tt
zip_in t f h (x ∷ xs) (y ∷ ys) = (h x y, zip_in t f h xs ys)

fold_in : (t : Elem) (f : ℤ → ℤ → ℤ) → ((x y : ℤ) → in_type t (f x y) ≡ true) → (z : ℤ) (xs : List ℤ) → in_type t z ≡ true → in_type t (fold f z xs) ≡ true
fold_in t f h z [] e = e
fold_in t f h z (x ∷ xs) e = fold_in t f h (f z x) xs (h z x)

pub map_in : (t : Elem) (f : ℕ → ℤ) → ((i : ℕ) → in_type t (f i) ≡ true) → (is : List ℕ) → AllIn t (map f is)
map_in t f h [] = tt
map_in t f h (i ∷ is) = (h i, map_in t f h is)

append_in : (t : Elem) (xs ys : List ℤ) → AllIn t xs → AllIn t ys → AllIn t (xs ++ ys)
append_in t [] ys a b = b
append_in t (x ∷ xs) ys a b = (a.0, append_in t xs ys a.1 b)

flat_in : (t : Elem) (f : ℕ → List ℤ) → ((i : ℕ) → AllIn t (f i)) → (is : List ℕ) → AllIn t (flat_map f is)
flat_in t f h [] = tt
flat_in t f h (i ∷ is) = append_in t (f i) (flat_map f is) (h i) (flat_in t f h is)

abbrev pub Computes : Kind → Type 0
Computes Printing = ⊥
Computes _ = Unit {0}

folded_in : (code : Code) (t : Elem) (lengths : List ℕ) (axis : ℕ) (xs : List ℤ) → AllIn t (folded (value code t) (fold_start code t) lengths axis xs)
folded_in code t lengths axis xs =
    let n : ℕ = get_or lengths axis 1 in
    let inner : ℕ = positions (drop (suc axis) lengths) in
    let row : ℕ → ℕ → ℤ = λ o i. fold (value code t) (fold_start code t) (lane xs n inner o i) in
    flat_in t (λ o. map (row o) (range_with_len 0 inner))
    (λ o. map_in t (row o) (λ i. fold_in t (value code t) (in_type_value code t) (fold_start code t) (lane xs n inner o i) (start_in code t)) (range_with_len 0 inner))
    (range_with_len 0 (positions (take axis lengths)))

scanned_in : (code : Code) (t : Elem) (lengths : List ℕ) (axis : ℕ) (xs : List ℤ) → AllIn t (scanned (value code t) (fold_start code t) lengths axis xs)
scanned_in code t lengths axis xs =
    let n : ℕ = get_or lengths axis 1 in
    let inner : ℕ = positions (drop (suc axis) lengths) in
    let row : ℕ → ℕ → ℕ → ℤ = λ o k i. fold (value code t) (fold_start code t) (take (suc k) (lane xs n inner o i)) in
    flat_in t (λ o. flat_map (λ k. map (row o k) (range_with_len 0 inner)) (range_with_len 0 n))
    (λ o. flat_in t (λ k. map (row o k) (range_with_len 0 inner))
    (λ k. map_in t (row o k) (λ i. fold_in t (value code t) (in_type_value code t) (fold_start code t) (take (suc k) (lane xs n inner o i)) (start_in code t)) (range_with_len 0 inner))
    (range_with_len 0 n))
    (range_with_len 0 (positions (take axis lengths)))

of_kind_in : (k : Kind) (code : Code) (t : Elem) (lengths : List ℕ) (axis : ℕ) (xs ys : List ℤ) → Computes k → AllIn t (results_of k code t lengths axis xs ys)
of_kind_in Binary code t lengths axis xs ys h = zip_in t (value code t) (in_type_value code t) xs ys
of_kind_in Unary code t lengths axis xs ys h = zip_in t (value code t) (in_type_value code t) xs ys
of_kind_in Counting code t lengths axis xs ys h = zip_in t (value code t) (in_type_value code t) xs ys
of_kind_in Reduction code t lengths axis xs ys h = folded_in code t lengths axis xs
of_kind_in Scan code t lengths axis xs ys h = scanned_in code t lengths axis xs
of_kind_in Ending code t lengths axis xs ys h = tt
of_kind_in Printing code t lengths axis xs ys h = absurd h

pub computed_in : (m : Memory) (op : Op) → Computes (kind op.code) → AllIn op.to (computed m op)
unfolding results
computed_in m op h = of_kind_in (kind op.code) op.code op.to (lengths_of op.first) (or_zero op.axis) _ _ h

set_in : (t : Elem) (ns : List ℤ) (p : ℕ) (x : ℤ) → AllIn t ns → in_type t x ≡ true → AllIn t (set ns p x)
set_in t [] p x a h = tt
set_in t (n ∷ ns) zero x a h = (h, a.1)
set_in t (n ∷ ns) (suc p) x a h = (a.0, set_in t ns p x a.1 h)

pub write_in : (t : Elem) (ps : List ℕ) (xs ns : List ℤ) → AllIn t xs → AllIn t ns → AllIn t (write ps xs ns)
write_in t [] xs ns a b = b
write_in t (p ∷ ps) [] ns a b = b
write_in t (p ∷ ps) (x ∷ xs) ns a b = write_in t ps xs (set ns p x) a.1 (set_in t ns p x b a.0)

pub get_in : (t : Elem) (ns : List ℤ) (p : ℕ) → AllIn t ns → in_type t (get_or ns p (pos 0)) ≡ true
get_in t [] p a = zero_in t
get_in t (n ∷ ns) zero a = a.0
get_in t (n ∷ ns) (suc p) a = get_in t ns p a.1

-- ---- one base

abbrev pub CellFits : Elem → Option Cell → Type 0
CellFits t None = Unit {0}
CellFits t (Some c) = (c.elem ≡ t) × AllIn t c.numbers

pub read_in : (t : Elem) (c : Option Cell) (ps : List ℕ) → CellFits t c → AllIn t (read c ps)
read_in t None ps h = map_in t (λ p. pos 0) (λ p. zero_in t) ps
read_in t (Some c) ps h = map_in t (λ p. get_or c.numbers p (pos 0)) (λ p. get_in t c.numbers p h.1) ps

-- what f writes to the base is of the type
pub record Suits (t : Elem) (b : ℕ) (f : Op) : Type 0 where
  pub typed : (o : Strided) → f.out ≡ Some o → (o.base == b) ≡ true → (f.to ≡ t) × Computes (kind f.code)

output_fits : (t to : Elem) (out : Option Strided) (makes : Bool) (xs : List ℤ) (b : ℕ) (c : Option Cell)
    → ((o : Strided) → out ≡ Some o → (o.base == b) ≡ true → (to ≡ t) × AllIn to xs) → CellFits t c → CellFits t (changed (output_change out makes to xs b) c)
output_fits t to None makes xs b c s h = h
output_fits t to (Some o) makes xs b c s h =
    elim (o.base == b) as (λ k. (o.base == b) ≡ k → CellFits t (changed (cond k (cond makes (Becomes (record { elem = to; numbers = xs })) (Writes (elements o) xs)) Keeps) c)) [
      | true ↦ λ e. written makes c h (s o refl e)
      | false ↦ λ e. h
    ] refl
  where
    written : (makes : Bool) (c : Option Cell) → CellFits t c → (to ≡ t) × AllIn to xs → CellFits t (changed (cond makes (Becomes (record { elem = to; numbers = xs })) (Writes (elements o) xs)) c)
    written true c h w = (w.0, subst (λ u. AllIn u xs) w.0 w.1)
    written false None h w = tt
    written false (Some c) h w = (h.0, write_in t (elements o) xs c.numbers (subst (λ u. AllIn u xs) w.0 w.1) h.1)

pub step_fits : (t : Elem) (b : ℕ) (f : Op) (m : Memory) → Suits t b f → CellFits t (m.bases b) → CellFits t ((step m f).bases b)
step_fits t b f m s h =
    elim (has (freed f) b) as (λ k. CellFits t (changed (cond k Drops (output_change f.out f.makes f.to (computed m f) b)) (m.bases b))) [
      | true ↦ tt
      | false ↦ output_fits t f.to f.out f.makes (computed m f) b (m.bases b) (λ o p q. ((s.typed o p q).0, computed_in m f (s.typed o p q).1)) h
    ]

pub eager_fits : (t : Elem) (b : ℕ) (fs : List Op) (m : Memory) → AllByRecursion (Suits t b) fs → CellFits t (m.bases b) → CellFits t ((eager m fs).bases b)
eager_fits t b [] m a h = h
eager_fits t b (f ∷ fs) m a h = eager_fits t b fs (step m f) a.1 (step_fits t b f m a.0 h)
