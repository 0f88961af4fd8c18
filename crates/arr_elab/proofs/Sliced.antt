-- What a slice gives is derived from the view.
use Rattle.std.proofs.Common.{◌≡◌, ℕ, zero, suc, ◌+◌, ◌-◌, ◌/◌, ◌<◌, ◌≤◌, ℤ, pos, negsuc, List, [], ◌∷◌, Bool, true, false, cond, ◌||◌, length, refl, sym, ◌∙◌, subst, arith}
use Rattle.std.specs.Prelude.{nat_lt, nat_le, Option, Some, None, unwrap_or, Ok, Err}
use Rattle.std.specs.List.{list_all}
use Rattle.std.proofs.lemmas.Bool.{and_parts, ltb-true, ltb-false, leb-true}
use Rattle.arr_view.specs.Strided.{Strided}
use Rattle.arr_view.specs.Views.{is_view}
use Rattle.arr_view.proofs.Checks.{lawful}
use Rattle.arr_shape.specs.declared.bounds.Slice.{Slice}
use Rattle.arr_shape.specs.declared.fault.ShapeFault.TheVariants.{SliceRange, RankRange}
use Rattle.arr_shape.specs.Slices.{rising, falling, cut_of, lies_above, floor_of, cut_up, cut_down, cut_by, cut, whole_cut, and_then, all_cuts, cut_view, cut_result, slice, IsCut, AreCuts}
use Rattle.arr_shape.proofs.Cuts.{stepped, made_up, made_down, lawful_up, lawful_down}
use Rattle.arr_shape.proofs.Wholes.{whole_lawful}
use Rattle.arr_elab.proofs.Derived.{Derived, derived_cuts, ok_unless}

-- ---- one dimension

neither : (a b : Bool) → (a || b) ≡ false → (a ≡ false) × (b ≡ false)
neither true b e = absurd (let f : true ≡ false = e in cc)
neither false b e = (refl, e)

at_most : (n d : ℕ) (o : Option ℕ) → d ≤ n → lies_above n o ≡ false → unwrap_or o d ≤ n
at_most n d None h e = h
at_most n d (Some i) h e = ltb-false n i e

rises : (n i stop d : ℕ) (z : ℤ) (c : _) → cut_of (rising n i stop d) z ≡ Ok c → i < stop
rises zero i stop d z c e = absurd (let f : cut_of [] z ≡ Ok c = e in cc)
rises (suc n) i stop d z c e = by (nat_lt i stop) refl e
  where
    by : (b : Bool) → nat_lt i stop ≡ b → cut_of (cond b (i ∷ rising n (i + d) stop d) []) z ≡ Ok c → i < stop
    by true h e = ltb-true i stop h
    by false h e = absurd (let f : cut_of [] z ≡ Ok c = e in cc)

falls : (n i floor d : ℕ) (z : ℤ) (c : _) → cut_of (falling n i floor d) z ≡ Ok c → floor ≤ i
falls zero i floor d z c e = absurd (let f : cut_of [] z ≡ Ok c = e in cc)
falls (suc n) i floor d z c e = by (nat_le floor i) refl e
  where
    by : (b : Bool) → nat_le floor i ≡ b → cut_of (cond b (i ∷ cond (nat_le d i) (falling n (i - d) floor d) []) []) z ≡ Ok c → floor ≤ i
    by true h e = leb-true floor i h
    by false h e = absurd (let f : cut_of [] z ≡ Ok c = e in cc)

up_lawful : (n : ℕ) (start stop : Option ℕ) (k : ℕ) (c : _) → cut_up n start stop (suc k) ≡ Ok c → IsCut n c
up_lawful n start stop k c e =
    let first : ℕ = unwrap_or start 0 in
    let last : ℕ = unwrap_or stop n in
    let taken = ok_unless (lies_above n start || lies_above n stop) SliceRange (cut_of (rising n first last (suc k)) (pos (suc k))) c e in
    let ends = neither (lies_above n start) (lies_above n stop) taken.0 in
    let low : first ≤ n = at_most n 0 start (omega arith) ends.0 in
    let high : last ≤ n = at_most n n stop (omega arith) ends.1 in
    let some : first < last = rises n first last (suc k) (pos (suc k)) c taken.1 in
    let is : Ok (stepped first ((last - 1 - first) / suc k) (pos (suc k))) ≡ Ok c = sym (made_up n start stop (suc k) (omega arith) low high some) ∙ e in
    let same : stepped first ((last - 1 - first) / suc k) (pos (suc k)) ≡ c = cc in
    subst (IsCut n) same (lawful_up n first (last - 1 - first) (suc k) (omega arith) (omega arith))

down_lawful : (n : ℕ) (start stop : Option ℕ) (k : ℕ) (c : _) → 1 ≤ n → cut_down n start stop k ≡ Ok c → IsCut n c
down_lawful n start stop k c one e =
    let first : ℕ = unwrap_or start (n - 1) in
    let taken = ok_unless (lies_above (n - 1) start || lies_above (n - 1) stop) SliceRange (cut_of (falling n first (floor_of stop) (suc k)) (negsuc k)) c e in
    let ends = neither (lies_above (n - 1) start) (lies_above (n - 1) stop) taken.0 in
    let low : first ≤ n - 1 = at_most (n - 1) (n - 1) start (omega arith) ends.0 in
    let some : floor_of stop ≤ first = falls n first (floor_of stop) (suc k) (negsuc k) c taken.1 in
    let is : Ok (stepped first ((first - floor_of stop) / suc k) (negsuc k)) ≡ Ok c = sym (made_down n start stop k one low ends.1 some) ∙ e in
    let same : stepped first ((first - floor_of stop) / suc k) (negsuc k) ≡ c = cc in
    subst (IsCut n) same (lawful_down n first (first - floor_of stop) k (omega arith) (omega arith))

cut_lawful : (n : ℕ) (start stop : Option ℕ) (step : ℤ) (c : _) → 1 ≤ n → cut_by n start stop step ≡ Ok c → IsCut n c
cut_lawful n start stop (pos zero) c one e = absurd (let f : cut_by n start stop (pos zero) ≡ Ok c = e in cc)
cut_lawful n start stop (pos (suc k)) c one e = up_lawful n start stop k c e
cut_lawful n start stop (negsuc k) c one e = down_lawful n start stop k c one e

-- ---- all dimensions

both : (P : _ → Type 0) (r : _) (rest : _) (cs : _) → and_then r rest ≡ Ok cs → ((c : _) (others : _) → r ≡ Ok c → rest ≡ Ok others → P (c ∷ others)) → P cs
both P (Err f) rest cs e h = absurd (let g : and_then (Err f) rest ≡ Ok cs = e in cc)
both P (Ok c) (Err f) cs e h = absurd (let g : and_then (Ok c) (Err f) ≡ Ok cs = e in cc)
both P (Ok c) (Ok others) cs e h = subst P (let g : Ok (c ∷ others) ≡ Ok cs = e in let is : c ∷ others ≡ cs = cc in is) (h c others refl refl)

cuts_lawful : (ns : List ℕ) (slices : List Slice) (cs : _) → list_all (nat_le 1) ns ≡ true → all_cuts ns slices ≡ Ok cs → AreCuts ns cs
cuts_lawful [] slices cs all e = subst (AreCuts []) (let f : Ok [] ≡ Ok cs = e in let is : [] ≡ cs = cc in is) tt
cuts_lawful (n ∷ ns) [] cs all e =
    let some = and_parts (nat_le 1 n) (list_all (nat_le 1) ns) all in
    both (AreCuts (n ∷ ns)) (Ok (whole_cut n)) (all_cuts ns []) cs e (λ c others f g.
    (subst (IsCut n) (let is : whole_cut n ≡ c = cc in is) (whole_lawful n (leb-true 1 n some.0)), cuts_lawful ns [] others some.1 g))
cuts_lawful (n ∷ ns) (slice ∷ slices) cs all e =
    let some = and_parts (nat_le 1 n) (list_all (nat_le 1) ns) all in
    both (AreCuts (n ∷ ns)) (cut n slice) (all_cuts ns slices) cs e (λ c others f g.
    (cut_lawful n slice.start slice.stop slice.step c (leb-true 1 n some.0) f, cuts_lawful ns slices others some.1 g))

from_cuts : (v w : Strided) (r : _) → cut_result v r ≡ Ok w → ((cs : _) → r ≡ Ok cs → AreCuts v.lengths cs) → is_view v ≡ true → Derived v w
from_cuts v w (Err f) e h a = absurd (let g : cut_result v (Err f) ≡ Ok w = e in cc)
from_cuts v w (Ok cs) e h a = subst (Derived v) (let f : Ok (cut_view v cs) ≡ Ok w = e in let is : cut_view v cs ≡ w = cc in is) (derived_cuts v cs a (h cs refl))

pub derived_slice : (v : Strided) (slices : List Slice) (w : Strided) → is_view v ≡ true → slice v slices ≡ Ok w → Derived v w
derived_slice v slices w a e =
    let found = ok_unless (nat_lt (length v.lengths) (length slices)) RankRange (cut_result v (all_cuts v.lengths slices)) w e in
    from_cuts v w (all_cuts v.lengths slices) found.1 (λ cs f. cuts_lawful v.lengths slices cs (lawful v a).lengths f) a
