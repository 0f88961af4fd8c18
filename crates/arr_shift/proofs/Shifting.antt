-- A view that is copied to one some places before or behind it, strip by strip.
use Rattle.std.proofs.Common.{◌≡◌, ◌≢◌, ℕ, suc, ◌+◌, ◌*◌, ◌<◌, ◌≤◌, ℤ, pos, ◌+ℤ◌, ◌<ℤ◌, List, [], ◌∷◌, Bool, true, false, cond, map, length, get_or, set, take, Option, Some, None, refl, ap, ap₂, sym, ◌∙◌, subst, arith}
use Rattle.std.specs.Prelude.{◌==◌, ◌&&◌, nat_lt}
use Rattle.std.specs.Cmp.Lexicographic.{pointwise}
use Rattle.std.specs.Cmp.Rules.{signed_items}
use Rattle.std.specs.Ordering.{int_eq}
use Rattle.std.proofs.lemmas.Bool.{and_parts, eq-eqb, eqb-true, ltb-false, ltb-true}
use Rattle.std.proofs.lemmas.Int.{ints}
use Rattle.std.proofs.lemmas.List.{ext_get_or, get_or-map, get_or-take, length-map, length-take-le, set_comm}
use Rattle.std.proofs.lemmas.List.FromFn.{get_or-map-range_with_len, length-map-range_with_len}
use Rattle.arr_view.specs.Strided.{Strided}
use Rattle.arr_view.specs.Views.{elements, is_view, positions, same_lists}
use Rattle.arr_view.proofs.Checks.{lawful, same_rank}
use Rattle.arr_view.proofs.Known.{same_lists-true}
use Rattle.arr_ops.specs.Memory.{Cell, Writes, changed, read, write}
use Rattle.arr_store.specs.Cells.{number_at}
use Rattle.arr_strips.specs.Columns.{Columns, place_at}
use Rattle.arr_strips.specs.Strips.{Bases, lane_of, part, put_at}
use Rattle.arr_strips.proofs.Cells.{put-miss}
use Rattle.arr_strips.proofs.Segments.{lane_more, part_more, put_more}
use Rattle.arr_rows.specs.Rows.{far, spot_at}
use Rattle.arr_shift.specs.Shifts.{is_shift, rises}
use Rattle.arr_rows.proofs.Courses.{length-elements, spot_is}
use Rattle.arr_rows.proofs.Far.{spot_far}
use Rattle.arr_shift.proofs.Rising.{order}

-- ---- what a shift is

pub record Shift (v w : Strided) : Type 0 where
  pub base : v.base ≡ w.base
  pub lengths : v.lengths ≡ w.lengths
  pub strides : v.strides ≡ w.strides
  pub rising : rises v.lengths v.strides ≡ true

pub shift_of : (v w : Strided) → is_shift v w ≡ true → Shift v w
shift_of v w e =
    let a = and_parts (v.base == w.base) _ e in
    let b = and_parts (same_lists v.lengths w.lengths) _ a.1 in
    let c = and_parts (pointwise int_eq v.strides w.strides) _ b.1 in
    record {
      base = eqb-true v.base w.base a.0;
      lengths = same_lists-true v.lengths w.lengths b.0;
      strides = (signed_items v.strides w.strides).0 c.0;
      rising = c.1;
    }

pub shift_from : (v w : Strided) → v.base ≡ w.base → same_lists v.lengths w.lengths ≡ true → pointwise int_eq v.strides w.strides ≡ true → rises v.lengths v.strides ≡ is_shift v w
shift_from v w base lengths strides =
    sym (ap (λ t. t && (same_lists v.lengths w.lengths && (pointwise int_eq v.strides w.strides && rises v.lengths v.strides))) (eq-eqb v.base w.base base)
    ∙ ap (λ t. t && (pointwise int_eq v.strides w.strides && rises v.lengths v.strides)) lengths ∙ ap (λ t. t && rises v.lengths v.strides) strides)

module _ (v w : Strided) (law : is_view v ≡ true) (law' : is_view w ≡ true) (s : Shift v w) where
  pub as_many : positions w.lengths ≡ positions v.lengths
  as_many = ap positions (sym s.lengths)

  there : (p : ℕ) → p < positions v.lengths → p < positions w.lengths
  there p l = subst (λ k. p < k) (sym as_many) l

  spot_v : (p : ℕ) → p < positions v.lengths → spot_at v p ≡ pos v.start +ℤ far v.lengths v.strides (length v.lengths) p
  spot_v p l = spot_far v.lengths v.strides (pos v.start) p (same_rank v law) (lawful v law).lengths l

  spot_w : (p : ℕ) → p < positions v.lengths → spot_at w p ≡ pos w.start +ℤ far v.lengths v.strides (length v.lengths) p
  spot_w p l =
      spot_far w.lengths w.strides (pos w.start) p (same_rank w law') (lawful w law').lengths (there p l)
      ∙ ap₂ (λ ns ss. pos w.start +ℤ far ns ss (length ns) p) (sym s.lengths) (sym s.strides)

  rising : (p q : ℕ) → p < q → q < positions v.lengths → spot_at v p <ℤ spot_at v q
  rising p q less l = order v.lengths v.strides (pos v.start) (same_rank v law) (lawful v law).lengths s.rising p q less l

  -- no place of the output twice
  pub own_apart : (p q : ℕ) → p < q → q < positions v.lengths → place_at v p ≢ place_at v q
  own_apart p q less l e =
      let a : pos (place_at v p) ≡ spot_at v p = spot_is v p law (omega arith) in
      let b : pos (place_at v q) ≡ spot_at v q = spot_is v q law l in
      let c : pos (place_at v p) ≡ pos (place_at v q) = ap pos e in
      let d = rising p q less l in
      omega (arith, ints)

  -- a place that is read later is not among those before it, where the output stands before the input
  pub front_apart : v.start ≤ w.start → (p q : ℕ) → p < q → q < positions v.lengths → place_at w q ≢ place_at v p
  front_apart before p q less l e =
      let a : pos (place_at v p) ≡ spot_at v p = spot_is v p law (omega arith) in
      let b : pos (place_at w q) ≡ spot_at w q = spot_is w q law' (there q l) in
      let c : pos (place_at w q) ≡ pos (place_at v p) = ap pos e in
      let d = rising p q less l in
      let f = spot_v q l in
      let g = spot_w q l in
      absurd (clash v.start w.start before (far v.lengths v.strides (length v.lengths) q) (spot_at v q) (spot_at w q) (spot_at v p) f g d (sym b ∙ c ∙ a))
    where
      clash : (a b : ℕ) → a ≤ b → (on x y z : ℤ) → x ≡ pos a +ℤ on → y ≡ pos b +ℤ on → z <ℤ x → y ≡ z → ⊥
      clash a b l on x y z e f g h = omega (arith, ints)

  -- nor among those behind it, where it stands behind the input
  pub back_apart : w.start ≤ v.start → (p q : ℕ) → p < q → q < positions v.lengths → place_at w p ≢ place_at v q
  back_apart before p q less l e =
      let a : pos (place_at v q) ≡ spot_at v q = spot_is v q law l in
      let b : pos (place_at w p) ≡ spot_at w p = spot_is w p law' (there p (omega arith)) in
      let c : pos (place_at w p) ≡ pos (place_at v q) = ap pos e in
      let d = rising p q less l in
      let k : p < positions v.lengths = omega arith in
      absurd (clash v.start w.start before (far v.lengths v.strides (length v.lengths) p) (spot_at v p) (spot_at w p) (spot_at v q) (spot_v p k) (spot_w p k) d (sym b ∙ c ∙ a))
    where
      clash : (a b : ℕ) → b ≤ a → (on x y z : ℤ) → x ≡ pos a +ℤ on → y ≡ pos b +ℤ on → x <ℤ z → y ≡ z → ⊥
      clash a b l on x y z e f g h = omega (arith, ints)

-- ---- writes that do not meet

set_out : (es : List ℕ) (xs ns : List ℤ) (e : ℕ) (x : ℤ) → ((q : ℕ) → q < length es → get_or es q 0 ≢ e) → write es xs (set ns e x) ≡ set (write es xs ns) e x
set_out [] xs ns e x apart = refl
set_out (d ∷ es) [] ns e x apart = refl
set_out (d ∷ es) (y ∷ xs) ns e x apart =
    ap (write es xs) (set_comm ns e d x y (λ s. apart 0 (omega arith) (sym s))) ∙ set_out es xs (set ns d y) e x (λ q l. apart (suc q) (omega arith))

write_swap : (es ds : List ℕ) (xs ys ns : List ℤ) → ((q r : ℕ) → q < length es → r < length ds → get_or es q 0 ≢ get_or ds r 0)
    → write es xs (write ds ys ns) ≡ write ds ys (write es xs ns)
write_swap es [] xs ys ns apart = refl
write_swap es (d ∷ ds) xs [] ns apart = refl
write_swap es (d ∷ ds) xs (y ∷ ys) ns apart =
    write_swap es ds xs ys (set ns d y) (λ q r l k. apart q (suc r) l (omega arith)) ∙ ap (write ds ys) (set_out es xs ns d y (λ q l. apart q 0 l (omega arith)))

pub put_swap : (b : ℕ) (es ds : List ℕ) (xs ys : List ℤ) (f : Bases) (a : ℕ) → ((q r : ℕ) → q < length es → r < length ds → get_or es q 0 ≢ get_or ds r 0)
    → put_at b es xs (put_at b ds ys f) a ≡ put_at b ds ys (put_at b es xs f) a
put_swap b es ds xs ys f a apart =
    elim (b == a) as (λ t. cond t (changed (Writes es xs) (put_at b ds ys f b)) (cond t (changed (Writes ds ys) (f b)) (f a)) ≡ cond t (changed (Writes ds ys) (put_at b es xs f b)) (cond t (changed (Writes es xs) (f b)) (f a))) [
      | true ↦ ap (changed (Writes es xs)) (here ds ys) ∙ at_cell (f b) ∙ sym (ap (changed (Writes ds ys)) (here es xs))
      | false ↦ refl
    ]
  where
    here : (cs : List ℕ) (zs : List ℤ) → put_at b cs zs f b ≡ changed (Writes cs zs) (f b)
    here cs zs = ap (λ t. cond t (changed (Writes cs zs) (f b)) (f b)) (eq-eqb b b refl)

    at_cell : (c : Option Cell) → changed (Writes es xs) (changed (Writes ds ys) c) ≡ changed (Writes ds ys) (changed (Writes es xs) c)
    at_cell None = refl
    at_cell (Some c) = ap (λ ns. let k : Cell = record { elem = c.elem; numbers = ns } in Some k) (write_swap es ds xs ys c.numbers apart)

-- ---- what is left

-- the number that goes to each position
abbrev pub wanted : Bases → Strided → Strided → Columns
wanted f v w q u = number_at (f v.base) (place_at w q)

-- the positions from `first` on, `count` of them, are left: written to what is there now they give all, and none that is read was changed
pub record Shifting (v w : Strided) (f now : Bases) (first count : ℕ) : Type 0 where
  pub rest : put_at v.base (part v first count) (lane_of (wanted f v w) v first count) now ≡ put_at v.base (elements v) (read (f v.base) (elements w)) f
  pub unread : (q : ℕ) → first ≤ q → q < first + count → number_at (now v.base) (place_at w q) ≡ number_at (f v.base) (place_at w q)

read_is : (c : Option Cell) (ps : List ℕ) → read c ps ≡ map (number_at c) ps
read_is None ps = refl
read_is (Some c) ps = refl

part_whole : (v : Strided) → is_view v ≡ true → part v 0 (positions v.lengths) ≡ elements v
part_whole v law =
    let long : length (part v 0 (positions v.lengths)) ≡ positions v.lengths = length-map-range_with_len (place_at v) 0 (positions v.lengths) in
    ext_get_or 0 (part v 0 (positions v.lengths)) (elements v) (long ∙ sym (length-elements v law))
    (λ i l. get_or-map-range_with_len (place_at v) 0 (positions v.lengths) i i 0 (subst (λ n. i < n) long l) (omega arith))

module _ (v w : Strided) (law : is_view v ≡ true) (law' : is_view w ≡ true) (s : Shift v w) (f : Bases) where
  all_wanted : lane_of (wanted f v w) v 0 (positions v.lengths) ≡ read (f v.base) (elements w)
  all_wanted =
      let n : ℕ = positions v.lengths in
      let long : length (lane_of (wanted f v w) v 0 n) ≡ n = length-map-range_with_len (λ q. wanted f v w q v) 0 n in
      let long' : length (map (number_at (f v.base)) (elements w)) ≡ n = length-map (elements w) (number_at (f v.base)) ∙ length-elements w law' ∙ as_many v w law law' s in
      ext_get_or (pos 0) (lane_of (wanted f v w) v 0 n) (map (number_at (f v.base)) (elements w)) (long ∙ sym long')
      (λ i l.
      let below : i < n = subst (λ k. i < k) long l in
      let there : i < length (elements w) = subst (λ k. i < k) (sym (length-elements w law' ∙ as_many v w law law' s)) below in
      get_or-map-range_with_len (λ q. wanted f v w q v) 0 n i i (pos 0) below (omega arith) ∙ sym (get_or-map (number_at (f v.base)) (elements w) i 0 (pos 0) there))
      ∙ sym (read_is (f v.base) (elements w))

  -- before the first strip
  pub shifting_start : Shifting v w f f 0 (positions v.lengths)
  shifting_start =
      record { rest = ap₂ (λ es xs. put_at v.base es xs f) (part_whole v law) all_wanted; unread = λ q a b. refl }

  -- when nothing is left
  pub shifting_end : (now : Bases) (first count : ℕ) → count ≡ 0 → Shifting v w f now first count → now ≡ put_at v.base (elements v) (read (f v.base) (elements w)) f
  shifting_end now first count none h =
      (λ i a. nothing a i) ∙ ap (λ k. put_at v.base (part v first k) (lane_of (wanted f v w) v first k) now) (sym none) ∙ h.rest
    where
      whole : (c : Option Cell) → changed (Writes [] []) c ≡ c
      whole None = refl
      whole (Some c) = refl

      nothing : (a : ℕ) → now a ≡ put_at v.base [] [] now a
      nothing a =
          elim (v.base == a) as (λ t. (v.base == a) ≡ t → now a ≡ cond t (changed (Writes [] []) (now v.base)) (now a)) [
            | true ↦ λ e. sym (whole (now v.base) ∙ ap now (eqb-true v.base a e))
            | false ↦ λ e. refl
          ] refl

  module _ (now next : Bases) (first count p c first' count' : ℕ) (xs : List ℤ) (h : Shifting v w f now first count) (inside : first + count ≤ positions v.lengths)
      (less : count ≡ count' + c) (low : first ≤ p) (high : p + c ≤ first + count) (long : c ≤ length xs)
      (each : (i : ℕ) → i < c → get_or xs i (pos 0) ≡ number_at (now v.base) (place_at w (p + i))) (is : next ≡ put_at v.base (part v p c) (take c xs) now) where
    moved : take c xs ≡ lane_of (wanted f v w) v p c
    moved =
        let taken : length (take c xs) ≡ c = length-take-le c xs long in
        let asked : length (lane_of (wanted f v w) v p c) ≡ c = length-map-range_with_len (λ q. wanted f v w q v) p c in
        ext_get_or (pos 0) (take c xs) (lane_of (wanted f v w) v p c) (taken ∙ sym asked)
        (λ i l.
        let below : i < c = subst (λ k. i < k) taken l in
        get_or-take c xs i (pos 0) below ∙ each i below ∙ h.unread (p + i) (omega arith) (omega arith) ∙ sym (get_or-map-range_with_len (λ q. wanted f v w q v) p c i (p + i) (pos 0) below refl))

    next_is : next ≡ put_at v.base (part v p c) (lane_of (wanted f v w) v p c) now
    next_is = is ∙ ap (λ ys. put_at v.base (part v p c) ys now) moved

    lengths_agree : (a k : ℕ) → length (part v a k) ≡ length (lane_of (wanted f v w) v a k)
    lengths_agree a k = length-map-range_with_len (place_at v) a k ∙ sym (length-map-range_with_len (λ q. wanted f v w q v) a k)

    still : ((q r : ℕ) → first' ≤ q → q < first' + count' → p ≤ r → r < p + c → place_at w q ≢ place_at v r) → (q : ℕ) → first' ≤ q → q < first' + count' → first ≤ q → q < first + count
        → number_at (next v.base) (place_at w q) ≡ number_at (f v.base) (place_at w q)
    still apart q a b a' b' =
        ap (λ (g : Bases). number_at (g v.base) (place_at w q)) next_is
        ∙ put-miss v.base (part v p c) (lane_of (wanted f v w) v p c) now v.base (place_at w q)
        (λ e r l s.
        let below : r < c = subst (λ k. r < k) (length-map-range_with_len (place_at v) p c) l in
        apart q (p + r) a b (omega arith) (omega arith) (sym s ∙ get_or-map-range_with_len (place_at v) p c r (p + r) 0 below refl))
        ∙ h.unread q a' b'

    -- a strip from the front
    pub front_strip : v.start ≤ w.start → p ≡ first → first' ≡ first + c → Shifting v w f next first' count'
    front_strip before at on =
        record {
          rest = ap (put_at v.base (part v first' count') (lane_of (wanted f v w) v first' count')) next_is
              ∙ ap₂ (λ a b. put_at v.base (part v a count') (lane_of (wanted f v w) v a count') (put_at v.base (part v b c) (lane_of (wanted f v w) v b c) now)) on at
              ∙ (λ i a. sym (put_more v.base (part v first c) (part v (first + c) count') (lane_of (wanted f v w) v first c) (lane_of (wanted f v w) v (first + c) count') now a (lengths_agree first c)) i)
              ∙ sym (ap₂ (λ es ys. put_at v.base es ys now) (part_more v first c count') (lane_more (wanted f v w) v first c count'))
              ∙ ap (λ k. put_at v.base (part v first k) (lane_of (wanted f v w) v first k) now) (let e : c + count' ≡ count = omega arith in e) ∙ h.rest;
          unread = λ q a b. still (λ q r a b d e. front_apart v w law law' s before r q (omega arith) (omega arith)) q a b (omega arith) (omega arith);
        }

    -- a strip from the end
    pub end_strip : w.start ≤ v.start → p ≡ first + count' → first' ≡ first → Shifting v w f next first' count'
    end_strip before at on =
        record {
          rest = ap (put_at v.base (part v first' count') (lane_of (wanted f v w) v first' count')) next_is
              ∙ ap₂ (λ a b. put_at v.base (part v a count') (lane_of (wanted f v w) v a count') (put_at v.base (part v b c) (lane_of (wanted f v w) v b c) now)) on at
              ∙ (λ i a. put_swap v.base (part v first count') (part v (first + count') c) (lane_of (wanted f v w) v first count') (lane_of (wanted f v w) v (first + count') c) now a disjoint i)
              ∙ (λ i a. sym (put_more v.base (part v first count') (part v (first + count') c) (lane_of (wanted f v w) v first count') (lane_of (wanted f v w) v (first + count') c) now a (lengths_agree first count')) i)
              ∙ sym (ap₂ (λ es ys. put_at v.base es ys now) (part_more v first count' c) (lane_more (wanted f v w) v first count' c))
              ∙ ap (λ k. put_at v.base (part v first k) (lane_of (wanted f v w) v first k) now) (sym less) ∙ h.rest;
          unread = λ q a b. still (λ q r a b d e. back_apart v w law law' s before q r (omega arith) (omega arith)) q a b (omega arith) (omega arith);
        }
      where
        disjoint : (q r : ℕ) → q < length (part v first count') → r < length (part v (first + count') c) → get_or (part v first count') q 0 ≢ get_or (part v (first + count') c) r 0
        disjoint q r l k e =
            let a : q < count' = subst (λ n. q < n) (length-map-range_with_len (place_at v) first count') l in
            let b : r < c = subst (λ n. r < n) (length-map-range_with_len (place_at v) (first + count') c) k in
            own_apart v w law law' s (first + q) (first + count' + r) (omega arith) (omega arith)
            (sym (get_or-map-range_with_len (place_at v) first count' q (first + q) 0 a refl) ∙ e ∙ get_or-map-range_with_len (place_at v) (first + count') c r (first + count' + r) 0 b refl)

  -- a strip from either side
  pub strip_more : (now next : Bases) (first count p c first' count' : ℕ) (xs : List ℤ) → Shifting v w f now first count → first + count ≤ positions v.lengths → count ≡ count' + c → c ≤ length xs
      → ((i : ℕ) → i < c → get_or xs i (pos 0) ≡ number_at (now v.base) (place_at w (p + i))) → next ≡ put_at v.base (part v p c) (take c xs) now
      → (b : Bool) → b ≡ nat_lt w.start v.start → (b ≡ false → p ≡ first) → (b ≡ false → first' ≡ first + c) → (b ≡ true → p ≡ first + count') → (b ≡ true → first' ≡ first) → Shifting v w f next first' count'
  strip_more now next first count p c first' count' xs h inside less long each is true side a d e g =
      let at : p ≡ first + count' = e refl in
      let before : w.start < v.start = ltb-true w.start v.start (sym side) in
      end_strip now next first count p c first' count' xs h inside less (omega arith) (omega arith) long each is (omega arith) at (g refl)
  strip_more now next first count p c first' count' xs h inside less long each is false side a d e g =
      let at : p ≡ first = a refl in
      let before : v.start ≤ w.start = ltb-false w.start v.start (sym side) in
      front_strip now next first count p c first' count' xs h inside less (omega arith) (omega arith) long each is before at (d refl)

-- ---- positions that are cut off, and those that stay

pub cut_inside : (b : Bool) (first count p c count' : ℕ) → count ≡ count' + c → (b ≡ false → p ≡ first) → (b ≡ true → p ≡ first + count') → p + c ≤ first + count
cut_inside true first count p c count' less a e = let at : p ≡ first + count' = e refl in omega arith
cut_inside false first count p c count' less a e = let at : p ≡ first = a refl in omega arith

pub rest_inside : (b : Bool) (first count first' c count' : ℕ) → count ≡ count' + c → (b ≡ false → first' ≡ first + c) → (b ≡ true → first' ≡ first) → first' + count' ≤ first + count
rest_inside true first count first' c count' less a e = let at : first' ≡ first = e refl in omega arith
rest_inside false first count first' c count' less a e = let at : first' ≡ first + c = a refl in omega arith

-- bytes so far, and those of what is left
pub moved_bytes : (bytes bytes' all count c count' each : ℕ) → bytes' ≡ bytes + c * each → count ≡ count' + c → bytes + count * each ≡ all → bytes' + count' * each ≡ all
moved_bytes bytes bytes' all count c count' each e less before =
    ap (λ k. k + count' * each) e ∙ (let sum : bytes + c * each + count' * each ≡ bytes + (count' + c) * each = omega arith in sum) ∙ ap (λ k. bytes + k * each) (sym less) ∙ before
