use Rattle.std.proofs.Common.{◌≡◌, ◌+◌, ◌<◌, ◌≤◌, ℕ, ℤ, pos, negsuc, ◌+ℤ◌, ◌*ℤ◌, ◌≤ℤ◌, ◌<ℤ◌, List, [], ◌∷◌, ◌++◌, true, to_z, of_z, w32, w64, length, get_or, drop, refl, ap, ap₂, sym, ◌∙◌, subst, arith, rules, unsigned_abs, append_assoc, length-drop, ◌-◌}
use Rattle.std.specs.Prelude.{IsSome, Some}
use mir.Val.{SFits}
use Rattle.std.proofs.lemmas.Int.{ints, to_z-of_z}
use Rattle.std.proofs.lemmas.List.{drop_all, append-nil}
use Rattle.arr_view.specs.Strided.{Strided}
use Rattle.arr_view.specs.Views.{is_view, is_place, view_from, to_place}
use Rattle.arr_view.proofs.Checks.{lawful, same_rank, at_most_four}
use Rattle.arr_view.proofs.Places.{Inside, first_left, place_low, place_high, natural, lengths_from}
use Rattle.arr_shape.specs.declared.bounds.Cut.{Cut}
use Rattle.arr_shape.specs.Views.{place_at}
use Rattle.arr_shape.specs.Slices.{scaled, cut_view, IsCut, AreCuts}
use Rattle.arr_shape.proofs.Made.{Sound, made, sound_view}
use Rattle.arr_shape.proofs.CutViews.{sound_cuts, begins, short, first_inside, cut_at, are_many, firsts, counts, inside_turn, scaled_turn, counts_turn, place_turn}
use Rattle.arr_shape.proofs.slices.cut_view.Goals as goal

abbrev none : Cut
none = record { first = 0; count = 0; step = pos 0 }

-- a view and its cuts
record Whole (v : Strided) (cs : List Cut) : Type 0 where
  lawful_view : is_view v ≡ true
  same : length v.strides ≡ length v.lengths
  many : length cs ≡ length v.lengths
  four : length v.lengths ≤ 4
  sound : Sound v.start v.lengths v.strides

whole : (v : Strided) (cs : List Cut) → is_view v ≡ true → AreCuts v.lengths cs → Whole v cs
whole v cs e h = record { lawful_view = e; same = same_rank v e; many = are_many v.lengths cs h; four = at_most_four v.lengths (lawful v e).rank; sound = sound_view v e }

-- what holds at one dimension, from the place z on
module _ (v : Strided) (cs : List Cut) (i : ℕ) (z : ℤ) (w : Whole v cs) (h : AreCuts v.lengths cs) (l : i < length cs) (inside : Inside (drop i v.lengths) (drop i v.strides) z) where
  n : ℕ
  n = get_or v.lengths i 0

  below : i < length v.lengths
  below = subst (λ k. i < k) w.many l

  below_strides : i < length v.strides
  below_strides = subst (λ k. i < k) (sym w.same) below

  here : Inside (get_or v.lengths i 0 ∷ drop (i + 1) v.lengths) (get_or v.strides i (pos 0) ∷ drop (i + 1) v.strides) z
  here = inside_turn v.lengths v.strides z i below below_strides inside

  cut_here : IsCut (get_or v.lengths i 0) (get_or cs i none)
  cut_here = cut_at v.lengths cs i none h l

  moved : Inside (drop (i + 1) v.lengths) (drop (i + 1) v.strides) (z +ℤ (pos (get_or cs i none).first *ℤ get_or v.strides i (pos 0)))
  moved = first_inside (get_or v.lengths i 0) (get_or cs i none) (drop (i + 1) v.lengths) (get_or v.strides i (pos 0)) (drop (i + 1) v.strides) z cut_here here

  place : is_place z ≡ true
  place = first_left v.lengths v.strides i z w.same w.sound.lengths inside

  next_place : is_place (z +ℤ (pos (get_or cs i none).first *ℤ get_or v.strides i (pos 0))) ≡ true
  next_place = first_left v.lengths v.strides (i + 1) _ w.same w.sound.lengths moved

  near : (negsuc 1048576 ≤ℤ ((get_or cs i none).step *ℤ get_or v.strides i (pos 0))) × (((get_or cs i none).step *ℤ get_or v.strides i (pos 0)) ≤ℤ pos 1048576)
  near =
      short (get_or v.lengths i 0) (get_or cs i none) (drop (i + 1) v.lengths) (get_or v.strides i (pos 0)) (drop (i + 1) v.strides) z (lengths_from (i + 1) v.lengths w.sound.lengths)
      (length-drop (i + 1) v.strides ∙ ap (λ k. k - (i + 1)) w.same ∙ sym (length-drop (i + 1) v.lengths)) cut_here here

pub bounds-strides-axis : goal.bounds-strides-axis
bounds-strides-axis c =
    let w : Whole c.args.view.now c.args.cuts.now = whole c.args.view.now c.args.cuts.now c.strides.ensures.lawful c.requires in
    subst (λ xs. c.loop-axis.axis < length xs) (sym c.strides.ensures.value) (subst (λ k. c.loop-axis.axis < k) (w.many ∙ sym w.same) c.loop-axis-test.true)

pub overflow_add-start : goal.overflow_add-start
overflow_add-start c =
    let w : Whole c.args.view.now c.args.cuts.now = whole c.args.view.now c.args.cuts.now c.strides.ensures.lawful c.requires in
    let z : ℤ = to_z w64 c.loop-axis.start-bits in
    let at : is_place z ≡ true = place c.args.view.now c.args.cuts.now c.loop-axis.axis z w c.requires c.loop-axis-test.true c.loop-axis.invariant.inside in
    let low : pos 0 ≤ℤ z = place_low z at in
    let high : z <ℤ pos 1048576 = place_high z at in
    omega (arith, ints)

room : (a i k m r : ℕ) → a ≡ i → i < k → k ≡ m → m ≤ 4 → a < 4
room a i k m r e l f g = omega arith

pub push-requires : goal.push-requires
push-requires c =
    let w : Whole c.args.view.now c.args.cuts.now = whole c.args.view.now c.args.cuts.now c.strides.ensures.lawful c.requires in
    (omega arith, room _ _ _ _ 0 c.loop-axis.invariant.many c.loop-axis-test.true w.many w.four)

pub overflow_cast-from : goal.overflow_cast-from
overflow_cast-from c =
    let v : Strided = c.args.view.now in
    let cs : List Cut = c.args.cuts.now in
    let i : ℕ = c.loop-axis.axis in
    let z : ℤ = to_z w64 c.loop-axis.start-bits in
    let w : Whole v cs = whole v cs c.strides.ensures.lawful c.requires in
    let s : ℤ = get_or v.strides i (pos 0) in
    let k : Cut = get_or cs i none in
    let fits_stride : SFits w32 (get_or c.strides.result.now i (pos 0)) = search rules in
    let stride : to_z w32 (of_z w32 (get_or c.strides.result.now i (pos 0))) ≡ s =
    to_z-of_z w32 (get_or c.strides.result.now i (pos 0)) fits_stride ∙ ap (λ xs. get_or xs i (pos 0)) c.strides.ensures.value in
    let fits_step : SFits w32 k.step = search rules in
    let fits_from : SFits w64 c.from.result = search rules in
    let fits_from_stride : SFits w64 c.from-in-loop-axis.result = search rules in
    let step_is : to_z w64 (of_z w64 c.from.result) ≡ k.step = to_z-of_z w64 c.from.result fits_from ∙ c.from.ensures ∙ to_z-of_z w32 k.step fits_step in
    let stride_is : to_z w64 (of_z w64 c.from-in-loop-axis.result) ≡ s = to_z-of_z w64 c.from-in-loop-axis.result fits_from_stride ∙ c.from-in-loop-axis.ensures ∙ stride in
    let near_both = near v cs i z w c.requires c.loop-axis-test.true c.loop-axis.invariant.inside in
    let low_product : negsuc 1048576 ≤ℤ (k.step *ℤ s) = near_both.0 in
    let high_product : (k.step *ℤ s) ≤ℤ pos 1048576 = near_both.1 in
    let product : to_z w64 (of_z w64 (to_z w64 (of_z w64 c.from.result) *ℤ to_z w64 (of_z w64 c.from-in-loop-axis.result))) ≡ k.step *ℤ s =
    ap₂ (λ x y. to_z w64 (of_z w64 (x *ℤ y))) step_is stride_is ∙ to_z-of_z w64 (k.step *ℤ s) (let f : SFits w64 (k.step *ℤ s) = omega (arith, ints) in f) in
    let fits_product : SFits w32 (k.step *ℤ s) = omega (arith, ints) in
    subst (SFits w32) (sym product) fits_product

pub push-requires-in-loop-axis : goal.push-requires-in-loop-axis
push-requires-in-loop-axis c =
    let w : Whole c.args.view.now c.args.cuts.now = whole c.args.view.now c.args.cuts.now c.strides.ensures.lawful c.requires in
    (omega arith, room _ _ _ _ 0 c.loop-axis.invariant.many_strides c.loop-axis-test.true w.many w.four)

pub loop-axis-preserved : goal.loop-axis-preserved
loop-axis-preserved c =
    let v : Strided = c.args.view.now in
    let cs : List Cut = c.args.cuts.now in
    let i : ℕ = c.loop-axis.axis in
    let z : ℤ = to_z w64 c.loop-axis.start-bits in
    let w : Whole v cs = whole v cs c.strides.ensures.lawful c.requires in
    let s : ℤ = get_or v.strides i (pos 0) in
    let k : Cut = get_or cs i none in
    let fits_stride : SFits w32 (get_or c.strides.result.now i (pos 0)) = search rules in
    let stride : to_z w32 (of_z w32 (get_or c.strides.result.now i (pos 0))) ≡ s =
    to_z-of_z w32 (get_or c.strides.result.now i (pos 0)) fits_stride ∙ ap (λ xs. get_or xs i (pos 0)) c.strides.ensures.value in
    let fits_step : SFits w32 k.step = search rules in
    let fits_from : SFits w64 c.from.result = search rules in
    let fits_from_stride : SFits w64 c.from-in-loop-axis.result = search rules in
    let step_is : to_z w64 (of_z w64 c.from.result) ≡ k.step = to_z-of_z w64 c.from.result fits_from ∙ c.from.ensures ∙ to_z-of_z w32 k.step fits_step in
    let stride_is : to_z w64 (of_z w64 c.from-in-loop-axis.result) ≡ s = to_z-of_z w64 c.from-in-loop-axis.result fits_from_stride ∙ c.from-in-loop-axis.ensures ∙ stride in
    let near_both = near v cs i z w c.requires c.loop-axis-test.true c.loop-axis.invariant.inside in
    let low_product : negsuc 1048576 ≤ℤ (k.step *ℤ s) = near_both.0 in
    let high_product : (k.step *ℤ s) ≤ℤ pos 1048576 = near_both.1 in
    let product : to_z w64 (of_z w64 (to_z w64 (of_z w64 c.from.result) *ℤ to_z w64 (of_z w64 c.from-in-loop-axis.result))) ≡ k.step *ℤ s =
    ap₂ (λ x y. to_z w64 (of_z w64 (x *ℤ y))) step_is stride_is ∙ to_z-of_z w64 (k.step *ℤ s) (let f : SFits w64 (k.step *ℤ s) = omega (arith, ints) in f) in
    let fits_product : SFits w32 (k.step *ℤ s) = omega (arith, ints) in
    let h = c.requires in
    let l = c.loop-axis-test.true in
    let inside = c.loop-axis.invariant.inside in
    let first : ℤ = pos k.first *ℤ s in
    let offset_is : c.offset-start.result ≡ first = c.offset-start.ensures.value ∙ ap (λ y. pos k.first *ℤ y) stride in
    let at : is_place z ≡ true = place v cs i z w h l inside in
    let low : pos 0 ≤ℤ z = place_low z at in
    let high : z <ℤ pos 1048576 = place_high z at in
    let sum : to_z w64 (of_z w64 (z +ℤ to_z w64 (of_z w64 c.offset-start.result))) ≡ z +ℤ c.offset-start.result = omega (arith, ints) in
    let next : to_z w64 (of_z w64 (z +ℤ to_z w64 (of_z w64 c.offset-start.result))) ≡ z +ℤ first = sum ∙ ap (λ y. z +ℤ y) offset_is in
    let strides_here : i < length v.strides = below_strides v cs i z w h l inside in
    record {
      many = c.push.ensures.len ∙ ap (λ m. m + 1) c.loop-axis.invariant.many;
      many_strides = c.push-in-loop-axis.ensures.len ∙ ap (λ m. m + 1) c.loop-axis.invariant.many_strides;
      inside = subst (λ y. Inside (drop (i + 1) v.lengths) (drop (i + 1) v.strides) y) (sym next) (moved v cs i z w h l inside);
      place = ap (λ y. place_at y (drop (i + 1) v.strides) (firsts (drop (i + 1) cs))) next ∙ sym (place_turn z cs v.strides i none l strides_here) ∙ c.loop-axis.invariant.place;
      lengths =
          ap (λ xs. xs ++ counts (drop (i + 1) cs)) c.push.ensures.items
          ∙ append_assoc c.loop-axis.lengths.items (k.count ∷ []) (counts (drop (i + 1) cs))
          ∙ ap (λ xs. c.loop-axis.lengths.items ++ xs) (sym (counts_turn cs i none l))
          ∙ c.loop-axis.invariant.lengths;
      strides =
          ap (λ xs. xs ++ scaled (drop (i + 1) cs) (drop (i + 1) v.strides))
          (c.push-in-loop-axis.ensures.items ∙ ap (λ y. c.loop-axis.strides.items ++ (y ∷ [])) (ap (λ y. to_z w32 (of_z w32 y)) product ∙ to_z-of_z w32 (k.step *ℤ s) fits_product))
          ∙ append_assoc c.loop-axis.strides.items ((k.step *ℤ s) ∷ []) (scaled (drop (i + 1) cs) (drop (i + 1) v.strides))
          ∙ ap (λ xs. c.loop-axis.strides.items ++ xs) (sym (scaled_turn cs v.strides i none l strides_here))
          ∙ c.loop-axis.invariant.strides;
    }

-- where no dimension is left
module _ (v : Strided) (cs : List Cut) (i : ℕ) (z : ℤ) (w : Whole v cs) (h : AreCuts v.lengths cs) (l : length cs ≤ i)
    (place_is : place_at z (drop i v.strides) (firsts (drop i cs)) ≡ place_at (pos v.start) v.strides (firsts cs)) where
  last_place : z ≡ place_at (pos v.start) v.strides (firsts cs)
  last_place = sym (ap (λ xs. place_at z xs (firsts (drop i cs))) (drop_all i v.strides (subst (λ k. k ≤ i) (w.many ∙ sym w.same) l))) ∙ place_is

  last_inside : is_place z ≡ true
  last_inside = ap is_place last_place ∙ begins v.start v.lengths v.strides cs w.same h w.sound

  start_is : unsigned_abs z ≡ (cut_view v cs).start
  start_is = natural z last_inside ∙ ap to_place last_place

  view_is : (base start : ℕ) (ms : List ℕ) (ts : List ℤ) → base ≡ v.base → start ≡ unsigned_abs z → ms ≡ counts cs → ts ≡ scaled cs v.strides → view_from base start ms ts ≡ Some (cut_view v cs)
  view_is base start ms ts a b d e =
      ap₂ (λ x y. view_from x y ms ts) a (b ∙ start_is) ∙ ap₂ (view_from v.base (cut_view v cs).start) d e
      ∙ made v.base (cut_view v cs).start (counts cs) (scaled cs v.strides) (sound_cuts v.start v.lengths v.strides cs w.same h w.sound)

pub overflow_cast-start : goal.overflow_cast-start
overflow_cast-start c =
    let w : Whole c.args.view.now c.args.cuts.now = whole c.args.view.now c.args.cuts.now c.start.ensures.lawful c.requires in
    let z : ℤ = to_z w64 c.loop-axis.start-bits in
    let at : is_place z ≡ true = last_inside c.args.view.now c.args.cuts.now c.loop-axis.axis z w c.requires c.loop-axis-test.false c.loop-axis.invariant.place in
    let low : pos 0 ≤ℤ z = place_low z at in
    let high : z <ℤ pos 1048576 = place_high z at in
    (omega (arith, ints), omega (arith, ints))

pub unwrap-requires : goal.unwrap-requires
unwrap-requires c =
    let v : Strided = c.args.view.now in
    let cs : List Cut = c.args.cuts.now in
    let i : ℕ = c.loop-axis.axis in
    let w : Whole v cs = whole v cs c.start.ensures.lawful c.requires in
    let l = c.loop-axis-test.false in
    let lengths : c.as_slice.result.now ≡ counts cs =
    c.as_slice.ensures.value ∙ sym (append-nil c.loop-axis.lengths.items) ∙ ap (λ xs. c.loop-axis.lengths.items ++ counts xs) (sym (drop_all i cs l)) ∙ c.loop-axis.invariant.lengths in
    let strides : c.as_slice-2.result.now ≡ scaled cs v.strides =
    c.as_slice-2.ensures.value ∙ sym (append-nil c.loop-axis.strides.items) ∙ ap (λ xs. c.loop-axis.strides.items ++ scaled xs (drop i v.strides)) (sym (drop_all i cs l)) ∙ c.loop-axis.invariant.strides in
    let made_view : c.new.result ≡ Some (cut_view v cs) =
    c.new.ensures ∙ view_is v cs i (to_z w64 c.loop-axis.start-bits) w c.requires l c.loop-axis.invariant.place _ _ _ _ c.base.ensures.value refl lengths strides in
    subst IsSome (sym made_view) (search rules)

pub returns : goal.returns
returns c =
    let v : Strided = c.args.view.now in
    let cs : List Cut = c.args.cuts.now in
    let i : ℕ = c.loop-axis.axis in
    let w : Whole v cs = whole v cs c.start.ensures.lawful c.requires in
    let l = c.loop-axis-test.false in
    let lengths : c.as_slice.result.now ≡ counts cs =
    c.as_slice.ensures.value ∙ sym (append-nil c.loop-axis.lengths.items) ∙ ap (λ xs. c.loop-axis.lengths.items ++ counts xs) (sym (drop_all i cs l)) ∙ c.loop-axis.invariant.lengths in
    let strides : c.as_slice-2.result.now ≡ scaled cs v.strides =
    c.as_slice-2.ensures.value ∙ sym (append-nil c.loop-axis.strides.items) ∙ ap (λ xs. c.loop-axis.strides.items ++ scaled xs (drop i v.strides)) (sym (drop_all i cs l)) ∙ c.loop-axis.invariant.strides in
    let made_view : c.new.result ≡ Some (cut_view v cs) =
    c.new.ensures ∙ view_is v cs i (to_z w64 c.loop-axis.start-bits) w c.requires l c.loop-axis.invariant.place _ _ _ _ c.base.ensures.value refl lengths strides in
    let same : c.new.result ≡ Some c.unwrap.result = c.unwrap.ensures in
    cc
