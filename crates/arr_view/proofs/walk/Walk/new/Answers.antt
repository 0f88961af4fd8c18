use Rattle.std.proofs.Common.{◌≡◌, ℕ, ◌-◌, ◌≤◌, ◌<◌, ℤ, pos, List, ◌++◌, true, length, get_or, replicate, ap, ◌∙◌, subst, arith, rules}
use Rattle.std.proofs.lemmas.Int.{ints, to_z-of_z}
use Rattle.arr_view.specs.Views.{is_view, is_place}
use Rattle.arr_view.proofs.Checks.{same_rank, lawful, at_most_four}
use Rattle.arr_view.proofs.Walking.{filled, more_whole, new_walking, new_left}
use mir.Val.{SFits}
use Rattle.std.specs.Prelude.{nat_le}
use Rattle.std.specs.List.{list_all}
use Rattle.std.proofs.Common.{◌<ℤ◌, to_z, of_z, w64}
use Rattle.std.proofs.lemmas.List.{take_all}
use Rattle.arr_view.specs.Strided.{Strided}
use Rattle.arr_view.proofs.Places.{begins_inside, place_high}
use Rattle.std.proofs.Common.{w32}
use Rattle.std.proofs.lemmas.List.{get_or_default}
use Rattle.arr_view.proofs.walk.Walk.new.Goals as goal

pub bounds-strides-dimension : goal.bounds-strides-dimension
bounds-strides-dimension c =
    let a : length c.shape-length-items.result.now ≡ length c.args.view.now.lengths = ap length c.shape-length-items.ensures.value in
    let b : length c.strides.result.now ≡ length c.args.view.now.strides = ap length c.strides.ensures.value in
    let same : length c.args.view.now.strides ≡ length c.args.view.now.lengths = same_rank c.args.view.now c.strides.ensures.lawful in
    omega arith

pub loop-dimension-preserved : goal.loop-dimension-preserved
loop-dimension-preserved c =
    let i : ℕ = c.loop-dimension.dimension in
    let ns : List ℕ = c.args.view.now.lengths in
    let ss : List ℤ = c.args.view.now.strides in
    let shape : c.shape-length-items.result.now ≡ ns = c.shape-length-items.ensures.value in
    let strides : c.strides.result.now ≡ ss = c.strides.ensures.value in
    let same : length ss ≡ length ns = same_rank c.args.view.now c.strides.ensures.lawful in
    let rank : length ns ≤ 4 = at_most_four ns (lawful c.args.view.now c.strides.ensures.lawful).rank in
    let l : i < length ns = subst (λ xs. i < length xs) shape c.loop-dimension-test.true in
    let fits : SFits w32 (get_or c.strides.result.now i (pos 0)) = search rules in
    record {
      lengths = filled ns 4 i _ 1 c.loop-dimension.lengths l rank c.loop-dimension.invariant.lengths (ap (λ xs. get_or xs i 0) shape ∙ get_or_default ns i 0 1 l);
      strides = filled ss 4 i _ (pos 0) c.loop-dimension.strides (omega arith) (omega arith) c.loop-dimension.invariant.strides (to_z-of_z w32 (get_or c.strides.result.now i (pos 0)) fits ∙ ap (λ xs. get_or xs i (pos 0)) strides);
    }

pub restart-requires-clause-lengths : goal.restart-requires-clause-lengths
restart-requires-clause-lengths c =
    let i : ℕ = c.loop-dimension.dimension in
    let v : Strided = c.args.view.now in
    let shape : c.shape-length-items.result.now ≡ v.lengths = c.shape-length-items.ensures.value in
    let ok : is_view v ≡ true = c.start.ensures.lawful in
    let same : length v.strides ≡ length v.lengths = same_rank v ok in
    let over : length v.lengths ≤ i = subst (λ xs. length xs ≤ i) shape c.loop-dimension-test.false in
    let lengths : c.loop-dimension.lengths ≡ v.lengths ++ replicate (4 - i) 1 = c.loop-dimension.invariant.lengths ∙ ap (λ xs. xs ++ replicate (4 - i) 1) (take_all i v.lengths over) in
    let strides : c.loop-dimension.strides ≡ v.strides ++ replicate (4 - i) (pos 0) = c.loop-dimension.invariant.strides ∙ ap (λ xs. xs ++ replicate (4 - i) (pos 0)) (take_all i v.strides (omega arith)) in
    ap (list_all (nat_le 1)) lengths ∙ more_whole v.lengths (4 - i) (lawful v ok).lengths

cast : (z : ℤ) (n m : ℕ) → z ≡ pos n → n ≡ m → is_place (pos m) ≡ true → to_z w64 (of_z w64 z) ≡ pos m
cast z n m e f h = let a : pos m <ℤ pos 1048576 = place_high (pos m) h in omega (arith, ints)

pub invariant_of-result : goal.invariant_of-result
invariant_of-result c =
    let i : ℕ = c.loop-dimension.dimension in
    let v : Strided = c.args.view.now in
    let shape : c.shape-length-items.result.now ≡ v.lengths = c.shape-length-items.ensures.value in
    let ok : is_view v ≡ true = c.start.ensures.lawful in
    let same : length v.strides ≡ length v.lengths = same_rank v ok in
    let over : length v.lengths ≤ i = subst (λ xs. length xs ≤ i) shape c.loop-dimension-test.false in
    let lengths : c.loop-dimension.lengths ≡ v.lengths ++ replicate (4 - i) 1 = c.loop-dimension.invariant.lengths ∙ ap (λ xs. xs ++ replicate (4 - i) 1) (take_all i v.lengths over) in
    let strides : c.loop-dimension.strides ≡ v.strides ++ replicate (4 - i) (pos 0) = c.loop-dimension.invariant.strides ∙ ap (λ xs. xs ++ replicate (4 - i) (pos 0)) (take_all i v.strides (omega arith)) in
    let place : to_z w64 (of_z w64 c.from-place.result) ≡ pos v.start = cast c.from-place.result c.start.result v.start c.from-place.ensures c.start.ensures.value (begins_inside v.lengths v.strides (pos v.start) (lawful v ok).lengths same (lawful v ok).inside) in
    new_walking v ok (4 - i) c.loop-dimension.lengths c.loop-dimension.strides c.restart.new.left c.restart.new.places (to_z w64 (of_z w64 c.from-place.result)) lengths strides c.restart.ensures.left c.restart.ensures.places place

pub returns : goal.returns
returns c =
    let i : ℕ = c.loop-dimension.dimension in
    let v : Strided = c.args.view.now in
    let shape : c.shape-length-items.result.now ≡ v.lengths = c.shape-length-items.ensures.value in
    let ok : is_view v ≡ true = c.start.ensures.lawful in
    let same : length v.strides ≡ length v.lengths = same_rank v ok in
    let over : length v.lengths ≤ i = subst (λ xs. length xs ≤ i) shape c.loop-dimension-test.false in
    let lengths : c.loop-dimension.lengths ≡ v.lengths ++ replicate (4 - i) 1 = c.loop-dimension.invariant.lengths ∙ ap (λ xs. xs ++ replicate (4 - i) 1) (take_all i v.lengths over) in
    let strides : c.loop-dimension.strides ≡ v.strides ++ replicate (4 - i) (pos 0) = c.loop-dimension.invariant.strides ∙ ap (λ xs. xs ++ replicate (4 - i) (pos 0)) (take_all i v.strides (omega arith)) in
    let place : to_z w64 (of_z w64 c.from-place.result) ≡ pos v.start = cast c.from-place.result c.start.result v.start c.from-place.ensures c.start.ensures.value (begins_inside v.lengths v.strides (pos v.start) (lawful v ok).lengths same (lawful v ok).inside) in
    new_left v ok (4 - i) c.loop-dimension.lengths c.loop-dimension.strides c.restart.new.left c.restart.new.places (to_z w64 (of_z w64 c.from-place.result)) lengths strides c.restart.ensures.left c.restart.ensures.places place
