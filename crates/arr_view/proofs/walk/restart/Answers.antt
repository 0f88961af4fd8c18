use Rattle.std.proofs.Common.{to_z, of_z, w64, suc, ◌≡◌, ℕ, ◌+◌, ◌-◌, ◌≤◌, ◌<◌, ℤ, List, [], ◌∷◌, ◌++◌, length, get_or, take, drop, replicate, ap, sym, ◌∙◌, arith, append_assoc}
use Rattle.std.proofs.lemmas.List.{take_more_set, drop_more}
use Rattle.arr_view.proofs.Walking.{full}
use Rattle.arr_view.proofs.walk.restart.Goals as goal

pub loop-dimension-preserved : goal.loop-dimension-preserved
loop-dimension-preserved c =
    let i : ℕ = c.loop-dimension.dimension in
    let ns : List ℕ = c.args.lengths.now in
    let rs : List ℕ = c.loop-dimension.left in
    let zs : List ℤ = c.loop-dimension.places in
    let z : ℤ = to_z w64 (of_z w64 c.args.place) in
    let l : i < length ns = c.loop-dimension-test.true in
    let left_long : length rs ≡ length c.args.left.now = c.loop-dimension.auto.left in
    let places_long : length zs ≡ length c.args.places.now = c.loop-dimension.auto.places in
    let a : length c.args.left.now ≡ length ns = c.requires.same_left in
    let b : length c.args.places.now ≡ length ns = c.requires.same_places in
    let from : c.args.level ≤ i = c.loop-dimension.invariant.from in
    let one_less : suc (length ns - (i + 1)) ≡ length ns - i = omega arith in
    record {
      from = omega arith;
      left =
          ap (λ xs. xs ++ full (drop (i + 1) ns)) (take_more_set rs i (get_or ns i 0 - 1) (omega arith))
          ∙ append_assoc (take i rs) ((get_or ns i 0 - 1) ∷ []) (full (drop (i + 1) ns))
          ∙ ap (λ ms. take i rs ++ full ms) (sym (drop_more ns i 0 l)) ∙ c.loop-dimension.invariant.left;
      places =
          ap (λ xs. xs ++ replicate (length ns - (i + 1)) z) (take_more_set zs i z (omega arith))
          ∙ append_assoc (take i zs) (z ∷ []) (replicate (length ns - (i + 1)) z)
          ∙ ap (λ m. take i zs ++ replicate m z) one_less ∙ c.loop-dimension.invariant.places;
    }
