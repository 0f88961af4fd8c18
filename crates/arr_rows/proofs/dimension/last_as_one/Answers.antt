use Rattle.std.proofs.Common.{◌≡◌, ◌*◌, ◌-◌, ◌<◌, ◌≤◌, ◌+ℤ◌, ◌/◌, ℕ, suc, refl, sym, subst, pos, get_or, length, arith, rules, to_z, of_z}
use Rattle.std.specs.Int.{w32}
use Rattle.std.proofs.lemmas.Int.{to_z-of_z}
use mir.Val.{SFits}
use Rattle.arr_rows.specs.Rows.{far, step}
use Rattle.arr_view.proofs.Places.{length_at}
use Rattle.arr_rows.proofs.Far.{more_last, some_product}
use Rattle.arr_rows.proofs.dimension.last_as_one.Goals as goal

pub loop-left-preserved : goal.loop-left-preserved
loop-left-preserved c =
    let left : c.loop-left.left ≡ suc (c.loop-left.left - 1) = omega (arith, c.loop-left-test.true) in
    let small : SFits w32 (get_or c.args.strides.now (c.loop-left.left - 1) (pos 0)) = search rules in
    let size : c.in-Some.both.length ≡ c.loop-left.last.length * get_or c.args.shape.now (c.loop-left.left - 1) 0 = c.in-Some.ensures.length in
    let rank : c.loop-left.left - 1 < length c.args.shape.now = omega (arith, c.loop-left-test.true, c.loop-left.invariant.within, c.requires.end) in
    record {
      some = subst (λ n. 1 ≤ n) (sym size) (some_product c.loop-left.last.length (get_or c.args.shape.now (c.loop-left.left - 1) 0) c.loop-left.invariant.some (length_at (c.loop-left.left - 1) c.args.shape.now c.requires.lengths rank));
      within = omega (arith, c.loop-left.invariant.within);
      far = more_last c.args.shape.now c.args.strides.now c.args.end (c.loop-left.left - 1) c.loop-left.last
          (record { length = get_or c.args.shape.now (c.loop-left.left - 1) 0; stride = to_z w32 (of_z w32 (get_or c.args.strides.now (c.loop-left.left - 1) (pos 0))) })
          c.in-Some.both refl (to_z-of_z w32 (get_or c.args.strides.now (c.loop-left.left - 1) (pos 0)) small) c.in-Some.ensures
          (subst (λ k. (p : ℕ) → far c.args.shape.now c.args.strides.now c.args.end p ≡ step c.loop-left.last p +ℤ far c.args.shape.now c.args.strides.now k (p / c.loop-left.last.length)) left c.loop-left.invariant.far);
    }
