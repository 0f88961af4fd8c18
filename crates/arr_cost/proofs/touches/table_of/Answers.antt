use Rattle.std.proofs.Common.{◌≡◌, ◌∙◌, ◌+◌, ◌*◌, ◌≤◌, List, ◌∷◌, ◌++◌, [], get_or, length, ap, sym, subst, arith}
use Rattle.std.specs.List.{All, flat_map}
use Rattle.arr_ops.specs.Ops.{views}
use Rattle.std.specs.Prelude.{IsTrue}
use Rattle.std.proofs.lemmas.List.Elements.{All-append}
use Rattle.arr_cost.specs.declared.touches.Touches.{Touches}
use Rattle.arr_cost.specs.Touches.{is_below, touches_of, untouched}
use Rattle.arr_cost.proofs.Marking.{wider}
use Rattle.arr_cost.proofs.Touched.{few_views, one_all, table_more, whole_table}
use Rattle.arr_cost.proofs.touches.table_of.Goals as goal

pub returns-clause-below : goal.returns-clause-below
returns-clause-below c =
    let long : length c.loop-op.table.items ≡ length c.args.ops.now + 1 = whole_table c.args.ops.now c.in_ok-all.all.items c.loop-op.op-index c.loop-op.table.items c.loop-op-test.false c.loop-op.invariant.table in
    let same : length c.in_ok-all.all.items ≡ length (flat_map views c.args.ops.now) = ap length c.in_ok-all.ensures in
    let few : length (flat_map views c.args.ops.now) ≤ 3 * length c.args.ops.now = few_views c.args.ops.now in
    λ k d l. wider (length c.in_ok-all.all.items + 1) (3 * length c.loop-op.table.items) (omega arith) (get_or c.loop-op.table.items k d) (c.loop-op.invariant.below k d l)

pub loop-op-preserved : goal.loop-op-preserved
loop-op-preserved c =
    let every : c.as_slice.result.now ≡ c.in_ok-all.all.items = c.as_slice.ensures.value in
    let t : Touches = c.touches_of.result in
    let same : t ≡ touches_of c.args.ops.now c.in_ok-all.all.items c.op-item.result = c.touches_of.ensures.value ∙ ap (λ vs. touches_of c.args.ops.now vs c.op-item.result) every in
    let P : Touches → Type 0 = λ u. IsTrue (is_below (length c.in_ok-all.all.items + 1) u) in
    let below : P t = subst (λ n. IsTrue (is_below (n + 1) t)) (ap length every) c.touches_of.ensures.below in
    record {
      all = c.in_ok-all.ensures;
      table = c.in_ok-push-2.ensures.items ∙ ap (λ (ts : List Touches). ts ++ t ∷ []) c.loop-op.invariant.table
          ∙ ap (λ r. untouched ∷ r) (table_more c.args.ops.now c.in_ok-all.all.items c.loop-op.op-index c.op-item.result t c.loop-op-test.true c.op-item.is same);
      below = subst (λ (ts : List Touches). All P ts) (sym c.in_ok-push-2.ensures.items) (All-append P c.loop-op.table.items (t ∷ []) c.loop-op.invariant.below (one_all P t below));
    }
