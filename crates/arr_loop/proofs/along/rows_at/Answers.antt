use Rattle.std.proofs.Common.{◌∙◌, ◌+◌, ◌-◌, ◌≤◌, ◌<◌, ap, drop, length, subst, suc, sym, take}
use Rattle.std.specs.Prelude.{nat_le}
use Rattle.std.specs.List.{list_all}
use Rattle.arr_view.specs.Views.{positions}
use Rattle.arr_view.proofs.Checks.{lawful}
use Rattle.arr_machine.proofs.Few.{few_positions}
use Rattle.arr_store.proofs.Sides.{all_back}
use Rattle.arr_contract.proofs.Lengths.{behind, few_back}
use Rattle.arr_loop.proofs.along.rows_at.Goals as goal

pub product-requires-clause-each : goal.product-requires-clause-each
product-requires-clause-each c =
    ap (λ xs. list_all (nat_le 1) (take (length xs - (c.args.axis + 1)) (drop (c.args.axis + 1) xs))) c.shape-shape.ensures.value
    ∙ ap (list_all (nat_le 1)) (behind c.args.view.now.lengths c.args.axis) ∙ all_back (nat_le 1) c.args.view.now.lengths (suc c.args.axis) (lawful c.args.view.now c.shape-shape.ensures.lawful).lengths

pub product-requires-clause-few : goal.product-requires-clause-few
product-requires-clause-few c =
    let below : c.args.axis < length c.args.view.now.lengths = subst (λ xs. c.args.axis < length xs) c.shape-shape.ensures.value c.if-axis-shape.true in
    subst (λ xs. positions (take (length xs - (c.args.axis + 1)) (drop (c.args.axis + 1) xs)) ≤ 1048576) (sym c.shape-shape.ensures.value)
    (subst (λ l. positions l ≤ 1048576) (sym (behind c.args.view.now.lengths c.args.axis))
    (few_back c.args.view.now.lengths c.args.axis (lawful c.args.view.now c.shape-shape.ensures.lawful).lengths (few_positions c.args.view.now c.shape-shape.ensures.lawful) below))
