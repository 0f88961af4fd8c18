use Rattle.std.proofs.Common.{◌∙◌, ◌+◌, ◌-◌, ◌≤◌, ap, drop, length, subst, sym, take}
use Rattle.std.specs.Prelude.{nat_le}
use Rattle.std.specs.List.{list_all}
use Rattle.arr_view.specs.Views.{positions}
use Rattle.arr_view.proofs.Checks.{lawful}
use Rattle.arr_store.proofs.Sides.{all_front}
use Rattle.arr_contract.proofs.Lengths.{behind, few_back, few_front}
use Rattle.arr_contract.proofs.tasks.axis_at.Goals as goal

pub product-requires-clause-each : goal.product-requires-clause-each
product-requires-clause-each c =
    ap (λ xs. list_all (nat_le 1) (take c.args.axis xs)) c.shape-shape.ensures.value ∙ all_front (nat_le 1) c.args.view.now.lengths c.args.axis (lawful c.args.view.now c.shape-shape.ensures.lawful).lengths

pub product-requires-clause-few : goal.product-requires-clause-few
product-requires-clause-few c =
    subst (λ xs. positions (take c.args.axis xs) ≤ 1048576) (sym c.shape-shape.ensures.value)
    (few_front c.args.view.now.lengths c.args.axis (lawful c.args.view.now c.shape-shape.ensures.lawful).lengths (lawful c.args.view.now c.shape-shape.ensures.lawful).size c.requires)

pub product-requires-2-clause-few : goal.product-requires-2-clause-few
product-requires-2-clause-few c =
    subst (λ xs. positions (take (length xs - (c.args.axis + 1)) (drop (c.args.axis + 1) xs)) ≤ 1048576) (sym c.shape-shape.ensures.value)
    (subst (λ l. positions l ≤ 1048576) (sym (behind c.args.view.now.lengths c.args.axis))
    (few_back c.args.view.now.lengths c.args.axis (lawful c.args.view.now c.shape-shape.ensures.lawful).lengths (lawful c.args.view.now c.shape-shape.ensures.lawful).size c.requires))
