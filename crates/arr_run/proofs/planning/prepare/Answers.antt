use Rattle.std.proofs.Common.{◌≡◌, ◌∙◌, ◌≤◌, ap, sym, subst, arith, length, map, true}
use Rattle.arr_ops.specs.Costs.{block_cost, cost}
use Rattle.arr_ops.specs.Plans.{is_legal}
use Rattle.arr_cost.proofs.Sums.{few_blocks}
use Rattle.arr_rewrite.specs.NormalForm.{normal_form}
use Rattle.arr_run.specs.Chosen.{IsChosen}
use Rattle.arr_run.proofs.Chosen.{chosen_legal}
use Rattle.arr_run.proofs.Rewritten.{normal_few}
use Rattle.arr_run.proofs.planning.prepare.Goals as goal

pub of-requires-clause-few : goal.of-requires-clause-few
of-requires-clause-few c =
    let few : length c.in_ok-list.list.items ≤ length c.args.ops.now = normal_few c.args.ops.now c.in_ok-list.list.items c.in_ok-list.ensures.normal c.requires.formed in
    let same : length c.deref.result.now ≡ length c.in_ok-list.list.items = ap length c.deref.ensures.value in
    omega (arith, few, same, c.requires.few)

pub cost-requires : goal.cost-requires
cost-requires c =
    let graph = c.in_ok-graph.graph in
    let legal : is_legal graph c.in_ok-planned.planned.plan ≡ true = chosen_legal c.args.choice.fuse graph c.args.number c.args.choice.budget c.in_ok-planned.planned c.in_ok-planned.ensures in
    ap (λ list. is_legal list c.in_ok-planned.planned.plan) (c.in_ok-costs.ensures ∙ c.deref-2.ensures.value ∙ sym (c.in_ok-graph.ensures ∙ c.deref.ensures.value)) ∙ legal

pub returns-clause-prepared : goal.returns-clause-prepared
returns-clause-prepared c =
    let graph = c.in_ok-graph.ensures ∙ c.deref.ensures.value ∙ c.in_ok-list.ensures.normal in
    let costs = c.in_ok-costs.ensures ∙ c.deref-2.ensures.value ∙ c.in_ok-list.ensures.normal in
    let p = c.in_ok-planned.planned in
    let chosen : IsChosen c.args.choice.fuse (normal_form c.args.ops.now) c.args.number c.args.choice.budget p = subst (λ list. IsChosen c.args.choice.fuse list c.args.number c.args.choice.budget p) graph c.in_ok-planned.ensures in
    record {
      normal = c.in_ok-list.ensures.normal;
      planned = record { legal = chosen_legal c.args.choice.fuse (normal_form c.args.ops.now) c.args.number c.args.choice.budget p chosen; chosen = chosen };
      costs = c.in_ok-costs_of.ensures ∙ ap (λ list. map (block_cost list) p.plan) costs;
      cost = c.in_ok-cost.ensures ∙ ap (λ list. cost list p.plan) costs;
    }

pub returns-clause-few : goal.returns-clause-few
returns-clause-few c =
    let few : length c.in_ok-list.list.items ≤ length c.args.ops.now = normal_few c.args.ops.now c.in_ok-list.list.items c.in_ok-list.ensures.normal c.requires.formed in
    omega (arith, few, c.requires.few)

pub returns-clause-few_blocks : goal.returns-clause-few_blocks
returns-clause-few_blocks c =
    let few : length c.in_ok-list.list.items ≤ length c.args.ops.now = normal_few c.args.ops.now c.in_ok-list.list.items c.in_ok-list.ensures.normal c.requires.formed in
    let graph = c.in_ok-graph.graph in
    let same : length graph ≡ length c.in_ok-list.list.items = ap length (c.in_ok-graph.ensures ∙ c.deref.ensures.value) in
    let blocks : length c.in_ok-planned.planned.plan ≤ length graph =
    few_blocks graph c.in_ok-planned.planned.plan (chosen_legal c.args.choice.fuse graph c.args.number c.args.choice.budget c.in_ok-planned.planned c.in_ok-planned.ensures) in
    omega (arith, few, same, blocks, c.requires.few)
