use Rattle.std.proofs.Common.{◌≡◌, ◌∙◌, ap, arith, map, rules, sum}
use Rattle.arr_io.proofs.Buffered.{◌▹◌, finished, put_as}
use Rattle.arr_ops.specs.Costs.{block_cost}
use Rattle.arr_rewrite.specs.NormalForm.{normal_form}
use Rattle.arr_run.proofs.Chosen.{small_costs}
use Rattle.arr_run.proofs.Flushing.{planned_text}
use Rattle.arr_run.proofs.Rewritten.{Kept, normal_kept}
use Rattle.arr_run.proofs.head.write_planned.Goals as goal

pub put_plan-requires-clause-small : goal.put_plan-requires-clause-small
put_plan-requires-clause-small g c =
    let list = normal_form c.args.ops.now in
    let plan = c.args.prepared.now.planned.plan in
    let k : Kept c.args.ops.now list = normal_kept c.args.ops.now c.requires.formed in
    let few = k.few in
    let most = c.requires.few in
    let small = small_costs list plan k.formed c.requires.prepared.planned.legal (omega arith) in
    let same : sum c.deref-2.result.now ≡ sum (map (block_cost list) plan) = ap sum (c.deref-2.ensures.value ∙ c.requires.prepared.costs) in
    omega (arith, small, same)

pub returns : goal.returns
returns g c =
    let p = c.args.prepared.now in
    finished c.args.sink.now c.finish.ensures c.new-out.ensures
    (put_as (c.put_plan.ensures ▹ c.put_bound_line.ensures)
    (planned_text c.args.number _ p.cost c.args.ops.now c.deref.result.now c.deref-2.result.now p.planned (search rules) (c.deref.ensures.value ∙ c.requires.prepared.normal) (c.deref-2.ensures.value ∙ c.requires.prepared.costs) c.requires.prepared.cost))
