use Rattle.std.proofs.Common.{◌≡◌, ◌≤◌, ◌+◌, ◌++◌, arith, rules}
use Rattle.arr_ops.specs.Costs.{block_cost}
use Rattle.arr_ops.proofs.Merged.{merging_saves}
use Rattle.arr_cost.proofs.costs.Costs.saving.Goals as goal

pub overflow_sub-result : goal.overflow_sub-result
overflow_sub-result c =
    let law : block_cost c.args.self.now (c.args.a.now ++ c.args.b.now) ≤ block_cost c.args.self.now c.args.a.now + block_cost c.args.self.now c.args.b.now = merging_saves c.args.self.now c.args.a.now c.args.b.now in
    let first : c.in_ok-first.first ≡ block_cost c.args.self.now c.args.a.now = search rules in
    let second : c.in_ok-second.second ≡ block_cost c.args.self.now c.args.b.now = search rules in
    let whole : c.in_ok-whole.whole ≡ block_cost c.args.self.now (c.args.a.now ++ c.args.b.now) = search rules in
    omega arith

pub returns : goal.returns
returns c =
    let law : block_cost c.args.self.now (c.args.a.now ++ c.args.b.now) ≤ block_cost c.args.self.now c.args.a.now + block_cost c.args.self.now c.args.b.now = merging_saves c.args.self.now c.args.a.now c.args.b.now in
    let first : c.in_ok-first.first ≡ block_cost c.args.self.now c.args.a.now = search rules in
    let second : c.in_ok-second.second ≡ block_cost c.args.self.now c.args.b.now = search rules in
    let whole : c.in_ok-whole.whole ≡ block_cost c.args.self.now (c.args.a.now ++ c.args.b.now) = search rules in
    omega arith
