use Rattle.std.proofs.Common.{◌≡◌, ◌∙◌, ap₂}
use Rattle.arr_ops.specs.Plans.{numbered}
use Rattle.arr_heur.specs.Planners.{union}
use Rattle.arr_greedy.proofs.KeyedBlocks.{union_is}
use Rattle.arr_greedy.proofs.Printed.{union_print}
use Rattle.arr_greedy.proofs.merging.Block.union.Goals as goal

pub returns-clause-numbers : goal.returns-clause-numbers
returns-clause-numbers c =
    c.in_ok-numbers.ensures
    ∙ union_is c.args.costs.now c.as_slice.result.now c.as_slice-2.result.now c.len.result c.len.ensures.value
    ∙ ap₂ (union (numbered c.args.costs.now)) c.as_slice.ensures.value c.as_slice-2.ensures.value

pub returns-clause-print : goal.returns-clause-print
returns-clause-print c =
    let both : c.in_ok-numbers.numbers.items ≡ union (numbered c.args.costs.now) c.args.self.now.numbers.items c.args.other.now.numbers.items =
    c.in_ok-numbers.ensures
    ∙ union_is c.args.costs.now c.as_slice.result.now c.as_slice-2.result.now c.len.result c.len.ensures.value
    ∙ ap₂ (union (numbered c.args.costs.now)) c.as_slice.ensures.value c.as_slice-2.ensures.value in
    union_print c.args.costs.now c.args.self.now.numbers.items c.args.other.now.numbers.items c.in_ok-numbers.numbers.items c.in_ok-print.print both
    (c.in_ok-print.ensures c.args.costs.now c.args.self.now.numbers.items c.args.other.now.numbers.items c.requires.first c.requires.second)
