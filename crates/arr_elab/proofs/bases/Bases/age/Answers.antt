use Rattle.std.proofs.Common.{rules, arith, ◌+◌, ◌<◌, length}
use Rattle.arr_elab.proofs.Totals.{aged, weight_le}
use Rattle.arr_elab.proofs.bases.Bases.age.Goals as goal

pub overflow_sub-lost : goal.overflow_sub-lost
overflow_sub-lost c = omega (arith, weight_le (c.self.inside.first + 1) c.self.inside.first c.index-base.result.now, c.weight-kept.ensures)

pub overflow_sub-self : goal.overflow_sub-self
overflow_sub-self c =
    let old = c.self.inside in
    let x = c.index-base.result.now in
    let within : old.first < length old.list.items = search rules in
    let all = aged old.first old.list.items x within c.index-base.ensures in
    omega (arith, all, weight_le (old.first + 1) old.first x, c.weight-kept.ensures, c.from.ensures, c.self.invariant.1)

pub invariant_of-self : goal.invariant_of-self
invariant_of-self c =
    let old = c.self.inside in
    let x = c.index-base.result.now in
    let within : old.first < length old.list.items = search rules in
    let all = aged old.first old.list.items x within c.index-base.ensures in
    (omega (arith, within), omega (arith, all, weight_le (old.first + 1) old.first x, c.weight-kept.ensures, c.from.ensures, c.self.invariant.1))
