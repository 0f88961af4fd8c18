use Rattle.std.proofs.Common.{rules, arith, ◌<◌, length, length-set, set}
use Rattle.arr_elab.specs.Totals.{live_by}
use Rattle.arr_elab.proofs.Totals.{replaced, part}
use Rattle.arr_elab.proofs.bases.Bases.replace.Goals as goal

pub overflow_sub-rest : goal.overflow_sub-rest
overflow_sub-rest c =
    let old = c.self.inside in
    let within : c.args.at < length old.list.items = search rules in
    let all = part old.first c.args.at old.list.items c.index.result.now within c.index.ensures in
    omega (arith, all, c.weight.ensures, c.from.ensures, c.self.invariant.1)

pub overflow_add-self : goal.overflow_add-self
overflow_add-self c =
    let old = c.self.inside in
    let within : c.args.at < length old.list.items = search rules in
    let all = replaced old.first c.args.at old.list.items c.args.base c.index.result.now within c.index.ensures in
    let before = part old.first c.args.at old.list.items c.index.result.now within c.index.ensures in
    let room : live_by old.first 0 (set old.list.items c.args.at c.args.base) < 18446744073709551616 = search rules in
    omega (arith, room, all, before, c.weight.ensures, c.from.ensures, c.weight-2.ensures, c.from-2.ensures, c.self.invariant.1)

pub invariant_of-self : goal.invariant_of-self
invariant_of-self c =
    let old = c.self.inside in
    let within : c.args.at < length old.list.items = search rules in
    let all = replaced old.first c.args.at old.list.items c.args.base c.index.result.now within c.index.ensures in
    let before = part old.first c.args.at old.list.items c.index.result.now within c.index.ensures in
    (omega (arith, length-set old.list.items c.args.at c.args.base, c.self.invariant.0), omega (arith, all, before, c.weight.ensures, c.from.ensures, c.weight-2.ensures, c.from-2.ensures, c.self.invariant.1))
