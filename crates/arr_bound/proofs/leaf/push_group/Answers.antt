use Rattle.std.proofs.Common.{◌≡◌, drop, true, sym, subst, arith}
use Rattle.std.specs.List.{list_any}
use Rattle.std.proofs.lemmas.Result.{on_ok_weaker}
use Rattle.arr_ops.specs.declared.op.Op.{Op}
use Rattle.arr_ops.specs.Ops.{views}
use Rattle.arr_view.specs.Views.{identical}
use Rattle.arr_law.specs.ProblemOf.{problem_of}
use Rattle.arr_bound.proofs.Tables.{view_is}
use Rattle.arr_bound.proofs.Whole.{front, numbered_op, joined_some}
use Rattle.arr_bound.proofs.leaf.push_group.Goals as goal

pub overflow_sub-first : goal.overflow_sub-first
overflow_sub-first c =
    let o = c.requires.ops c.at-first.result.now (drop 1 c.args.picks) (front c.args.picks c.at-first.result.now c.at-first.ensures) in omega (arith, o.0)

pub bounds-ops-first : goal.bounds-ops-first
bounds-ops-first c =
    let o = c.requires.ops c.at-first.result.now (drop 1 c.args.picks) (front c.args.picks c.at-first.result.now c.at-first.ensures) in omega (arith, o.0, o.1)

pub operand_of-operand-requires : goal.operand_of-operand-requires
operand_of-operand-requires c =
    let f = c.at-first.result.now in
    let e = front c.args.picks f c.at-first.ensures in
    let o = c.requires.ops f (drop 1 c.args.picks) e in
    subst (λ (op : Op). list_any (identical c.args.view.now) (views op) ≡ true) (sym (numbered_op c.args.ops.now f c.index-ops-first.result o.0 o.1 c.index-ops-first.is)) (c.requires.touches f (drop 1 c.args.picks) e)

pub returns : goal.returns
returns c =
    let f = c.at-first.result.now in
    let e = front c.args.picks f c.at-first.ensures in
    let o = c.requires.ops f (drop 1 c.args.picks) e in
    on_ok_weaker c.push.result
    (λ is. joined_some (problem_of c.args.ops.now) c.args.at c.operand_of-operand.result f c.args.picks c.args.groups.now c.push.new.self e
    (view_is c.args.ops.now c.args.at f c.operand_of-operand.result c.index-ops-first.result c.args.view.now c.requires.within c.requires.view (numbered_op c.args.ops.now f c.index-ops-first.result o.0 o.1 c.index-ops-first.is) c.operand_of-operand.ensures) is)
    c.push.ensures.ok
