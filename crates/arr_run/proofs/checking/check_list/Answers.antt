use Rattle.std.proofs.Common.{◌≤◌, length, ap, arith}
use Rattle.arr_run.proofs.Rewritten.{normal_few}
use Rattle.arr_run.proofs.checking.check_list.Goals as goal

pub check-requires-clause-few : goal.check-requires-clause-few
check-requires-clause-few g c =
    let few : length c.in-Ok.list.items ≤ length c.args.ops.now = normal_few c.args.ops.now c.in-Ok.list.items c.in-Ok.ensures.normal c.requires.formed in
    let same = ap length c.deref.ensures.value in
    omega (arith, few, same, c.requires.few)
