use Rattle.std.proofs.Common.{◌≤◌, length, subst, sym, arith}
use Rattle.arr_contract.proofs.Makings.{number_most}
use Rattle.arr_contract.proofs.tasks.lane_of.Goals as goal

pub overflow_cast-result : goal.overflow_cast-result
overflow_cast-result c =
    let most : c.number_in.result ≤ length c.args.views.now = subst (λ n. n ≤ length c.args.views.now) (sym c.number_in.ensures) (number_most c.args.views.now _) in
    omega (arith, c.requires)
