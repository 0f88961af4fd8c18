use Rattle.std.proofs.Common.{◌≡◌, ◌*◌, ◌≤◌, ap, arith, drop, rules, subst}
use Rattle.std.proofs.Math.ListN.{drop_of_length-le}
use Rattle.arr_view.specs.Views.{positions}
use Rattle.arr_view.proofs.Counting.{some_position}
use Rattle.arr_contract.proofs.Lengths.{next_product}
use Rattle.arr_loop.proofs.along.product.Goals as goal

pub overflow_mul-count : goal.overflow_mul-count
overflow_mul-count c =
    let small = next_product c.loop-length.count c.loop-length.length-index c.args.lengths.now c.requires.each c.loop-length-test.true c.loop-length.invariant in
    let few = c.requires.few in
    search rules

pub returns-clause-some : goal.returns-clause-some
returns-clause-some c =
    let rest : positions (drop c.loop-length.length-index c.args.lengths.now) ≡ 1 = ap positions (drop_of_length-le c.args.lengths.now {i = c.loop-length.length-index} c.loop-length-test.false) in
    let all : c.loop-length.count * positions (drop c.loop-length.length-index c.args.lengths.now) ≡ positions c.args.lengths.now = c.loop-length.invariant in
    let one : c.loop-length.count * 1 ≡ positions c.args.lengths.now = subst (λ n. c.loop-length.count * n ≡ positions c.args.lengths.now) rest all in
    let some : 1 ≤ positions c.args.lengths.now = some_position c.args.lengths.now c.requires.each in
    omega arith
