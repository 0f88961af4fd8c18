use Rattle.std.proofs.Common.{ap, arith}
use Rattle.arr_view.specs.Strided.{Strided}
use Rattle.arr_elab.proofs.Reached.{fresh_there, step_keeps}
use Rattle.arr_elab.proofs.gather.gather_arrays.Goals as goal

pub bind-requires : goal.bind-requires
bind-requires c =
    let low = fresh_there c.args.at c.of.result c.args.reader.now c.fresh.new.self c.in_ok-out.out c.in_ok-out.ensures in
    let same = step_keeps _ c.fresh.new.self c.step.new.self c.in_ok-step.ensures in
    let base = ap (λ (v : Strided). v.base) c.copied.ensures.value in
    omega (arith, low, same, base)
