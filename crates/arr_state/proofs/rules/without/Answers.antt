use Rattle.std.proofs.Common.{◌∙◌, ap}
use Rattle.std.specs.Int.{bit_at}
use Rattle.arr_state.proofs.Frees.{cleared}
use Rattle.arr_state.proofs.rules.without.Goals as goal

pub returns-then-f-i : goal.returns-then-f-i
returns-then-f-i c = λ k l. ap (λ w. bit_at w k) c.put_bit.ensures ∙ cleared c.args.word c.args.f c.args.i k l c.if-f-i.true
