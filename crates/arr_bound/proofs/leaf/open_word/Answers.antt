use Rattle.std.proofs.Common.{◌∙◌, ◌+◌, ◌*◌, ap, sym}
use Rattle.std.specs.Prelude.{◌==◌}
use Rattle.std.proofs.lemmas.Nat.Bits.{bit_at_ones}
use Rattle.arr_bound.specs.Worth.{in_rows}
use Rattle.arr_bound.proofs.leaf.open_word.Goals as goal

pub returns-in-None : goal.returns-in-None
returns-in-None c = λ k l. ap (λ n. n == 1) (bit_at_ones 64 k l) ∙ ap (λ o. in_rows c.args.width c.args.apart.now o (64 * c.args.index + k)) (sym c.in-None.is)
