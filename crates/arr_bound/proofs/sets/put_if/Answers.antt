use Rattle.std.proofs.Common.{arith, ◌∙◌, ap, sym}
use Rattle.std.specs.Prelude.{◌||◌, ◌&&◌, ◌==◌}
use Rattle.arr_sets.specs.Bits.{is_set}
use Rattle.arr_bound.proofs.Words.{put_is}
use Rattle.arr_bound.proofs.sets.put_if.Goals as goal

pub returns-then-stands-clause-members : goal.returns-then-stands-clause-members
returns-then-stands-clause-members c = λ g.
    put_is c.args.set.now.items c.args.f c.index_mut.result.now (omega (arith, c.requires)) c.index_mut.ensures.value g
    ∙ ap (λ b. is_set c.args.set.now.items g || (b && (c.args.f == g))) (sym c.if-stands.true)
