use Rattle.std.proofs.Common.{◌≡◌, [], length}
use Rattle.arr_tokens.specs.Tokens.{items_from, tokens}
use Rattle.arr_syntax.specs.declared.state.State.TheVariants.{Start}
use Rattle.arr_syntax.specs.Run.{run}
use Rattle.arr_syntax.proofs.parser.statements.Given as goal

abbrev pub invariant-tokens : goal.invariant-tokens
invariant-tokens l = run 0 0 [] Start (tokens l.bytes)
    ≡ run l.reader.depth l.reader.used l.reader.statements l.state (items_from 0 l.text.at l.text.rest.now)

abbrev pub decreases-tokens : goal.decreases-tokens
decreases-tokens l = length l.text.rest.now
