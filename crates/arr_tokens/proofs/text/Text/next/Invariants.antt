use Rattle.std.proofs.Common.{◌≡◌, ◌≤◌, length}
use Rattle.arr_tokens.specs.Tokens.{items_from}
use Rattle.arr_tokens.proofs.text.Text.next.Given as goal

abbrev pub invariant-pieces : goal.invariant-pieces
invariant-pieces l = record {
  same : items_from 0 l.self.at l.self.rest.now ≡ items_from 0 l.fn.self.at l.fn.self.rest.now;
  shorter : length l.self.rest.now ≤ length l.fn.self.rest.now;
}

abbrev pub decreases-pieces : goal.decreases-pieces
decreases-pieces l = length l.self.rest.now
