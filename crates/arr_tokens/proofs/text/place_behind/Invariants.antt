use Rattle.std.proofs.Common.{◌≡◌, ◌≤◌, ◌+◌, drop}
use Rattle.arr_tokens.specs.Tokens.{place_behind}
use Rattle.arr_tokens.proofs.text.place_behind.Given as goal

abbrev pub invariant-loop-b : goal.invariant-loop-b
invariant-loop-b l = record {
  behind : place_behind l.place (drop l.b-index l.bytes) ≡ place_behind l.fn.at l.bytes;
  lines : l.place.line ≤ l.fn.at.line + l.b-index;
  columns : l.place.column ≤ l.fn.at.column + l.b-index;
}
