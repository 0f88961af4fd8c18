use Rattle.std.proofs.Common.{◌≡◌, ◌+◌, ◌≤◌, drop}
use Rattle.arr_run.specs.Demo.{feeds}
use Rattle.arr_run.proofs.summary.feeds.Given as goal

abbrev pub invariant-loop-byte : goal.invariant-loop-byte
invariant-loop-byte l = record {
  count : l.count + feeds (drop l.byte-index l.text) ≡ feeds l.text;
  few : l.count ≤ l.byte-index;
}
