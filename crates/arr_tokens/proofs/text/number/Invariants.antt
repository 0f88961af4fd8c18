use Rattle.std.proofs.Common.{◌≡◌, ◌<◌, drop}
use Rattle.arr_tokens.specs.Tokens.{decimal}
use Rattle.arr_tokens.proofs.text.number.Given as goal

abbrev pub invariant-loop-b : goal.invariant-loop-b
invariant-loop-b l = record {
  spells : decimal l.value (drop l.b-index l.digits) ≡ decimal 0 l.digits;
  fits : l.value < 18446744073709551616;
}
