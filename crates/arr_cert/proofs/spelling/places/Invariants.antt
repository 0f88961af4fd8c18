use Rattle.std.proofs.Common.{◌≡◌, take}
use Rattle.arr_cert.proofs.spelling.places.Given as goal

abbrev pub invariant-loop-place : goal.invariant-loop-place
invariant-loop-place l = l.places ≡ take l.place-index l.numbers
