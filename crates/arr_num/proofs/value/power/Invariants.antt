use Rattle.std.proofs.Common.{◌≡◌, true, ◌*◌, ◌^◌, ◌%◌}
use Rattle.std.specs.Int.{int_pow}
use Rattle.arr_num.specs.Numbers.{digits, in_type, size}
use Rattle.arr_num.proofs.value.power.Given as goal

abbrev pub invariant-loop-rest : goal.invariant-loop-rest
invariant-loop-rest l = record {
  inside : in_type l.ty l.power ≡ true;
  kept : (digits l.ty l.power * digits l.ty l.square ^ l.rest) % size l.ty ≡ digits l.ty (int_pow l.fn.base l.fn.exponent);
}

abbrev pub decreases-loop-rest : goal.decreases-loop-rest
decreases-loop-rest l = l.rest
