use Rattle.std.proofs.Common.{◌-◌}
use Rattle.arr_gather.proofs.Scattered.{Scattering}
use Rattle.arr_gather.proofs.scattering.place_all.Given as goal

abbrev pub invariant-loop-position : goal.invariant-loop-position
invariant-loop-position l = Scattering l.fn.op l.fn.store l.store l.fn.index l.fn.values l.index l.values l.position (l.position-end - l.position)
