use Rattle.std.proofs.Common.{◌≡◌, ◌*◌, drop}
use Rattle.arr_view.specs.Views.{positions}
use Rattle.arr_contract.proofs.tasks.product.Given as goal

abbrev pub invariant-loop-length : goal.invariant-loop-length
invariant-loop-length l = l.count * positions (drop l.length-index l.lengths) ≡ positions l.lengths
