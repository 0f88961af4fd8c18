use Rattle.std.proofs.Common.{◌≡◌, ◌≤◌, ◌-◌, length}
use Rattle.arr_elab.proofs.bases.Bases.begin.Given as goal

abbrev pub invariant-loop-self : goal.invariant-loop-self
invariant-loop-self l = (l.self.list ≡ l.initial.self.list) × (l.self.first ≤ length l.self.list)

abbrev pub decreases-loop-self : goal.decreases-loop-self
decreases-loop-self l = length l.self.list - l.self.first
