use Rattle.std.proofs.Common.{◌≡◌, map}
use Rattle.std.specs.List.{range_with_len}
use Rattle.arr_law.specs.ProblemOf.{problem_of}
use Rattle.arr_state.specs.States.{known}
use Rattle.arr_search.specs.Parts.{label_of}
use Rattle.arr_search.proofs.decided.labels_of.Given as goal

abbrev pub invariant-loop-place : goal.invariant-loop-place
invariant-loop-place l = l.labels.items ≡ map (label_of (problem_of l.graph) (known l.state)) (range_with_len 1 l.place)
