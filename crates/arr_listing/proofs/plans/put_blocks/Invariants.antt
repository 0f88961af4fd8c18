use Rattle.std.proofs.Common.{List, ℕ, drop, map, ◌+◌}
use Rattle.arr_listing.specs.Plans.{blocks_text}
use Rattle.arr_io.specs.Buffered.{outgoing}
use Rattle.arr_io.proofs.Buffered.{PutsFront}
use Rattle.arr_listing.proofs.plans.put_blocks.Given as goal

abbrev pub invariant-loop-index : goal.invariant-loop-index
invariant-loop-index g l =
    let blocks : List (List ℕ) = map (λ b. b.items) l.blocks in
    PutsFront (outgoing g.K.Sink l.initial.out l.initial.sink) (outgoing g.K.Sink l.out l.sink) (blocks_text (l.index + 1) (drop l.index blocks) (drop l.index l.costs)) (blocks_text 1 blocks l.costs)
