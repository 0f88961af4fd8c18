use Rattle.arr_gather.proofs.Copying.{Copying}
use Rattle.arr_gather.proofs.feed.copied.Given as goal

abbrev pub invariant-loop-place : goal.invariant-loop-place
invariant-loop-place l = Copying l.fn.store l.store l.fn.view l.numbers.items l.place-iterator
