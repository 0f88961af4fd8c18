use Rattle.std.proofs.Common.{◌∙◌, suc, map, ap, arith}
use Rattle.std.specs.List.{range_with_len}
use Rattle.arr_cost.proofs.Sums.{few_blocks}
use Rattle.arr_ops.specs.Plans.{place}
use Rattle.arr_search.proofs.Whole.{best_as}
use Rattle.arr_search.proofs.best.finish.Goals as goal

pub places_of-requires : goal.places_of-requires
places_of-requires c = omega (arith, few_blocks c.args.graph.now c.args.progress.plan c.requires.planned.legal, c.requires.few)

pub returns : goal.returns
returns c =
    best_as c.args.graph.now c.args.number c.args.budget c.args.progress c.requires (omega arith) (omega arith) c.min-bound.result c.len-2.result c.in_ok-places.places c.min-bound.ensures c.len-2.ensures.value
    (c.in_ok-places.ensures ∙ ap (λ n. map (λ f. suc (place c.args.progress.plan f)) (range_with_len 1 n)) c.len.ensures.value)
