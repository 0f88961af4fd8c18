use Rattle.std.proofs.Common.{◌≡◌, ◌∙◌, ◌*◌, ◌≤◌, List, ap, length, arith}
use Rattle.std.specs.List.{flat_map}
use Rattle.std.proofs.lemmas.List.{length-map}
use Rattle.arr_view.specs.Strided.{Strided}
use Rattle.arr_ops.specs.Ops.{views}
use Rattle.arr_ops.specs.declared.op.Op.{Op}
use Rattle.arr_cost.specs.Footprints.{bases_of}
use Rattle.arr_cost.specs.Touches.{base_of}
use Rattle.arr_cost.proofs.Touched.{few_views}
use Rattle.arr_cost.proofs.costs.one_footprint.Goals as goal

pub footprint_of-requires : goal.footprint_of-requires
footprint_of-requires c =
    let list : List Op = c.costs.inside.ops.items in
    let same : length c.as_slice-2.result.now ≡ length (bases_of list) = ap length (c.as_slice-2.ensures.value ∙ c.costs.invariant.4) in
    let long : length (bases_of list) ≡ length (flat_map views list) = length-map (flat_map views list) (λ (v : Strided). base_of (flat_map views list) v.base) in
    let views_few : length (flat_map views list) ≤ 3 * length list = few_views list in
    let few : length list ≤ 256 = c.costs.invariant.0 in
    omega arith
