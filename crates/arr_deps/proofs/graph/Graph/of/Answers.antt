use Rattle.std.proofs.Common.{◌≡◌, ◌∙◌, ◌≤◌, ◌*◌, arith, length, ap}
use Rattle.std.specs.List.{flat_map}
use Rattle.arr_ops.specs.Ops.{views}
use Rattle.arr_deps.proofs.ClassTests.{all_few, all_known}
use Rattle.arr_deps.proofs.graph.Graph.of.Goals as goal

pub of-requires : goal.of-requires
of-requires c =
    let same : length c.as_slice.result.now ≡ length (flat_map views c.args.ops.now) = ap length (c.as_slice.ensures.value ∙ c.in_ok-views.ensures) in
    let few : length (flat_map views c.args.ops.now) ≤ 3 * length c.args.ops.now = all_few c.args.ops.now in
    let most : length c.args.ops.now ≤ 256 = c.requires.few in
    omega arith

pub serial_row-requires-clause-known : goal.serial_row-requires-clause-known
serial_row-requires-clause-known c = all_known c.args.ops.now c.as_slice.result.now _ (c.as_slice.ensures.value ∙ c.in_ok-views.ensures) c.in_ok-classes.ensures

pub dep_rows-requires-clause-known : goal.dep_rows-requires-clause-known
dep_rows-requires-clause-known c = all_known c.args.ops.now c.as_slice.result.now _ (c.as_slice.ensures.value ∙ c.in_ok-views.ensures) c.in_ok-classes.ensures

pub fuse_rows-requires-clause-known : goal.fuse_rows-requires-clause-known
fuse_rows-requires-clause-known c = all_known c.args.ops.now c.as_slice.result.now _ (c.as_slice.ensures.value ∙ c.in_ok-views.ensures) c.in_ok-classes.ensures
