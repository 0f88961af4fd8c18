use Rattle.std.proofs.Common.{◌≡◌, rules}
use Rattle.arr_listing.specs.Texts.{row_width}
use Rattle.arr_listing.proofs.Rows.{Sizes, sizes}
use Rattle.arr_listing.proofs.arrays.row_sizes.Goals as goal

pub returns : goal.returns
returns c =
    let width : c.in-Some.width.now ≡ row_width c.args.view.now.lengths = search rules in
    let s : Sizes c.args.view.now c.positions.result c.in-Some.width.now = sizes c.args.view.now c.positions.result c.in-Some.width.now c.shape.ensures.lawful c.positions.ensures.value width in
    record { count = s.count; width = width; some = s.some; all = s.all; few = s.few }
