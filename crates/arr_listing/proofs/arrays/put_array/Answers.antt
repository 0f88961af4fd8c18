use Rattle.std.proofs.Common.{◌∙◌, ap}
use Rattle.arr_io.proofs.Buffered.{◌▹◌, put_as}
use Rattle.arr_store.specs.Slots.{slots_of}
use Rattle.arr_listing.specs.Texts.{numbers_text}
use Rattle.arr_listing.proofs.Rows.{array_is}
use Rattle.arr_listing.proofs.arrays.put_array.Goals as goal

pub returns : goal.returns
returns g c =
    put_as
    (put_as c.put.ensures (c.as_bytes.ensures.value ∙ c.type_name.ensures) ▹ put_as c.put_numbers.ensures (ap numbers_text c.shape.ensures.value) ▹ c.put-2.ensures ▹ c.put_rows.ensures)
    (array_is c.args.op.now c.array_view-view.result.now (slots_of c.args.slots.now c.args.slot) _ _ c.requires c.array_view-view.ensures c.row_sizes-count.ensures.count c.row_sizes-count.ensures.width)
