use Rattle.std.proofs.Common.{◌≡◌, ◌∙◌, ◌++◌, codes, decimal, rules}
use Rattle.std.specs.Fmt.{signed_decimal}
use Rattle.arr_store.specs.Slots.{slots_of}
use Rattle.arr_listing.specs.Texts.{numbers_text, type_name}
use Rattle.arr_listing.proofs.Summing.{lines_are}
use Rattle.arr_listing.proofs.totals.total_lines.Goals as goal

pub returns : goal.returns
returns c =
    let text : c.extend_from_slice-6.new.self.items
    ≡ codes "array " ++ decimal c.args.number ++ codes " " ++ type_name c.args.op.now.from ++ numbers_text c.array_view-view.result.now.lengths ++ codes "\nsum " ++ signed_decimal c.plain_sum-sum.result ++ codes "\n"
    = search rules in
    text ∙ lines_are c.args.number c.args.op.now c.array_view-view.result.now (slots_of c.args.slots.now c.args.slot) c.plain_sum-sum.result c.requires c.array_view-view.ensures c.plain_sum-sum.ensures
