use Rattle.std.proofs.Common.{◌≡◌, replicate, rules}
use lib.IntN.{nat_abs}
use Rattle.arr_num.specs.declared.elem.Elem.TheVariants.{U8, U64}
use Rattle.arr_contract.proofs.Makings.{filled_naturals}
use Rattle.arr_contract.proofs.lanes.filled_lane.Goals as goal

pub returns-in_ok-vec-in-U8 : goal.returns-in_ok-vec-in-U8
returns-in_ok-vec-in-U8 c =
    let items : c.in_ok-vec-in-U8.field-0.items ≡ replicate c.args.room (nat_abs c.args.number) = search rules in
    filled_naturals c.args.ty U8 c.in_ok-vec-in-U8.field-0.items c.args.room c.args.number tt c.in-U8.is c.requires items

pub returns-in_ok-vec-in-U64 : goal.returns-in_ok-vec-in-U64
returns-in_ok-vec-in-U64 c =
    let items : c.in_ok-vec-in-U64.field-0.items ≡ replicate c.args.room (nat_abs c.args.number) = search rules in
    filled_naturals c.args.ty U64 c.in_ok-vec-in-U64.field-0.items c.args.room c.args.number tt c.in-U64.is c.requires items
