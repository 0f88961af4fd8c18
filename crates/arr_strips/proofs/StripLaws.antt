-- The laws, from their parts.
use Rattle.std.proofs.Common.{◌≡◌, true}
use Rattle.std.specs.List.{AllByRecursion}
use Rattle.arr_ops.specs.Fits.{op_fits}
use Rattle.arr_ops.specs.Costs.{reads}
use Rattle.arr_ops.proofs.Tests.{all_of}
use Rattle.arr_strips.specs.Blocks.{block_positions, stores}
use Rattle.arr_strips.specs.Laws.{StripsKeepBases, StripsKeepSlots, StripsBegin, StripsGoOn}
use Rattle.arr_strips.specs.Columns.{opened}
use Rattle.arr_strips.proofs.Strips.{walk_begins, walk_goes_on, walk_begun}
use Rattle.arr_strips.proofs.Fused.{fused, fused_slots}
use Rattle.arr_strips.proofs.Blocks.{Block, block_of, prepares, orderly, all_print}

pub keep_bases : StripsKeepBases
keep_bases ops m now is fit w =
    let b : Block ops = block_of ops is in
    let f : AllByRecursion (λ f. op_fits m ops f ≡ true) ops = all_of (op_fits m ops) ops fit in
    fused (block_positions ops) ops (reads ops) (stores ops) m (prepares ops m b f) now w

pub keep_slots : StripsKeepSlots
keep_slots ops m now is fit w =
    let b : Block ops = block_of ops is in
    let f : AllByRecursion (λ f. op_fits m ops f ≡ true) ops = all_of (op_fits m ops) ops fit in
    fused_slots (block_positions ops) ops (reads ops) (stores ops) m (prepares ops m b f) now w (all_print ops m b f)

pub begin : StripsBegin
begin ops m = walk_begins (block_positions ops) ops (reads ops) (stores ops) (opened ops m)

pub go_on : StripsGoOn
go_on ops m p c now is fit within w here done loads does =
    let b : Block ops = block_of ops is in
    let f : AllByRecursion (λ f. op_fits m ops f ≡ true) ops = all_of (op_fits m ops) ops fit in
    (walk_goes_on (block_positions ops) ops (reads ops) (stores ops) (opened ops m) (orderly ops m b f) p c within now w here done loads does, walk_begun (block_positions ops) ops (reads ops) (stores ops) (opened ops m) (orderly ops m b f) p c within now w here done loads does)
