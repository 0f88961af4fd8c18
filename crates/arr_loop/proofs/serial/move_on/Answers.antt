use Rattle.std.proofs.Common.{◌≡◌, ◌∙◌, ◌+◌, ◌*◌, true, cond, ap, sym}
use Rattle.arr_num.specs.Numbers.{width}
use Rattle.arr_view.specs.Views.{elements, positions}
use Rattle.arr_ops.specs.Memory.{computed}
use Rattle.arr_ops.proofs.Tests.{both_right}
use Rattle.arr_store.specs.Stored.{cells, memory_of}
use Rattle.arr_contract.specs.Prepared.{copies, shifts}
use Rattle.arr_ops.specs.Formed.{same_elem}
use Rattle.arr_loop.specs.Numbers.{written}
use Rattle.arr_loop.proofs.Moving.{copies_all, in_below, loads_one, moved_array, moving, out_below, out_typed, shifts_one, wide}
use Rattle.arr_loop.proofs.serial.move_on.Goals as goal

pub array_view-requires : goal.array_view-requires
array_view-requires c =
    let op = c.args.op.now in
    let ops = c.args.prepared.now.ops in
    let h : shifts ops op ≡ true = shifts_one ops op c.requires.writer c.requires.slides in
    moved_array ops op.out op.first (both_right (same_elem op.to op.from) _ (both_right (copies op.code) _ h))

pub shift-requires-clause-shift : goal.shift-requires-clause-shift
shift-requires-clause-shift c =
    (moving c.args.prepared.now.ops c.args.op.now c.args.out.now c.array_view.result.now c.requires.out c.array_view.ensures (shifts_one c.args.prepared.now.ops c.args.op.now c.requires.writer c.requires.slides)).shift

pub shift-requires-clause-base : goal.shift-requires-clause-base
shift-requires-clause-base c =
    let op = c.args.op.now in
    let s = moving c.args.prepared.now.ops op c.args.out.now c.array_view.result.now c.requires.out c.array_view.ensures (shifts_one c.args.prepared.now.ops op c.requires.writer c.requires.slides) in
    out_typed (memory_of c.args.store.now) c.args.prepared.now.ops op c.args.out.now c.array_view.result.now c.requires.well c.requires.out c.array_view.ensures c.requires.makes c.requires.fits s

pub shift-requires-clause-inside : goal.shift-requires-clause-inside
shift-requires-clause-inside c =
    let op = c.args.op.now in
    let s = moving c.args.prepared.now.ops op c.args.out.now c.array_view.result.now c.requires.out c.array_view.ensures (shifts_one c.args.prepared.now.ops op c.requires.writer c.requires.slides) in
    out_below (memory_of c.args.store.now) c.args.prepared.now.ops op c.args.out.now c.array_view.result.now c.requires.well c.requires.out c.array_view.ensures c.requires.makes c.requires.fits s

pub shift-requires-clause-inside_input : goal.shift-requires-clause-inside_input
shift-requires-clause-inside_input c =
    let op = c.args.op.now in
    let s = moving c.args.prepared.now.ops op c.args.out.now c.array_view.result.now c.requires.out c.array_view.ensures (shifts_one c.args.prepared.now.ops op c.requires.writer c.requires.slides) in
    in_below (memory_of c.args.store.now) c.args.prepared.now.ops op c.args.out.now c.array_view.result.now c.requires.well c.requires.out c.array_view.ensures c.requires.makes c.requires.fits s

pub returns-clause-bases : goal.returns-clause-bases
returns-clause-bases c =
    let op = c.args.op.now in
    let ops = c.args.prepared.now.ops in
    let out = c.args.out.now in
    let f = cells c.args.store.now in
    let s = moving ops op out c.array_view.result.now c.requires.out c.array_view.ensures (shifts_one ops op c.requires.writer c.requires.slides) in
    c.shift.ensures.bases
    ∙ ap (written f out.base (elements out)) (sym (copies_all (memory_of c.args.store.now) ops op out c.array_view.result.now c.requires.well c.requires.out c.array_view.ensures c.requires.makes c.requires.fits s))
    ∙ ap (λ z. cond z f (written f out.base (elements out) (computed (memory_of c.args.store.now) op))) (sym s.kept)

pub returns-clause-loads : goal.returns-clause-loads
returns-clause-loads c =
    let op = c.args.op.now in
    let ops = c.args.prepared.now.ops in
    let s = moving ops op c.args.out.now c.array_view.result.now c.requires.out c.array_view.ensures (shifts_one ops op c.requires.writer c.requires.slides) in
    c.shift.ensures.loads
    ∙ ap (λ w. c.args.store.now.loads + positions c.args.out.now.lengths * w)
    (loads_one (memory_of c.args.store.now) ops op c.args.out.now c.array_view.result.now c.requires.well c.requires.out c.array_view.ensures c.requires.makes c.requires.fits s)

pub returns-clause-stores : goal.returns-clause-stores
returns-clause-stores c =
    let op = c.args.op.now in
    let ops = c.args.prepared.now.ops in
    let n = positions c.args.out.now.lengths in
    let s = moving ops op c.args.out.now c.array_view.result.now c.requires.out c.array_view.ensures (shifts_one ops op c.requires.writer c.requires.slides) in
    c.shift.ensures.saves
    ∙ ap (λ w. c.args.store.now.stores + n * w)
    (wide (memory_of c.args.store.now) ops op c.args.out.now c.array_view.result.now c.requires.well c.requires.out c.array_view.ensures c.requires.makes c.requires.fits s)
    ∙ ap (λ z. c.args.store.now.stores + cond z 0 (n * width op.to)) (sym s.kept)
