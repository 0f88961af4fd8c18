use Rattle.std.proofs.Common.{◌≡◌, ◌∙◌, ◌+◌, ◌≤◌, drop, take, length, ap₂, sym, subst, false, true}
use Rattle.std.specs.List.{list_all}
use Rattle.arr_num.specs.Kinds.{is_reduction}
use Rattle.arr_view.specs.Views.{elements, positions}
use Rattle.arr_ops.specs.Ops.{freed_by}
use Rattle.arr_store.specs.Cells.{takes}
use Rattle.arr_store.specs.Stored.{cells}
use Rattle.arr_strips.specs.Strips.{put_at}
use Rattle.arr_loop.proofs.Summed.{OneSum, keeps_one, one_put, one_there, sum_room, sum_typed}
use Rattle.arr_contract.proofs.KeptNumbers.{kept_whole}
use Rattle.arr_loop.proofs.walking.write_sum.Goals as goal

pub write_numbers-requires-clause-numbers : goal.write_numbers-requires-clause-numbers
write_numbers-requires-clause-numbers c =
    subst (λ n. c.sums_from.result + positions c.in-Some.out.lengths ≤ length n) (sym c.numbers.ensures)
    (subst (λ n. n + positions c.in-Some.out.lengths ≤ length c.args.prepared.now.numbers) (sym c.sums_from.ensures)
    (sum_room c.args.prepared.now.ops c.args.prepared.now.numbers c.args.place c.args.op.now c.in-Some.out c.requires.place c.requires.op (sym c.is_reduction.ensures ∙ c.if-not-is_reduction.false) c.in-Some.is c.ops.ensures.block (c.ops.ensures.kept ∙ kept_whole c.args.prepared.now.ops c.requires.parallel)))

pub write_numbers-requires-clause-typed : goal.write_numbers-requires-clause-typed
write_numbers-requires-clause-typed c =
    let red : is_reduction c.args.op.now.code ≡ true = sym c.is_reduction.ensures ∙ c.if-not-is_reduction.false in
    let stays : freed_by c.args.prepared.now.ops c.in-Some.out.base ≡ false = ap₂ freed_by (sym c.ops.ensures.value) (sym c.base.ensures.value) ∙ sym c.frees.ensures ∙ c.if-frees.false in
    let one : OneSum c.args.prepared.now.ops c.args.op.now c.in-Some.out = keeps_one c.args.prepared.now.ops c.args.op.now c.in-Some.out red c.in-Some.is stays in
    ap₂ (λ n xs. list_all (takes (cells c.args.store.now c.in-Some.out.base)) (take (positions c.in-Some.out.lengths) (drop n xs))) c.sums_from.ensures c.numbers.ensures
    ∙ sum_typed c.args.prepared.now.ops c.args.prepared.now.numbers c.args.place c.args.op.now c.in-Some.out c.requires.place c.requires.op red c.in-Some.is c.ops.ensures.block (c.ops.ensures.kept ∙ kept_whole c.args.prepared.now.ops c.requires.parallel)
    (cells c.args.store.now c.in-Some.out.base) (one_there c.args.prepared.now.ops c.args.op.now c.in-Some.out (cells c.args.store.now) one c.requires.there).typed c.requires.kept

pub returns-clause-bases : goal.returns-clause-bases
returns-clause-bases c =
    let red : is_reduction c.args.op.now.code ≡ true = sym c.is_reduction.ensures ∙ c.if-not-is_reduction.false in
    let stays : freed_by c.args.prepared.now.ops c.in-Some.out.base ≡ false = ap₂ freed_by (sym c.ops.ensures.value) (sym c.base.ensures.value) ∙ sym c.frees.ensures ∙ c.if-frees.false in
    let one : OneSum c.args.prepared.now.ops c.args.op.now c.in-Some.out = keeps_one c.args.prepared.now.ops c.args.op.now c.in-Some.out red c.in-Some.is stays in
    one_put c.args.prepared.now.ops c.args.prepared.now.numbers c.args.place c.args.op.now c.in-Some.out c.requires.place c.requires.op red c.in-Some.is c.ops.ensures.block (c.ops.ensures.kept ∙ kept_whole c.args.prepared.now.ops c.requires.parallel) one
    (cells c.args.store.now) (cells c.write_numbers.new.store)
    (c.write_numbers.ensures.bases
    ∙ ap₂ (λ n xs. put_at c.in-Some.out.base (elements c.in-Some.out) (take (positions c.in-Some.out.lengths) (drop n xs)) (cells c.args.store.now)) c.sums_from.ensures c.numbers.ensures)
