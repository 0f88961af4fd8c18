use Rattle.std.proofs.Common.{◌≡◌, ◌∙◌, ◌+◌, ◌*◌, true, false, cond, ap, ap₂, subst, sym, take}
use Rattle.std.specs.FinMap as finite
use Rattle.std.specs.List.{AllByRecursion, list_all}
use Rattle.std.specs.Option.{option_to_list}
use Rattle.arr_num.specs.Kinds.{kind}
use Rattle.arr_num.specs.Numbers.{width}
use Rattle.arr_view.specs.Strided.{Strided}
use Rattle.arr_view.specs.Views.{elements, positions}
use Rattle.arr_ops.specs.Fits.{meets_need}
use Rattle.arr_ops.specs.Memory.{computed}
use Rattle.arr_ops.specs.Ops.{freed_by}
use Rattle.arr_ops.proofs.Spots.{computes_of, operands_of}
use Rattle.arr_ops.proofs.Tests.{test_all}
use Rattle.arr_ops.proofs.Typed.{computed_in}
use Rattle.arr_num.specs.Numbers.{in_type}
use Rattle.arr_loop.specs.Numbers.{lie_inside}
use Rattle.arr_loop.proofs.Needs.{out_inside, out_takes, output_need, outputs_met}
use Rattle.arr_store.specs.Cells.{takes, width_at}
use Rattle.arr_store.specs.Stored.{cells, memory_of}
use Rattle.arr_loop.proofs.Elements.{width_met}
use Rattle.arr_loop.proofs.serial.fill.Goals as goal

pub compute-requires-clause-enough : goal.compute-requires-clause-enough
compute-requires-clause-enough c = c.requires.enough (sym c.slides.ensures ∙ c.if-slides.false)

pub write_out-requires-clause-inside : goal.write_out-requires-clause-inside
write_out-requires-clause-inside c =
    ap (λ b. lie_inside (elements c.args.out.now) (finite.get b c.args.out.now.base)) c.compute.ensures.bases
    ∙ out_inside (memory_of c.args.store.now) c.args.op.now c.args.out.now c.requires.well c.requires.out c.requires.fits c.requires.makes

pub write_out-requires-clause-typed : goal.write_out-requires-clause-typed
write_out-requires-clause-typed c =
    ap (λ b. list_all (takes (finite.get b c.args.out.now.base)) (take (positions c.args.out.now.lengths) c.compute.new.prepared.numbers)) c.compute.ensures.bases
    ∙ ap (list_all (takes (cells c.args.store.now c.args.out.now.base))) c.compute.ensures.numbers
    ∙ out_takes (memory_of c.args.store.now) c.args.op.now c.args.out.now c.requires.well c.requires.out c.requires.fits c.requires.makes (computed (memory_of c.args.store.now) c.args.op.now)
    (test_all (in_type c.args.op.now.to) (computed (memory_of c.args.store.now) c.args.op.now) (computed_in (memory_of c.args.store.now) c.args.op.now (computes_of (kind c.args.op.now.code) c.args.op.now c.args.out.now c.requires.out (operands_of c.args.op.now c.requires.well))))

pub returns-clause-stores : goal.returns-clause-stores
returns-clause-stores c =
    let kept : freed_by c.args.prepared.now.ops c.args.out.now.base ≡ false =
    ap (λ os. freed_by os c.args.out.now.base) (sym (c.ops.ensures.value ∙ c.compute.ensures.ops)) ∙ ap (freed_by c.ops.result.now) (sym c.base.ensures.value) ∙ sym c.frees.ensures ∙ c.if-frees.false in
    let wide : width_at (cells c.compute.new.store c.args.out.now.base) ≡ width c.args.op.now.to =
    ap (λ b. width_at (finite.get b c.args.out.now.base)) c.compute.ensures.bases
    ∙ width_met (cells c.args.store.now c.args.out.now.base) (output_need c.args.op.now c.args.out.now)
    ((subst (λ x. AllByRecursion (λ (v : Strided). c.args.op.now.makes ≡ false → meets_need (cells c.args.store.now v.base) (output_need c.args.op.now v) ≡ true) (option_to_list x)) c.requires.out
    (outputs_met (memory_of c.args.store.now) c.args.op.now c.requires.well c.requires.fits)).0 c.requires.makes) in
    c.write_out.ensures.stores ∙ ap₂ (λ a w. a + positions c.args.out.now.lengths * w) c.compute.ensures.stores wide
    ∙ ap (λ z. c.args.store.now.stores + cond z 0 (positions c.args.out.now.lengths * width c.args.op.now.to)) (sym kept)
