use Rattle.std.proofs.Common.{rules, ◌≡◌, ◌≤◌, ℕ, ℤ, List, ap, sym, ◌∙◌, true, false}
use Rattle.std.specs.Prelude.{Option, Some, Ok, Err, option_map, ok_or}
use Rattle.arr_view.specs.Strided.{Strided}
use Rattle.arr_view.specs.Views.{kept_strides, view_from}
use Rattle.arr_shape.specs.declared.fault.ShapeFault.TheVariants.{OutsideBase}
use Rattle.arr_shape.specs.Views.{narrowed, strided}
use Rattle.arr_shape.proofs.Shapes.{IsShape, shape_of}
use Rattle.arr_shape.proofs.Bases.{start_outside, stride_outside, view_outside, tested, elements_there, none_of, some_of, wide_one, narrow_all}
use Rattle.arr_shape.proofs.strided_view.strided.Goals as goal

-- what `View::new` answers, from the strides as they were given
made_from : {X : Type 0} (base start : ℕ) (ns : List ℕ) (ss : List ℤ) (items : X → List ℤ) (kept : Option X) (x : X) (list : List ℤ) (view : Option Strided)
    → option_map items kept ≡ narrowed ns ss → Ok x ≡ ok_or kept OutsideBase → list ≡ items x → view ≡ view_from base start ns list → view ≡ view_from base start ns (kept_strides ns ss)
made_from base start ns ss items kept x list view all some same new =
    new ∙ ap (view_from base start ns) (same ∙ narrow_all ns ss items kept x all (some_of x kept OutsideBase some))

pub returns-then-start-from-clause-view : goal.returns-then-start-from-clause-view
returns-then-start-from-clause-view c =
    let good : IsShape c.args.shape.now = shape_of c.args.shape.now c.requires in
    let high : 1048576 ≤ c.args.start = search rules in
    sym (start_outside c.args.base c.args.length c.args.start c.args.shape.now c.args.strides.now c.if-strides-shape.false good.lengths high)

pub returns-in_err-kept-clause-view : goal.returns-in_err-kept-clause-view
returns-in_err-kept-clause-view c =
    let ns : List ℕ = c.args.shape.now in
    let ss : List ℤ = c.args.strides.now in
    let good : IsShape ns = shape_of ns c.requires in
    let none = none_of c.narrowed.result c.in_err-kept.field-0.0 OutsideBase c.in_err-kept.ensures.value in
    let refused : strided c.args.base c.args.length c.args.start ns ss ≡ Err OutsideBase =
    stride_outside c.args.base c.args.length c.args.start ns ss c.if-strides-shape.false good.lengths (wide_one ns ss _ c.narrowed.result c.narrowed.ensures none.0) in
    let returned : c.from_residual.result ≡ Err c.in_err-kept.field-0.0 = search rules in
    returned ∙ ap Err none.1 ∙ sym refused

pub returns-in_err-view-clause-view : goal.returns-in_err-view-clause-view
returns-in_err-view-clause-view c =
    let ns : List ℕ = c.args.shape.now in
    let ss : List ℤ = c.args.strides.now in
    let good : IsShape ns = shape_of ns c.requires in
    let none = none_of c.new.result c.in_err-view.field-0.0 OutsideBase c.in_err-view.ensures.value in
    let refused : strided c.args.base c.args.length c.args.start ns ss ≡ Err OutsideBase =
    view_outside c.args.base c.args.length c.args.start ns ss c.if-strides-shape.false good
    (sym none.0 ∙ made_from c.args.base c.args.start ns ss _ _ _ _ _ c.narrowed.ensures c.in_ok-kept.ensures.value c.as_slice.ensures.value c.new.ensures) in
    let returned : c.from_residual-in_err-view.result ≡ Err c.in_err-view.field-0.0 = search rules in
    returned ∙ ap Err none.1 ∙ sym refused

pub returns-then-not-lies_below-clause-view : goal.returns-then-not-lies_below-clause-view
returns-then-not-lies_below-clause-view c =
    let ns : List ℕ = c.args.shape.now in
    let ss : List ℤ = c.args.strides.now in
    let there : Some c.in_ok-view.view ≡ view_from c.args.base c.args.start ns (kept_strides ns ss) =
    sym (some_of c.in_ok-view.view c.new.result OutsideBase c.in_ok-view.ensures.value) ∙ made_from c.args.base c.args.start ns ss _ _ _ _ _ c.narrowed.ensures c.in_ok-kept.ensures.value c.as_slice.ensures.value c.new.ensures in
    sym (tested c.args.base c.args.length c.args.start ns ss c.if-strides-shape.false c.in_ok-view.view (shape_of ns c.requires) there false (sym c.lies_below.ensures ∙ c.if-not-lies_below.true))

pub returns-clause-view : goal.returns-clause-view
returns-clause-view c =
    let ns : List ℕ = c.args.shape.now in
    let ss : List ℤ = c.args.strides.now in
    let there : Some c.in_ok-view.view ≡ view_from c.args.base c.args.start ns (kept_strides ns ss) =
    sym (some_of c.in_ok-view.view c.new.result OutsideBase c.in_ok-view.ensures.value) ∙ made_from c.args.base c.args.start ns ss _ _ _ _ _ c.narrowed.ensures c.in_ok-kept.ensures.value c.as_slice.ensures.value c.new.ensures in
    sym (tested c.args.base c.args.length c.args.start ns ss c.if-strides-shape.false c.in_ok-view.view (shape_of ns c.requires) there true (sym c.lies_below.ensures ∙ c.if-not-lies_below.false))

pub returns-clause-elements : goal.returns-clause-elements
returns-clause-elements c =
    let ns : List ℕ = c.args.shape.now in
    let ss : List ℤ = c.args.strides.now in
    let there : Some c.in_ok-view.view ≡ view_from c.args.base c.args.start ns (kept_strides ns ss) =
    sym (some_of c.in_ok-view.view c.new.result OutsideBase c.in_ok-view.ensures.value) ∙ made_from c.args.base c.args.start ns ss _ _ _ _ _ c.narrowed.ensures c.in_ok-kept.ensures.value c.as_slice.ensures.value c.new.ensures in
    elements_there c.args.base c.args.length c.args.start ns ss c.if-strides-shape.false c.in_ok-view.view (shape_of ns c.requires) there
