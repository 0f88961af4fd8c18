use Rattle.std.proofs.Common.{◌≡◌, ℕ, ◌+◌, ◌/◌, ◌%◌, ◌≤◌, ◌<◌, ◌<ℤ◌, ◌≤ℤ◌, ℤ, pos, ◌+ℤ◌, ◌*ℤ◌, true, length, get_or, to_z, of_z, w32, w64, ap, sym, ◌∙◌, subst, arith, rules}
use Rattle.std.specs.Prelude.{List}
use mir.Val.{SFits}
use Rattle.std.proofs.lemmas.Int.{ints, to_z-of_z}
use Rattle.arr_view.specs.Strided.{Strided}
use Rattle.arr_view.specs.Views.{positions, is_place, elements}
use Rattle.arr_view.proofs.Places.{place_low, place_high, natural}
use Rattle.arr_view.proofs.Checks.{same_rank, lawful}
use Rattle.arr_view.proofs.Spots.{Spot, spot_place, spot_turn, spot_end, smaller}
use Rattle.arr_view.proofs.view.View.element.Goals as goal

pub bounds-deref-axis : goal.bounds-deref-axis
bounds-deref-axis c =
    let ns : List ℕ = c.self.inside.shape.items in
    let ss : List ℤ = c.self.inside.strides.items in
    let same : length ss ≡ length ns = same_rank (record { base = c.self.inside.base; start = c.self.inside.start; lengths = ns; strides = ss }) c.self.invariant in
    let a : length c.deref-length-items.result.now ≡ length ns = ap length c.deref-length-items.ensures.0 in
    let b : length c.deref.result.now ≡ length ss = ap length c.deref.ensures.0 in
    omega arith

pub overflow_add-place : goal.overflow_add-place
overflow_add-place c =
    let ns : List ℕ = c.self.inside.shape.items in
    let ss : List ℤ = c.self.inside.strides.items in
    let v : Strided = record { base = c.self.inside.base; start = c.self.inside.start; lengths = ns; strides = ss } in
    let here : is_place (to_z w64 c.loop-axis.place-bits) ≡ true =
    spot_place ns ss (pos c.self.inside.start) c.args.position c.loop-axis.axis (to_z w64 c.loop-axis.place-bits) c.loop-axis.rest c.loop-axis.left (same_rank v c.self.invariant) (lawful v c.self.invariant).lengths c.loop-axis.invariant in
    let low : pos 0 ≤ℤ to_z w64 c.loop-axis.place-bits = place_low _ here in
    let high : to_z w64 c.loop-axis.place-bits <ℤ pos 1048576 = place_high _ here in
    omega (arith, ints)

pub nonzero_rem-left : goal.nonzero_rem-left
nonzero_rem-left c =
    let ns : List ℕ = c.self.inside.shape.items in
    let ss : List ℤ = c.self.inside.strides.items in
    let v : Strided = record { base = c.self.inside.base; start = c.self.inside.start; lengths = ns; strides = ss } in
    let items : c.deref-length-items.result.now ≡ ns = c.deref-length-items.ensures.0 in
    smaller ns ss (pos c.self.inside.start) c.args.position c.loop-axis.axis (to_z w64 c.loop-axis.place-bits) c.loop-axis.rest c.loop-axis.left (same_rank v c.self.invariant) (lawful v c.self.invariant).lengths
    (subst (λ xs. c.loop-axis.axis < length xs) items c.loop-axis-test.true) c.loop-axis.invariant
    (c.loop-axis.rest / get_or c.deref-length-items.result.now c.loop-axis.axis 0) (ap (λ xs. c.loop-axis.rest / get_or xs c.loop-axis.axis 0) items)

pub loop-axis-preserved : goal.loop-axis-preserved
loop-axis-preserved c =
    let ns : List ℕ = c.self.inside.shape.items in
    let ss : List ℤ = c.self.inside.strides.items in
    let v : Strided = record { base = c.self.inside.base; start = c.self.inside.start; lengths = ns; strides = ss } in
    let items : c.deref-length-items.result.now ≡ ns = c.deref-length-items.ensures.0 in
    let place : ℤ = to_z w64 c.loop-axis.place-bits in
    let rest : ℕ = c.loop-axis.rest / get_or c.deref-length-items.result.now c.loop-axis.axis 0 in
    let here : is_place place ≡ true =
    spot_place ns ss (pos c.self.inside.start) c.args.position c.loop-axis.axis place c.loop-axis.rest c.loop-axis.left (same_rank v c.self.invariant) (lawful v c.self.invariant).lengths c.loop-axis.invariant in
    let low : pos 0 ≤ℤ place = place_low _ here in
    let high : place <ℤ pos 1048576 = place_high _ here in
    let stride : get_or c.deref.result.now c.loop-axis.axis (pos 0) ≡ get_or ss c.loop-axis.axis (pos 0) = ap (λ xs. get_or xs c.loop-axis.axis (pos 0)) c.deref.ensures.0 in
    let fits : SFits w32 (get_or c.deref.result.now c.loop-axis.axis (pos 0)) = search rules in
    let far : c.offset-place.result ≡ pos (c.loop-axis.left / rest) *ℤ get_or ss c.loop-axis.axis (pos 0) =
    c.offset-place.ensures.value ∙ ap (λ y. pos (c.loop-axis.left / rest) *ℤ y) (to_z-of_z w32 (get_or c.deref.result.now c.loop-axis.axis (pos 0)) fits ∙ stride) in
    let sum : to_z w64 (of_z w64 (place +ℤ to_z w64 (of_z w64 c.offset-place.result))) ≡ place +ℤ c.offset-place.result = omega (arith, ints) in
    subst (λ y. Spot ns ss (pos c.self.inside.start) c.args.position (c.loop-axis.axis + 1) y rest (c.loop-axis.left % rest)) (sym sum)
    (spot_turn ns ss (pos c.self.inside.start) c.args.position c.loop-axis.axis place c.loop-axis.rest c.loop-axis.left (same_rank v c.self.invariant) (lawful v c.self.invariant).lengths
    (subst (λ xs. c.loop-axis.axis < length xs) items c.loop-axis-test.true) c.loop-axis.invariant rest c.offset-place.result
    (ap (λ xs. c.loop-axis.rest / get_or xs c.loop-axis.axis 0) items) far)

pub returns-clause-value : goal.returns-clause-value
returns-clause-value c =
    let ns : List ℕ = c.self.inside.shape.items in
    let ss : List ℤ = c.self.inside.strides.items in
    let v : Strided = record { base = c.self.inside.base; start = c.self.inside.start; lengths = ns; strides = ss } in
    let items : c.deref-length-items.result.now ≡ ns = c.deref-length-items.ensures.0 in
    let place : ℤ = to_z w64 c.loop-axis.place-bits in
    let here : is_place place ≡ true =
    spot_place ns ss (pos c.self.inside.start) c.args.position c.loop-axis.axis place c.loop-axis.rest c.loop-axis.left (same_rank v c.self.invariant) (lawful v c.self.invariant).lengths c.loop-axis.invariant in
    natural place here
    ∙ spot_end v c.args.position c.loop-axis.axis place c.loop-axis.rest c.loop-axis.left (same_rank v c.self.invariant) (subst (λ (w : Strided). c.args.position < positions w.lengths) (sym c.self.view_is) c.requires)
    (subst (λ xs. length xs ≤ c.loop-axis.axis) items c.loop-axis-test.false) c.loop-axis.invariant
    ∙ ap (λ (w : Strided). get_or (elements w) c.args.position 0) c.self.view_is
