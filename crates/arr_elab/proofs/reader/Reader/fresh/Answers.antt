use Rattle.std.proofs.Common.{rules, arith, ◌<◌, ◌≤◌, ◌≡◌, ◌∙◌, ap, sym, subst, length, Some, Err, IsSome}
use Rattle.arr_view.specs.Strided.{Strided}
use Rattle.arr_view.specs.Views.{checked, whole_view, positions}
use Rattle.arr_shape.proofs.Shapes.{shape_of}
use Rattle.arr_elab.specs.Totals.{Held, IsKept, IsBounded, lengths}
use Rattle.arr_elab.proofs.Kept.{kept_made, bounded_made, same_refusal, refused_fresh, made_fresh}
use Rattle.arr_elab.proofs.Wholes.{whole_there}
use Rattle.arr_elab.proofs.reader.Reader.fresh.Goals as goal

pub unwrap-view-requires : goal.unwrap-view-requires
unwrap-view-requires c =
    let shape = c.args.shape.now in
    let there : c.whole.result ≡ Some (whole_view c.in-Ok.base shape) =
    c.whole.ensures.value ∙ ap (λ ns. checked (whole_view c.in-Ok.base ns)) c.lengths.ensures.value ∙ whole_there c.in-Ok.base shape c.lengths.ensures.lawful in
    subst IsSome (sym there) (search rules)

pub returns-then-not-has_room : goal.returns-then-not-has_room
returns-then-not-has_room c = λ r h.
    let old = c.self.inside in
    let shape = c.args.shape.now in
    let there : Some c.unwrap-view.result ≡ Some (whole_view c.in-Ok.base shape) =
    sym c.unwrap-view.ensures ∙ c.whole.ensures.value ∙ ap (λ ns. checked (whole_view c.in-Ok.base ns)) c.lengths.ensures.value ∙ whole_there c.in-Ok.base shape c.lengths.ensures.lawful in
    let is : c.unwrap-view.result ≡ whole_view c.in-Ok.base shape = cc in
    let count : c.positions-count.result ≡ positions shape = c.positions-count.ensures.value ∙ ap (λ (v : Strided). positions v.lengths) is in
    refused_fresh old.names old.bases old.steps.items c.args.self.now c.args.at shape c.positions-count.result c.self.view_is c.self.invariant.0 count c.if-not-has_room.ensures
    ∙ ap Err (same_refusal c.at.result _ r c.at.ensures h)

pub returns : goal.returns
returns c =
    let old = c.self.inside in
    let shape = c.args.shape.now in
    let there : Some c.unwrap-view.result ≡ Some (whole_view c.in-Ok.base shape) =
    sym c.unwrap-view.ensures ∙ c.whole.ensures.value ∙ ap (λ ns. checked (whole_view c.in-Ok.base ns)) c.lengths.ensures.value ∙ whole_there c.in-Ok.base shape c.lengths.ensures.lawful in
    let is : c.unwrap-view.result ≡ whole_view c.in-Ok.base shape = cc in
    let count : c.positions-count.result ≡ positions shape = c.positions-count.ensures.value ∙ ap (λ (v : Strided). positions v.lengths) is in
    let base : c.in-Ok.base ≡ length old.bases.list = c.in-Ok.ensures.1 ∙ c.count.ensures in
    made_fresh old.names old.bases c.make.new.self old.steps.items c.args.self.now c.args.at shape c.positions-count.result c.in-Ok.base c.unwrap-view.result
    c.self.view_is c.self.invariant.0 count base is c.if-not-has_room.ensures c.in_ok-make.ensures.made

pub invariant_of-self-2 : goal.invariant_of-self-2
invariant_of-self-2 c =
    let old = c.self.inside in
    let shape = c.args.shape.now in
    let there : Some c.unwrap-view.result ≡ Some (whole_view c.in-Ok.base shape) =
    sym c.unwrap-view.ensures ∙ c.whole.ensures.value ∙ ap (λ ns. checked (whole_view c.in-Ok.base ns)) c.lengths.ensures.value ∙ whole_there c.in-Ok.base shape c.lengths.ensures.lawful in
    let is : c.unwrap-view.result ≡ whole_view c.in-Ok.base shape = cc in
    let count : c.positions-count.result ≡ positions shape = c.positions-count.ensures.value ∙ ap (λ (v : Strided). positions v.lengths) is in
    let most = shape_of shape c.lengths.ensures.lawful in
    let size : positions shape ≤ 1048576 = most.size in
    let base : c.in-Ok.base ≡ length old.bases.list = c.in-Ok.ensures.1 ∙ c.count.ensures in
    let low : c.in-Ok.base < 4294967296 = search rules in
    subst (λ (h : Held). (IsKept old.names h) × (IsBounded old.names (lengths h.list))) (sym c.in_ok-make.ensures.made)
    (kept_made old.names old.bases c.positions-count.result c.self.invariant.0, bounded_made old.names old.bases c.positions-count.result c.self.invariant.1 (omega (arith, base, low)) (omega (arith, count, size)))
