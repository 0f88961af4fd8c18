use Rattle.std.proofs.Common.{◌≡◌, ◌∙◌, Some, None, true, get_or, ap, ap₂, length, subst, sym, arith}
use Rattle.std.specs.Prelude.{◌&&◌, IfSome}
use Rattle.std.proofs.lemmas.Bool.{eq-eqb}
use Rattle.arr_view.specs.Strided.{Strided}
use Rattle.arr_view.specs.Views.{elements, is_view, overlap, share}
use Rattle.arr_overlap.specs.Classes.{view_at}
use Rattle.arr_overlap.proofs.Apart.{meets_itself}
use Rattle.arr_overlap.proofs.ClassesMeet.{any_default, marks_decide, view_there}
use Rattle.arr_overlap.proofs.classes.met.Goals as goal

pub returns-then-at-other-clause-value : goal.returns-then-at-other-clause-value
returns-then-at-other-clause-value c =
    let views = c.args.views.now in
    let law : is_view (view_at views c.args.at) ≡ true = (c.requires.outlined.each c.args.at c.requires.at (record { start = 0; least = 0; greatest = 0; step = 0; row = 0; column = 0; width = 0 })).lawful in
    sym (ap (λ k. overlap (view_at views c.args.at) (view_at views k)) (sym c.if-at-other.true) ∙ meets_itself (view_at views c.args.at) law)

pub returns-in-Some-Some-clause-value : goal.returns-in-Some-Some-clause-value
returns-in-Some-Some-clause-value c =
    let views = c.args.views.now in
    let marks = c.mark-2.new.marks.items in
    let law : is_view (view_at views c.args.at) ≡ true = (c.requires.outlined.each c.args.at c.requires.at (record { start = 0; least = 0; greatest = 0; step = 0; row = 0; column = 0; width = 0 })).lawful in
    let here : view_at views c.args.at ≡ c.index-views-at.result = view_there views c.args.at c.index-views-at.result c.requires.at c.index-views-at.is in
    let there : view_at views c.args.other ≡ c.index-views-other.result = view_there views c.args.other c.index-views-other.result c.requires.other c.index-views-other.is in
    let same : (view_at views c.args.at).base ≡ (view_at views c.args.other).base =
    ap (λ (v : Strided). v.base) here ∙ sym c.base.ensures.value ∙ c.if-base.false ∙ c.base-2.ensures.value ∙ sym (ap (λ (v : Strided). v.base) there) in
    let long : length marks ≡ length views = c.in_ok-mark-2.ensures.marked.long in
    let row : get_or marks c.args.at None ≡ Some c.in-Some-Some.here =
    any_default marks c.args.at None c.index.result.now (let l = c.requires.at in omega arith) ∙ sym c.index.ensures ∙ c.in-Some-Some.is-0 in
    let other : get_or marks c.args.other None ≡ Some c.in-Some-Some.there =
    any_default marks c.args.other None c.index-2.result.now (let l = c.requires.other in omega arith) ∙ sym c.index-2.ensures ∙ c.in-Some-Some.is-1 in
    c.meets.ensures ∙ marks_decide views marks c.args.at c.args.other c.in-Some-Some.here c.in-Some-Some.there c.in_ok-mark-2.ensures.marked c.requires.at c.requires.other law same row other

pub returns-in-Some-clause-value : goal.returns-in-Some-clause-value
returns-in-Some-clause-value c =
    let views = c.args.views.now in
    let v : Strided = c.index-views-at-2.result in
    let w : Strided = c.index-views-other-2.result in
    let here : view_at views c.args.at ≡ v = view_there views c.args.at v c.requires.at c.index-views-at-2.is in
    let there : view_at views c.args.other ≡ w = view_there views c.args.other w c.requires.other c.index-views-other-2.is in
    let first : view_at views c.args.at ≡ c.index-views-at.result = view_there views c.args.at c.index-views-at.result c.requires.at c.index-views-at.is in
    let second : view_at views c.args.other ≡ c.index-views-other.result = view_there views c.args.other c.index-views-other.result c.requires.other c.index-views-other.is in
    let same : (view_at views c.args.at).base ≡ (view_at views c.args.other).base =
    ap (λ (x : Strided). x.base) first ∙ sym c.base.ensures.value ∙ c.if-base.false ∙ c.base-2.ensures.value ∙ sym (ap (λ (x : Strided). x.base) second) in
    let shared : c.in-Some.told ≡ share (elements v) (elements w) = subst (λ o. IfSome o (λ r. r ≡ share (elements v) (elements w))) c.in-Some.is c.told_by_steps.ensures in
    shared ∙ sym (ap₂ (λ x y. share (elements x) (elements y)) here there) ∙ sym (ap (λ b. b && share (elements (view_at views c.args.at)) (elements (view_at views c.args.other))) (eq-eqb (view_at views c.args.at).base (view_at views c.args.other).base same))
