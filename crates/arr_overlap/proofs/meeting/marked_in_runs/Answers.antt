use Rattle.std.proofs.Common.{◌≡◌, ◌∙◌, ◌+◌, ◌<◌, ◌≤◌, ◌++◌, ◌∷◌, [], ℕ, pos, true, length, get_or, set, ap, sym, arith, subst, rules}
use Rattle.arr_view.specs.Strided.{Strided}
use Rattle.arr_view.specs.Views.{elements, has, is_view, most_elements}
use Rattle.arr_view.proofs.Checks.{lawful, same_rank}
use Rattle.arr_view.proofs.Places.{length_at}
use Rattle.arr_overlap.specs.Filters.{front_of}
use Rattle.arr_overlap.specs.Marks.{Marks}
use Rattle.arr_overlap.proofs.Marking.{at_end, marks_none, next_one, one_more}
use Rattle.arr_overlap.proofs.Runs.{elements_in_runs, marks_run, marks_same, one_fits, run_inside, runs}
use Rattle.arr_overlap.proofs.Smaller.{front_lawful}
use Rattle.arr_overlap.proofs.meeting.marked_in_runs.Goals as goal

in_runs : (v : Strided) (m k : ℕ) → is_view v ≡ true → k < length v.lengths → m ≡ get_or v.lengths k 0 → get_or v.strides k (pos 0) ≡ pos 1
    → (x : ℕ) → has (elements v) x ≡ has (runs m (elements (front_of v (set v.lengths k 1)))) x
in_runs v m k law below long unit = elements_in_runs v m k (front_lawful v (set v.lengths k 1) law (one_fits v.lengths k (lawful v law).lengths)) (same_rank v law) below long unit

pub loop-first-init : goal.loop-first-init
loop-first-init c = record {
  whole = ap elements (sym c.first_of_axis.ensures.value) ∙ sym c.new-first-items.ensures ∙ sym c.into_iter-first-iterator.ensures.into_iter_gives;
  marks = marks_none c.in_ok-bits.bits c.in_ok-bits.ensures;
}

pub insert_run-requires : goal.insert_run-requires
insert_run-requires c =
    let v : Strided = c.args.view.now in
    let k : ℕ = c.args.axis in
    let run : ℕ = get_or c.shape.result.now k 0 in
    let law = c.shape.ensures.lawful in
    let long : run ≡ get_or v.lengths k 0 = ap (λ xs. get_or xs k 0) c.shape.ensures.value in
    let some : 1 ≤ get_or v.lengths k 0 = length_at k v.lengths (lawful v law).lengths c.requires.axis in
    let inside : c.in-Some.first + run ≤ most_elements =
    run_inside v run _ _ _ c.in-Some.first law (omega arith) (in_runs v run k law c.requires.axis long c.requires.stride) (next_one _ _ _ _ _ c.loop-first.invariant.whole c.in-Some.ensures.steps) in
    let row = c.loop-first.invariant.marks.long in
    omega arith

pub loop-first-preserved : goal.loop-first-preserved
loop-first-preserved c =
    let v : Strided = c.args.view.now in
    let k : ℕ = c.args.axis in
    let run : ℕ = get_or c.shape.result.now k 0 in
    let law = c.shape.ensures.lawful in
    let long : run ≡ get_or v.lengths k 0 = ap (λ xs. get_or xs k 0) c.shape.ensures.value in
    let some : 1 ≤ get_or v.lengths k 0 = length_at k v.lengths (lawful v law).lengths c.requires.axis in
    let inside : c.in-Some.first + run ≤ most_elements =
    run_inside v run _ _ _ c.in-Some.first law (omega arith) (in_runs v run k law c.requires.axis long c.requires.stride) (next_one _ _ _ _ _ c.loop-first.invariant.whole c.in-Some.ensures.steps) in
    record {
      whole = one_more _ _ _ _ _ c.loop-first.invariant.whole c.in-Some.ensures.steps;
      marks = subst (λ b. Marks b (runs run (c.loop-first.yielded ++ c.in-Some.first ∷ []))) (sym c.insert_run.ensures) (marks_run c.loop-first.bits c.loop-first.yielded c.in-Some.first run c.loop-first.invariant.marks inside);
    }

pub returns : goal.returns
returns c =
    let v : Strided = c.args.view.now in
    let k : ℕ = c.args.axis in
    let run : ℕ = get_or c.shape.result.now k 0 in
    let law = c.shape.ensures.lawful in
    let long : run ≡ get_or v.lengths k 0 = ap (λ xs. get_or xs k 0) c.shape.ensures.value in
    let whole : elements (front_of v (set v.lengths k 1)) ≡ c.loop-first.yielded = at_end _ _ _ c.loop-first.invariant.whole (search rules) in
    marks_same c.loop-first.bits (runs run c.loop-first.yielded) (elements v) (λ x. in_runs v run k law c.requires.axis long c.requires.stride x ∙ ap (λ hs. has (runs run hs) x) whole) c.loop-first.invariant.marks
