-- The steps of an accepted script keep to what a recording is.
use Rattle.std.proofs.Common.{◌≡◌, List, true, refl, ap, sym, ◌∙◌}
use Rattle.std.specs.Prelude.{is_some, Ok, Err}
use Rattle.arr_tree.specs.declared.tree.Statement.{Statement}
use Rattle.arr_elab.specs.declared.step.Step.{Step}
use Rattle.arr_elab.specs.State.{State, Checked, and_then, nothing_yet}
use Rattle.arr_elab.specs.Outcome.{statements, outcome}
use Rattle.arr_elab.specs.Recording.{opening, is_recording}
use Rattle.arr_elab.proofs.Keeping.{keeps_nothing}
use Rattle.arr_elab.proofs.EachStatement.{Leaves, statements_leave}

abbrev steps_of : Unit {0} × State → Checked (List Step)
steps_of done = Ok done.1.steps

by_state : (o : Checked (Unit {0} × State)) (steps : List Step) → and_then o steps_of ≡ Ok steps → ((r : Unit {0} × State) → o ≡ Ok r → Leaves r) → is_recording steps ≡ true
by_state (Err x) steps e h = absurd (let f : and_then (Err x) steps_of ≡ Ok steps = e in cc)
by_state (Ok r) steps e h =
    let left = h r refl in
    let is : r.1.steps ≡ steps = (let f : steps_of r ≡ Ok steps = e in cc) in
    ap is_recording (sym is) ∙ ap is_some left.keeps.steps

pub recorded : (ss : List Statement) (steps : List Step) → outcome ss ≡ Ok steps → is_recording steps ≡ true
recorded ss steps e = by_state (statements ss nothing_yet) steps e (λ r f. statements_leave ss opening nothing_yet r keeps_nothing f)
