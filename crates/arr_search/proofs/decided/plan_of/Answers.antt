use Rattle.std.proofs.Common.{◌≡◌, ◌∙◌, None, length, ap, sym}
use Rattle.std.specs.Prelude.{is_some}
use Rattle.std.proofs.lemmas.Bool.{false≢true}
use Rattle.arr_law.specs.ProblemOf.{problem_of}
use Rattle.arr_state.specs.States.{known}
use Rattle.arr_search.specs.Parts.{labels_of, plan_by}
use Rattle.arr_search.proofs.Sharing.{labels_long, plan_there, plan_is}
use Rattle.arr_search.proofs.decided.plan_of.Goals as goal

pub plan_by-requires : goal.plan_by-requires
plan_by-requires c =
    ap length (c.as_slice.ensures.value ∙ c.in_ok-labels.ensures) ∙ labels_long c.args.graph.now (known c.args.state.now) c.requires.node c.requires.decided

pub unreachable-requires : goal.unreachable-requires
unreachable-requires c =
    let list = c.args.graph.now in
    let facts = known c.args.state.now in
    let same : c.as_slice.result.now ≡ labels_of (problem_of list) facts = c.as_slice.ensures.value ∙ c.in_ok-labels.ensures in
    let none : None ≡ plan_by list (labels_of (problem_of list) facts) = sym c.in-None.is ∙ c.in_ok-plan.ensures ∙ ap (plan_by list) same in
    false≢true (ap is_some none ∙ plan_there list facts c.requires.node c.requires.decided)

pub returns : goal.returns
returns c =
    let list = c.args.graph.now in
    let facts = known c.args.state.now in
    let same : c.as_slice.result.now ≡ labels_of (problem_of list) facts = c.as_slice.ensures.value ∙ c.in_ok-labels.ensures in
    plan_is list facts c.requires.node c.requires.decided c.in-Some.plan (sym (ap (plan_by list) same) ∙ (sym c.in_ok-plan.ensures ∙ c.in-Some.is))
