use Rattle.std.proofs.Common.{◌≡◌, ℕ, ◌+◌, ◌*◌, ◌/◌, ◌∙◌, length, take, drop, ap, sym, subst}
use Rattle.arr_law.specs.Problem.{ends_base_of}
use Rattle.arr_law.specs.Facts.{facts_of}
use Rattle.arr_law.specs.ProblemOf.{problem_of}
use Rattle.arr_state.specs.Rows.{AreApart, row_of}
use Rattle.arr_state.specs.States.{Standing, known}
use Rattle.arr_state.proofs.Aparts.{aparts, second_rows}
use Rattle.arr_state.proofs.state.State.apart_rows.Goals as goal

pub returns-clause-told : goal.returns-clause-told
returns-clause-told c =
    let ops = c.self.inside.ops.items in
    let held = c.self.inside.held in
    let size : ℕ = c.row_start-size.result in
    let count : c.count_of.result ≡ length ops = c.count_of.ensures ∙ ap length c.as_slice.ensures.value in
    let size_is : size ≡ (length ops + 1) * (length ops / 64 + 1) = c.row_start-size.ensures.value ∙ ap (λ n. row_of n 1 0) count ∙ second_rows (length ops) in
    let part : c.split_at-2.result.0.now ≡ take size (drop size held.rows.items) = c.split_at-2.ensures.front ∙ ap (take size) (c.split_at.ensures.back ∙ ap (drop size) c.as_slice-2.ensures.value) in
    let apart : AreApart (length ops) (facts_of (problem_of ops) held.facts.items) (take size (drop size held.rows.items)) =
    aparts (length ops) (ends_base_of (problem_of ops)) (facts_of (problem_of ops) held.facts.items) held.rows.items size c.self.invariant.1.rowed size_is in
    subst (λ (s : Standing). AreApart (length s.list) (known s) c.split_at-2.result.0.now) c.self.view_is
    (subst (AreApart (length ops) (facts_of (problem_of ops) held.facts.items)) (sym part) apart)
