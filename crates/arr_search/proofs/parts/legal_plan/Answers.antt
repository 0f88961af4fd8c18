use Rattle.std.proofs.Common.{◌≡◌, ◌∙◌, ℕ, length, true, sym, subst, arith}
use Rattle.std.specs.Prelude.{nat_lt}
use Rattle.std.specs.List.{list_all}
use Rattle.std.proofs.lemmas.Result.{IfOk-weaker}
use Rattle.arr_search.proofs.Labels.{legal_by}
use Rattle.arr_search.proofs.parts.legal_plan.Goals as goal

pub returns : goal.returns
returns c =
    let list = c.args.graph.now in
    let labels = c.args.labels.now in
    let small : list_all (λ label. nat_lt label (length list)) labels ≡ true = subst (λ (n : ℕ). list_all (λ label. nat_lt label n) labels ≡ true) c.len-2.ensures.value (sym c.are_below.ensures ∙ c.if-not-are_below.false) in
    IfOk-weaker c.plan_by.result _ _ (λ plan e. legal_by list labels plan (omega arith) small e) c.plan_by.ensures
