use Rattle.std.proofs.Common.{not, ap₂, sym, ◌∙◌, ◌&&◌}
use Rattle.arr_greedy.specs.Bits.{bit}
use Rattle.arr_greedy.proofs.Between.{between_is, between_none, between_turned}
use Rattle.arr_greedy.proofs.choice.may_merge.Goals as goal

pub returns-then-has : goal.returns-then-has
returns-then-has c keys told =
    let a = c.args in
    ap₂ (λ s t. s && not t) (sym c.if-not-at.false ∙ c.at.ensures)
    (c.some_stands.ensures ∙ between_is keys a.reaches.now a.reached.now a.width a.left a.right told.0 told.1 told.2 told.3 (sym c.has.ensures ∙ c.if-has.true))

pub returns-then-has-2 : goal.returns-then-has-2
returns-then-has-2 c keys told =
    let a = c.args in
    ap₂ (λ s t. s && not t) (sym c.if-not-at.false ∙ c.at.ensures)
    (c.some_stands-then-has-2.ensures ∙ between_is keys a.reaches.now a.reached.now a.width a.right a.left told.0 told.1 told.3 told.2 (sym c.has-2.ensures ∙ c.if-has-2.true)
    ∙ between_turned (bit a.reaches.now a.width) keys a.left a.right)

pub returns : goal.returns
returns c keys told =
    let a = c.args in
    ap₂ (λ s t. s && not t) (sym c.if-not-at.false ∙ c.at.ensures)
    (sym (between_none keys a.reaches.now a.reached.now a.width a.left a.right told.0 told.1 told.2 told.3 (sym c.has.ensures ∙ c.if-has.false) (sym c.has-2.ensures ∙ c.if-has-2.false)))
