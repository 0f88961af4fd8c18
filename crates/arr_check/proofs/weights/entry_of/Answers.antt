use Rattle.std.proofs.Common.{◌∙◌, ap, ap₂, List, Option, ℕ}
use Rattle.arr_view.specs.Views.{has}
use Rattle.arr_ops.specs.declared.op.Op.{Op}
use Rattle.arr_ops.specs.Ops.{freed, makes_base}
use Rattle.arr_ops.specs.Costs.{elem_of, weight_of}
use Rattle.arr_law.specs.ProblemOf.{first_where}
use Rattle.arr_check.proofs.weights.entry_of.Goals as goal

pub returns-clause-value : goal.returns-clause-value
returns-clause-value c =
    let list : List Op = c.args.ops.now in
    let base = c.base-base.ensures.value in
    ap₂ (λ (w : ℕ) (o : Option ℕ × Option ℕ). record { weight = w; creator = o.0; freer = o.1 })
    (c.weight.ensures ∙ ap (λ t. weight_of t c.args.view.now) (c.elem_of.ensures ∙ ap (elem_of list) base))
    (ap₂ (λ x y. (x, y)) (c.creator.ensures ∙ ap (λ b. first_where (λ op. makes_base op b) list) base) (c.freer.ensures ∙ ap (λ b. first_where (λ op. has (freed op) b) list) base))
