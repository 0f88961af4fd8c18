use Rattle.std.proofs.Common.{rules, true, ◌≡◌, ◌∙◌, ap, sym, not, false, Err}
use Rattle.arr_num.specs.Types.{same_elem}
use Rattle.arr_view.specs.Views.{repeats}
use Rattle.arr_elab.proofs.Kept.{same_refusal}
use Rattle.arr_elab.proofs.target.stored_directly.Goals as goal

pub returns-then-branch : goal.returns-then-branch
returns-then-branch c = λ r h.
    let twice : not (repeats c.args.target.view) ≡ false = ap not (sym c.in_ok-repeats.ensures ∙ c.if-branch.true) in
    let types : same_elem c.args.target.elem c.args.pending.op.to ≡ true = search rules in
    rw types (rw twice (ap Err (same_refusal c.at-then-branch.result _ r c.at-then-branch.ensures h)))
