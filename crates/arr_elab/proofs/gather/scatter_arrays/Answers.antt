use Rattle.std.proofs.Common.{rules, ◌≡◌, ◌∙◌, ap, sym, not, true, false, Err}
use Rattle.arr_num.specs.Types.{same_elem}
use Rattle.arr_view.specs.Views.{repeats, same_lists}
use Rattle.arr_elab.proofs.Kept.{same_refusal}
use Rattle.arr_elab.proofs.gather.scatter_arrays.Goals as goal

pub returns-then-branch : goal.returns-then-branch
returns-then-branch c = λ r h.
    let twice : not (repeats c.args.target.view) ≡ false = ap not (sym c.in_ok-repeats.ensures ∙ c.if-branch.true) in
    let shapes : same_lists c.args.index.view.lengths c.args.values.view.lengths ≡ true =
    sym (c.if-not-same_lists.ensures ∙ ap (λ x. same_lists x c.shape-2.result.now) c.shape.ensures.value ∙ ap (same_lists c.args.index.view.lengths) c.shape-2.ensures.value) in
    let types : same_elem c.args.target.elem c.args.values.elem ≡ true = search rules in
    rw types (rw shapes (rw twice (ap Err (same_refusal c.at-then-branch.result _ r c.at-then-branch.ensures h))))
