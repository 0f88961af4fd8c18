use Rattle.std.proofs.Common.{◌≡◌, ◌∙◌, ◌+◌, ap, sym, true}
use Rattle.std.proofs.lemmas.Bool.{false≢true}
use Rattle.arr_ops.specs.Ops.{freed_by}
use Rattle.arr_strips.proofs.Sames.{untrue}
use Rattle.arr_contract.proofs.Links.{not_needed}
use Rattle.arr_contract.proofs.tasks.is_link.Goals as goal
use Rattle.arr_contract.proofs.tasks.is_link.Goals.{then-adds-2, else-adds-2}

pub returns-then-frees : goal.returns-then-frees
returns-then-frees c = λ unread.
    let freed : freed_by c.args.ops.now c.args.out.now.base ≡ true =
    elim c.if-adds-2.branch [
      | then-adds-2 w ↦ ap (freed_by c.args.ops.now) (sym w.base.ensures.value) ∙ (sym w.frees.ensures ∙ (sym w.value-is ∙ c.if-frees.true))
      | else-adds-2 w ↦ absurd (false≢true (sym w.if-adds-2.false ∙ (sym w.value-is ∙ c.if-frees.true)))
    ] in
    not_needed c.args.ops.now (c.args.index + 2) c.args.out.now freed (sym c.is_read_from.ensures ∙ untrue c.is_read_from.result unread)
