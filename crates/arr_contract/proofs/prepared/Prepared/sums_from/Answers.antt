use Rattle.std.proofs.Common.{◌≡◌, ◌∙◌, ap, subst, ⊎_elim}
use Rattle.std.specs.List.{list_any}
use Rattle.arr_ops.specs.Ops.{serial}
use Rattle.arr_machine.specs.Kept.{kept_from}
use Rattle.arr_contract.specs.Prepared.{PreparedBlock}
use Rattle.arr_contract.proofs.Sums.{Folds, folds_in}
use Rattle.arr_contract.proofs.prepared.Prepared.sums_from.Goals as goal

pub returns : goal.returns
returns c =
    let inv = c.self.invariant in
    let view : c.self.inside.ops.items ≡ c.args.self.now.ops = ap (λ (v : PreparedBlock). v.ops) c.self.view_is in
    subst (Folds (kept_from c.args.self.now.ops c.args.place)) c.in-Fold.is
    (folds_in c.self.inside.ops.items c.args.self.now.ops c.self.inside.machine c.args.place c.index.result.now view (inv.7 (inv.5 ∙ ap (list_any serial) view ∙ c.requires.parallel)) c.requires.there c.index.ensures
    c.requires.reduction)

pub unreachable-requires : goal.unreachable-requires
unreachable-requires c =
    let inv = c.self.invariant in
    let view : c.self.inside.ops.items ≡ c.args.self.now.ops = ap (λ (v : PreparedBlock). v.ops) c.self.view_is in
    let here : Folds (kept_from c.args.self.now.ops c.args.place) c.index.result.now =
    folds_in c.self.inside.ops.items c.args.self.now.ops c.self.inside.machine c.args.place c.index.result.now view (inv.7 (inv.5 ∙ ap (list_any serial) view ∙ c.requires.parallel)) c.requires.there c.index.ensures
    c.requires.reduction in
    ⊎_elim (λ l. subst (Folds (kept_from c.args.self.now.ops c.args.place)) l.1 here)
    (⊎_elim (λ l. subst (Folds (kept_from c.args.self.now.ops c.args.place)) l.1 here)
    (⊎_elim (λ s. subst (Folds (kept_from c.args.self.now.ops c.args.place)) s.2 here)
    (⊎_elim (λ s. subst (Folds (kept_from c.args.self.now.ops c.args.place)) s.2 here) (λ n. subst (Folds (kept_from c.args.self.now.ops c.args.place)) n here)))) c.in-Line.is
