use Rattle.std.proofs.Common.{◌∙◌, ap, sym, subst, arith, ◌<◌, length}
use Rattle.std.specs.Option.{option_copied}
use Rattle.arr_store.specs.Stored.{Stored}
use Rattle.arr_store.specs.Tables.{IsKept}
use Rattle.arr_store.proofs.Tables.{in_index, kept_here, none_here}
use Rattle.arr_store.proofs.store.Store.buffer.Goals as goal

pub index-requires : goal.index-requires
index-requires c =
    let l : c.args.base < length c.self.inside.index.items =
    in_index c.args.self.now.bases c.self.inside.index.items c.self.inside.buffers.slots c.args.base (ap (λ (s : Stored). s.bases) c.self.view_is) c.requires in
    omega arith

pub unreachable-requires : goal.unreachable-requires
unreachable-requires c =
    none_here c.args.self.now.bases c.self.inside.index.items c.self.inside.buffers.slots c.args.base c.index.result.now (ap (λ (s : Stored). s.bases) c.self.view_is) c.self.invariant c.requires c.index.ensures
    (sym c.get.ensures ∙ ap option_copied c.in-None.is)

pub returns-clause-value : goal.returns-clause-value
returns-clause-value c =
    (kept_here c.args.self.now.bases c.self.inside.index.items c.self.inside.buffers.slots c.args.base c.in-Some.kept.now c.index.result.now (ap (λ (s : Stored). s.bases) c.self.view_is) c.self.invariant c.requires
    c.index.ensures (sym c.get.ensures ∙ ap option_copied c.in-Some.is)).1

pub returns-clause-lawful : goal.returns-clause-lawful
returns-clause-lawful c =
    (subst (IsKept (length c.self.inside.index.items)) (sym c.get.ensures ∙ ap option_copied c.in-Some.is) (c.self.invariant c.index.result.now)).1
