use Rattle.std.proofs.Common.{◌≡◌, ◌∙◌, ap, sym, Some, arith, ◌+◌, ◌*◌, ◌<◌, length}
use Rattle.std.specs.Option.{option_copied}
use Rattle.arr_store.specs.Buffers.{cell_of}
use Rattle.arr_store.specs.Cells.{width_at}
use Rattle.arr_store.specs.Stored.{Stored, cells}
use Rattle.arr_store.proofs.Tables.{in_index, kept_here, none_here}
use Rattle.arr_store.proofs.store.Store.count_loads.Goals as goal

pub index-requires : goal.index-requires
index-requires c =
    let l : c.args.base < length c.self.inside.index.items = in_index c.args.self.now.bases c.self.inside.index.items c.self.inside.buffers.slots c.args.base (ap (λ (s : Stored). s.bases) c.self.view_is) c.requires.base in
    omega arith

pub unreachable-requires : goal.unreachable-requires
unreachable-requires c =
    none_here c.args.self.now.bases c.self.inside.index.items c.self.inside.buffers.slots c.args.base c.index.result.now (ap (λ (s : Stored). s.bases) c.self.view_is) c.self.invariant c.requires.base c.index.ensures
    (sym c.get.ensures ∙ ap option_copied c.in-None.is)

pub returns-clause-loads : goal.returns-clause-loads
returns-clause-loads c =
    let cell : cells c.args.self.now c.args.base ≡ Some (cell_of c.in-Some.kept.now.buffer) =
    (kept_here c.args.self.now.bases c.self.inside.index.items c.self.inside.buffers.slots c.args.base c.in-Some.kept.now c.index.result.now (ap (λ (s : Stored). s.bases) c.self.view_is) c.self.invariant c.requires.base c.index.ensures
    (sym c.get.ensures ∙ ap option_copied c.in-Some.is)).1 in
    ap (λ n. c.self.inside.loads + n) (c.bytes.ensures.value ∙ sym (ap (λ o. c.args.count * width_at o) cell))
    ∙ ap (λ (s : Stored). s.loads + c.args.count * width_at (cells c.args.self.now c.args.base)) c.self.view_is
