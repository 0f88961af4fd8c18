use Rattle.std.proofs.Common.{◌≡◌, ◌∙◌, ap, sym, subst, IsSome, Some, arith, ◌+◌, ◌*◌, ◌<◌, length}
use Rattle.std.specs.Option.{option_copied}
use Rattle.arr_store.specs.Buffers.{cell_of}
use Rattle.arr_store.specs.Cells.{number_at, size_at, width_at}
use Rattle.arr_store.specs.Runs.{IsOf, LiesIn, run_place}
use Rattle.arr_store.specs.Stored.{Stored, cells}
use Rattle.arr_store.proofs.Places.{of_some}
use Rattle.arr_store.proofs.Tables.{in_index, kept_here, none_here}
use Rattle.arr_store.proofs.store.Store.load_run.Goals as goal

pub index-requires : goal.index-requires
index-requires c =
    let some : IsSome (cells c.args.self.now c.args.base) = of_some _ _ c.requires.base in
    let l : c.args.base < length c.self.inside.index.items = in_index c.args.self.now.bases c.self.inside.index.items c.self.inside.buffers.slots c.args.base (ap (λ (s : Stored). s.bases) c.self.view_is) some in
    omega arith

pub unreachable-requires : goal.unreachable-requires
unreachable-requires c =
    let some : IsSome (cells c.args.self.now c.args.base) = of_some _ _ c.requires.base in
    none_here c.args.self.now.bases c.self.inside.index.items c.self.inside.buffers.slots c.args.base c.index.result.now (ap (λ (s : Stored). s.bases) c.self.view_is) c.self.invariant some c.index.ensures (sym c.get.ensures ∙ ap option_copied c.in-None.is)

pub load_run-requires-clause-elem : goal.load_run-requires-clause-elem
load_run-requires-clause-elem c =
    let some : IsSome (cells c.args.self.now c.args.base) = of_some _ _ c.requires.base in
    let cell : cells c.args.self.now c.args.base ≡ Some (cell_of c.in-Some.kept.now.buffer) =
    (kept_here c.args.self.now.bases c.self.inside.index.items c.self.inside.buffers.slots c.args.base c.in-Some.kept.now c.index.result.now (ap (λ (s : Stored). s.bases) c.self.view_is) c.self.invariant some c.index.ensures (sym c.get.ensures ∙ ap option_copied c.in-Some.is)).1 in
    subst (IsOf (cell_of c.args.lane.now).elem) cell c.requires.base

pub load_run-requires-clause-there : goal.load_run-requires-clause-there
load_run-requires-clause-there c =
    let some : IsSome (cells c.args.self.now c.args.base) = of_some _ _ c.requires.base in
    let cell : cells c.args.self.now c.args.base ≡ Some (cell_of c.in-Some.kept.now.buffer) =
    (kept_here c.args.self.now.bases c.self.inside.index.items c.self.inside.buffers.slots c.args.base c.in-Some.kept.now c.index.result.now (ap (λ (s : Stored). s.bases) c.self.view_is) c.self.invariant some c.index.ensures (sym c.get.ensures ∙ ap option_copied c.in-Some.is)).1 in
    subst (λ o. LiesIn (size_at o) c.args.run.start c.args.run.stride c.args.run.count) cell c.requires.there

pub returns-clause-each : goal.returns-clause-each
returns-clause-each c =
    let some : IsSome (cells c.args.self.now c.args.base) = of_some _ _ c.requires.base in
    let cell : cells c.args.self.now c.args.base ≡ Some (cell_of c.in-Some.kept.now.buffer) =
    (kept_here c.args.self.now.bases c.self.inside.index.items c.self.inside.buffers.slots c.args.base c.in-Some.kept.now c.index.result.now (ap (λ (s : Stored). s.bases) c.self.view_is) c.self.invariant some c.index.ensures (sym c.get.ensures ∙ ap option_copied c.in-Some.is)).1 in
    λ i l. c.load_run.ensures.each i l ∙ sym (ap (λ o. number_at o (run_place c.args.run.start c.args.run.stride i)) cell)

pub returns-clause-loads : goal.returns-clause-loads
returns-clause-loads c =
    let some : IsSome (cells c.args.self.now c.args.base) = of_some _ _ c.requires.base in
    let cell : cells c.args.self.now c.args.base ≡ Some (cell_of c.in-Some.kept.now.buffer) =
    (kept_here c.args.self.now.bases c.self.inside.index.items c.self.inside.buffers.slots c.args.base c.in-Some.kept.now c.index.result.now (ap (λ (s : Stored). s.bases) c.self.view_is) c.self.invariant some c.index.ensures (sym c.get.ensures ∙ ap option_copied c.in-Some.is)).1 in
    ap (λ n. c.self.inside.loads + n) (c.bytes.ensures.value ∙ sym (ap (λ o. c.args.run.count * width_at o) cell))
    ∙ ap (λ (s : Stored). s.loads + c.args.run.count * width_at (cells c.args.self.now c.args.base)) c.self.view_is
