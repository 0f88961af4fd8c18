use Rattle.std.proofs.Common.{◌≡◌, ◌∙◌, ◌≤◌, ◌-◌, List, ap, sym, subst, length, map, arith}
use Rattle.arr_ops.specs.declared.op.Op.{Op}
use Rattle.arr_ops.specs.Ops.{fusible}
use Rattle.arr_deps.specs.Graph.{nothing, op_in, op_at}
use Rattle.arr_deps.proofs.RowsBy.{row_of, row_long, bit_of}
use Rattle.arr_deps.proofs.graph.Graph.fusible.Goals as goal

pub has-requires : goal.has-requires
has-requires c =
    let list : List Op = c.self.inside.ops.items in
    let f : c.args.f ≤ length list = subst (λ l. c.args.f ≤ length l) (sym c.self.view_is) c.requires.f_most in
    let g : c.args.g ≤ length list = subst (λ l. c.args.g ≤ length l) (sym c.self.view_is) c.requires.g_most in
    let fl = c.requires.f_least in
    let gl = c.requires.g_least in
    let row : c.index.result.now ≡ map (fusible (op_in list (c.args.f - 1))) list = row_of fusible list c.self.inside.fuses.items (c.args.f - 1) c.index.result.now nothing c.self.invariant.4 (omega arith) c.index.ensures in
    let long : length c.index.result.now ≡ length list = row_long (fusible (op_in list (c.args.f - 1))) list c.index.result.now row in
    omega arith

pub returns : goal.returns
returns c =
    let list : List Op = c.self.inside.ops.items in
    let f : c.args.f ≤ length list = subst (λ l. c.args.f ≤ length l) (sym c.self.view_is) c.requires.f_most in
    let g : c.args.g ≤ length list = subst (λ l. c.args.g ≤ length l) (sym c.self.view_is) c.requires.g_most in
    let fl = c.requires.f_least in
    let gl = c.requires.g_least in
    let row : c.index.result.now ≡ map (fusible (op_in list (c.args.f - 1))) list = row_of fusible list c.self.inside.fuses.items (c.args.f - 1) c.index.result.now nothing c.self.invariant.4 (omega arith) c.index.ensures in
    c.has.ensures ∙ bit_of (fusible (op_in list (c.args.f - 1))) list c.index.result.now (c.args.g - 1) nothing row (omega arith)
    ∙ ap (λ l. fusible (op_at l c.args.f) (op_at l c.args.g)) c.self.view_is
