use Rattle.std.proofs.Common.{◌≡◌, ◌+◌, ◌≤◌, ◌∙◌, length, ap, sym, arith}
use Rattle.arr_view.specs.Strided.{Strided}
use Rattle.arr_view.specs.Views.{elements}
use Rattle.arr_store.specs.Buffers.{cell_of}
use Rattle.arr_store.specs.Cells.{size_at}
use Rattle.arr_store.specs.Stored.{cells}
use Rattle.arr_strips.specs.Blocks.{block_positions}
use Rattle.arr_strips.specs.Columns.{place_at}
use Rattle.arr_machine.proofs.Brings.{place_within}
use Rattle.arr_machine.proofs.Few.{few_block}
use Rattle.arr_machine.proofs.port.place_of.Goals as goal

pub overflow_cast-strip : goal.overflow_cast-strip
overflow_cast-strip c =
    let few : block_positions c.args._ops.now ≤ 1048576 = few_block c.args._ops.now c.requires.strip.block in
    let inside : c.args.strip.position + c.args.strip.count ≤ block_positions c.args._ops.now = c.requires.strip.inside in
    omega arith

pub returns : goal.returns
returns c =
    let v : Strided = c.args.port.now.rows in
    let base : c.base-base.result ≡ v.base = c.base-base.ensures in
    let size : size_at (cells c.args.store.now v.base) ≡ length (cell_of c.buffer.result.now).numbers = ap size_at (ap (cells c.args.store.now) (sym base) ∙ c.buffer.ensures.value) in
    let some : 1 ≤ c.args.strip.count = c.requires.strip.some in
    let first : place_at v (c.args.strip.position + 0) ≡ c.in_ok-start.start + 0 = c.in_ok-start.ensures 0 (omega arith) in
    let low : place_at v (c.args.strip.position + 0) ≤ size_at (cells c.args.store.now v.base) = place_within (size_at (cells c.args.store.now v.base)) (elements v) (c.args.strip.position + 0) c.requires.there.inside in
    record {
      base = base;
      each = c.in_ok-start.ensures;
      long = omega (arith, size, first, low, c.len.ensures, c.if-behind-strip.false);
      lent = sym c.requires.lent ∙ c.if-not-port.false;
    }
