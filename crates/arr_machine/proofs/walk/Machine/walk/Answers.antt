use Rattle.std.proofs.Common.{◌≡◌, ◌+◌, ◌≤◌, sym, subst, ◌∙◌, arith}
use Rattle.arr_view.specs.Strided.{Strided}
use Rattle.arr_ops.specs.Costs.{reads, total}
use Rattle.arr_ops.proofs.Pairs.{All_weaker}
use Rattle.arr_store.specs.Cells.{width_at}
use Rattle.arr_store.specs.Slots.{slots_of}
use Rattle.arr_store.specs.Stored.{cells}
use Rattle.arr_strips.specs.Blocks.{block_positions, stores}
use Rattle.arr_machine.specs.Machines.{Walks}
use Rattle.arr_machine.specs.Ports.{IsThere}
use Rattle.arr_machine.proofs.Few.{few_block}
use Rattle.arr_machine.proofs.Loads.{all_bytes}
use Rattle.arr_machine.proofs.Saves.{moved_on, there_alike, widths_alike}
use Rattle.arr_machine.proofs.walk.Machine.walk.Goals as goal

pub run_strip-requires-clause-reads : goal.run_strip-requires-clause-reads
run_strip-requires-clause-reads c =
    All_weaker (IsThere c.args.ops.now (cells c.args.store.now)) (IsThere c.args.ops.now (cells c.loop-at.store))
    (λ v h. there_alike c.args.ops.now (cells c.args.store.now) (cells c.loop-at.store) v (c.loop-at.invariant.same v.base) h) (reads c.args.ops.now) c.requires.reads

pub run_strip-requires-clause-stores : goal.run_strip-requires-clause-stores
run_strip-requires-clause-stores c =
    All_weaker (IsThere c.args.ops.now (cells c.args.store.now)) (IsThere c.args.ops.now (cells c.loop-at.store))
    (λ v h. there_alike c.args.ops.now (cells c.args.store.now) (cells c.loop-at.store) v (c.loop-at.invariant.same v.base) h) (stores c.args.ops.now) c.requires.stores

pub run_strip-requires-clause-loads : goal.run_strip-requires-clause-loads
run_strip-requires-clause-loads c =
    let few : block_positions c.args.ops.now ≤ 1048576 = few_block c.args.ops.now c.requires.block in
    let bytes = all_bytes (cells c.args.store.now) (reads c.args.ops.now) c.loop-at.at c.requires.few_reads (omega (arith, c.loop-at.invariant.below, c.requires.machine.positions)) in
    omega (arith, bytes, c.loop-at.invariant.loads, c.requires.loads)

pub run_strip-requires-clause-saves : goal.run_strip-requires-clause-saves
run_strip-requires-clause-saves c =
    let few : block_positions c.args.ops.now ≤ 1048576 = few_block c.args.ops.now c.requires.block in
    let bytes = all_bytes (cells c.args.store.now) (stores c.args.ops.now) c.loop-at.at c.requires.few_stores (omega (arith, c.loop-at.invariant.below, c.requires.machine.positions)) in
    omega (arith, bytes, c.loop-at.invariant.saves, c.requires.saves)

pub loop-at-preserved : goal.loop-at-preserved
loop-at-preserved c =
    let reads_alike : total (λ (v : Strided). width_at (cells c.loop-at.store v.base)) (reads c.args.ops.now) ≡ total (λ (v : Strided). width_at (cells c.args.store.now v.base)) (reads c.args.ops.now) =
    widths_alike (cells c.args.store.now) (cells c.loop-at.store) (reads c.args.ops.now) c.loop-at.invariant.same in
    let stores_alike : total (λ (v : Strided). width_at (cells c.loop-at.store v.base)) (stores c.args.ops.now) ≡ total (λ (v : Strided). width_at (cells c.args.store.now v.base)) (stores c.args.ops.now) =
    widths_alike (cells c.args.store.now) (cells c.loop-at.store) (stores c.args.ops.now) c.loop-at.invariant.same in
    record {
      below = omega (arith, c.strip_at-strip.ensures.inside, c.loop-at.invariant.machine.positions, c.requires.machine.positions);
      walks = λ m start fit w.
          subst (λ p. Walks c.args.ops.now m start (p + c.strip_at-strip.result.count) (cells c.run_strip.new.store) c.run_strip.new.numbers (slots_of c.run_strip.new.slots)) c.strip_at-strip.ensures.position
          (c.run_strip.ensures.walks m start fit
          (subst (λ p. Walks c.args.ops.now m start p (cells c.loop-at.store) c.loop-at.numbers (slots_of c.loop-at.slots)) (sym c.strip_at-strip.ensures.position) (c.loop-at.invariant.walks m start fit w)));
      machine = c.run_strip.ensures.machine;
      same = λ b. c.run_strip.ensures.same b ∙ c.loop-at.invariant.same b;
      long = c.run_strip.ensures.long ∙ c.loop-at.invariant.long;
      kept = c.run_strip.ensures.kept;
      slots = c.run_strip.ensures.slots;
      loads = moved_on c.run_strip.new.store.loads c.loop-at.store.loads c.args.store.now.loads c.loop-at.at c.strip_at-strip.result.count _ _ c.run_strip.ensures.loads c.loop-at.invariant.loads reads_alike;
      saves = moved_on c.run_strip.new.store.stores c.loop-at.store.stores c.args.store.now.stores c.loop-at.at c.strip_at-strip.result.count _ _ c.run_strip.ensures.saves c.loop-at.invariant.saves stores_alike;
      made = c.run_strip.ensures.made ∙ c.loop-at.invariant.made;
      room = c.run_strip.ensures.room ∙ c.loop-at.invariant.room;
    }

pub returns-clause-walks : goal.returns-clause-walks
returns-clause-walks c m start fit w =
    let all : c.loop-at.at ≡ block_positions c.args.ops.now = omega (arith, c.loop-at-test.false, c.loop-at.invariant.below, c.requires.machine.positions) in
    subst (λ p. Walks c.args.ops.now m start p (cells c.loop-at.store) c.loop-at.numbers (slots_of c.loop-at.slots)) all (c.loop-at.invariant.walks m start fit w)
