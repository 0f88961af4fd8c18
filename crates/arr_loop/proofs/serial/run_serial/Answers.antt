use Rattle.std.proofs.Common.{◌≡◌, ◌∙◌, ℕ, ◌+◌, ◌≤◌, List, [], ◌∷◌, Option, Some, None, cond, ap, subst, sym}
use Rattle.std.specs.Prelude.{IsSome, is_some}
use Rattle.std.specs.List.{find}
use Rattle.std.proofs.lemmas.Bool.{false≢true}
use Rattle.arr_view.specs.Strided.{Strided}
use Rattle.arr_view.specs.Views.{elements, positions}
use Rattle.arr_ops.specs.declared.op.Op.{Op}
use Rattle.arr_ops.specs.Fits.{op_fits}
use Rattle.arr_ops.specs.Memory.{Cell, computed, eager, without_slots}
use Rattle.arr_ops.specs.Ops.{creates, freed_by}
use Rattle.arr_ops.specs.Traffic.{scratch}
use Rattle.arr_store.specs.Stored.{cells, memory_of}
use Rattle.arr_loop.specs.Ready.{before_open}
use Rattle.arr_loop.proofs.Lone.{Lone, creates_none, found_some, lone_op, serial_writes, slots_lone}
use Rattle.arr_loop.proofs.Writing.{freed_there, left_there, serial_ends, serial_fits, serial_kept, serial_loads, serial_makes_none, serial_stores, serial_unopened}
use Rattle.arr_loop.proofs.serial.run_serial.Goals as goal

pub unreachable-requires : goal.unreachable-requires
unreachable-requires c =
    found_some c.args.prepared.now.ops c.ops.ensures.block c.requires.serial (ap (find (λ (op : Op). is_some op.out)) (sym c.ops.ensures.value) ∙ sym c.writer.ensures ∙ c.in_default.is)

pub unreachable-requires-in_default-out : goal.unreachable-requires-in_default-out
unreachable-requires-in_default-out c =
    let found : find (λ (op : Op). is_some op.out) c.args.prepared.now.ops ≡ Some c.in-Some.op = ap (find (λ (op : Op). is_some op.out)) (sym c.ops.ensures.value) ∙ sym c.writer.ensures ∙ c.in-Some.is in
    let l : Lone c.args.prepared.now.ops c.in-Some.op = lone_op c.args.prepared.now.ops c.in-Some.op c.ops.ensures.block c.requires.serial found in
    false≢true (sym (ap (λ (x : Option Strided). is_some x) c.in_default-out.is) ∙ serial_writes c.in-Some.op l.serial_is)

pub fill-requires-clause-well : goal.fill-requires-clause-well
fill-requires-clause-well c =
    let found : find (λ (op : Op). is_some op.out) c.args.prepared.now.ops ≡ Some c.in-Some.op = ap (find (λ (op : Op). is_some op.out)) (sym c.ops.ensures.value) ∙ sym c.writer.ensures ∙ c.in-Some.is in
    let l : Lone c.args.prepared.now.ops c.in-Some.op = lone_op c.args.prepared.now.ops c.in-Some.op c.ops.ensures.block c.requires.serial found in
    l.well

pub fill-requires-clause-makes : goal.fill-requires-clause-makes
fill-requires-clause-makes c =
    let found : find (λ (op : Op). is_some op.out) c.args.prepared.now.ops ≡ Some c.in-Some.op = ap (find (λ (op : Op). is_some op.out)) (sym c.ops.ensures.value) ∙ sym c.writer.ensures ∙ c.in-Some.is in
    let l : Lone c.args.prepared.now.ops c.in-Some.op = lone_op c.args.prepared.now.ops c.in-Some.op c.ops.ensures.block c.requires.serial found in
    serial_makes_none c.args.prepared.now.ops c.in-Some.op l c.ops.ensures.block

pub fill-requires-clause-fits : goal.fill-requires-clause-fits
fill-requires-clause-fits c =
    let found : find (λ (op : Op). is_some op.out) c.args.prepared.now.ops ≡ Some c.in-Some.op = ap (find (λ (op : Op). is_some op.out)) (sym c.ops.ensures.value) ∙ sym c.writer.ensures ∙ c.in-Some.is in
    let l : Lone c.args.prepared.now.ops c.in-Some.op = lone_op c.args.prepared.now.ops c.in-Some.op c.ops.ensures.block c.requires.serial found in
    ap (λ (f : ℕ → Option Cell). op_fits (record { bases = f; slots = λ s. None }) (c.in-Some.op ∷ []) c.in-Some.op) (sym (serial_unopened c.args.prepared.now.ops c.in-Some.op l c.ops.ensures.block (cells c.args.store.now)))
    ∙ serial_fits c.args.prepared.now.ops c.in-Some.op l c.ops.ensures.block (without_slots (before_open c.args.prepared.now.ops c.args.store.now c.args.slots.now)) c.requires.open.fit

pub fill-requires-clause-writer : goal.fill-requires-clause-writer
fill-requires-clause-writer c = ap (find (λ (op : Op). is_some op.out)) (sym c.ops.ensures.value) ∙ sym c.writer.ensures ∙ c.in-Some.is

pub fill-requires-clause-enough : goal.fill-requires-clause-enough
fill-requires-clause-enough c =
    let found : find (λ (op : Op). is_some op.out) c.args.prepared.now.ops ≡ Some c.in-Some.op = ap (find (λ (op : Op). is_some op.out)) (sym c.ops.ensures.value) ∙ sym c.writer.ensures ∙ c.in-Some.is in
    let l : Lone c.args.prepared.now.ops c.in-Some.op = lone_op c.args.prepared.now.ops c.in-Some.op c.ops.ensures.block c.requires.serial found in
    λ stays. subst (λ n. positions c.in-Some-out.out.lengths ≤ n)
    (sym (c.ops.ensures.kept ∙ ap (λ b. cond b 0 (scratch c.args.prepared.now.ops)) stays)) (serial_kept c.args.prepared.now.ops c.in-Some.op l c.ops.ensures.block c.in-Some-out.out c.in-Some-out.is)

pub drop_freed-requires : goal.drop_freed-requires
drop_freed-requires c =
    let found : find (λ (op : Op). is_some op.out) c.args.prepared.now.ops ≡ Some c.in-Some.op = ap (find (λ (op : Op). is_some op.out)) (sym c.ops.ensures.value) ∙ sym c.writer.ensures ∙ c.in-Some.is in
    let l : Lone c.args.prepared.now.ops c.in-Some.op = lone_op c.args.prepared.now.ops c.in-Some.op c.ops.ensures.block c.requires.serial found in
    let ops : List Op = c.args.prepared.now.ops in
    record {
      there = λ b h made.
          left_there (freed_by c.args.prepared.now.ops c.in-Some-out.out.base) (cells c.args.store.now) (cells c.fill.new.store) c.in-Some-out.out.base (elements c.in-Some-out.out) (computed (memory_of c.args.store.now) c.in-Some.op) b c.fill.ensures.bases
          (subst (λ (f : ℕ → Option Cell). IsSome (f b)) (serial_unopened c.args.prepared.now.ops c.in-Some.op l c.ops.ensures.block (cells c.args.store.now))
          (freed_there (without_slots (before_open c.args.prepared.now.ops c.args.store.now c.args.slots.now)) c.args.prepared.now.ops c.requires.open.fit b (creates_none c.args.prepared.now.ops c.in-Some.op l b)
          (ap (λ os. freed_by os b) (sym c.fill.ensures.ops) ∙ h)));
      absent = λ b h made. absurd (false≢true (sym (creates_none c.args.prepared.now.ops c.in-Some.op l b) ∙ ap (λ os. creates os b) (sym c.fill.ensures.ops) ∙ made));
    }

pub returns-clause-bases : goal.returns-clause-bases
returns-clause-bases c = λ i b. at b i
  where
    found : find (λ (op : Op). is_some op.out) c.args.prepared.now.ops ≡ Some c.in-Some.op
    found = ap (find (λ (op : Op). is_some op.out)) (sym c.ops.ensures.value) ∙ sym c.writer.ensures ∙ c.in-Some.is

    l : Lone c.args.prepared.now.ops c.in-Some.op
    l = lone_op c.args.prepared.now.ops c.in-Some.op c.ops.ensures.block c.requires.serial found

    at : (b : ℕ) → cells c.drop_freed.new.store b ≡ (eager (before_open c.args.prepared.now.ops c.args.store.now c.args.slots.now) c.args.prepared.now.ops).bases b
    at b =
        c.drop_freed.ensures.bases b ∙ ap (λ os. cond (freed_by os b) None (cells c.fill.new.store b)) c.fill.ensures.ops
        ∙ serial_ends c.args.prepared.now.ops c.in-Some.op l c.ops.ensures.block (before_open c.args.prepared.now.ops c.args.store.now c.args.slots.now) (cells c.args.store.now) (cells c.fill.new.store) c.in-Some-out.out
        (serial_unopened c.args.prepared.now.ops c.in-Some.op l c.ops.ensures.block (cells c.args.store.now)) c.in-Some-out.is c.fill.ensures.bases b

pub returns-clause-slots : goal.returns-clause-slots
returns-clause-slots c =
    let found : find (λ (op : Op). is_some op.out) c.args.prepared.now.ops ≡ Some c.in-Some.op = ap (find (λ (op : Op). is_some op.out)) (sym c.ops.ensures.value) ∙ sym c.writer.ensures ∙ c.in-Some.is in
    let l : Lone c.args.prepared.now.ops c.in-Some.op = lone_op c.args.prepared.now.ops c.in-Some.op c.ops.ensures.block c.requires.serial found in
    slots_lone c.args.prepared.now.ops c.in-Some.op l (before_open c.args.prepared.now.ops c.args.store.now c.args.slots.now)

pub returns-clause-loads : goal.returns-clause-loads
returns-clause-loads c =
    let found : find (λ (op : Op). is_some op.out) c.args.prepared.now.ops ≡ Some c.in-Some.op = ap (find (λ (op : Op). is_some op.out)) (sym c.ops.ensures.value) ∙ sym c.writer.ensures ∙ c.in-Some.is in
    let l : Lone c.args.prepared.now.ops c.in-Some.op = lone_op c.args.prepared.now.ops c.in-Some.op c.ops.ensures.block c.requires.serial found in
    c.drop_freed.ensures.loads ∙ c.fill.ensures.loads ∙ ap (λ n. c.args.store.now.loads + n) (serial_loads c.args.prepared.now.ops c.in-Some.op l c.ops.ensures.block c.in-Some-out.out c.in-Some-out.is)

pub returns-clause-stores : goal.returns-clause-stores
returns-clause-stores c =
    let found : find (λ (op : Op). is_some op.out) c.args.prepared.now.ops ≡ Some c.in-Some.op = ap (find (λ (op : Op). is_some op.out)) (sym c.ops.ensures.value) ∙ sym c.writer.ensures ∙ c.in-Some.is in
    let l : Lone c.args.prepared.now.ops c.in-Some.op = lone_op c.args.prepared.now.ops c.in-Some.op c.ops.ensures.block c.requires.serial found in
    c.drop_freed.ensures.stores ∙ c.fill.ensures.stores ∙ ap (λ n. c.args.store.now.stores + n) (sym (serial_stores c.args.prepared.now.ops c.in-Some.op l c.ops.ensures.block c.in-Some-out.out c.in-Some-out.is))
