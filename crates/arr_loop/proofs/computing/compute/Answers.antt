use Rattle.std.proofs.Common.{◌≡◌, ◌∙◌, ℕ, ◌+◌, ◌*◌, ◌≤◌, ◌<◌, ◌≢◌, ℤ, None, true, false, refl, ap, arith, get_or, length, pos, rules, set, subst, sym, take, FitsSigned, to_z, of_z}
use Rattle.std.specs.FinMap as finite
use Rattle.std.specs.Int.{w128}
use Rattle.std.specs.Prelude.{◌==◌}
use Rattle.std.proofs.lemmas.Bool.{eqb-true, eqb-false}
use Rattle.std.proofs.lemmas.List.{ext_get_or, get_or-set_other, get_or-set_same, get_or-take, length-set, length-take-le}
use Rattle.std.proofs.lemmas.Nat.{mul-le}
use Rattle.arr_num.proofs.Reading.{read}
use Rattle.arr_view.specs.Views.{positions}
use Rattle.arr_ops.specs.Memory.{computed}
use Rattle.arr_ops.specs.Traffic.{axis_length}
use Rattle.arr_ops.proofs.Serving.{length-computed}
use Rattle.arr_machine.proofs.Few.{few_positions}
use Rattle.arr_store.specs.Stored.{memory_of}
use Rattle.arr_contract.specs.Prepared.{PreparedBlock}
use Rattle.arr_loop.specs.Numbers.{loads_each}
use Rattle.arr_loop.proofs.Axes.{few_each}
use Rattle.arr_loop.proofs.computing.compute.Goals as goal

pub result_at-number-requires-clause-room : goal.result_at-number-requires-clause-room
result_at-number-requires-clause-room c =
    let few : axis_length c.args.op.now < 4294967296 = subst (λ n. n < 4294967296) c.rows_of-rows.ensures.rows c.rows_of-rows.ensures.few in
    let each : loads_each c.args.op.now ≤ 34359738368 = few_each c.args.op.now few in
    let all : positions c.args.out.now.lengths ≤ 1048576 = few_positions c.args.out.now c.positions-position-end.ensures.lawful in
    let below : c.loop-position.position < positions c.args.out.now.lengths = subst (λ n. c.loop-position.position < n) c.positions-position-end.ensures.value c.loop-position-test.true in
    let bytes : c.loop-position.position * loads_each c.args.op.now ≤ 1048576 * 34359738368 = mul-le c.loop-position.position (loads_each c.args.op.now) 1048576 34359738368 (omega arith) each in
    let now : c.loop-position.store.loads ≡ c.args.store.now.loads + c.loop-position.position * loads_each c.args.op.now = c.loop-position.invariant.loads in
    let room = c.requires.room in
    omega arith

pub loop-position-preserved : goal.loop-position-preserved
loop-position-preserved c =
    let fits : FitsSigned w128 c.result_at-number.result = search rules in
    let p : ℕ = c.loop-position.position in
    let x : ℤ = to_z w128 (of_z w128 c.result_at-number.result) in
    let below : p < positions c.args.out.now.lengths = subst (λ n. p < n) c.positions-position-end.ensures.value c.loop-position-test.true in
    let enough : positions c.args.out.now.lengths ≤ length c.args.prepared.now.numbers = c.requires.enough in
    let long : length c.loop-position.prepared.numbers ≡ length c.args.prepared.now.numbers = c.loop-position.invariant.long in
    let numbers : c.set_number.new.self.numbers ≡ set c.loop-position.prepared.numbers p x = ap (λ (b : PreparedBlock). b.numbers) c.set_number.ensures ∙ ap (λ i. set c.loop-position.prepared.numbers i x) c.from.ensures in
    let w : ℕ = loads_each c.args.op.now in
    let now : c.loop-position.store.loads ≡ c.args.store.now.loads + p * w = c.loop-position.invariant.loads in
    let more : c.result_at-number.new.store.loads ≡ c.loop-position.store.loads + w = c.result_at-number.ensures.loads in
    let one : (p + 1) * w ≡ p * w + w = omega arith in
    let here : x ≡ get_or (computed (memory_of c.args.store.now) c.args.op.now) p (pos 0) =
    read c.result_at-number.result fits ∙ c.result_at-number.ensures.value ∙ ap (λ b. get_or (computed (record { bases = finite.get b; slots = λ s. None }) c.args.op.now) p (pos 0)) c.loop-position.invariant.bases in
    record {
      numbers = λ q l.
          ap (λ xs. get_or xs q (pos 0)) numbers
          ∙ elim (q == p) as (λ t. (q == p) ≡ t → get_or (set c.loop-position.prepared.numbers p x) q (pos 0) ≡ get_or (computed (memory_of c.args.store.now) c.args.op.now) q (pos 0)) [
            | true ↦ λ e.
                let same : q ≡ p = eqb-true q p e in
                subst (λ i. get_or (set c.loop-position.prepared.numbers p x) i (pos 0) ≡ get_or (computed (memory_of c.args.store.now) c.args.op.now) i (pos 0)) (sym same)
                (get_or-set_same c.loop-position.prepared.numbers p x (pos 0) (omega arith) ∙ here)
            | false ↦ λ e.
                let ne : q ≢ p = eqb-false q p e in
                get_or-set_other c.loop-position.prepared.numbers p q x (pos 0) ne ∙ c.loop-position.invariant.numbers q (omega arith)
          ] refl;
      ops = ap (λ (b : PreparedBlock). b.ops) c.set_number.ensures ∙ c.loop-position.invariant.ops;
      long = ap length numbers ∙ length-set c.loop-position.prepared.numbers p x ∙ long;
      bases = c.result_at-number.ensures.bases ∙ c.loop-position.invariant.bases;
      loads = omega arith;
      stores = c.result_at-number.ensures.stores ∙ c.loop-position.invariant.stores;
      made = c.result_at-number.ensures.made ∙ c.loop-position.invariant.made;
    }

pub returns-clause-numbers : goal.returns-clause-numbers
returns-clause-numbers c =
    let n : ℕ = positions c.args.out.now.lengths in
    let p : ℕ = c.loop-position.position in
    let end : c.positions-position-end.result ≡ n = c.positions-position-end.ensures.value in
    let high : c.positions-position-end.result ≤ p = c.loop-position-test.false in
    let enough : n ≤ length c.args.prepared.now.numbers = c.requires.enough in
    let long : length c.loop-position.prepared.numbers ≡ length c.args.prepared.now.numbers = c.loop-position.invariant.long in
    let left : length (take n c.loop-position.prepared.numbers) ≡ n = length-take-le n c.loop-position.prepared.numbers (omega arith) in
    let right : length (computed (memory_of c.args.store.now) c.args.op.now) ≡ n = length-computed (memory_of c.args.store.now) c.args.op.now c.args.out.now c.requires.well c.requires.out in
    ext_get_or (pos 0) (take n c.loop-position.prepared.numbers) (computed (memory_of c.args.store.now) c.args.op.now) (left ∙ sym right)
    (λ i l. get_or-take n c.loop-position.prepared.numbers i (pos 0) (omega arith) ∙ c.loop-position.invariant.numbers i (omega arith))
