use Rattle.std.proofs.Common.{◌≡◌, ℕ, ◌-◌, ◌*◌, ◌/◌, ◌≤◌, ap, length, get_or, set, ◌∙◌, arith}
use Rattle.std.specs.Prelude.{bit_or}
use Rattle.arr_sets.specs.Bits.{is_set}
use Rattle.arr_sets.proofs.Runs.{run_turn}
use Rattle.arr_sets.proofs.bits.set_run.Goals as goal

pub loop-index-preserved : goal.loop-index-preserved
loop-index-preserved c = λ i.
    let words = c.loop-index.words in
    let index : ℕ = c.loop-index.index in
    let low : ℕ = c.max.result - 64 * index in
    let high : ℕ = c.min-high.result in
    let begun : c.args.from / 64 ≤ index = c.loop-index.auto.index in
    let long : length words ≡ length c.args.words.now = c.loop-index.auto.words in
    ap (λ w. is_set (set words index (bit_or (get_or words index 0) w)) i) c.run_of_ones.ensures
    ∙ run_turn words c.args.from c.args.end index low high (is_set c.args.words.now) begun (omega arith) (omega arith) (omega arith) (omega arith) c.loop-index.invariant i
