use Rattle.std.proofs.Common.{◌≡◌, false, ◌<◌, ◌∙◌, ℕ, List, get_or, length, take, cond, not, ◌&&◌, ◌||◌, ap, sym, arith}
use Rattle.std.specs.Prelude.{◌==◌}
use Rattle.std.proofs.lemmas.Bool.{ne_eqb}
use Rattle.std.proofs.lemmas.List.{take_all, take_more}
use Rattle.arr_greedy.specs.Bits.{bit, columns}
use Rattle.arr_greedy.specs.Tables.{has_one}
use Rattle.arr_greedy.specs.Ways.{gains}
use Rattle.arr_greedy.proofs.Bounds.{at_in, in_below, key_is}
use Rattle.arr_greedy.proofs.Gained.{gained_end, gained_step, gained_to}
use Rattle.arr_greedy.proofs.reach.reach_rows.Goals as goal

pub loop-key-init : goal.loop-key-init
loop-key-init c =
    let w : ℕ = c.args.width in
    let keys : List ℕ = c.args.keys.now in
    let o = bit c.args.rows.now w in
    let a : ℕ = c.args.left in
    let left : a < w = c.requires.left_in in
    let some : 0 < a = key_is (λ k. 0 < k) keys c.requires.positive a c.requires.left_key in
    record {
      size = c.gain_row.ensures.size;
      rows = λ x y ix iy ne.
          let xm : x < w = in_below keys w c.requires.keys_in x ix in
          let ym : y < w = in_below keys w c.requires.keys_in y iy in
          c.gain_row.ensures.row x y xm (omega arith);
      first = λ y ym. c.gain_row.ensures.row 0 y (omega arith) ym ∙ ap (λ t. cond t (gains o a c.args.right y) (o 0 y)) (ne_eqb 0 a (λ z. let z' : 0 ≡ a = z in absurd (omega arith)));
    }

pub loop-key-preserved : goal.loop-key-preserved
loop-key-preserved c =
    let w : ℕ = c.args.width in
    let keys : List ℕ = c.args.keys.now in
    let index : ℕ = c.loop-key.key-index in
    let row : ℕ = get_or keys index 0 in
    let o = bit c.args.rows.now w in
    let l = bit c.loop-key.rows w in
    let a : ℕ = c.args.left in
    let b : ℕ = c.args.right in
    let here : index < length keys = c.loop-key-test.true in
    let left : a < w = c.requires.left_in in
    let some : 0 < row = key_is (λ k. 0 < k) keys c.requires.positive row (at_in keys index here) in
    record {
      size = c.reach_other.ensures.size;
      rows = λ x y ix iy ne.
          gained_step o l (bit c.reach_other.new.rows w) keys (take index keys) w (columns w) a b row c.requires.keys_in (omega arith) c.requires.left_key c.requires.right_key (at_in keys index here) c.requires.apart c.requires.onward
          c.loop-key.invariant.rows c.reach_other.ensures.row x y ix iy ne
          ∙ ap (λ done. gained_to o a b done x y) (sym (take_more keys index 0 here));
      first = λ y ym.
          c.reach_other.ensures.row 0 y (omega arith) ym
          ∙ ap (λ t. cond ((t && not (row == a || row == b)) && has_one (l row a) (l row b)) (l row y || l a y) (l 0 y)) (ne_eqb 0 row (λ z. let z' : 0 ≡ row = z in absurd (omega arith)))
          ∙ c.loop-key.invariant.first y ym;
    }

pub returns-clause-rows : goal.returns-clause-rows
returns-clause-rows c =
    let w : ℕ = c.args.width in
    let keys : List ℕ = c.args.keys.now in
    gained_end (bit c.args.rows.now w) (bit c.loop-key.rows w) (bit c.put_bit.new.rows w) keys (take c.loop-key.key-index keys) w (columns w) c.args.left c.args.right
    c.requires.keys_in (omega arith) (take_all c.loop-key.key-index keys c.loop-key-test.false) c.loop-key.invariant.rows c.put_bit.ensures.put

pub returns-clause-first : goal.returns-clause-first
returns-clause-first c y ym =
    let w : ℕ = c.args.width in
    let a : ℕ = c.args.left in
    let left : a < w = c.requires.left_in in
    let some : 0 < a = key_is (λ k. 0 < k) c.args.keys.now c.requires.positive a c.requires.left_key in
    c.put_bit.ensures.put 0 y (omega arith) ym
    ∙ ap (λ t. cond (t && y == a) false (bit c.loop-key.rows w 0 y)) (ne_eqb 0 a (λ z. let z' : 0 ≡ a = z in absurd (omega arith)))
    ∙ c.loop-key.invariant.first y ym
