use Rattle.std.proofs.Common.{◌≡◌, ℕ, ◌+◌, ◌*◌, ◌/◌, ◌%◌, ◌∙◌, ◌&&◌, List, get_or, ap, ap₂, sym, arith}
use Rattle.std.specs.Prelude.{bit_and}
use Rattle.arr_cost.specs.Footprints.{has_bit}
use Rattle.arr_cost.proofs.Digits.{and_bit}
use Rattle.arr_greedy.specs.Bits.{bit, words}
use Rattle.arr_greedy.proofs.choice.between.Goals as goal

pub returns : goal.returns
returns c z e =
    let a = c.args in
    let w : ℕ = a.width in
    let word : List ℕ → ℕ → ℕ → ℕ = λ rows row n. get_or rows (row * n + a.index) 0 in
    let there : (rows : List ℕ) (row n : ℕ) → n ≡ words w → has_bit (word rows row n) (z % 64) ≡ bit rows w row z = λ rows row n f. ap₂ (λ n i. has_bit (get_or rows (row * n + i) 0) (z % 64)) f (sym e) in
    let live : has_bit (get_or a.reached.now a.index 0) (z % 64) ≡ bit a.reached.now w 0 z = ap (λ i. has_bit (get_or a.reached.now i 0) (z % 64)) (let k : z / 64 ≡ a.index = e in let f : a.index ≡ 0 * words w + z / 64 = omega arith in f) in
    let first : ℕ = word a.reaches.now a.from c.words.result in
    let second : ℕ = word a.reached.now a.to c.words-2.result in
    and_bit (bit_and first second) (get_or a.reached.now a.index 0) (z % 64)
    ∙ ap₂ (λ s t. s && t) (and_bit first second (z % 64) ∙ ap₂ (λ s t. s && t) (there a.reaches.now a.from c.words.result c.words.ensures) (there a.reached.now a.to c.words-2.result c.words-2.ensures)) live
