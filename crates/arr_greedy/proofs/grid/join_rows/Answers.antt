use Rattle.std.proofs.Common.{◌≡◌, ℕ, ◌+◌, ◌*◌, ◌/◌, ◌<◌, ◌∙◌, ◌&&◌, ◌||◌, cond, get_or, set, subst, sym, refl}
use Rattle.std.specs.Prelude.{◌==◌, bit_or, nat_lt}
use Rattle.std.proofs.lemmas.List.{length-set}
use Rattle.arr_greedy.specs.Bits.{bit, columns, words}
use Rattle.arr_greedy.proofs.Bits.{bit_joined}
use Rattle.arr_greedy.proofs.grid.join_rows.Goals as goal

pub loop-index-preserved : goal.loop-index-preserved
loop-index-preserved c =
    let a = c.args in
    let l = c.loop-index in
    let word : ℕ → ℕ = λ n. bit_or (get_or l.rows (a.first * n + l.index) 0) (get_or l.rows (a.second * n + l.index) 0) in
    record {
      size = length-set l.rows (a.into * c.words-count.result + l.index) (word c.words-count.result) ∙ l.invariant.size;
      joined = subst (λ n. (x y : ℕ) → x < a.width → y < columns a.width
          → bit (set l.rows (a.into * n + l.index) (word n)) a.width x y ≡ cond (x == a.into && nat_lt (y / 64) (l.index + 1)) (bit a.rows.now a.width a.first y || bit a.rows.now a.width a.second y) (bit a.rows.now a.width x y)) (sym c.words-count.ensures)
          (bit_joined a.rows.now l.rows a.width a.into a.first a.second l.index (word (words a.width)) l.invariant.size c.requires.into_in c.requires.first_in c.requires.second_in
          (subst (λ n. l.index < n) c.words-count.ensures c.loop-index-test.true) l.invariant.joined refl);
    }
