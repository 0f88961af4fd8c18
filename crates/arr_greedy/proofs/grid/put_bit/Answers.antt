use Rattle.std.proofs.Common.{◌≡◌, ℕ, ◌+◌, ◌*◌, ◌/◌, ◌%◌, ◌<◌, ◌∙◌, ◌&&◌, cond, get_or, set, ap, subst, sym}
use Rattle.std.specs.Prelude.{◌==◌}
use Rattle.arr_cost.specs.Footprints.{has_bit}
use Rattle.arr_greedy.specs.Bits.{bit, columns}
use Rattle.arr_greedy.proofs.Bits.{bit_put}
use Rattle.arr_greedy.proofs.grid.put_bit.Goals as goal

pub returns-clause-put : goal.returns-clause-put
returns-clause-put c =
    let a = c.args in
    subst (λ n. (x y : ℕ) → x < a.width → y < columns a.width → bit (set a.rows.now (a.row * n + a.column / 64) c.with_bit.result) a.width x y ≡ cond (x == a.row && y == a.column) a.value (bit a.rows.now a.width x y)) (sym c.words.ensures)
    (bit_put a.rows.now a.width a.row a.column c.with_bit.result a.value c.requires.size c.requires.row_in c.requires.column_in
    (λ i l. c.with_bit.ensures i l ∙ ap (λ n. cond (i == a.column % 64) a.value (has_bit (get_or a.rows.now (a.row * n + a.column / 64) 0) i)) c.words.ensures))
