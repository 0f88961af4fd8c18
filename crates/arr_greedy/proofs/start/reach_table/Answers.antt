use Rattle.std.proofs.Common.{◌≡◌, ◌*◌, ◌∙◌, ℕ, List, length, replicate, ap, subst, sym, rules}
use Rattle.std.proofs.lemmas.List.{length-replicate}
use Rattle.arr_cost.proofs.Marking.{written_back}
use Rattle.arr_greedy.specs.Bits.{AreBits, bit, words}
use Rattle.arr_greedy.specs.Fast.{by_step}
use Rattle.arr_greedy.specs.Start.{deps_at}
use Rattle.arr_greedy.proofs.start.reach_table.Goals as goal

pub returns-clause-filled : goal.returns-clause-filled
returns-clause-filled c =
    let w : ℕ = c.args.width in
    let zeros : c.in_ok-rows.rows.items ≡ replicate (c.args.width * c.words.result) 0 = search rules in
    let long : length c.in_ok-rows.rows.items ≡ w * words w = ap length zeros ∙ length-replicate (w * c.words.result) 0 ∙ ap (λ n. w * n) c.words.ensures in
    let same = written_back c.in_ok-rows.rows.items c.fill_rows.new.rows c.in_ok-rows.rows.len (w * words w) long c.fill_rows.ensures.size (c.in_ok-rows.ensures.len ∙ ap (λ n. w * n) c.words.ensures) in
    subst (λ (rows : List ℕ). AreBits rows w (by_step (deps_at c.args.graph.now) (bit rows w) w)) (sym same) c.fill_rows.ensures.filled
