use Rattle.std.proofs.Common.{◌≡◌, ◌<◌, ◌+◌, ◌∙◌, ℕ, cond, inl, inr, ap, sym, arith}
use Rattle.std.specs.Prelude.{◌==◌}
use Rattle.std.proofs.lemmas.Bool.{cases_eq, eq-eqb, ne_eqb}
use Rattle.arr_greedy.specs.Fast.{flag}
use Rattle.arr_greedy.specs.Start.{fuses_at}
use Rattle.arr_greedy.proofs.tables.fuse_rows.Goals as goal

pub loop-row-preserved : goal.loop-row-preserved
loop-row-preserved c =
    let w : ℕ = c.args.width in
    let row : ℕ = c.loop-row.row in
    let less : row < w = c.loop-row-test.true in
    let was = flag c.loop-row.rows w in
    record {
      size = c.fuse_row.ensures.size;
      flags = λ x y l ym.
          c.fuse_row.ensures.row x y (omega arith) ym
          ∙ elim (cases_eq x row) as (λ _. cond (x == row) (fuses_at c.args.graph.now row y) (was x y) ≡ fuses_at c.args.graph.now x y) [
            | inl e ↦ ap (λ s. cond s (fuses_at c.args.graph.now row y) (was x y)) (eq-eqb x row e) ∙ ap (λ k. fuses_at c.args.graph.now k y) (sym e)
            | inr e ↦ ap (λ s. cond s (fuses_at c.args.graph.now row y) (was x y)) (ne_eqb x row e) ∙ c.loop-row.invariant.flags x y (lesser x row l e) ym
          ];
    }
  where
    lesser : (a b : ℕ) → a < b + 1 → (a ≡ b → ⊥) → a < b
    lesser a b m g = omega arith
