use Rattle.std.proofs.Common.{◌≡◌, ◌+◌, ◌∙◌, ◌&&◌, ◌||◌, inl, inr, ap, ap₂, cond, sym, arith}
use Rattle.std.specs.Prelude.{◌==◌}
use Rattle.std.proofs.lemmas.Bool.{cases_eq, eq-eqb, ne_eqb}
use Rattle.arr_greedy.specs.Bits.{bit, columns}
use Rattle.arr_greedy.specs.Fast.{by_step}
use Rattle.arr_greedy.specs.Start.{deps_at}
use Rattle.arr_greedy.proofs.Begun.{forward_at}
use Rattle.arr_greedy.proofs.Bits.{below_none}
use Rattle.arr_greedy.proofs.Filling.{fill_step}
use Rattle.arr_greedy.proofs.start.fill_row.Goals as goal

pub loop-other-init : goal.loop-other-init
loop-other-init c =
    let a = c.args in
    let o = bit a.rows.now a.width in
    let D = deps_at a.graph.now in
    record {
      size = c.requires.size;
      row = λ x y xm ym. elim (cases_eq x a.row) as (λ _. o x y ≡ cond (x == a.row) (by_step D o (a.row + 1) x y) (o x y)) [
        | inl e ↦
            ap (λ k. o k y) e ∙ c.requires.clear y ym
            ∙ sym (ap₂ (λ s k. cond s (by_step D o (a.row + 1) k y) (o k y)) (eq-eqb x a.row e) e
            ∙ below_none (λ k. D a.row k && (k == y || o k y)) (a.row + 1) (λ k l. ap (λ t. t && (k == y || o k y)) (forward_at a.graph.now a.row k (omega arith))))
        | inr e ↦ sym (ap (λ s. cond s (by_step D o (a.row + 1) x y) (o x y)) (ne_eqb x a.row e))
      ];
    }

pub loop-other-preserved : goal.loop-other-preserved
loop-other-preserved c =
    record {
      size = c.take_row.ensures.size;
      row = fill_step (deps_at c.args.graph.now) (bit c.args.rows.now c.args.width) (bit c.loop-other.rows c.args.width) (bit c.take_row.new.rows c.args.width) c.args.width (columns c.args.width) c.args.row c.loop-other.other c.deps_at-take.result
          c.requires.row_in c.loop-other-test.true (λ x y xm ym. forward_at c.args.graph.now x y) c.loop-other.invariant.row c.deps_at-take.ensures c.take_row.ensures.row;
    }
