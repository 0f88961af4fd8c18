use Rattle.std.proofs.Common.{◌≡◌, ℕ, ◌+◌, ◌*◌, ◌/◌, ◌%◌, ◌<◌, ◌^◌, ◌∙◌, Bool, false, inl, inr, ap, sym, arith, rules}
use Rattle.std.proofs.lemmas.Bool.{cases_lt}
use Rattle.arr_cost.specs.Footprints.{has_bit}
use Rattle.arr_cost.proofs.Digits.{no_bit}
use Rattle.arr_greedy.specs.Bits.{bit, columns, stands_between, words}
use Rattle.arr_greedy.proofs.Bits.{below_each, below_none, below_some, some_bit}
use Rattle.arr_greedy.proofs.choice.some_stands.Goals as goal

pub returns-then-between-ne0 : goal.returns-then-between-ne0
returns-then-between-ne0 c =
    let a = c.args in
    let test : ℕ → Bool = stands_between (bit a.reaches.now a.width) (bit a.reached.now a.width) a.from a.to in
    let index : ℕ = c.loop-index.index in
    let small : c.between.result < 2 ^ 64 = search rules in
    let r = some_bit c.between.result c.if-between-ne0.true small in
    let digit : r.0 < 64 = r.1 in
    let z : ℕ = 64 * index + r.0 in
    let word : z / 64 ≡ index = omega arith in
    let place : z % 64 ≡ r.0 = omega arith in
    let less : index < c.words-index-end.result = c.loop-index-test.true in
    let end : c.words-index-end.result ≡ words a.width = c.words-index-end.ensures in
    sym (below_some test (columns a.width) z (omega arith) (sym (c.between.ensures z word) ∙ ap (has_bit c.between.result) place ∙ r.2))

pub loop-index-preserved : goal.loop-index-preserved
loop-index-preserved c =
    let a = c.args in
    let test : ℕ → Bool = stands_between (bit a.reaches.now a.width) (bit a.reached.now a.width) a.from a.to in
    let index : ℕ = c.loop-index.index in
    let zero : c.between.result ≡ 0 = search rules in
    below_none test (64 * (index + 1)) (λ z l. elim (cases_lt z (64 * index)) as (λ _. test z ≡ false) [
      | inl s ↦ below_each test (64 * index) c.loop-index.invariant z s
      | inr s ↦
          let word : z / 64 ≡ index = omega arith in
          sym (c.between.ensures z word) ∙ ap (λ n. has_bit n (z % 64)) zero ∙ no_bit (z % 64)
    ])
