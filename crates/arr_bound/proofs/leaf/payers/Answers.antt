use Rattle.std.proofs.Common.{◌≡◌, ℕ, ◌+◌, ◌/◌, ◌<◌, ◌≤◌, Bool, length, ◌∙◌, ap, ap₂, sym, arith, ⊎_elim, length-append, subst}
use Rattle.std.specs.Prelude.{◌&&◌, ◌||◌, ◌∷◌, [], bit_and, bit_or}
use Rattle.std.proofs.lemmas.Bool.{cases_lt}
use Rattle.arr_sets.specs.Bits.{is_set}
use Rattle.arr_bound.specs.Worth.{in_rows}
use Rattle.arr_bound.proofs.Words.{pushed, none_past}
use Rattle.arr_bound.proofs.Whole.{payers_word}
use Rattle.arr_bound.proofs.leaf.payers.Goals as goal

pub loop-index-preserved : goal.loop-index-preserved
loop-index-preserved c =
    let class = c.args.class.now in
    let first : ℕ → Bool = in_rows c.args.width c.args.apart.now class.creator in
    let second : ℕ → Bool = in_rows c.args.width c.args.apart.now class.freer in
    let test : ℕ → Bool = λ g. (is_set class.readers.items g && first g) || (is_set class.writers.items g && second g) in
    let word : ℕ = bit_or (bit_and c.index.result.now c.open_word.result) (bit_and c.index-in-loop-index.result.now c.open_word-in-loop-index.result) in
    record {
      long = ap length c.in_ok-push.ensures.items ∙ length-append c.loop-index.set.items (word ∷ []) ∙ ap (λ n. n + 1) c.loop-index.invariant.long;
      each = subst (λ items. (g : ℕ) → g / 64 < c.loop-index.index + 1 → is_set items g ≡ test g) (sym c.in_ok-push.ensures.items)
          (pushed c.loop-index.set.items c.loop-index.index word test c.loop-index.invariant.long c.loop-index.invariant.each
          (payers_word class.readers.items class.writers.items first second c.loop-index.index c.index.result.now c.open_word.result c.index-in-loop-index.result.now c.open_word-in-loop-index.result
          (omega (arith, c.loop-index-test.true, c.requires.readers)) (omega (arith, c.loop-index-test.true, c.requires.writers)) c.index.ensures c.index-in-loop-index.ensures c.open_word.ensures c.open_word-in-loop-index.ensures));
    }

pub returns-clause-members : goal.returns-clause-members
returns-clause-members c = λ g.
    let class = c.args.class.now in
    ⊎_elim (λ (l : g / 64 < c.loop-index.index). c.loop-index.invariant.each g l)
    (λ (l : c.loop-index.index ≤ g / 64).
    none_past c.loop-index.set.items g (omega (arith, l, c.loop-index.invariant.long))
    ∙ sym (ap₂ (λ r w. (r && in_rows c.args.width c.args.apart.now class.creator g) || (w && in_rows c.args.width c.args.apart.now class.freer g))
    (none_past class.readers.items g (omega (arith, l, c.loop-index-test.false, c.requires.readers))) (none_past class.writers.items g (omega (arith, l, c.loop-index-test.false, c.requires.writers)))))
    (cases_lt (g / 64) c.loop-index.index)
