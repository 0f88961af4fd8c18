-- Where a word shows no clash.
use Rattle.std.proofs.Common.{◌≡◌, ℕ, ◌+◌, ◌*◌, ◌/◌, ◌-◌, ◌<◌, ◌≤◌, List, sym, ap, ◌∙◌, subst, arith, ⊎_elim}
use Rattle.std.proofs.lemmas.Bool.{cases_lt}
use Rattle.std.specs.Prelude.{bit_and}
use Rattle.std.specs.Int.{bit_at}
use Rattle.std.proofs.lemmas.Nat.Bits.{bit_at_and, bit_at-zero}
use Rattle.arr_law.specs.Problem.{Problem, ends_base_of}
use Rattle.arr_law.specs.declared.fact.Fact.{Fact}
use Rattle.arr_law.specs.declared.fact.Fact.TheVariants.{Same}
use Rattle.arr_law.specs.Facts.{Facts, facts_of}
use Rattle.arr_state.specs.Rows.{bit, AreRowed, word_at}
use Rattle.arr_state.specs.Kept.{AreKept}
use Rattle.arr_state.specs.Went.{IsClash}
use Rattle.arr_state.specs.States.{IsConsistent}
use Rattle.arr_state.proofs.Keeps.{small_op}
use Rattle.arr_state.proofs.Sifts.{row_bit}

pub no_clash : (problem : Problem) (rows : List ℕ) (facts : Facts) → AreRowed problem.count (ends_base_of problem) rows facts → (f i a b k : ℕ) → f ≤ problem.count → i ≤ problem.count / 64 → a ≡ word_at problem.count rows 0 f i → b ≡ word_at problem.count rows 1 f i → bit_and a b ≡ 0 → k < 64 → IsClash facts f (64 * i + k) → ⊥
no_clash problem rows facts r f i a b k of room same apart none l clash =
    let x : bit_at a k ≡ 1 = ap (λ w. bit_at w k) same ∙ (row_bit problem rows facts r i k room l 0 f (omega arith) of ∙ ap bit clash.same) in
    let y : bit_at b k ≡ 1 = ap (λ w. bit_at w k) apart ∙ (row_bit problem rows facts r i k room l 1 f (omega arith) of ∙ ap bit clash.apart) in
    let z : bit_at (bit_and a b) k ≡ 0 = ap (λ w. bit_at w k) none ∙ bit_at-zero k in
    absurd (omega (arith, sym z ∙ bit_at_and a b k, x, y))

pub below_next : {P : ℕ → Type 0} (n : ℕ) → ((k : ℕ) → k < n → P k) → P n → (k : ℕ) → k < n + 1 → P k
below_next {P} n old new k l = ⊎_elim (λ (less : k < n). old k less) (λ (most : n ≤ k). let same : n ≡ k = omega arith in subst P same new) (cases_lt k n)

-- a word of 64 operations more
pub word_next : {P : ℕ → Type 0} (i : ℕ) → ((g : ℕ) → g < 64 * i → P g) → ((k : ℕ) → k < 64 → P (64 * i + k)) → (g : ℕ) → g < 64 * (i + 1) → P g
word_next {P} i old new g l =
    ⊎_elim (λ (less : g < 64 * i). old g less)
    (λ (most : 64 * i ≤ g). let same : 64 * i + (g - 64 * i) ≡ g = omega arith in subst P same (new (g - 64 * i) (omega arith)))
    (cases_lt g (64 * i))

-- no clash among the operations of the list is no clash at all
pub consistent : (problem : Problem) (trail : List Fact) (rows closed : List ℕ) → AreKept problem trail rows closed → (limit : ℕ) → problem.count + 1 ≤ limit → ((f : ℕ) → f < limit → (g : ℕ) → g ≤ problem.count → IsClash (facts_of problem trail) f g → ⊥) → IsConsistent (facts_of problem trail)
consistent problem trail rows closed kept limit l none f g clash =
    let a = kept.about (Same f g) clash.same in
    let x : f ≤ problem.count = small_op problem f a.left in
    let y : g ≤ problem.count = small_op problem g a.right in
    none f (omega (arith, x, l)) g y clash
