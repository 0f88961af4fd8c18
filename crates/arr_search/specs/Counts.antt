-- What is counted of facts: open pairs and missing facts.
use Rattle.std.specs.Prelude.{ℕ, suc, ◌+◌, Bool, cond, not, ◌&&◌, nat_lt}
use Rattle.arr_law.specs.declared.fact.Fact.TheVariants.{Same, Apart, Before}
use Rattle.arr_law.specs.Problem.{Problem, sum_below}
use Rattle.arr_law.specs.Facts.{Facts}

abbrev pub bit : Bool → ℕ
bit b = cond b 1 0

-- how many pairs of operations, in either order, pass a test
abbrev pub count_pairs : Problem → (ℕ → ℕ → Bool) → ℕ
count_pairs problem test = sum_below (λ i. sum_below (λ j. bit (test (suc i) (suc j))) problem.count) problem.count

-- the operations rise, and neither Same nor Apart is known of them
abbrev pub is_open : Facts → ℕ → ℕ → Bool
is_open facts f g = nat_lt f g && (not (facts (Same f g)) && not (facts (Apart f g)))

abbrev pub open_pairs : Problem → Facts → ℕ
open_pairs problem facts = count_pairs problem (is_open facts)

abbrev pub fusible_pairs : Problem → ℕ
fusible_pairs problem = count_pairs problem (λ f g. nat_lt f g && problem.fusible f g)

-- how many facts are not known
abbrev pub missing : Problem → Facts → ℕ
missing problem facts =
    count_pairs problem (λ f g. not (facts (Same f g)))
    + (count_pairs problem (λ f g. not (facts (Apart f g))) + count_pairs problem (λ f g. not (facts (Before f g))))
