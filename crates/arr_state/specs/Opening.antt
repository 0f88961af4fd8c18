-- What a list alone gives, pair by pair.
use Rattle.std.specs.Prelude.{ℕ, zero, suc, Bool, List, false, cond, not, ◌&&◌, ◌||◌, ◌==◌}
use Rattle.arr_law.specs.declared.fact.Fact.TheVariants.{Apart, Before}
use Rattle.arr_law.specs.Problem.{Problem, ends_base_of}
use Rattle.arr_law.specs.Facts.{Facts, with_fact}
use Rattle.arr_state.specs.Rows.{AreRowed}

abbrev pub no_facts : Facts
no_facts x = false

-- some facts, and what the list gives of two operations
abbrev pub with_pair : Problem → ℕ → ℕ → Facts → Facts
with_pair problem f g facts =
    cond (not (f == g) && problem.dep f g) (with_fact (Before f g) (cond (not (f == g) && not (problem.fusible f g)) (with_fact (Apart f g) facts) facts))
    (cond (not (f == g) && not (problem.fusible f g)) (with_fact (Apart f g) facts) facts)

-- of an operation and each up to a number
abbrev pub row_below : Problem → ℕ → ℕ → Facts → Facts
row_below problem zero f facts = facts
row_below problem (suc g) f facts = with_pair problem f (suc g) (row_below problem g f facts)

-- of each operation up to a number and each other
abbrev pub all_below : Problem → ℕ → Facts
all_below problem zero = no_facts
all_below problem (suc f) = row_below problem problem.count (suc f) (all_below problem f)

abbrev pub no_test : ℕ → ℕ → Bool
no_test f g = false

-- a test that also passes at two operations of which the second ends a base of which the first has a view
abbrev pub with_user : Problem → ℕ → ℕ → (ℕ → ℕ → Bool) → ℕ → ℕ → Bool
with_user problem u g test f h = (ends_base_of problem u g && ((u == f) && (g == h))) || test f h

abbrev pub users_below : Problem → ℕ → ℕ → (ℕ → ℕ → Bool) → ℕ → ℕ → Bool
users_below problem zero g test = test
users_below problem (suc u) g test = with_user problem (suc u) g (users_below problem u g test)

abbrev pub all_users_below : Problem → ℕ → ℕ → ℕ → Bool
all_users_below problem zero = no_test
all_users_below problem (suc g) = users_below problem problem.count (suc g) (all_users_below problem g)

-- rows of no facts come to say more: whatever test they said, they say a larger one
abbrev pub Gain : ℕ → List ℕ → List ℕ → ((ℕ → ℕ → Bool) → ℕ → ℕ → Bool) → Type 0
Gain n rows rows' larger = (test : ℕ → ℕ → Bool) → AreRowed n test rows no_facts → AreRowed n (larger test) rows' no_facts
