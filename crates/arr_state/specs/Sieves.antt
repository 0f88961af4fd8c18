-- Where a job may give something, by three rows.
use Rattle.std.specs.Prelude.{ℕ, ◌+◌, ◌*◌, ◌/◌, ◌<◌, ◌≤◌, List, get_or}
use Rattle.arr_law.specs.Problem.{Problem, ends_base_of}
use Rattle.arr_law.specs.Facts.{Facts}
use Rattle.arr_law.specs.Floor.{IsSymmetric}
use Rattle.arr_state.specs.declared.jobs.Job.{Job}
use Rattle.arr_state.specs.declared.sift.Sieve.{Sieve}
use Rattle.arr_state.specs.Rows.{row_of, all_words, sifted, AreRowed}
use Rattle.arr_state.specs.Jobs.{Quiet}

abbrev pub sieve_at : ℕ → ℕ → ℕ → ℕ → ℕ → ℕ → ℕ → Sieve
sieve_at n p f q g r h = record { first = row_of n p f; second = row_of n q g; third = row_of n r h }

-- the rows stand whole among those of n operations
pub record FitsIn (n : ℕ) (s : Sieve) : Type 0 where
  pub first_in : s.first + n / 64 < all_words n
  pub second_in : s.second + n / 64 < all_words n
  pub third_in : s.third + n / 64 < all_words n

-- whatever is known, a job gives nothing at an operation that the rows leave out
pub record IsSieve (problem : Problem) (job : Job) (s : Sieve) : Type 0 where
  pub fits : FitsIn problem.count s
  pub quiet : (rows : List ℕ) (facts : Facts) → AreRowed problem.count (ends_base_of problem) rows facts → IsSymmetric facts → (i : ℕ) → i ≤ problem.count / 64
      → Quiet problem job (64 * i) (sifted (get_or rows (s.first + i) 0) (get_or rows (s.second + i) 0) (get_or rows (s.third + i) 0)) facts
