-- What is kept of facts: the list, the rows, and the lengths at which the list was closed.
use Rattle.std.specs.Prelude.{◌≡◌, ℕ, ◌<◌, ◌≤◌, true, List, length, take, get_or}
use Rattle.arr_law.specs.declared.fact.Fact.{Fact}
use Rattle.arr_law.specs.Problem.{Problem, ends_base_of}
use Rattle.arr_law.specs.Facts.{root_facts, facts_of}
use Rattle.arr_law.specs.Floor.{IsClosed, IsSymmetric}
use Rattle.arr_state.specs.declared.known.Known.{Known}
use Rattle.arr_state.specs.Known.{AreFresh, AreOps}
use Rattle.arr_state.specs.Rows.{AreRowed}

-- the list's first facts are closed
pub record ClosedAt (problem : Problem) (trail : List Fact) (mark : ℕ) : Type 0 where
  pub within : mark ≤ length trail
  pub shut : IsClosed problem (facts_of problem (take mark trail))

pub record AreClosed (problem : Problem) (trail : List Fact) (marks : List ℕ) : Type 0 where
  pub each : (k : ℕ) → k < length marks → ClosedAt problem trail (get_or marks k 0)
  pub rising : (i j : ℕ) → i < j → j < length marks → get_or marks i 0 ≤ get_or marks j 0

pub record AreKept (problem : Problem) (trail : List Fact) (rows : List ℕ) (closed : List ℕ) : Type 0 where
  pub few : problem.count ≤ 256
  pub rowed : AreRowed problem.count (ends_base_of problem) rows (facts_of problem trail)
  pub even : IsSymmetric (root_facts problem)
  pub about : (x : Fact) → facts_of problem trail x ≡ true → AreOps problem x
  pub fresh : AreFresh (root_facts problem) trail
  pub shut : AreClosed problem trail closed

abbrev pub IsKept : Problem → Known → Type 0
IsKept problem k = AreKept problem k.facts.items k.rows.items k.closed.items
