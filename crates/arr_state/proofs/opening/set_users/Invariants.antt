use Rattle.std.proofs.Common.{◌≡◌, ℕ, Bool, length}
use Rattle.arr_law.specs.ProblemOf.{problem_of}
use Rattle.arr_state.specs.Opening.{no_facts, users_below}
use Rattle.arr_state.specs.Rows.{AreRowed, all_words}
use Rattle.arr_state.proofs.opening.set_users.Given as goal

abbrev pub invariant-loop-u : goal.invariant-loop-u
invariant-loop-u l =
    record {
      long : length l.rows.items ≡ all_words (length l.ops);
      sets : (test : ℕ → ℕ → Bool) → AreRowed (length l.ops) test l.initial.rows.items no_facts → AreRowed (length l.ops) (users_below (problem_of l.ops) l.u l.g test) l.rows.items no_facts;
    }
