use Rattle.std.proofs.Common.{◌≡◌, ◌≤◌, ◌-◌, false}
use Rattle.arr_law.specs.ProblemOf.{problem_of}
use Rattle.arr_law.specs.Verdict.{State, AtHead}
use Rattle.arr_cert.specs.Proofs.{HasMetEnd, is_over, next_line, unread}
use Rattle.arr_check.specs.Judged.{Leads}
use Rattle.arr_check.specs.Stages.{IsAt}
use Rattle.arr_check.specs.Steps.{IsTree}
use Rattle.arr_check.proofs.checking.judge.Given as goal

abbrev pub invariant-loop-cost : goal.invariant-loop-cost
invariant-loop-cost g l = record {
  state : State;
  at : IsAt (problem_of l.tables) l.stage l.tree state;
  leads : Leads (problem_of l.tables) l.number (unread g.S.Source l.fn.reader l.fn.source) (unread g.S.Source l.reader l.source) AtHead state;
  tree : IsTree (problem_of l.tables) l.tree;
  going : is_over l.reader ≡ false;
  met : HasMetEnd g.S.Source l.reader l.source;
  later : g.S.Source.faults l.fn.source ≤ g.S.Source.faults l.source;
}

abbrev pub decreases-loop-cost : goal.decreases-loop-cost
decreases-loop-cost g l = 67108866 - next_line l.reader
