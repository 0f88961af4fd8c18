use Rattle.std.proofs.Common.{◌≡◌, ℕ, ◌+◌, ◌<◌, ◌≤◌, pos, length, get_or}
use Rattle.arr_store.specs.Runs.{moved, run_place}
use Rattle.arr_store.proofs.runs.gather_each.Given as goal

abbrev pub invariant-loop-i : goal.invariant-loop-i
invariant-loop-i g l =
    record {
      long : length l.out ≡ length l.fn.out;
      here : l.place ≡ moved (pos l.run.start) l.run.stride l.i;
      each : (k : ℕ) (d : _) → k < l.i → get_or l.out (l.at + k) d ≡ get_or l.source (run_place l.run.start l.run.stride k) d;
      before : (k : ℕ) (d : _) → k < l.at → get_or l.out k d ≡ get_or l.fn.out k d;
      behind : (k : ℕ) (d : _) → l.at + l.i ≤ k → get_or l.out k d ≡ get_or l.fn.out k d;
    }
