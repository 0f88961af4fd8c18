use Rattle.std.proofs.Common.{◌≡◌, ◌+◌, ◌-◌, ℕ, List, length, ap, ap₂, arith, length-append}
use Rattle.arr_law.specs.declared.record.Record.{Record}
use Rattle.arr_search.proofs.node.advance.Goals as goal

pub returns-clause-advanced : goal.returns-clause-advanced
returns-clause-advanced c =
    let s = c.in_ok-outcome.ensures.does in
    record {
      saturated = s;
      rest = ap₂ (λ (t : List Record) (u : ℕ). record c.args.progress.now { tree = t; units = u }) s.tree_is
          (let e : c.args.progress.now.units + (c.len.result - c.len-before.result) ≡ c.args.progress.now.units + length s.steps = omega (arith, c.len.ensures, c.len-before.ensures, ap length s.tree_is, length-append c.args.progress.now.tree s.steps) in e);
    }
