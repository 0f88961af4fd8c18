use Rattle.std.proofs.Common.{◌≡◌, ◌≤◌, [], ◌∷◌, drop, max}
use Rattle.std.specs.List.{flat_map, fold}
use Rattle.arr_num.specs.Numbers.{width}
use Rattle.arr_ops.specs.declared.op.Op.{Op}
use Rattle.arr_contract.specs.Prepared.{widest}
use Rattle.arr_contract.proofs.making.widest.Given as goal

abbrev pub invariant-loop-op : goal.invariant-loop-op
invariant-loop-op l =
    record {
      exact : fold max l.widest (flat_map (λ (op : Op). width op.to ∷ width op.from ∷ []) (drop l.op-index l.ops)) ≡ widest l.ops;
      some : 1 ≤ l.widest;
    }
