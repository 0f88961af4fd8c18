use Rattle.std.proofs.Common.{ℕ, List, take}
use Rattle.arr_num.specs.declared.elem.Elem.{Elem}
use Rattle.arr_record.specs.Ledger.{Owned}
use Rattle.arr_record.proofs.Ledgers.{without}
use Rattle.arr_record.proofs.owners.Owners.release_all.Given as goal

abbrev pub invariant-loop-name : goal.invariant-loop-name
invariant-loop-name l =
    (names : List (ℕ × ℕ)) → (live : List (ℕ × Elem)) → Owned l.fn.self names live → Owned l.self (without (take l.name-index l.name-items) names) live
