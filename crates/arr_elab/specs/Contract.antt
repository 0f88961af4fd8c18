-- What a function ensures: what its definition gives, unless memory fails.
use Rattle.std.specs.Prelude.{◌≡◌, Result, Ok, Err}
use Rattle.arr_tree.specs.declared.refusal.Refusal.{Refusal}
use Rattle.arr_elab.specs.declared.fault.ElabFault.{ElabFault}
use Rattle.arr_elab.specs.declared.fault.ElabFault.TheVariants.{Refused}
use Rattle.arr_elab.specs.State.{State, Checked}

-- where the fault is a refusal, it is the one that the definition gives
abbrev pub RefusedBy : {A : Type 0} → Checked A → ElabFault → Type 0
RefusedBy outcome e = (r : Refusal) → e ≡ Refused r → outcome ≡ Err r

-- the result, and the state after it
abbrev pub Reads : {A : Type 0} → Checked (A × State) → Result A ElabFault → State → Type 0
Reads outcome (Ok a) new = outcome ≡ Ok (a, new)
Reads outcome (Err e) new = RefusedBy outcome e
