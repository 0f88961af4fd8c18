-- Parts of the definitions that a function of their own follows.
use Rattle.std.specs.Prelude.{false, not}
use Rattle.arr_num.specs.Types.{same_elem}
use Rattle.arr_view.specs.Views.{repeats}
use Rattle.arr_tree.specs.declared.refusal.Place.{Place}
use Rattle.arr_tree.specs.declared.refusal.Kind.TheVariants.{TypeMismatch, OutputRepeats}
use Rattle.arr_elab.specs.declared.value.Array.{Array}
use Rattle.arr_elab.specs.declared.value.Value.{Value}
use Rattle.arr_elab.specs.declared.value.Pending.{Pending}
use Rattle.arr_elab.specs.declared.value.Prepared.{Prepared}
use Rattle.arr_elab.specs.State.{Reading, ◌>>=◌, ◌>>◌, require, act}
use Rattle.arr_elab.specs.Expressions.{onto, settled}

-- the value of an expression, once its operation is recorded
abbrev pub valued : Reading Prepared → Reading Value
valued of = of >>= settled

-- an operation of the target's shape writes it
abbrev pub directly : Array → Place → Pending → Reading (Unit {0})
directly target equals p = require (same_elem target.elem p.op.to) equals TypeMismatch >> require (not (repeats target.view)) equals OutputRepeats >> act (onto p.op target.view false)
