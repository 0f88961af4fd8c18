-- What a token makes of a field of a row, with what was read of the row.
use Rattle.arr_syntax.specs.declared.state.Field.{Field}
use Rattle.arr_syntax.specs.declared.state.Fields.{Fields}
use Rattle.arr_syntax.specs.declared.state.Filled.{Filled}
use Rattle.arr_syntax.specs.declared.state.Filled.TheVariants as bare

pub data Filling : Type 0 where
  Stuck : Filling
  Over : Fields → Filling
  Turns : Field → Fields → Filling

abbrev pub with_fields : Filled → Fields → Filling
with_fields bare.Stuck f = Stuck
with_fields bare.Over f = Over f
with_fields (bare.Turns p) f = Turns p f
