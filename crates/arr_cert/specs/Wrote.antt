-- What a call that writes more of a text says.
use Rattle.std.specs.Prelude.{ℕ, List, ◌++◌, Option, Result, OnOk, OnErr}
use Rattle.std.specs.Io.KnownBytes.{Appends}
use Rattle.arr_io.specs.Causes.{HasCause}
use Rattle.arr_io.specs.Taken.{AppendsPart}
use Rattle.arr_io.specs.declared.sink.Sink.{Ghosts}

-- all of the text was appended, or a front of it and a write failed
pub record Wrote {T E : Type 0} (old new : Option (List ℕ)) (before now : ℕ) (result : Result T E) (text : List ℕ) : Type 0 where
  pub all : OnOk result (Appends old new text)
  pub part : OnErr result (AppendsPart old new text)
  pub cause : HasCause before now result

-- whatever text was written so far, with or without a fault, it is now that text and then these bytes
abbrev pub WroteMore : {T E : Type 0} → Option (List ℕ) → Option (List ℕ) → ℕ → ℕ → Result T E → Result T E → List ℕ → Type 0
WroteMore old new before now so_far result bytes =
    (start : Option (List ℕ)) (first : ℕ) (text : List ℕ) → Wrote start old first before so_far text → Wrote start new first now result (text ++ bytes)

-- so on a sink
abbrev pub WritesOn : {K T E : Type 0} → Ghosts K → K → K → Result T E → Result T E → List ℕ → Type 0
WritesOn g old new so_far result bytes = WroteMore (g.written old) (g.written new) (g.faults old) (g.faults new) so_far result bytes
