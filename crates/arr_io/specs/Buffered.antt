-- What a buffer before a sink was given, and what all of it became.
use Rattle.std.specs.Prelude.{ℕ, ◌≡◌, ◌≤◌, List, ◌++◌, Bool, true, false, take, Option, Result, OnOk, OnErr}
use Rattle.std.specs.Io.KnownBytes.{Appends}
use Rattle.arr_io.specs.Causes.{HasCause, Rose}
use Rattle.arr_io.specs.Taken.{AppendsPart}
use Rattle.arr_io.specs.declared.sink.Sink.{Ghosts}
use Rattle.arr_io.specs.declared.sink_buffer.SinkBuffer.{SinkBuffer}

-- a buffer beside its sink: the bytes that the sink has and its count of faults, the bytes that wait, and whether a write has failed
pub record Outgoing : Type 0 where
  pub written : Option (List ℕ)
  pub faults : ℕ
  pub waiting : List ℕ
  pub failed : Bool

abbrev pub outgoing : {K : Type 0} → Ghosts K → SinkBuffer → K → Outgoing
outgoing g buffer sink = record { written = g.written sink; faults = g.faults sink; waiting = take buffer.count buffer.waiting; failed = buffer.failed }

-- nothing waits, and no write has failed
pub record IsFresh (buffer : SinkBuffer) : Type 0 where
  pub empty : buffer.count ≡ 0
  pub sound : buffer.failed ≡ false

-- Since the sink had these bytes and this count of faults the text was put: it is what was appended and what waits. Where a write has
-- failed, the count rose and a byte of the text is missing.
pub record Got (start : Option (List ℕ)) (before : ℕ) (text : List ℕ) (now : Outgoing) : Type 0 where
  pub later : before ≤ now.faults
  pub whole : now.failed ≡ false → (sent : List ℕ) × Appends start now.written sent × (text ≡ sent ++ now.waiting)
  pub part : now.failed ≡ true → Rose before now.faults × AppendsPart start now.written text

-- these bytes were put behind all that was put before
pub record Puts (old new : Outgoing) (bytes : List ℕ) : Type 0 where
  pub more : (start : Option (List ℕ)) (before : ℕ) (text : List ℕ) → Got start before text old → Got start before (text ++ bytes) new

-- all of a text was appended, or the count of faults rose and a byte of it is missing
pub record IsWritten {T E : Type 0} (start : Option (List ℕ)) (before : ℕ) (written : Option (List ℕ)) (faults : ℕ) (result : Result T E) (text : List ℕ) : Type 0 where
  pub all : OnOk result (Appends start written text)
  pub part : OnErr result (AppendsPart start written text)
  pub cause : HasCause before faults result

-- a call that was to append a text
abbrev pub Writes : {K T E : Type 0} → Ghosts K → K → K → Result T E → List ℕ → Type 0
Writes g old new result text = IsWritten (g.written old) (g.faults old) (g.written new) (g.faults new) result text

-- a call that was to append all that had been put
pub record Finishes {K T E : Type 0} (g : Ghosts K) (old : Outgoing) (new : K) (result : Result T E) : Type 0 where
  pub text : (start : Option (List ℕ)) (before : ℕ) (text : List ℕ) → Got start before text old → IsWritten start before (g.written new) (g.faults new) result text
