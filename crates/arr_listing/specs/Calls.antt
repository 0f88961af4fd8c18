-- What a call does that puts a text.
use Rattle.std.specs.Prelude.{ℕ, List}
use Rattle.arr_io.specs.declared.sink.Sink.{Ghosts}
use Rattle.arr_io.specs.declared.sink_buffer.SinkBuffer.{SinkBuffer}
use Rattle.arr_io.specs.Buffered.{Puts, outgoing}

-- from one buffer and its sink to the next the text was put behind all that was put before
abbrev pub PutsText : {K : Type 0} → Ghosts K → SinkBuffer → K → SinkBuffer → K → List ℕ → Type 0
PutsText g out sink out_new sink_new text = Puts (outgoing g out sink) (outgoing g out_new sink_new) text
