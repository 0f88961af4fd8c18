-- What a contract sees of an adapter over a reader or a writer of std.
use Rattle.std.specs.Prelude.{ℕ}
use Rattle.arr_io.specs.declared.std_source.StdSource.{StdSource}
use Rattle.arr_io.specs.declared.std_sink.StdSink.{StdSink}

abbrev pub source_reader : {R : Type 0} → StdSource R → R
source_reader s = s.reader

abbrev pub source_faults : {R : Type 0} → StdSource R → ℕ
source_faults s = s.failed

abbrev pub sink_writer : {W : Type 0} → StdSink W → W
sink_writer s = s.writer

abbrev pub sink_faults : {W : Type 0} → StdSink W → ℕ
sink_faults s = s.failed
