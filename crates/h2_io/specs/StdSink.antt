-- The parts of a sink over a writer.
use Rattle.std.specs.Prelude.{ℕ, List, []}
use Rattle.h2_io.specs.declared.standard.StdSink.{StdSink}

-- the writer behind it
abbrev pub writer_of : {W : Type 0} → StdSink W → W
writer_of sink = sink.writer

-- how often it failed
abbrev pub faults_of : {W : Type 0} → StdSink W → ℕ
faults_of sink = sink.faults

-- it tells nothing by itself
abbrev pub told_by : {W : Type 0} → StdSink W → List ℕ
told_by sink = []
