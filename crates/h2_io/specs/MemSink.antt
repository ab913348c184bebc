-- What a sink in memory holds, and when it fails.
use Rattle.std.specs.Prelude.{ℕ, zero, suc, List, Option, Some, None}
use Rattle.h2_io.specs.declared.memory.MemSink.{MemSink}

-- the bytes that it took
abbrev pub bytes_of : MemSink → List ℕ
bytes_of sink = sink.bytes.items

-- how many calls come before the one that fails
abbrev pub until_fault : MemSink → Option ℕ
until_fault sink = sink.until_fault

-- how often it failed
abbrev pub faults_of : MemSink → ℕ
faults_of sink = sink.faults

-- the same after one call
abbrev pub after_one : Option ℕ → Option ℕ
after_one None = None
after_one (Some zero) = None
after_one (Some (suc n)) = Some n
