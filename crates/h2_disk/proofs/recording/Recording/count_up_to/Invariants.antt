use Rattle.std.proofs.Common.{◌≡◌, ◌≤◌, length, take}
use Rattle.h2_disk.specs.Trace.{up_to}
use Rattle.h2_disk.specs.Record.{trace_of}
use Rattle.h2_disk.proofs.recording.Recording.count_up_to.Given as goal

abbrev pub invariant-loop-count : goal.invariant-loop-count
invariant-loop-count l = record {
  within : l.count ≤ length l.self.entries.items;
  found : up_to l.m (trace_of l.self.entries.items) ≡ up_to l.m (trace_of (take l.count l.self.entries.items));
}

abbrev pub decreases-loop-count : goal.decreases-loop-count
decreases-loop-count l = l.count
