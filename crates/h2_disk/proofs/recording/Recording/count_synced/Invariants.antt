use Rattle.std.proofs.Common.{◌≡◌, ◌≤◌, length, take}
use Rattle.h2_disk.specs.Trace.{durable}
use Rattle.h2_disk.specs.Record.{trace_of}
use Rattle.h2_disk.proofs.recording.Recording.count_synced.Given as goal

abbrev pub invariant-loop-synced : goal.invariant-loop-synced
invariant-loop-synced l = record {
  within : l.synced ≤ length l.self.entries.items;
  lost : durable (trace_of (take l.count l.self.entries.items)) ≡ durable (trace_of (take l.synced l.self.entries.items));
}

abbrev pub decreases-loop-synced : goal.decreases-loop-synced
decreases-loop-synced l = l.synced
