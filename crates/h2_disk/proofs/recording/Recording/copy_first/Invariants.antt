use Rattle.std.proofs.Common.{take}
use Rattle.h2_disk.specs.Record.{image_of, StartsWith}
use Rattle.h2_disk.proofs.recording.Recording.copy_first.Given as goal

abbrev pub invariant-loop-entry : goal.invariant-loop-entry
invariant-loop-entry l = StartsWith (image_of (take l.entry-index l.entry-items)) l.copy.entries.items l.copy.moment
