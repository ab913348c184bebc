-- What a disk in memory that never fails tells.
use Rattle.std.specs.Prelude.{ℕ}
use Rattle.h2_num.specs.Places.{Places}
use Rattle.h2_disk.specs.Trace.{Trace}
use Rattle.h2_disk.specs.Record.{image_of, trace_of}
use Rattle.h2_disk.specs.declared.sure.SureDisk.{SureDisk}

-- what a read gives at each place
abbrev pub sure_image : SureDisk → Places
sure_image disk = image_of disk.recording.entries.items

-- its writes and syncs
abbrev pub sure_trace : SureDisk → Trace
sure_trace disk = trace_of disk.recording.entries.items

-- the writes and syncs begun, and the syncs that succeeded
abbrev pub sure_moment : SureDisk → ℕ
sure_moment disk = disk.recording.moment

-- how often it answered that memory was wanting
abbrev pub sure_wants : SureDisk → ℕ
sure_wants disk = disk.wants
