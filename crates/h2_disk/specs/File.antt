-- What a disk over a file tells, whatever its runtime's files are.
use Rattle.std.specs.Prelude.{ℕ}
use Rattle.std.specs.declared.io.traits.Read as read
use Rattle.std.specs.declared.io.traits.Write as write
use Rattle.std.specs.declared.io.traits.Seek as seek
use Rattle.h2_disk.specs.declared.file.FileDisk.{FileDisk}

module _ {R File Dir : Type 0} {reads : read.Ghosts File} {writes : write.Ghosts File} {seeks : seek.Ghosts File} {lists : read.Ghosts Dir} where
  -- how often it failed
  abbrev pub file_faults : FileDisk R File Dir reads writes seeks lists → ℕ
  file_faults disk = disk.faults

  -- the writes and syncs begun, and the syncs that succeeded
  abbrev pub file_moment : FileDisk R File Dir reads writes seeks lists → ℕ
  file_moment disk = disk.moment
