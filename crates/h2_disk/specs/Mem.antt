-- What a disk in memory that fails as planned tells, and how its calls answer.
use Rattle.std.specs.Prelude.{◌≡◌, ◌⊎◌, ◌≤◌, ℕ, ◌-◌, ◌^◌, List, Contains, Result, Ok, Err}
use Rattle.h2_num.specs.Places.{Places}
use Rattle.h2_num.specs.Causes.{one_more}
use Rattle.h2_disk.specs.Trace.{Trace, Opened}
use Rattle.h2_disk.specs.Record.{image_of, trace_of}
use Rattle.h2_disk.specs.declared.disk.DiskFault.{DiskFault}
use Rattle.h2_disk.specs.declared.disk.DiskFault.TheVariants.{Failed, NoMemory}
use Rattle.h2_disk.specs.declared.mem.MemDisk.{MemDisk}

-- what a read gives at each place
abbrev pub mem_image : MemDisk → Places
mem_image disk = image_of disk.recording.entries.items

-- its writes and syncs that were done
abbrev pub mem_trace : MemDisk → Trace
mem_trace disk = trace_of disk.recording.entries.items

-- the writes and syncs begun, and the syncs that succeeded
abbrev pub mem_moment : MemDisk → ℕ
mem_moment disk = disk.recording.moment

-- how often it failed
abbrev pub mem_faults : MemDisk → ℕ
mem_faults disk = disk.faults

-- how often it answered that memory was wanting
abbrev pub mem_wants : MemDisk → ℕ
mem_wants disk = disk.wants

-- how often it was read
abbrev pub mem_reads : MemDisk → ℕ
mem_reads disk = disk.reads

-- the moments at which a write or a sync that begins is to fail
abbrev pub fail_moments : MemDisk → List ℕ
fail_moments disk = disk.fail_moments.items

-- the numbers, from 0, of the reads that are to fail
abbrev pub fail_reads : MemDisk → List ℕ
fail_reads disk = disk.fail_reads.items

-- the next read is to fail
abbrev pub FailsNextRead : MemDisk → Type 0
FailsNextRead disk = Contains (fail_reads disk) (mem_reads disk)

-- the next write or sync is to fail, or comes when no moment is left for it
abbrev pub FailsNextCall : MemDisk → Type 0
FailsNextCall disk = Contains (fail_moments disk) (one_more (mem_moment disk)) ⊎ (2 ^ 64 - 2 ≤ mem_moment disk)

-- the call failed exactly where it was to
abbrev pub FailsExactlyIf : {T : Type 0} → Type 0 → Result T DiskFault → Type 0
FailsExactlyIf planned (Ok done) = planned → ⊥
FailsExactlyIf planned (Err Failed) = planned
FailsExactlyIf planned (Err NoMemory) = planned → ⊥

-- what is planned to fail stays
pub record KeepsPlan (old new : MemDisk) : Type 0 where
  pub moments : fail_moments new ≡ fail_moments old
  pub reads : fail_reads new ≡ fail_reads old

-- a disk at moment 0 with an image and with these failures
pub record IsFresh (image : Places) (moments reads : List ℕ) (disk : MemDisk) : Type 0 where
  pub image_is : mem_image disk ≡ image
  pub trace_is : mem_trace disk ≡ Opened image
  pub moment_is : mem_moment disk ≡ 0
  pub faults_are : mem_faults disk ≡ 0
  pub wants_are : mem_wants disk ≡ 0
  pub reads_are : mem_reads disk ≡ 0
  pub fail_moments_are : fail_moments disk ≡ moments
  pub fail_reads_are : fail_reads disk ≡ reads
