-- How a run of `format` ends.
use Rattle.std.specs.Prelude.{◌≡◌, ℕ, ◌+◌, Bool, IsTrue}
use Rattle.h2_num.specs.Causes.{Rose}
use Rattle.h2_num.specs.Places.{Places}
use Rattle.h2_checkpoint.specs.Stands.{DiskState}
use Rattle.h2_cmd.specs.declared.status.Status.{Status}
use Rattle.h2_cmd.specs.declared.status.Status.TheVariants.{Done, Usage, SinkFault, DiskFault, NoMemory, AlreadyFormatted}
use Rattle.h2_geom.specs.Geometry.{IsZoneCount}
use Rattle.h2_cmd.specs.declared.command_line.Request.{Request}
use Rattle.h2_cmd.specs.declared.command_line.Request.TheVariants.{Format}
use Rattle.h2_cmd.specs.Formatting.{SameElsewhere, LeavesVolume, MakesVolume, FindsHeader, CutsFormat, moments_of}
use Rattle.h2_cmd.specs.Lines.{SinkState, PrintsWhole, PrintsFront, Prints, formatted_line, disk_fault_line, already_line}

-- the disk and the sink before a run and after it, and whether they tell what they hold
pub record Run : Type 0 where
  pub disk_tells : Bool
  pub disk_old : DiskState
  pub disk_new : DiskState
  pub disk_faults_old : ℕ
  pub disk_faults_new : ℕ
  pub sink_tells : Bool
  pub sink_old : SinkState
  pub sink_new : SinkState

-- the volume was made, in so many moments
pub record HasMade (zones : ℕ) (run : Run) : Type 0 where
  pub made : IsTrue run.disk_tells → MakesVolume zones run.disk_old run.disk_new
  pub moments : run.disk_new.moment ≡ run.disk_old.moment + moments_of zones

-- the image has a header already, with this number, and the disk is as it was
pub record HasFound (number : ℕ) (run : Run) : Type 0 where
  pub found : IsTrue run.disk_tells → FindsHeader number run.disk_old run.disk_new
  pub moments : run.disk_new.moment ≡ run.disk_old.moment
  pub line : IsTrue run.sink_tells → Prints (already_line number) run.sink_old run.sink_new

-- what each status says, a row for each; memory may be wanting at any time
abbrev pub Ends : ℕ → Run → Status → Type 0
Ends zones run Done = HasMade zones run × (IsTrue run.sink_tells → PrintsWhole (formatted_line zones) run.sink_old run.sink_new)
Ends zones run Usage = ⊥
Ends zones run SinkFault = HasMade zones run × Rose run.sink_old.faults run.sink_new.faults × (IsTrue run.sink_tells → PrintsFront (formatted_line zones) run.sink_old run.sink_new)
Ends zones run DiskFault = Rose run.disk_faults_old run.disk_faults_new × (IsTrue run.sink_tells → Prints disk_fault_line run.sink_old run.sink_new)
Ends zones run NoMemory = Unit {0}
Ends zones run AlreadyFormatted = (number : ℕ) × HasFound number run

-- what each command needs, a row for each
abbrev pub IsServed : Request → Type 0
IsServed (Format zones) = IsZoneCount zones

-- how each command ends
abbrev pub EndsAs : Request → Run → Status → Type 0
EndsAs (Format zones) run status = Ends zones run status

-- what a power cut leaves of each
abbrev pub CutsAs : Request → DiskState → DiskState → Type 0
CutsAs (Format zones) old new = CutsFormat zones old new

-- and which bytes it leaves as they were
abbrev pub SameElsewhereAs : Request → Places → Places → Type 0
SameElsewhereAs (Format zones) old new = SameElsewhere zones old new

-- and that it leaves a volume as it was
abbrev pub LeavesVolumeAs : Request → DiskState → DiskState → Type 0
LeavesVolumeAs (Format zones) old new = LeavesVolume old new
