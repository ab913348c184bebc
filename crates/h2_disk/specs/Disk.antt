-- What the calls of a disk do.
use Rattle.std.specs.Prelude.{◌≡◌, ◌⊎◌, ℕ, List, length, Result, Ok, Err}
use Rattle.h2_num.specs.Places.{Places, SameOutside, Same, Holds}
use Rattle.h2_num.specs.Causes.{Rose, one_more}
use Rattle.h2_disk.specs.Trace.{Trace, Wrote, Synced, Tried}
use Rattle.h2_disk.specs.declared.disk.DiskFault.{DiskFault}
use Rattle.h2_disk.specs.declared.disk.DiskFault.TheVariants.{Failed, NoMemory}

-- nothing changed of what a read gives and what a cut leaves
pub record Keeps (image_old image_new : Places) (trace_old trace_new : Trace) : Type 0 where
  pub image : Same image_old image_new
  pub trace : trace_new ≡ trace_old

-- the bytes were written
pub record Writes (moment at : ℕ) (bytes : List ℕ) (image_old image_new : Places) (trace_old trace_new : Trace) : Type 0 where
  pub inside : Holds at bytes image_new
  pub others : SameOutside at (length bytes) image_old image_new
  pub trace : trace_new ≡ Wrote moment at bytes trace_old

-- a write that failed: it began, and its range may hold any bytes, or it did not begin
pub record FailsToWrite (moment at : ℕ) (bytes : List ℕ) (image_old image_new : Places) (trace_old trace_new : Trace) : Type 0 where
  pub tried : Tried moment at bytes trace_old image_old trace_new image_new

-- the image is durable
pub record Syncs (moment : ℕ) (image_old image_new : Places) (trace_old trace_new : Trace) : Type 0 where
  pub image : Same image_old image_new
  pub trace : trace_new ≡ Synced moment image_new trace_old

-- a failure is told only where the count of faults rose; want of memory has a count of its own
abbrev pub HasCause : ℕ → ℕ → DiskFault → Type 0
HasCause before now Failed = Rose before now
HasCause before now NoMemory = Unit {0}

-- the count of wants of memory after a fault: it rose by one where memory was wanting, and else stayed
abbrev pub CountsWant : ℕ → ℕ → DiskFault → Type 0
CountsWant before now Failed = now ≡ before
CountsWant before now NoMemory = now ≡ one_more before

-- the count of wants of memory rose by one where the call answered that memory was wanting, and else stayed
abbrev pub CountsWants : {T : Type 0} → ℕ → ℕ → Result T DiskFault → Type 0
CountsWants before now (Ok done) = now ≡ before
CountsWants before now (Err fault) = CountsWant before now fault

-- the same after a fault of a call that takes memory of its own too, whose want the disk does not count
abbrev pub MayCountWant : ℕ → ℕ → DiskFault → Type 0
MayCountWant before now Failed = now ≡ before
MayCountWant before now NoMemory = (now ≡ before) ⊎ (now ≡ one_more before)

-- the same of all answers of such a call
abbrev pub MayCountWants : {T : Type 0} → ℕ → ℕ → Result T DiskFault → Type 0
MayCountWants before now (Ok done) = now ≡ before
MayCountWants before now (Err fault) = MayCountWant before now fault
