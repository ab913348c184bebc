-- The count of faults of a disk that counts nothing else.
use Rattle.std.specs.Prelude.{◌≡◌, ℕ, Result, Ok, Err}
use Rattle.h2_num.specs.Causes.{one_more}
use Rattle.h2_disk.specs.declared.disk.DiskFault.{DiskFault}
use Rattle.h2_disk.specs.declared.disk.DiskFault.TheVariants.{Failed, NoMemory}

-- the count of faults rose exactly where the call failed
abbrev pub IsCounted : {T : Type 0} → ℕ → ℕ → Result T DiskFault → Type 0
IsCounted before now (Ok done) = now ≡ before
IsCounted before now (Err Failed) = now ≡ one_more before
IsCounted before now (Err NoMemory) = now ≡ before
