-- What a sink takes.
use Rattle.std.specs.Prelude.{◌≡◌, ℕ, List, [], ◌++◌, take, Result, Ok, Err}
use Rattle.h2_num.specs.Causes.{Rose, one_more}
use Rattle.h2_io.specs.declared.sink.PutFault.{PutFault}
use Rattle.h2_io.specs.declared.sink.PutFault.TheVariants.{Failed, NoMemory}

-- what a sink took of a piece
abbrev pub taken : Result ℕ PutFault → List ℕ → List ℕ
taken (Ok n) piece = take n piece
taken (Err fault) piece = []

-- a failure is told only where the count of faults rose; memory may be wanting at any time
abbrev pub HasCause : ℕ → ℕ → PutFault → Type 0
HasCause before now Failed = Rose before now
HasCause before now NoMemory = Unit {0}

-- the count of faults rose exactly where the call failed
abbrev pub IsCounted : ℕ → ℕ → Result ℕ PutFault → Type 0
IsCounted before now (Ok count) = now ≡ before
IsCounted before now (Err Failed) = now ≡ one_more before
IsCounted before now (Err NoMemory) = now ≡ before

-- what a sink holds grew by a front of the text
pub record GrowsByFront (text old new : List ℕ) : Type 0 where
  pub count : ℕ
  pub front : new ≡ old ++ take count text
