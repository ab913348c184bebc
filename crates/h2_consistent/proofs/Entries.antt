-- The entries of a table by their directories and names, how many of them have a property, and what they reach.
use Rattle.std.specs.Prelude.{◌≡◌, ◌≢◌, ℕ, zero, suc, List, Option, Some, None}
use Rattle.std.specs.FinMap.{get}
use Rattle.h2_forest.specs.Node.{Entries}
use Rattle.h2_forest.specs.Table.{Table, entries_at}

-- the name of an entry: the number of a directory, and a name
abbrev pub EntryName : Type 0
EntryName = ℕ × List ℕ

-- the number that a name has among a directory's entries
abbrev pub number_in : Option Entries → List ℕ → Option ℕ
number_in (Some entries) name = get entries name
number_in None name = None

-- the number that an entry names
abbrev pub entry_at : Table → EntryName → Option ℕ
entry_at t entry = number_in (entries_at t entry.0) entry.1

-- exactly so many names of entries have a property: none has it; or one has it, and of the others exactly one fewer
abbrev pub Exactly : ℕ → (EntryName → Type 0) → Type 0
Exactly zero P = (x : EntryName) → P x → ⊥
Exactly (suc k) P = (x : EntryName) × (P x × Exactly k (λ y. P y × (y ≢ x)))

-- the numbers that are reached from number 1 by entries: it is one, and so is what an entry of a reached one names
pub data IsReachedBy (number_of : EntryName → Option ℕ) : ℕ → Type 0 where
  root : IsReachedBy number_of 1
  below : (entry : EntryName) (number : ℕ) → IsReachedBy number_of entry.0 → number_of entry ≡ Some number
      → IsReachedBy number_of number
