-- Names that have a block of their own.
use Rattle.std.specs.Prelude.{ℕ, Bool, ◌&&◌, ◌==◌, if◌then◌else◌, List, [], ◌∷◌, length, Option, Some, None}
use Rattle.h2_memory_sets.specs.declared.naming.LongName.{LongName}

-- whether a name of this length has the block at a place
abbrev pub is_name_at : ℕ → ℕ → LongName → Bool
is_name_at place len x = x.place == place && length x.name == len

-- the name of this length in the block at a place: the last that was added, which stands first
abbrev pub name_in : List LongName → ℕ → ℕ → Option (List ℕ)
name_in [] place len = None
name_in (x ∷ xs) place len = if is_name_at place len x then Some x.name else name_in xs place len
