-- What is noted of flushes, and which header a power cut may land on.
use Rattle.std.specs.Prelude.{◌≡◌, ◌⊎◌, ◌≤◌, ℕ, suc, List, [], ◌∷◌, nat_le, if◌then◌else◌}

-- what is noted of flushes, the newest first
pub data Mark (Forest : Type 0) : Type 0 where
  -- a flush froze the forest under a number
  Froze : (number : ℕ) (forest : Forest) → Mark Forest
  -- the header's write began, well or not
  Header_out : (number moment : ℕ) → Mark Forest
  -- the header is durable
  Header_done : (number moment : ℕ) → Mark Forest

-- the number of the newest header that was done by a moment
abbrev pub newest_at : {Forest : Type 0} → ℕ → List (Mark Forest) → ℕ → ℕ
newest_at opening [] m = opening
newest_at opening (Froze number forest ∷ marks) m = newest_at opening marks m
newest_at opening (Header_out number moment ∷ marks) m = newest_at opening marks m
newest_at opening (Header_done number moment ∷ marks) m = if nat_le moment m then number else newest_at opening marks m

-- the header's write had begun by a moment
abbrev pub IsOutBy : {Forest : Type 0} → List (Mark Forest) → ℕ → ℕ → Type 0
IsOutBy [] n m = ⊥
IsOutBy (Froze number forest ∷ marks) n m = IsOutBy marks n m
IsOutBy (Header_out number moment ∷ marks) n m = ((number ≡ n) × (moment ≤ m)) ⊎ IsOutBy marks n m
IsOutBy (Header_done number moment ∷ marks) n m = IsOutBy marks n m

-- a cut at a moment may leave the header with this number
abbrev pub IsLanding : {Forest : Type 0} → ℕ → List (Mark Forest) → ℕ → ℕ → Type 0
IsLanding opening marks m n = (n ≡ newest_at opening marks m) ⊎ ((n ≡ suc (newest_at opening marks m)) × IsOutBy marks n m)

-- the forest that was frozen for a number, or stood first
abbrev pub IsFrozenForest : {Forest : Type 0} → (ℕ → Forest → Type 0) → List (Mark Forest) → ℕ → Forest → Type 0
IsFrozenForest first [] n forest = first n forest
IsFrozenForest first (Froze number other ∷ marks) n forest = ((n ≡ number) × (forest ≡ other)) ⊎ IsFrozenForest first marks n forest
IsFrozenForest first (Header_out number moment ∷ marks) n forest = IsFrozenForest first marks n forest
IsFrozenForest first (Header_done number moment ∷ marks) n forest = IsFrozenForest first marks n forest
