-- The keys of names in a directory.
use Rattle.std.specs.Prelude.{◌≡◌, ◌<◌, ◌≤◌, ℕ, ◌+◌, ◌*◌, ◌/◌, ◌^◌, List, length, Contains, bit_or}
use Rattle.h2_num.specs.Places.{places}
use Rattle.h2_check.specs.Xxh.{xxh64_of}
use Rattle.h2_dirkey.specs.Name.{IsName}

-- the upper bits that all keys of a name have: those of its XXH64 from bit 15 on, with bit 63 set
unfoldable pub upper_bits : List ℕ → ℕ
upper_bits name = bit_or (xxh64_of (places name) (length name)) (2 ^ 63) / 2 ^ 15

-- the least key of a name
abbrev pub least_key : List ℕ → ℕ
least_key name = upper_bits name * 2 ^ 15

-- an entry with the name may stand under the key
pub record IsNameUnder (key : ℕ) (name : List ℕ) : Type 0 where
  pub good : IsName name
  pub upper : key / 2 ^ 15 ≡ upper_bits name

-- the least key from one on that isn't used, among the keys with the same upper bits
pub record IsPicked (key : ℕ) (used : List ℕ) (picked : ℕ) : Type 0 where
  pub from_key : key ≤ picked
  pub same_upper : picked < key + 2 ^ 15
  pub unused : Contains used picked → ⊥
  pub least : (k : ℕ) → key ≤ k → k < picked → Contains used k

-- all keys with the same upper bits are used
abbrev pub AreAllUsed : ℕ → List ℕ → Type 0
AreAllUsed key used = (k : ℕ) → key ≤ k → k < key + 2 ^ 15 → Contains used k
