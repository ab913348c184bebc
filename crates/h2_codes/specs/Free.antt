-- Which chunks of a volume are free, where a function gives the code of each chunk.
use Rattle.std.specs.Prelude.{◌≡◌, ◌≢◌, ◌<◌, ℕ, zero, suc, ◌+◌}
use Rattle.h2_codes.specs.declared.code.Code.{Code}
use Rattle.h2_codes.specs.declared.code.Code.TheVariants.{Free}
use Rattle.h2_codes.specs.Codes.{tally}

-- how many chunks below n are free
unfoldable pub free_below : (ℕ → Code) → ℕ → ℕ
free_below code zero = 0
free_below code (suc n) = tally Free (code n) + free_below code n

-- no chunk below n is free
abbrev pub NoneFreeBelow : (ℕ → Code) → ℕ → Type 0
NoneFreeBelow code n = (c : ℕ) → c < n → code c ≢ Free

-- the chunk is the lowest free one of so many chunks
pub record IsLowestFree (code : ℕ → Code) (chunks chunk : ℕ) : Type 0 where
  pub in_volume : chunk < chunks
  pub free : code chunk ≡ Free
  pub lowest : NoneFreeBelow code chunk
