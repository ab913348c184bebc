-- Numbers in a script.
use Rattle.std.specs.Prelude.{◌≡◌, ◌<◌, ◌≤◌, ◌^◌, ℕ, List, length, slice_index, All}
use Rattle.std.specs.Str.Parse.{digits_value}
use Rattle.h2_script.specs.declared.number.Number.{Number}
use Rattle.h2_script.specs.declared.number.Number.TheVariants.{Small, Large}
use Rattle.h2_script.specs.declared.number.Amount.{Amount}
use Rattle.h2_script.specs.declared.number.Amount.TheVariants.{Few, Many}

-- the code of a decimal digit
abbrev pub IsDigit : ℕ → Type 0
IsDigit b = (48 ≤ b) × (b ≤ 57)

-- digits alone, at least one, and no zero before a further digit
pub record IsNumeral (word : List ℕ) : Type 0 where
  pub some : 1 ≤ length word
  pub plain : slice_index word 0 ≡ 48 → length word ≡ 1
  pub digits : All IsDigit word

-- the word is the number in decimal
pub record IsNumber (word : List ℕ) (n : ℕ) : Type 0 where
  pub numeral : IsNumeral word
  pub value : digits_value 10 word ≡ n

-- the word is no number
abbrev pub IsNoNumber : List ℕ → Type 0
IsNoNumber word = (n : ℕ) → IsNumber word n → ⊥

-- the number with 64 bits, or told to be larger
abbrev pub IsNumberAs : List ℕ → Number → Type 0
IsNumberAs word (Small n) = IsNumber word n
IsNumberAs word Large = (n : ℕ) × IsNumber word n × (2 ^ 64 ≤ n)

-- the word is no number of at most 255
abbrev pub IsNoByte : List ℕ → Type 0
IsNoByte word = (n : ℕ) → IsNumber word n → n ≤ 255 → ⊥

-- a number of bytes that one command may read or write, or a number that is above
abbrev pub IsAmount : List ℕ → Amount → Type 0
IsAmount word (Few n) = IsNumber word n × (n ≤ 1048576)
IsAmount word Many = (n : ℕ) × IsNumber word n × (1048576 < n)
