-- How codes and flags are kept: four codes in a byte and 32 in a word of 64 bits, eight flags in a byte.
use Rattle.std.specs.Prelude.{◌≡◌, ◌≢◌, ◌<◌, ◌≤◌, ℕ, zero, suc, ◌+◌, ◌*◌, ◌/◌, ◌%◌, ◌^◌, List, [], ◌∷◌, ◌++◌, Bool, true, false, slice_index}
use Rattle.std.specs.Int.{bit_at}
use Rattle.h2_codes.specs.declared.code.Code.{Code}
use Rattle.h2_codes.specs.declared.code.Code.TheVariants.{Free, Reserved, Staged, Used}
use Rattle.h2_codes.specs.Layout.{code_number}

-- the code for which two bits stand
abbrev pub code_of : ℕ → Code
code_of zero = Free
code_of (suc zero) = Reserved
code_of (suc (suc zero)) = Staged
code_of (suc (suc (suc n))) = Used

-- the code of chunk k in a byte or in a word
abbrev pub word_code : ℕ → ℕ → Code
word_code word k = code_of (word / 2 ^ (2 * k) % 4)

-- the four codes of a byte
abbrev pub byte_codes : ℕ → List Code
byte_codes b = word_code b 0 ∷ word_code b 1 ∷ word_code b 2 ∷ word_code b 3 ∷ []

-- the codes of bytes
abbrev pub codes_in : List ℕ → List Code
codes_in [] = []
codes_in (b ∷ bs) = byte_codes b ++ codes_in bs

-- the byte of four codes
abbrev pub byte_of : Code → Code → Code → Code → ℕ
byte_of x y z u = code_number x + 4 * code_number y + 16 * code_number z + 64 * code_number u

-- the bytes of codes
abbrev pub bytes_of : List Code → List ℕ
bytes_of (x ∷ y ∷ z ∷ u ∷ xs) = byte_of x y z u ∷ bytes_of xs
bytes_of _ = []

-- a bit as a flag
abbrev pub flag_of : ℕ → Bool
flag_of zero = false
flag_of (suc n) = true

-- a flag as a bit
abbrev pub flag_bit : Bool → ℕ
flag_bit false = 0
flag_bit true = 1

-- flag k of a byte
abbrev pub byte_flag : ℕ → ℕ → Bool
byte_flag byte k = flag_of (bit_at byte k)

-- the eight flags of a byte
abbrev pub byte_flags : ℕ → List Bool
byte_flags b = byte_flag b 0 ∷ byte_flag b 1 ∷ byte_flag b 2 ∷ byte_flag b 3 ∷ byte_flag b 4 ∷ byte_flag b 5 ∷ byte_flag b 6 ∷ byte_flag b 7 ∷ []

-- the flags of bytes
abbrev pub flags_in : List ℕ → List Bool
flags_in [] = []
flags_in (b ∷ bs) = byte_flags b ++ flags_in bs

-- the bytes of flags
abbrev pub flag_bytes : List Bool → List ℕ
flag_bytes (x ∷ y ∷ z ∷ u ∷ v ∷ w ∷ s ∷ t ∷ xs) =
    (flag_bit x + 2 * flag_bit y + 4 * flag_bit z + 8 * flag_bit u + 16 * flag_bit v + 32 * flag_bit w + 64 * flag_bit s + 128 * flag_bit t)
    ∷ flag_bytes xs
flag_bytes _ = []

-- each number is a byte
abbrev pub AllBytes : List ℕ → Type 0
AllBytes bytes = (k : ℕ) → slice_index bytes k < 256

-- the eight flags of a byte, each at the lower of two bits
pub record IsSpread (byte mask : ℕ) : Type 0 where
  pub lower : (k : ℕ) → k < 8 → bit_at mask (2 * k) ≡ bit_at byte k
  pub upper : (k : ℕ) → k < 8 → bit_at mask (2 * k + 1) ≡ 0
  pub fits : mask < 65536

-- the number of n bytes from a place on, the lowest first
abbrev pub little : List ℕ → ℕ → ℕ → ℕ
little bytes at zero = 0
little bytes at (suc n) = slice_index bytes at + 256 * little bytes (suc at) n

-- no chunk of the word from one up to before another is free
abbrev pub NoneFreeIn : ℕ → ℕ → ℕ → Type 0
NoneFreeIn from to word = (k : ℕ) → from ≤ k → k < to → word_code word k ≢ Free

-- it is the least free chunk of the word from one on
pub record IsFirstFree (from word k : ℕ) : Type 0 where
  pub from_on : from ≤ k
  pub in_word : k < 32
  pub free : word_code word k ≡ Free
  pub least : NoneFreeIn from k word

-- f 0 + f 1 + .. + f (n - 1)
abbrev pub sum_below : ℕ → (ℕ → ℕ) → ℕ
sum_below zero f = 0
sum_below (suc n) f = sum_below n f + f n

-- the lower bit of the two of chunk k is as said, and the upper one is 0
pub record Marks (bit : ℕ → ℕ) (mask : ℕ) : Type 0 where
  pub lower : (k : ℕ) → k < 32 → bit_at mask (2 * k) ≡ bit k
  pub upper : (k : ℕ) → k < 32 → bit_at mask (2 * k + 1) ≡ 0
