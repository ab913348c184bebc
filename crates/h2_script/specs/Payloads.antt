-- Data in a script.
use Rattle.std.specs.Prelude.{◌≡◌, ◌⊎◌, ◌<◌, ◌≤◌, ℕ, List, ◌∷◌, ◌++◌, length, codes, Ok}
use Rattle.hex.specs.Hex.{decode_of}
use Rattle.h2_contents.specs.declared.payload.Payload.{Payload}
use Rattle.h2_contents.specs.declared.payload.Payload.TheVariants.{Plain, Repeat}
use Rattle.h2_contents.specs.Payload.{payload_bytes}
use Rattle.h2_script.specs.declared.fault.LineFault.{LineFault}
use Rattle.h2_script.specs.declared.fault.LineFault.TheVariants.{Payload as NoData, TooLong}
use Rattle.h2_script.specs.Cuts.{colon}
use Rattle.h2_script.specs.Numbers.{IsNumber}

-- the bytes, as an even number of hexadecimal digits
abbrev pub SpellsPlain : List ℕ → Payload → Type 0
SpellsPlain digits (Plain bytes) = decode_of digits ≡ Ok bytes
SpellsPlain digits (Repeat count byte) = ⊥

-- how often, a colon, and which byte
abbrev pub SpellsRepeat : List ℕ → Payload → Type 0
SpellsRepeat text (Plain bytes) = ⊥
SpellsRepeat text (Repeat count byte) = (c b : List ℕ) × (text ≡ c ++ colon ∷ b) × IsNumber c count × IsNumber b byte × (byte ≤ 255)

-- the word is the bytes: `x:` and digits, or `r:` with a count and a byte
abbrev pub SpellsPayload : List ℕ → Payload → Type 0
SpellsPayload word p = (rest : List ℕ) × (((word ≡ codes "x:" ++ rest) × SpellsPlain rest p) ⊎ ((word ≡ codes "r:" ++ rest) × SpellsRepeat rest p))

-- no more bytes than one command writes
abbrev pub IsFewBytes : Payload → Type 0
IsFewBytes p = length (payload_bytes p) ≤ 1048576

-- what is wrong with a word whose right spellings are given: it spells no data, or too much
abbrev pub IsFaultOfData : (Payload → Type 0) → LineFault → Type 0
IsFaultOfData Spells NoData = (p : Payload) → Spells p → ⊥
IsFaultOfData Spells TooLong = (p : Payload) × Spells p × (1048576 < length (payload_bytes p))
IsFaultOfData Spells _ = ⊥
