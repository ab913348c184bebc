-- The bytes that a flush writes before its header, and an image with them.
use Rattle.std.specs.Prelude.{◌≡◌, ◌⊎◌, ℕ, List, [], ◌∷◌, length}
use Rattle.h2_num.specs.Places.{Places, InRange}
use Rattle.h2_disk.specs.Laid.{laid}
use Rattle.h2_checkpoint.specs.declared.piece.Piece.{Piece}

-- bytes that a flush writes to a place
pub record Entry : Type 0 where
  pub at : ℕ
  pub bytes : List ℕ

-- a piece as an entry of the queue
abbrev pub entry_of : Piece → Entry
entry_of piece = record { at = piece.at; bytes = piece.bytes }

-- the entry is one of the list
abbrev pub IsAmong : List Entry → Entry → Type 0
IsAmong [] e = ⊥
IsAmong (f ∷ others) e = (e ≡ f) ⊎ IsAmong others e

-- the byte belongs to an entry
abbrev pub InEntries : List Entry → ℕ → Type 0
InEntries entries k = (e : Entry) × IsAmong entries e × InRange e.at (length e.bytes) k

-- no byte belongs to two of the entries
abbrev pub AreApart : List Entry → Type 0
AreApart [] = Unit {0}
AreApart (e ∷ entries) = ((k : ℕ) → InRange e.at (length e.bytes) k → InEntries entries k → ⊥) × AreApart entries

-- an image with entries laid over it, one after another
unfoldable pub overlay_all : List Entry → Places → Places
overlay_all [] image = image
overlay_all (e ∷ entries) image = overlay_all entries (laid e.at e.bytes image)
