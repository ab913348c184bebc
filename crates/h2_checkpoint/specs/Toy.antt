-- A small format: a header has its number and the place of a block, whose byte is the forest and leads to another block.
use Rattle.std.specs.Prelude.{◌≡◌, ◌≤◌, ℕ, ◌+◌, [], ◌∷◌}
use Rattle.h2_num.specs.Places.{Places}
use Rattle.h2_geom.specs.Places.{header_bytes, turn_of}
use Rattle.h2_checkpoint.specs.Format.{Format}

-- a header
pub record ToyHeader : Type 0 where
  pub number : ℕ
  pub place : ℕ

-- the header's number in byte 0 and its block's place behind the first header in byte 1, in the slot of the number
pub record IsToyHeader (s : ℕ) (b : Places) (h : ToyHeader) : Type 0 where
  pub number_is : b 0 ≡ h.number
  pub place_is : header_bytes + b 1 ≡ h.place
  pub slot_is : s ≡ turn_of h.number
  pub counts : 1 ≤ h.number

-- blocks of one byte
abbrev pub toy : Format
toy = record {
  Ref = ℕ;
  Header = ToyHeader;
  Forest = ℕ;
  place = λ r. r;
  size = λ r. 1;
  Child = λ r b s. header_bytes + b 0 ≡ s;
  HeaderAt = IsToyHeader;
  number = λ h. h.number;
  roots = λ h. h.place ∷ [];
  Stands = λ image h forest. image h.place ≡ forest;
}
