-- The headers of four slots, by which the words for the newest one are tried.
use Rattle.std.specs.Prelude.{ℕ, List, [], ◌∷◌, Option, Some, None}
use Rattle.h2_ref.specs.Ref.{empty_ref}
use Rattle.h2_header.specs.declared.header.Header.{Header}

-- a header with this number; nothing else of it matters here
abbrev pub header_of : ℕ → Header
header_of number = record {
  number = number;
  zones = 4;
  map_number = 1;
  next_pfs = 2;
  root = empty_ref ∷ empty_ref ∷ empty_ref ∷ empty_ref ∷ [];
  map = empty_ref ∷ empty_ref ∷ empty_ref ∷ empty_ref ∷ empty_ref ∷ empty_ref ∷ empty_ref ∷ empty_ref ∷ [];
}

-- slot 1 has none
abbrev pub four_slots : List (Option Header)
four_slots = Some (header_of 5) ∷ None ∷ Some (header_of 7) ∷ Some (header_of 6) ∷ []

-- slots 1 and 2 have the same number
abbrev pub tied_slots : List (Option Header)
tied_slots = Some (header_of 5) ∷ Some (header_of 7) ∷ Some (header_of 7) ∷ None ∷ []

-- no slot has one
abbrev pub empty_slots : List (Option Header)
empty_slots = None ∷ None ∷ None ∷ None ∷ []
