-- An image with one leaf of a freemap, by which the definition of a chunk's code is tried.
use Rattle.std.specs.Prelude.{ℕ, zero, suc, ◌-◌, ◌/◌, ◌%◌, List, [], ◌∷◌, cond, nat_lt, nat_eq, replicate}
use Rattle.h2_num.specs.Places.{Places, from_place}
use Rattle.h2_codes.specs.declared.code.Code.{Code}
use Rattle.h2_codes.specs.declared.code.Code.TheVariants.{Free, Reserved, Staged, Used}
use Rattle.h2_ref.specs.declared.reference.Ref.{Ref}
use Rattle.h2_ref.specs.Ref.{empty_ref}
use Rattle.h2_header.specs.declared.header.Header.{Header}
use Rattle.h2_freeleaf.specs.InImage.{map_ref_of}

-- a reserved segment
abbrev pub reserved_codes : List Code
reserved_codes = replicate 256 Reserved

-- a segment whose chunk 0 is used and chunk 1 staged; its others are free
abbrev pub second_codes : List Code
second_codes = Used ∷ Staged ∷ Free ∷ Free ∷ replicate 252 Free

-- a segment of free chunks
abbrev pub free_codes : List Code
free_codes = replicate 256 Free

-- the eight segments of zone 0
abbrev pub zone_codes : List (List Code)
zone_codes = reserved_codes ∷ second_codes ∷ free_codes ∷ free_codes ∷ free_codes ∷ free_codes ∷ free_codes ∷ free_codes ∷ []

-- The bytes of their parts: four codes 1 are 85, and 3, 2, 0 and 0 are 11. Behind the 64 bytes of codes stands the
-- number of free chunks: 0, 254, and 256 in the others.
abbrev pub part_byte : ℕ → ℕ → ℕ
part_byte zero j = cond (nat_lt j 64) 85 0
part_byte (suc zero) j = cond (nat_eq j 0) 11 (cond (nat_eq j 64) 254 0)
part_byte (suc (suc part)) j = cond (nat_eq j 65) 1 0

-- the leaf stands at the place of zone 0 in the first copy, behind the header
abbrev pub leaf_image : Places
leaf_image = λ k. part_byte ((k - 65536) / 128) ((k - 65536) % 128)

-- the reference to the leaf
abbrev pub leaf_ref : Ref
leaf_ref = map_ref_of 0 1 0 (from_place leaf_image 65536)

-- a header with a map of four zones, of which the first is looked at
abbrev pub leaf_header : Header
leaf_header = record {
  number = 1;
  zones = 4;
  map_number = 1;
  next_pfs = 2;
  root = empty_ref ∷ empty_ref ∷ empty_ref ∷ empty_ref ∷ [];
  map = leaf_ref ∷ empty_ref ∷ empty_ref ∷ empty_ref ∷ empty_ref ∷ empty_ref ∷ empty_ref ∷ empty_ref ∷ [];
}
