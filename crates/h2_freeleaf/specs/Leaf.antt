-- The bytes of a leaf of the freemap, which stands for a zone.
use Rattle.std.specs.Prelude.{◌≡◌, ◌<◌, ℕ, ◌*◌, List, length, slice_index_or, All}
use Rattle.h2_num.specs.Places.{Places, number_at, from_place, ZeroIn}
use Rattle.h2_codes.specs.declared.code.Code.{Code}
use Rattle.h2_codes.specs.declared.code.Code.TheVariants.{Free}
use Rattle.h2_codes.specs.Codes.{IsSegment, count_of}
use Rattle.h2_codes.specs.Layout.{HoldCodes}

-- the bytes of part i of a block, whose parts have 128 bytes each
abbrev pub part_of : ℕ → Places → Places
part_of i b = from_place b (128 * i)

-- the 128 bytes of a segment: its codes, the number of its free chunks, and zeros
pub record PartBytes (codes : List Code) (b : Places) : Type 0 where
  pub holds : HoldCodes b codes
  pub free : number_at b 64 4 ≡ count_of Free codes
  pub tail : ZeroIn 68 128 b

-- the codes of the eight segments of a zone
pub record IsLeaf (leaf : List (List Code)) : Type 0 where
  pub count : length leaf ≡ 8
  pub segments : All IsSegment leaf

-- the 1024 bytes of a leaf: a part for each segment, in their order
abbrev pub LeafBytes : List (List Code) → Places → Type 0
LeafBytes leaf b = (i : ℕ) (d : List Code) → i < length leaf → PartBytes (slice_index_or leaf i d) (part_of i b)

-- these bytes spell no leaf
abbrev pub NoLeaf : Places → Type 0
NoLeaf b = (leaf : List (List Code)) → IsLeaf leaf → LeafBytes leaf b → ⊥
