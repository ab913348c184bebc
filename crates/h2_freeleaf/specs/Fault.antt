-- Which refusal a block that is no leaf, or no node, meets: the one at the least place, as its bytes show it.
use Rattle.std.specs.Prelude.{◌≡◌, ◌≢◌, ◌<◌, ◌≤◌, ℕ, ◌+◌, ◌*◌, List}
use Rattle.h2_num.specs.Places.{Places, number_at, ZeroIn}
use Rattle.h2_codes.specs.declared.code.Code.{Code}
use Rattle.h2_codes.specs.declared.code.Code.TheVariants.{Free}
use Rattle.h2_codes.specs.Codes.{IsSegment, count_of}
use Rattle.h2_codes.specs.Layout.{HoldCodes}
use Rattle.h2_ref.specs.Ref.{NoRef}
use Rattle.h2_ref.specs.FaultLaws.{IsSpelled}
use Rattle.h2_freeleaf.specs.Leaf.{part_of, PartBytes}
use Rattle.h2_freeleaf.specs.declared.fault.MapFault.{MapFault}
use Rattle.h2_freeleaf.specs.declared.fault.MapFault.TheVariants.{Padding, Shape, Reference}

-- behind the codes of a part stands the number of the free ones
pub record IsCounted (b : Places) : Type 0 where
  pub codes : List Code
  pub segment : IsSegment codes
  pub holds : HoldCodes b codes
  pub free : number_at b 64 4 ≡ count_of Free codes

-- the bytes of a part spell a segment
pub record IsPart (b : Places) : Type 0 where
  pub codes : List Code
  pub segment : IsSegment codes
  pub bytes : PartBytes codes b

-- The first refusal of a part, whose first byte has a place on the disk: of its count, or else of its first nonzero byte
-- behind that.
pub data IsPartFault (at : ℕ) (b : Places) : MapFault → Type 0 where
  bad_count : (IsCounted b → ⊥) → IsPartFault at b (Shape (at + 64))
  bad_tail : (k : ℕ) → IsCounted b → 68 ≤ k → k < 128 → b k ≢ 0 → ZeroIn 68 k b → IsPartFault at b (Padding (at + k))

-- the first refusal of a leaf, whose first byte has a place on the disk: that of the first part that spells no segment
pub record IsLeafFault (at : ℕ) (b : Places) (fault : MapFault) : Type 0 where
  pub index : ℕ
  pub below : index < 8
  pub here : IsPartFault (at + 128 * index) (part_of index b) fault
  pub before : (i : ℕ) → i < index → IsPart (part_of i b)

-- the first refusal of a node, whose first byte has a place on the disk: that of the first reference that isn't valid
pub record IsNodeFault (at : ℕ) (b : Places) (fault : MapFault) : Type 0 where
  pub index : ℕ
  pub below : index < 8
  pub is : fault ≡ Reference (at + 128 * index)
  pub here : NoRef (part_of index b)
  pub before : (i : ℕ) → i < index → IsSpelled (part_of i b)
