-- The first bad block of a map in an image, in the order of keys, and a node before what is under it.
use Rattle.std.specs.Prelude.{◌≡◌, ◌≢◌, ◌⊎◌, ◌<◌, ℕ, zero, suc, ◌+◌, ◌*◌, List, slice_index_or}
use Rattle.h2_num.specs.Places.{Places, from_place}
use Rattle.h2_num.specs.Causes.{Rose}
use Rattle.h2_check.specs.Crc.{crc32c_of}
use Rattle.h2_codes.specs.declared.code.Code.{Code}
use Rattle.h2_ref.specs.declared.reference.Check.TheVariants.{Crc}
use Rattle.h2_ref.specs.declared.reference.Ref.{Ref}
use Rattle.h2_ref.specs.Ref.{empty_ref, IsValid, RefBytes}
use Rattle.h2_header.specs.declared.header.Header.{Header}
use Rattle.h2_header.specs.Map.{top_level, zones_under, IsMapEntry}
use Rattle.h2_freeleaf.specs.declared.fault.MapFault.{MapFault}
use Rattle.h2_freeleaf.specs.declared.fault.MapFault.TheVariants.{BadCheck, Reference}
use Rattle.h2_freeleaf.specs.declared.fault.MapRead.{MapRead}
use Rattle.h2_freeleaf.specs.declared.fault.MapRead.TheVariants.{Fault, Disk, NoMemory}
use Rattle.h2_freeleaf.specs.Leaf.{part_of}
use Rattle.h2_freeleaf.specs.Fault.{IsLeafFault}
use Rattle.h2_freeleaf.specs.InImage.{HasCheck, LeadsToNode, AreEntries, LeadsTo}

-- the check that a block of the map has at a place
abbrev pub check_at : Places → ℕ → ℕ
check_at image place = crc32c_of (from_place image place) 1024

-- the block doesn't have the check of the reference that names it
pub record IsBadCheck (image : Places) (r : Ref) (fault : MapFault) : Type 0 where
  pub want : ℕ
  pub stored : r.check ≡ Crc want
  pub differs : want ≢ check_at image r.place
  pub is : fault ≡ BadCheck r.place want (check_at image r.place)

-- the first fault of a leaf: its check, or else that of its bytes
pub data IsBadLeaf (image : Places) (r : Ref) (fault : MapFault) : Type 0 where
  bad_check : IsBadCheck image r fault → IsBadLeaf image r fault
  bad_bytes : HasCheck image r → IsLeafFault r.place (from_place image r.place) fault → IsBadLeaf image r fault

-- reference i of the bytes of a node is right: a valid one is spelled there, and it is the one for its zones, of a level
-- from a zone on
pub record IsEntryAt (b : Places) (level zones number zone i : ℕ) : Type 0 where
  pub ref : Ref
  pub spelled : RefBytes ref (part_of i b)
  pub valid : IsValid ref
  pub names : IsMapEntry level zones number (zone + zones_under level * i) ref

-- the first reference of the bytes of a node, whose first byte has a place on the disk, that isn't right
pub record IsWrongEntry (b : Places) (level zones number zone place : ℕ) (fault : MapFault) : Type 0 where
  pub index : ℕ
  pub below : index < 8
  pub wrong : IsEntryAt b level zones number zone index → ⊥
  pub right : (i : ℕ) → i < index → IsEntryAt b level zones number zone i
  pub is : fault ≡ Reference (place + 128 * index)

-- the first fault of a node itself: its check, or else its first reference that isn't right, which is one that isn't valid or
-- isn't that for its zones, of the level below from a zone on
pub data IsBadNode (image : Places) (zones number level zone : ℕ) (r : Ref) (fault : MapFault) : Type 0 where
  bad_check : IsBadCheck image r fault → IsBadNode image zones number level zone r fault
  bad_entry : HasCheck image r → IsWrongEntry (from_place image r.place) level zones number zone r.place fault → IsBadNode image zones number level zone r fault

-- the first bad one of eight blocks, each of which stands for so many zones, from a zone on: the blocks before it are whole
pub record IsFirstBadOf (IsWhole : ℕ → Ref → Type 0) (IsBad : ℕ → Ref → MapFault → Type 0) (zones under zone : ℕ) (refs : List Ref) (fault : MapFault) : Type 0 where
  pub index : ℕ
  pub below : index < 8
  pub inside : zone + under * index < zones
  pub here : IsBad (zone + under * index) (slice_index_or refs index empty_ref) fault
  pub before : (i : ℕ) → i < index → IsWhole (zone + under * i) (slice_index_or refs i empty_ref)

-- the reference leads to a block that is whole with all blocks below it
abbrev pub IsWhole : Places → ℕ → ℕ → ℕ → ℕ → Ref → Type 0
IsWhole image zones number level zone r = (segments : List (List Code)) × LeadsTo image zones number segments level zone r

-- The first fault of the block of a level that begins with a zone and of the blocks below it: its own, or else that of the
-- first bad block below.
abbrev pub IsBad : Places → ℕ → ℕ → ℕ → ℕ → Ref → MapFault → Type 0
IsBad image zones number zero zone r fault = IsBadLeaf image r fault
IsBad image zones number (suc level) zone r fault = IsBadNode image zones number level zone r fault
    ⊎ ((refs : List Ref) × LeadsToNode image refs r × AreEntries level zones number zone refs
    × IsFirstBadOf (λ z q. IsWhole image zones number level z q) (λ z q f. IsBad image zones number level z q f) zones (zones_under level) zone refs fault)

-- the first bad one of eight blocks of a level, from a zone on, and of the blocks below them
abbrev pub IsFirstBadIn : Places → ℕ → ℕ → ℕ → ℕ → List Ref → MapFault → Type 0
IsFirstBadIn image zones number level zone refs fault =
    IsFirstBadOf (λ z q. IsWhole image zones number level z q) (λ z q f. IsBad image zones number level z q f) zones (zones_under level) zone refs fault

-- the first bad block of the map of a header
abbrev pub IsFirstBad : Places → Header → MapFault → Type 0
IsFirstBad image h fault = IsFirstBadIn image h.zones h.map_number (top_level h.zones) 0 h.map fault

-- Why a map isn't read: the fault has the property, the disk's count of faults rose, or memory was wanting, which may be at
-- any time.
abbrev pub HasCause : (MapFault → Type 0) → ℕ → ℕ → MapRead → Type 0
HasCause IsFault before now (Fault fault) = IsFault fault
HasCause IsFault before now Disk = Rose before now
HasCause IsFault before now NoMemory = Unit {0}
