-- Volume headers and their bytes.
use Rattle.std.specs.Prelude.{◌≡◌, ◌<◌, ◌≤◌, ℕ, ◌^◌, List, length, codes, All}
use Rattle.h2_num.specs.Places.{Places, places, number_at, from_place, SameBelow, ZeroIn}
use Rattle.h2_check.specs.Crc.{crc32c_of}
use Rattle.h2_ref.specs.declared.reference.Kind.{Kind}
use Rattle.h2_ref.specs.declared.reference.Kind.TheVariants.{Empty, Inode, Indirect, Content, Dirent, MapNode, MapLeaf}
use Rattle.h2_ref.specs.declared.reference.Ref.{Ref}
use Rattle.h2_ref.specs.Ref.{IsValid}
use Rattle.h2_ref.specs.Set.{RefsBytes, IsSet}
use Rattle.h2_header.specs.declared.header.Header.{Header}
use Rattle.h2_geom.specs.Places.{turn_of}
use Rattle.h2_header.specs.Map.{IsMap}

-- its references are valid, as many as it has room for
pub record HasRefs (h : Header) : Type 0 where
  pub root_length : length h.root ≡ 4
  pub root : All IsValid h.root
  pub map_length : length h.map ≡ 8
  pub map : All IsValid h.map

-- the kinds of the references of the super-root, a row for each
abbrev pub IsRootKind : Kind → Type 0
IsRootKind Empty = Unit {0}
IsRootKind Inode = Unit {0}
IsRootKind Indirect = Unit {0}
IsRootKind Content = ⊥
IsRootKind Dirent = ⊥
IsRootKind MapNode = ⊥
IsRootKind MapLeaf = ⊥

-- a reference that the super-root may hold
pub record IsRootRef (r : Ref) : Type 0 where
  pub valid : IsValid r
  pub kind : IsRootKind r.kind
  pub key_below : r.key < 2 ^ 62

-- the four references of the super-root
pub record IsRoot (refs : List Ref) : Type 0 where
  pub length_is : length refs ≡ 4
  pub each : All IsRootRef refs
  pub set : IsSet refs

-- the numbers of a header are in their ranges
pub record HasRanges (h : Header) : Type 0 where
  pub zones_low : 4 ≤ h.zones
  pub zones_high : h.zones ≤ 512
  pub number_low : 1 ≤ h.number
  pub number_high : h.number ≤ 2 ^ 62
  pub map_number : h.map_number ≡ h.number
  pub next_low : 2 ≤ h.next_pfs
  pub next_high : h.next_pfs ≤ 2 ^ 62

-- the rules of a header
pub record IsHeader (h : Header) : Type 0 where
  pub ranges : HasRanges h
  pub root : IsRoot h.root
  pub map : IsMap h.zones h.map_number h.map

-- what the block of each header has: the magic and the version, zeros between the fields, and its check
pub record FrameBytes (b : Places) : Type 0 where
  pub magic : SameBelow 8 (places (codes "H2VOLUME")) b
  pub version : number_at b 8 4 ≡ 1
  pub gap : ZeroIn 40 512 b
  pub tail : ZeroIn 2048 65532 b
  pub check : number_at b 65532 4 ≡ crc32c_of b 65532

-- the numbers of a header
pub record NumberBytes (h : Header) (b : Places) : Type 0 where
  pub zones : number_at b 12 4 ≡ h.zones
  pub number : number_at b 16 8 ≡ h.number
  pub map_number : number_at b 24 8 ≡ h.map_number
  pub next_pfs : number_at b 32 8 ≡ h.next_pfs

-- the values of a header: its numbers, the super-root and the map
pub record ValueBytes (h : Header) (b : Places) : Type 0 where
  pub numbers : NumberBytes h b
  pub root : RefsBytes h.root (from_place b 512)
  pub map : RefsBytes h.map (from_place b 1024)

-- the 65536 bytes of a header
pub record HeadBytes (h : Header) (b : Places) : Type 0 where
  pub frame : FrameBytes b
  pub values : ValueBytes h b

-- the header that these 65536 bytes spell for a slot
pub record IsHeaderAt (slot : ℕ) (b : Places) (h : Header) : Type 0 where
  pub valid : IsHeader h
  pub spelled : HeadBytes h b
  pub in_turn : turn_of h.number ≡ slot

-- these bytes spell no header for a slot
abbrev pub NoHeaderAt : ℕ → Places → Type 0
NoHeaderAt slot b = (h : Header) → IsHeaderAt slot b h → ⊥
