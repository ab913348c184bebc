-- What an image of a new volume holds.
use Rattle.std.specs.Prelude.{◌≡◌, ◌≢◌, ◌⊎◌, ◌<◌, ◌≤◌, ℕ, zero, suc, ◌+◌, ◌%◌, List, [], ◌∷◌, length, All, None}
use Rattle.h2_num.specs.Places.{Places, from_place, InRange}
use Rattle.h2_check.specs.Xxh.{xxh64_of}
use Rattle.h2_ref.specs.declared.reference.Kind.TheVariants.{Inode}
use Rattle.h2_ref.specs.declared.reference.Check.TheVariants.{Xx}
use Rattle.h2_ref.specs.declared.reference.Ref.{Ref}
use Rattle.h2_ref.specs.Ref.{empty_ref}
use Rattle.h2_header.specs.declared.header.Header.{Header}
use Rattle.h2_header.specs.Map.{top_level, zones_under}
use Rattle.h2_geom.specs.Geometry.{IsZoneCount, IsReserved, chunks_of, segments_of}
use Rattle.h2_geom.specs.Places.{node_place}
use Rattle.h2_codes.specs.declared.code.Code.{Code}
use Rattle.h2_codes.specs.declared.code.Code.TheVariants.{Free, Reserved, Used}
use Rattle.h2_codes.specs.Codes.{IsSegment}
use Rattle.h2_freemap.specs.Space.{code_in}
use Rattle.h2_freeleaf.specs.InImage.{AreMapped}
use Rattle.h2_freeleaf.specs.Plan.{blocks_of}
use Rattle.h2_image.specs.NewBlocks.{RootDirectoryBytes, RootPfsBytes}

-- the first chunk that isn't reserved, in which the two inodes lie
abbrev pub inode_chunk : ℕ
inode_chunk = 256

-- the place of the root directory's block: the chunk's first 1 KiB
abbrev pub directory_place : ℕ
directory_place = 4194304

-- the place of the PFS's block: the 1 KiB behind that
abbrev pub pfs_place : ℕ
pfs_place = 4195328

-- the reference to inode or PFS 1, whose block stands at a place, with the check of the block
abbrev pub inode_ref : ℕ → Places → Ref
inode_ref place block = record { kind = Inode; key = 1; keybits = 0; place = place; radix = 10; id = 1; check = Xx (xxh64_of block 1024); dirent = None }

-- the four references of the super-root: one to the PFS, and three empty ones
abbrev pub new_root : Places → List Ref
new_root pfs = inode_ref pfs_place pfs ∷ empty_ref ∷ empty_ref ∷ empty_ref ∷ []

-- the header of a new volume, by its number of zones, the block of its PFS and its references to the freemap
abbrev pub new_header : ℕ → Places → List Ref → Header
new_header zones pfs map = record { number = 1; zones = zones; map_number = 1; next_pfs = 2; root = new_root pfs; map = map }

-- the code of a chunk of a new volume: the first segment of each zone is reserved, the chunk of the two inodes is used,
-- and all others are free
pub record IsNewCode (chunk : ℕ) (code : Code) : Type 0 where
  pub reserved : IsReserved chunk → code ≡ Reserved
  pub used : chunk ≡ inode_chunk → code ≡ Used
  pub free : (IsReserved chunk → ⊥) → chunk ≢ inode_chunk → code ≡ Free

-- the segments of a new volume
pub record AreNewSegments (zones : ℕ) (segments : List (List Code)) : Type 0 where
  pub count : length segments ≡ segments_of zones
  pub each : All IsSegment segments
  pub codes : (chunk : ℕ) → chunk < chunks_of zones → IsNewCode chunk (code_in segments chunk)

-- the references lead in the image to the codes of a new volume: to its leaves, by way of its nodes, in the first copy
pub record LeadToNewCodes (image : Places) (zones : ℕ) (map : List Ref) : Type 0 where
  pub segments : List (List Code)
  pub are_new : AreNewSegments zones segments
  pub mapped : AreMapped image zones 1 segments map

-- the block of the root directory in an image
abbrev pub directory_block : Places → Places
directory_block image = from_place image directory_place

-- the block of the PFS in an image
abbrev pub pfs_block : Places → Places
pfs_block image = from_place image pfs_place

-- how many blocks the freemap of so many zones has, from the leaves up to a level
abbrev pub blocks_up_to : ℕ → ℕ → ℕ
blocks_up_to zones zero = blocks_of zones 0
blocks_up_to zones (suc level) = blocks_up_to zones level + blocks_of zones (suc level)

-- how many blocks it has in all, up to those that the header names
abbrev pub map_block_count : ℕ → ℕ
map_block_count zones = blocks_up_to zones (top_level zones)

-- the byte belongs to a leaf or a node of the first copy of the freemap
pub record InNewMap (zones k : ℕ) : Type 0 where
  pub level : ℕ
  pub zone : ℕ
  pub in_levels : level ≤ top_level zones
  pub in_zones : zone < zones
  pub begins : zone % zones_under level ≡ 0
  pub inside : InRange (node_place level zone 0) 1024 k

-- the byte belongs to a block of a new volume
abbrev pub InNewBlocks : ℕ → ℕ → Type 0
InNewBlocks zones k = InRange directory_place 1024 k ⊎ InRange pfs_place 1024 k ⊎ InNewMap zones k

-- the image has the blocks of a new volume of so many zones, under this header
pub record IsNewVolume (image : Places) (h : Header) (zones : ℕ) : Type 0 where
  pub count : IsZoneCount zones
  pub header : h ≡ new_header zones (pfs_block image) h.map
  pub directory : RootDirectoryBytes (directory_block image)
  pub pfs : RootPfsBytes (inode_ref directory_place (directory_block image)) (pfs_block image)
  pub map : LeadToNewCodes image zones h.map
