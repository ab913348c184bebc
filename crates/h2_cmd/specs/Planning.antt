-- The pieces of a new volume, and its header, before they are written.
use Rattle.std.specs.Prelude.{◌≡◌, ℕ, List, [], ◌∷◌, ◌++◌, length, map}
use Rattle.h2_num.specs.Places.{places}
use Rattle.h2_codes.specs.declared.code.Code.{Code}
use Rattle.h2_header.specs.declared.header.Header.{Header}
use Rattle.h2_geom.specs.Geometry.{IsZoneCount}
use Rattle.h2_freeleaf.specs.Plan.{IsPlan}
use Rattle.h2_checkpoint.specs.declared.piece.Piece.{Piece}
use Rattle.h2_image.specs.NewBlocks.{RootDirectoryBytes, RootPfsBytes}
use Rattle.h2_image.specs.NewVolume.{directory_place, pfs_place, inode_ref, new_header, AreNewSegments}

-- the pieces of the two inodes
abbrev pub inode_pieces : List ℕ → List ℕ → List Piece
inode_pieces directory pfs = record { at = directory_place; bytes = directory } ∷ record { at = pfs_place; bytes = pfs } ∷ []

-- a write of the freemap as a piece
abbrev pub piece_of : ℕ × List ℕ → Piece
piece_of write = record { at = write.0; bytes = write.1 }

-- the pieces of a new volume: those of its two inodes, and then the writes of its freemap
abbrev pub pieces_of : List ℕ → List ℕ → List (ℕ × List ℕ) → List Piece
pieces_of directory pfs writes = inode_pieces directory pfs ++ map piece_of writes

-- the blocks of the two inodes
pub record AreInodes (directory pfs : List ℕ) : Type 0 where
  pub directory_long : length directory ≡ 1024
  pub pfs_long : length pfs ≡ 1024
  pub directory_is : RootDirectoryBytes (places directory)
  pub pfs_is : RootPfsBytes (inode_ref directory_place (places directory)) (places pfs)

-- All blocks of a new volume as pieces, in the order in which they are written, and its header: the two inodes, and then
-- the first copy of the freemap.
pub record IsPlanned (zones : ℕ) (pieces : List Piece) (h : Header) : Type 0 where
  pub zone_count : IsZoneCount zones
  pub directory : List ℕ
  pub pfs : List ℕ
  pub inodes : AreInodes directory pfs
  pub segments : List (List Code)
  pub are_new : AreNewSegments zones segments
  pub writes : List (ℕ × List ℕ)
  pub first_copy : IsPlan zones 1 segments writes h.map
  pub pieces_are : pieces ≡ pieces_of directory pfs writes
  pub header : h ≡ new_header zones (places pfs) h.map
