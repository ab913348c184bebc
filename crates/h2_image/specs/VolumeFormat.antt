-- The format of a volume, for the law of checkpoints: its references, its headers, and what stands under a header.
use Rattle.std.specs.Prelude.{◌≡◌, ◌<◌, ℕ, ◌+◌, ◌*◌, ◌++◌}
use Rattle.h2_num.specs.Places.{Places, from_place}
use Rattle.h2_check.specs.Crc.{crc32c_of}
use Rattle.h2_check.specs.Xxh.{xxh64_of}
use Rattle.h2_ref.specs.declared.reference.Kind.TheVariants.{Empty, Inode, Indirect, MapNode}
use Rattle.h2_ref.specs.declared.reference.Check.TheVariants.{Crc, Xx}
use Rattle.h2_ref.specs.declared.reference.Ref.{Ref}
use Rattle.h2_ref.specs.Ref.{RefBytes, IsValid, size_of}
use Rattle.h2_header.specs.declared.header.Header.{Header}
use Rattle.h2_header.specs.Header.{IsHeaderAt}
use Rattle.h2_checkpoint.specs.Format as checkpoint
use Rattle.h2_image.specs.NewVolume.{IsNewVolume}

-- the block of an inode passes the check of its reference, and its body of four references holds this one
pub record IsInodeChild (r : Ref) (b : Places) (s : Ref) : Type 0 where
  pub kind : r.kind ≡ Inode
  pub radix : r.radix ≡ 10
  pub check : r.check ≡ Xx (xxh64_of b 1024)
  pub body : b 1 ≡ 0
  pub index : ℕ
  pub below : index < 4
  pub valid : IsValid s
  pub used : s.kind ≡ Empty → ⊥
  pub spelled : RefBytes s (from_place b (512 + 128 * index))

-- an indirect block passes the check of its reference, and one of its 32 references is this one
pub record IsSetChild (r : Ref) (b : Places) (s : Ref) : Type 0 where
  pub kind : r.kind ≡ Indirect
  pub radix : r.radix ≡ 12
  pub check : r.check ≡ Xx (xxh64_of b 4096)
  pub index : ℕ
  pub below : index < 32
  pub valid : IsValid s
  pub used : s.kind ≡ Empty → ⊥
  pub spelled : RefBytes s (from_place b (128 * index))

-- a node of the freemap passes the check of its reference, and one of its eight references is this one
pub record IsNodeChild (r : Ref) (b : Places) (s : Ref) : Type 0 where
  pub kind : r.kind ≡ MapNode
  pub radix : r.radix ≡ 10
  pub check : r.check ≡ Crc (crc32c_of b 1024)
  pub index : ℕ
  pub below : index < 8
  pub valid : IsValid s
  pub used : s.kind ≡ Empty → ⊥
  pub spelled : RefBytes s (from_place b (128 * index))

-- the block of a reference is whole, and holds this reference
pub data IsChild (r : Ref) (b : Places) (s : Ref) : Type 0 where
  in_inode : IsInodeChild r b s → IsChild r b s
  in_set : IsSetChild r b s → IsChild r b s
  in_node : IsNodeChild r b s → IsChild r b s

-- What an image stands for is, as far as there are commands, a new volume, known by its number of zones.
abbrev pub volume : checkpoint.Format
volume = record {
  Ref = Ref;
  Header = Header;
  Forest = ℕ;
  place = λ r. r.place;
  size = size_of;
  Child = IsChild;
  HeaderAt = IsHeaderAt;
  number = λ h. h.number;
  roots = λ h. h.root ++ h.map;
  Stands = IsNewVolume;
}

-- a header of the image with the greatest number
abbrev pub IsNewest : Places → Header → Type 0
IsNewest image h = checkpoint.IsNewest volume image h

-- no slot of the image has a header
abbrev pub HasNoHeader : Places → Type 0
HasNoHeader image = checkpoint.HasNoHeader volume image

-- the newest header of the image is number 1, and under it stands a new volume of so many zones
pub record IsFormatted (zones : ℕ) (image : Places) : Type 0 where
  pub header : Header
  pub newest : IsNewest image header
  pub stands : IsNewVolume image header zones
