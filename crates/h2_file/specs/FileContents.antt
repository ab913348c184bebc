-- The bytes that a file's tree stands for, as its loaded nodes and what is told of others say.
use Rattle.std.specs.Prelude.{◌≡◌, ◌<◌, ◌≤◌, ◌+◌, ◌/◌, ℕ, true, List, Option, Some, None, length, slice_get, slice_index}
use Rattle.h2_num.specs.Places.{Places}
use Rattle.h2_ref.specs.declared.reference.Ref.{Ref}
use Rattle.h2_set.specs.Ranges.{holds, NoneHolds}
use Rattle.h2_set.specs.Forest.{Forest}
use Rattle.h2_inode.specs.Nodes.{Fields, Told}
use Rattle.h2_inode.specs.Access.{Access}
use Rattle.h2_inode.specs.Contents.{IsPart, IsContents}
use Rattle.h2_inode.specs.Loaded.{loaded_nodes, at_root}
use Rattle.h2_contents.specs.Bytes.{cut_to as bytes_to}
use Rattle.h2_file.specs.Cutting.{cut_block}

-- the reading of a forest of inodes whose blocks of content have these bytes, where they are known
abbrev pub file_reading : Forest → (ℕ → Option Fields) → (Ref → Option Told) → (Ref → Option Places) → Access
file_reading f inodes tells blocks = loaded_nodes f inodes tells (λ r block. blocks r ≡ Some block)

-- the tree of root at stands for these bytes of a file of this size
abbrev pub FileHas : Forest → (ℕ → Option Fields) → (Ref → Option Told) → (Ref → Option Places) → ℕ → ℕ → List ℕ → Type 0
FileHas f inodes tells blocks at size bytes = IsContents (file_reading f inodes tells blocks) (at_root at) size bytes

-- the reading of blocks alone, which have these bytes where they are known; no tree is read
abbrev pub blocks_alone : (Ref → Option Places) → Access
blocks_alone blocks = record {
  Tree = Unit {0};
  LeavesOf = λ t leaves. ⊥;
  InodeOf = λ t r i below. ⊥;
  NameOf = λ t r name. ⊥;
  ContentOf = λ t r block. blocks r ≡ Some block;
}

-- What was found for a place of a file with these bytes: the block that has its byte, or a hole. There all 16384 bytes
-- are zeros that the block with the place would have.
abbrev pub IsBlockOf : (Ref → Option Places) → ℕ → List ℕ → ℕ → Option Ref → Type 0
IsBlockOf blocks size bytes start None = (k : ℕ) → k / 16384 ≡ start / 16384 → slice_index bytes k ≡ 0
IsBlockOf blocks size bytes start (Some r) = IsPart (blocks_alone blocks) tt size bytes r × (holds start r ≡ true)

-- The block in which a cut to the size ends: a last one has the bytes up to the size, and zeros behind them. Where none
-- is given, nothing but zeros lies from the size on in that block.
pub record EndsIn (blocks : Ref → Option Places) (size : ℕ) (bytes : List ℕ) (last : Option Ref) : Type 0 where
  pub put : (q : Ref) → last ≡ Some q → (block : Places) × (blocks q ≡ Some block) × ((k : ℕ) → k < 16384 → block k ≡ slice_index (bytes_to bytes size) (q.key + k))
  pub zeros : last ≡ None → (k : ℕ) → cut_block size < size → size ≤ k → k < cut_block size + 16384 → slice_index bytes k ≡ 0

-- What blocks that are put into a file have to do with its bytes before and after. Each of them has the new bytes from
-- its key on; in all other places the bytes stay. The file doesn't shrink.
pub record LinksBytes (blocks : Ref → Option Places) (rs : List Ref) (size : ℕ) (bytes new : List ℕ) : Type 0 where
  pub sized : length new ≡ size
  pub grows : length bytes ≤ size
  pub below : (i : ℕ) (r : Ref) → slice_get rs i ≡ Some r → r.key < size
  pub put : (i : ℕ) (r : Ref) → slice_get rs i ≡ Some r → (block : Places) × (blocks r ≡ Some block) × ((k : ℕ) → k < 16384 → block k ≡ slice_index new (r.key + k))
  pub same : (k : ℕ) → NoneHolds k rs → slice_index new k ≡ slice_index bytes k

-- Of bytes that leave the inode none is lost: the place of each that isn't zero is in one of the blocks. Block 0 has the
-- places of all that may stand in an inode (`written_law`).
abbrev pub CoversBytes : List Ref → List ℕ → Type 0
CoversBytes rs bytes = (k : ℕ) → NoneHolds k rs → slice_index bytes k ≡ 0
