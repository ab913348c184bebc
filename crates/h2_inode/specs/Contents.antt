-- What a file's tree stands for: its bytes.
use Rattle.std.specs.Prelude.{◌≡◌, ◌<◌, ℕ, ◌+◌, ◌%◌, List, length, slice_index, All, None}
use Rattle.h2_num.specs.Places.{Places}
use Rattle.h2_ref.specs.declared.reference.Kind.TheVariants.{Content}
use Rattle.h2_ref.specs.declared.reference.Ref.{Ref}
use Rattle.h2_set.specs.Ranges.{find}
use Rattle.h2_inode.specs.Access.{Access, HasLeaves}

-- the leaf's block has the 16384 bytes of the file from its key on; past the file's end these are zeros
pub record IsPart (a : Access) (t : a.Tree) (size : ℕ) (bytes : List ℕ) (r : Ref) : Type 0 where
  pub kind_is : r.kind ≡ Content
  pub keybits_are : r.keybits ≡ 14
  pub aligned : r.key % 16384 ≡ 0
  pub below_size : r.key < size
  pub block : Places
  pub read : a.ContentOf t r block
  pub bytes_are : (k : ℕ) → k < 16384 → block k ≡ slice_index bytes (r.key + k)

-- the tree holds the bytes of a file of this size; where no block is, they are zeros
pub record IsContents (a : Access) (t : a.Tree) (size : ℕ) (bytes : List ℕ) : Type 0 where
  pub leaves : List Ref
  pub has : HasLeaves a t leaves
  pub parts : All (IsPart a t size bytes) leaves
  pub holes : (k : ℕ) → find k leaves ≡ None → slice_index bytes k ≡ 0
  pub sized : length bytes ≡ size
