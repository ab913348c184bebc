-- Which blocks of a file a write touches.
use Rattle.std.specs.Prelude.{◌≡◌, ◌⊎◌, ◌↔◌, ◌<◌, ◌≤◌, ◌+◌, ◌*◌, ◌/◌, ℕ, max, true, false, cond}
use Rattle.h2_file.specs.declared.blocks.Touched.{Touched}

-- contents of so many bytes lie in the inode
abbrev pub IsEmbedded : ℕ → Type 0
IsEmbedded size = size ≤ 512

-- a file of so many bytes has some, in its inode
abbrev pub HasEmbeddedText : ℕ → Type 0
HasEmbeddedText size = (0 < size) × IsEmbedded size

-- one of the len bytes from off on lies in the block with this number
abbrev pub Touches : ℕ → ℕ → ℕ → Type 0
Touches off len block = (off < 16384 * (block + 1)) × (16384 * block < off + len)

-- after the write the file still lies in its inode: no block is put
pub record TouchesNone (t : Touched) : Type 0 where
  pub first : t.first ≡ 0
  pub count : t.count ≡ 0
  pub lift : t.lift ≡ false

-- the blocks that the written range touches are count ones from first on, and block 0 is put for the bytes of
-- the inode, where there are some and the range doesn't touch it
pub record TouchesBlocks (size off len : ℕ) (t : Touched) : Type 0 where
  pub first : t.first ≡ off / 16384
  pub blocks : (b : ℕ) → Touches off len b ↔ ((t.first ≤ b) × (b < t.first + t.count))
  pub lift : (t.lift ≡ true) ↔ (HasEmbeddedText size × (Touches off len 0 → ⊥))

-- what a write of len bytes at off touches in a file of size bytes
abbrev pub IsTouched : ℕ → ℕ → ℕ → Touched → Type 0
IsTouched size off len t = (IsEmbedded (max size (off + len)) × TouchesNone t) ⊎ ((IsEmbedded (max size (off + len)) → ⊥) × TouchesBlocks size off len t)

-- how many blocks are put
abbrev pub blocks_of : Touched → ℕ
blocks_of t = t.count + cond t.lift 1 0
