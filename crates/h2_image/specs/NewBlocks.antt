-- What the inodes of a new volume spell: its root directory and the PFS `ROOT`.
use Rattle.std.specs.Prelude.{◌≡◌, ℕ, ◌+◌, List, [], length, codes}
use Rattle.h2_num.specs.Places.{Places, number_at, from_place, ZeroIn, Holds}
use Rattle.h2_ref.specs.declared.reference.Ref.{Ref}
use Rattle.h2_ref.specs.Ref.{RefBytes}

-- the first 512 bytes of an inode's block: an inode with a body of references, one link and no size
pub record InodeHead (kind number next : ℕ) (name : List ℕ) (b : Places) : Type 0 where
  pub kind_is : b 0 ≡ kind
  pub body : b 1 ≡ 0
  pub after_body : ZeroIn 2 4 b
  pub links : number_at b 4 4 ≡ 1
  pub number_is : number_at b 8 8 ≡ number
  pub size : number_at b 16 8 ≡ 0
  pub next_is : number_at b 24 8 ≡ next
  pub name_length : number_at b 32 2 ≡ length name
  pub after_length : ZeroIn 34 48 b
  pub name_is : Holds 48 name b
  pub after_name : ZeroIn (48 + length name) 512 b

-- the root directory: inode 1, kind 1, with no entries: four empty references, which are zeros
pub record RootDirectoryBytes (b : Places) : Type 0 where
  pub head : InodeHead 1 1 0 [] b
  pub no_entries : ZeroIn 512 1024 b

-- the PFS `ROOT`: kind 3, id 1, next inode number 2, with one inode, that of its root directory
pub record RootPfsBytes (directory : Ref) (b : Places) : Type 0 where
  pub head : InodeHead 3 1 2 (codes "ROOT") b
  pub directory_is : RefBytes directory (from_place b 512)
  pub no_more : ZeroIn 640 1024 b
