-- Inodes, and their 1024 bytes.
use Rattle.std.specs.Prelude.{◌≡◌, ◌⊎◌, ◌<◌, ◌≤◌, ℕ, ◌+◌, ◌^◌, List, length, slice_index, All}
use Rattle.h2_num.specs.Places.{Places, places, number_at, from_place, ZeroIn}
use Rattle.h2_ref.specs.declared.reference.Kind.TheVariants.{Inode as Inode_kind, Indirect, Content, Dirent}
use Rattle.h2_ref.specs.declared.reference.Ref.{Ref}
use Rattle.h2_set.specs.Ranges.{Rising}
use Rattle.h2_set.specs.SetBytes.{IsHeld, SetBytes}
use Rattle.h2_inode.specs.declared.kind.InodeKind.{InodeKind}
use Rattle.h2_inode.specs.declared.kind.InodeKind.TheVariants.{Directory, File, Pfs}
use Rattle.h2_inode.specs.declared.inode.Body.{Body}
use Rattle.h2_inode.specs.declared.inode.Body.TheVariants.{Refs, Bytes}
use Rattle.h2_inode.specs.declared.inode.Inode.{Inode}
use Rattle.h2_inode.specs.Kind.{kind_byte}
use Rattle.h2_ref.specs.Ref.{InSpan}
use Rattle.h2_inode.specs.Limits.{limits_of, numbers}
use Rattle.h2_inode.specs.Head.{body_of, HasName, IsNameOf}

-- Which references an inode's tree may hold

-- the least key of the trees of a kind
abbrev pub keys_from : InodeKind → ℕ
keys_from Directory = 2 ^ 63
keys_from File = 0
keys_from Pfs = 0

-- where the keys of the trees of a kind end
abbrev pub keys_end : InodeKind → ℕ
keys_end Directory = 2 ^ 64
keys_end File = 2 ^ 62
keys_end Pfs = 2 ^ 62

-- a directory has entries, a file contents below its size, a PFS inodes
abbrev pub IsLeafOf : InodeKind → ℕ → Ref → Type 0
IsLeafOf Directory size r = r.kind ≡ Dirent
IsLeafOf File size r = (r.kind ≡ Content) × (r.key < size)
IsLeafOf Pfs size r = r.kind ≡ Inode_kind

-- the tree of an inode of this kind and size may hold the reference
pub record IsPartOf (kind : InodeKind) (size : ℕ) (r : Ref) : Type 0 where
  pub part : (r.kind ≡ Indirect) ⊎ IsLeafOf kind size r
  pub key_low : keys_from kind ≤ r.key
  pub key_high : r.key < keys_end kind

-- the references of an inode's body
pub record IsRootSet (kind : InodeKind) (size : ℕ) (refs : List Ref) : Type 0 where
  pub held : All IsHeld refs
  pub rising : Rising 0 (2 ^ 64) refs
  pub parts : All (IsPartOf kind size) refs

-- Inodes

-- the body is one that the kind has at this size: references, or a file's bytes and then zeros
abbrev pub BodyFits : InodeKind → ℕ → Body → Type 0
BodyFits kind size (Refs s) = (body_of kind size ≡ 0) × (s.capacity ≡ 4) × IsRootSet kind size s.refs
BodyFits kind size (Bytes bytes) = (body_of kind size ≡ 1) × (length bytes ≡ 512) × ZeroIn size 512 (places bytes)

-- what each inode is
pub record IsInode (i : Inode) : Type 0 where
  pub links_fit : InSpan (limits_of i.kind).links i.links
  pub number_fits : InSpan numbers i.number
  pub size_fits : InSpan (limits_of i.kind).sizes i.size
  pub next_fits : InSpan (limits_of i.kind).nexts i.next
  pub name_fits : IsNameOf i.kind i.name
  pub body_fits : BodyFits i.kind i.size i.body

-- the body has 512 bytes
abbrev pub IsStorable : Body → Type 0
IsStorable (Refs s) = (s.capacity ≡ 4) × All IsHeld s.refs
IsStorable (Bytes bytes) = length bytes ≡ 512

-- the number of a body
abbrev pub body_byte : Body → ℕ
body_byte (Refs s) = 0
body_byte (Bytes bytes) = 1

-- the 512 bytes of a body
abbrev pub BodyBytes : Body → Places → Type 0
BodyBytes (Refs s) b = SetBytes 4 s.refs b
BodyBytes (Bytes bytes) b = (k : ℕ) → k < 512 → b k ≡ slice_index bytes k

-- a clause for each field, and one for each gap
pub record InodeBytes (i : Inode) (b : Places) : Type 0 where
  pub kind_at : b 0 ≡ kind_byte i.kind
  pub body_at : b 1 ≡ body_byte i.body
  pub before_links : ZeroIn 2 4 b
  pub links_at : number_at b 4 4 ≡ i.links
  pub number_at_8 : number_at b 8 8 ≡ i.number
  pub size_at : number_at b 16 8 ≡ i.size
  pub next_at : number_at b 24 8 ≡ i.next
  pub name_at : HasName i.name b
  pub before_name : ZeroIn 34 48 b
  pub behind_name : ZeroIn (48 + length i.name) 512 b
  pub contents : BodyBytes i.body (from_place b 512)

-- these bytes spell no inode
abbrev pub NoInode : Places → Type 0
NoInode b = (i : Inode) → IsInode i → InodeBytes i b → ⊥
