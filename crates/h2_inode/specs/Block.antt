-- The blocks that references of files and directories name: when one passes its reference.
use Rattle.std.specs.Prelude.{◌≡◌, ◌<◌, ◌≤◌, true, ℕ, List, [], length, All, Option, Some, None}
use Rattle.h2_num.specs.Places.{Places}
use Rattle.h2_check.specs.Xxh.{xxh64_of}
use Rattle.h2_ref.specs.declared.reference.Kind.{Kind}
use Rattle.h2_ref.specs.declared.reference.Kind.TheVariants.{Empty, Inode as Inode_kind, Indirect, Content, Dirent as Entry_kind, MapNode, MapLeaf}
use Rattle.h2_ref.specs.declared.reference.Check.TheVariants.{Xx}
use Rattle.h2_ref.specs.declared.reference.Dirent.{Dirent}
use Rattle.h2_ref.specs.declared.reference.Ref.{Ref}
use Rattle.h2_set.specs.Ranges.{lies}
use Rattle.h2_set.specs.SetBytes.{IsSetAt}
use Rattle.h2_dirkey.specs.Key.{IsNameUnder}
use Rattle.h2_dirkey.specs.Block.{NameBytes}
use Rattle.h2_inode.specs.declared.inode.Body.{Body}
use Rattle.h2_inode.specs.declared.inode.Body.TheVariants.{Refs, Bytes}
use Rattle.h2_inode.specs.declared.inode.Inode.{Inode}
use Rattle.h2_inode.specs.Inode.{IsInode, InodeBytes}

-- the first n bytes have the check of the reference
abbrev pub HasCheck : Ref → ℕ → Places → Type 0
HasCheck r n b = r.check ≡ Xx (xxh64_of b n)

-- the block is that of this inode, whose number is the key
pub record IsInodeBlock (r : Ref) (b : Places) (i : Inode) : Type 0 where
  pub kind_is : r.kind ≡ Inode_kind
  pub check_is : HasCheck r 1024 b
  pub inode : IsInode i
  pub bytes : InodeBytes i b
  pub number_is : i.number ≡ r.key

-- an indirect block below another has fewer keybits
abbrev pub Falls : Ref → Ref → Type 0
Falls r s = s.kind ≡ Indirect → s.keybits < r.keybits

-- what an indirect block may hold: at least one reference, all in the range of the one that names the block
pub record IsArranged (r : Ref) (refs : List Ref) : Type 0 where
  pub some : 1 ≤ length refs
  pub inside : All (λ s. lies r.key r.keybits s ≡ true) refs
  pub falls : All (Falls r) refs

-- the block has these references, and may hold them
pub record IsSetBlock (r : Ref) (b : Places) (refs : List Ref) : Type 0 where
  pub kind_is : r.kind ≡ Indirect
  pub check_is : HasCheck r 4096 b
  pub set : IsSetAt 32 refs b
  pub arranged : IsArranged r refs

-- the block has a part of a file's contents, of which the reference says nothing more
pub record IsContentBlock (r : Ref) (b : Places) : Type 0 where
  pub kind_is : r.kind ≡ Content
  pub check_is : HasCheck r 16384 b

-- the length of an entry's name
abbrev pub name_len : Option Dirent → ℕ
name_len None = 0
name_len (Some e) = e.len

-- the bytes are those of this name, which has the entry's length and may stand under the key
pub record IsNameOf (r : Ref) (b : Places) (name : List ℕ) : Type 0 where
  pub len_is : length name ≡ name_len r.dirent
  pub bytes : NameBytes name b
  pub under : IsNameUnder r.key name

-- the block is that of this name
pub record IsNameBlock (r : Ref) (b : Places) (name : List ℕ) : Type 0 where
  pub kind_is : r.kind ≡ Entry_kind
  pub check_is : HasCheck r 1024 b
  pub named : IsNameOf r b name

-- by the kind of the reference: its block has the check and is spelled for it
abbrev pub PassesAs : Kind → Ref → Places → Type 0
PassesAs Empty r b = ⊥
PassesAs Inode_kind r b = (i : Inode) × IsInodeBlock r b i
PassesAs Indirect r b = (refs : List Ref) × IsSetBlock r b refs
PassesAs Content r b = IsContentBlock r b
PassesAs Entry_kind r b = (name : List ℕ) × IsNameBlock r b name
PassesAs MapNode r b = ⊥
PassesAs MapLeaf r b = ⊥

-- the block passes its reference
abbrev pub Passes : Ref → Places → Type 0
Passes r b = PassesAs r.kind r b

-- the references of a body
abbrev pub refs_of_body : Body → List Ref
refs_of_body (Refs s) = s.refs
refs_of_body (Bytes bytes) = []

-- the block passes, and these references stand in it
pub data HoldsRefs (r : Ref) (b : Places) : List Ref → Type 0 where
  by_inode : (i : Inode) → IsInodeBlock r b i → HoldsRefs r b (refs_of_body i.body)
  by_set : (refs : List Ref) → IsSetBlock r b refs → HoldsRefs r b refs
