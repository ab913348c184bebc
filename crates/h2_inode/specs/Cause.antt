-- Why a block doesn't pass the reference that names it: the first cause.
use Rattle.std.specs.Prelude.{◌≡◌, ℕ, List}
use Rattle.h2_num.specs.Places.{Places}
use Rattle.h2_check.specs.Xxh.{xxh64_of}
use Rattle.h2_ref.specs.declared.faults.Why.{Why}
use Rattle.h2_ref.specs.declared.faults.Why.TheVariants.{Check as Other_check, Reference as Bad_ref, Inode as No_inode, Name as No_name, Shape as No_shape}
use Rattle.h2_ref.specs.declared.reference.Kind.{Kind}
use Rattle.h2_ref.specs.declared.reference.Kind.TheVariants.{Empty, Inode as Inode_kind, Indirect, Content, Dirent as Entry_kind, MapNode, MapLeaf}
use Rattle.h2_ref.specs.declared.reference.Check.TheVariants.{Xx}
use Rattle.h2_ref.specs.declared.reference.Ref.{Ref}
use Rattle.h2_ref.specs.Ref.{size_of}
use Rattle.h2_set.specs.declared.set_decoding.SetFault.{SetFault}
use Rattle.h2_set.specs.declared.set_decoding.SetFault.TheVariants.{Reference as Set_ref, Shape as Set_shape}
use Rattle.h2_inode.specs.declared.fault.InodeFault.{InodeFault}
use Rattle.h2_inode.specs.declared.fault.InodeFault.TheVariants.{Kind as Bad_kind, Body, Links, Number, Size, Next, Name, Padding, Reference, Shape}
use Rattle.h2_inode.specs.declared.inode.Inode.{Inode}
use Rattle.h2_set.specs.SetBytes.{IsSetAt, IsFaultOf as IsSetFaultOf}
use Rattle.h2_inode.specs.Inode.{IsInode, InodeBytes}
use Rattle.h2_inode.specs.Fault.{IsFaultOf}
use Rattle.h2_inode.specs.Block.{HasCheck, IsArranged, IsNameOf}

-- a fault of an inode's bytes, as one of the block: references are told, and all else is that it is no inode
abbrev pub why_of : InodeFault → Why
why_of (Bad_kind n) = No_inode
why_of Body = No_inode
why_of (Links n) = No_inode
why_of Number = No_inode
why_of (Size n) = No_inode
why_of Next = No_inode
why_of Name = No_inode
why_of (Padding at) = No_inode
why_of (Reference at fault) = Bad_ref at fault
why_of Shape = No_shape

-- a fault of a set's bytes, as one of the block
abbrev pub why_of_set : SetFault → Why
why_of_set (Set_ref at fault) = Bad_ref at fault
why_of_set Set_shape = No_shape

-- why 1024 bytes aren't the inode with the number: they are none, or have another number
pub data IsInodeCause (number : ℕ) (b : Places) : Why → Type 0 where
  no_inode : (fault : InodeFault) → IsFaultOf b fault → IsInodeCause number b (why_of fault)
  other_number : (i : Inode) → IsInode i → InodeBytes i b → (i.number ≡ number → ⊥) → IsInodeCause number b No_inode

-- why 4096 bytes aren't references that may stand there: they are no set, or the block may not hold them
pub data IsSetCause (r : Ref) (b : Places) : Why → Type 0 where
  no_set : (fault : SetFault) → IsSetFaultOf 32 b fault → IsSetCause r b (why_of_set fault)
  unarranged : (refs : List Ref) → IsSetAt 32 refs b → (IsArranged r refs → ⊥) → IsSetCause r b No_shape

-- why 1024 bytes aren't the entry's name: they are no name of its length that may stand under the key
pub data IsNameCause (r : Ref) (b : Places) : Why → Type 0 where
  no_name : ((name : List ℕ) → IsNameOf r b name → ⊥) → IsNameCause r b No_name

-- by the kind of the reference: why the block isn't spelled for it
abbrev pub IsSpellingCause : Kind → Ref → Places → Why → Type 0
IsSpellingCause Empty r b why = ⊥
IsSpellingCause Inode_kind r b why = IsInodeCause r.key b why
IsSpellingCause Indirect r b why = IsSetCause r b why
IsSpellingCause Content r b why = ⊥
IsSpellingCause Entry_kind r b why = IsNameCause r b why
IsSpellingCause MapNode r b why = ⊥
IsSpellingCause MapLeaf r b why = ⊥

-- why the block doesn't pass: it has another check, or has this one and isn't spelled for the reference
pub data IsCauseOf (r : Ref) (b : Places) : Why → Type 0 where
  other_check : (HasCheck r (size_of r) b → ⊥) → IsCauseOf r b (Other_check r.check (Xx (xxh64_of b (size_of r))))
  misspelled : (why : Why) → HasCheck r (size_of r) b → IsSpellingCause r.kind r b why → IsCauseOf r b why
