-- A block that doesn't pass for a cause doesn't pass at all.
use Rattle.std.specs.Prelude.{◌≡◌, ◌<◌, ℕ, zero, suc, ◌^◌, ◌==◌, if◌then◌else◌, List}
use Rattle.std.proofs.Common.{ap, sym, ◌∙◌, arith, subst}
use Rattle.h2_num.specs.Places.{Places}
use Rattle.h2_ref.specs.declared.faults.Why.{Why}
use Rattle.h2_ref.specs.declared.reference.Kind.{Kind}
use Rattle.h2_ref.specs.declared.reference.Kind.TheVariants.{Empty, Inode as Inode_kind, Indirect, Content, Dirent as Entry_kind, MapNode, MapLeaf}
use Rattle.h2_ref.specs.declared.reference.Ref.{Ref}
use Rattle.h2_ref.specs.Ref.{IsValid, FitsRow, method_number, size_of}
use Rattle.h2_ref.specs.Table.{row_of}
use Rattle.h2_inode.specs.declared.inode.Inode.{Inode}
use Rattle.h2_set.specs.SetBytes.{IsSetAt}
use Rattle.h2_set.specs.SetBytesLaws.{set_one}
use Rattle.h2_set.specs.SetFaultLaws.{no_set_fault}
use Rattle.h2_inode.specs.Inode.{IsInode, InodeBytes}
use Rattle.h2_inode.specs.FaultLaws.{fault_refuses}
use Rattle.h2_inode.specs.Block.{HasCheck, IsArranged, IsNameOf, PassesAs, Passes}
use Rattle.h2_inode.specs.Cause.{IsInodeCause, IsSetCause, IsNameCause, IsSpellingCause, IsCauseOf}
use Rattle.h2_inode.specs.Cause.IsInodeCause.{no_inode, other_number}
use Rattle.h2_inode.specs.Cause.IsSetCause.{no_set, unarranged}
use Rattle.h2_inode.specs.Cause.IsNameCause.{no_name}
use Rattle.h2_inode.specs.Cause.IsCauseOf.{other_check, misspelled}

-- how many bytes the block of a kind has
abbrev pub block_bytes : Kind → ℕ
block_bytes Empty = 0
block_bytes Inode_kind = 1024
block_bytes Indirect = 4096
block_bytes Content = 16384
block_bytes Entry_kind = 1024
block_bytes MapNode = 1024
block_bytes MapLeaf = 1024

-- the size of a block is told by its radix
sized : (r : Ref) (n : ℕ) → r.radix ≡ n → size_of r ≡ (if n == 0 then 0 else 2 ^ n)
sized r n e = ap (λ k. if k == 0 then 0 else 2 ^ k) e

row_size : (k : Kind) (m : ℕ) (r : Ref) → 0 < r.radix → FitsRow (row_of k m) r → size_of r ≡ block_bytes k
row_size Empty m r pos h = let e : r.radix ≡ 0 = h.radix in absurd (omega arith)
row_size Inode_kind m r pos h = sized r 10 h.radix
row_size Indirect m r pos h = sized r 12 h.radix
row_size Content m r pos h = sized r 14 h.radix
row_size Entry_kind zero r pos h = let e : r.radix ≡ 0 = h.radix in absurd (omega arith)
row_size Entry_kind (suc m) r pos h = sized r 10 h.radix
row_size MapNode m r pos h = sized r 10 h.radix
row_size MapLeaf m r pos h = sized r 10 h.radix

-- a valid reference that has a block has one of its kind's size
pub valid_size : (r : Ref) → IsValid r → 0 < r.radix → size_of r ≡ block_bytes r.kind
valid_size r h pos = row_size r.kind (method_number r.check) r pos h

-- bytes that pass have the check
has_check_as : (k : Kind) (r : Ref) (b : Places) → PassesAs k r b → HasCheck r (block_bytes k) b
has_check_as Empty r b p = absurd p
has_check_as Inode_kind r b p = p.1.check_is
has_check_as Indirect r b p = p.1.check_is
has_check_as Content r b p = p.check_is
has_check_as Entry_kind r b p = p.1.check_is
has_check_as MapNode r b p = absurd p
has_check_as MapLeaf r b p = absurd p

-- an inode's bytes have one number
no_inode_there : (number : ℕ) (b : Places) (why : Why) (i : Inode) → IsInode i → InodeBytes i b → i.number ≡ number → IsInodeCause number b why → ⊥
no_inode_there number b why i rules bytes is (no_inode fault h) = fault_refuses b fault h i rules bytes
no_inode_there number b why i rules bytes is (other_number other h there isnt) = isnt (sym there.number_at_8 ∙ bytes.number_at_8 ∙ is)

no_set_there : (r : Ref) (b : Places) (why : Why) (refs : List Ref) → IsSetAt 32 refs b → IsArranged r refs → IsSetCause r b why → ⊥
no_set_there r b why refs set arranged (no_set fault h) = no_set_fault 32 refs b fault set h
no_set_there r b why refs set arranged (unarranged others there isnt) = isnt (subst (IsArranged r) (set_one 32 others refs b there set) arranged)

no_name_there : (r : Ref) (b : Places) (why : Why) (name : List ℕ) → IsNameOf r b name → IsNameCause r b why → ⊥
no_name_there r b why name there (no_name none) = none name there

-- bytes that pass are spelled
spelled_as : (k : Kind) (r : Ref) (b : Places) (why : Why) → PassesAs k r b → IsSpellingCause k r b why → ⊥
spelled_as Empty r b why p h = h
spelled_as Inode_kind r b why p h = no_inode_there r.key b why p.0 p.1.inode p.1.bytes p.1.number_is h
spelled_as Indirect r b why p h = no_set_there r b why p.0 p.1.set p.1.arranged h
spelled_as Content r b why p h = h
spelled_as Entry_kind r b why p h = no_name_there r b why p.0 p.1.named h
spelled_as MapNode r b why p h = h
spelled_as MapLeaf r b why p h = h

-- a block with a cause doesn't pass
pub cause_refuses : (r : Ref) (b : Places) (why : Why) → IsValid r → 0 < r.radix → IsCauseOf r b why → Passes r b → ⊥
cause_refuses r b why h pos (other_check lacks) p = lacks (subst (λ n. HasCheck r n b) (sym (valid_size r h pos)) (has_check_as r.kind r b p))
cause_refuses r b why h pos (misspelled w check cause) p = spelled_as r.kind r b why p cause
