-- A block has one first cause at most.
use Rattle.std.specs.Prelude.{◌≡◌, ℕ, ◌+◌, refl}
use Rattle.std.proofs.Common.{ap, sym, ◌∙◌, arith, subst, inl, inr}
use Rattle.h2_num.specs.Places.{Places, from_place}
use Rattle.h2_ref.specs.declared.faults.RefFault.{RefFault}
use Rattle.h2_ref.specs.declared.faults.Why.{Why}
use Rattle.h2_ref.specs.declared.faults.Why.TheVariants.{Reference as Bad_ref, Inode as No_inode, Shape as No_shape}
use Rattle.h2_ref.specs.declared.reference.Kind.{Kind as RefKind}
use Rattle.h2_ref.specs.declared.reference.Kind.TheVariants.{Empty, Inode as Inode_kind, Indirect, Content, Dirent as Entry_kind, MapNode, MapLeaf}
use Rattle.h2_ref.specs.declared.reference.Ref.{Ref}
use Rattle.h2_set.specs.declared.set_decoding.SetFault.TheVariants.{Reference as Set_ref}
use Rattle.h2_inode.specs.declared.kind.InodeKind.{InodeKind}
use Rattle.h2_inode.specs.declared.fault.InodeFault.{InodeFault}
use Rattle.h2_inode.specs.declared.fault.InodeFault.TheVariants.{Kind, Body, Links, Number, Size, Next, Name, Padding, Reference, Shape}
use Rattle.h2_inode.specs.Kind.{kind_byte}
use Rattle.h2_set.specs.SetBytes.{AreRefs, IsRefused}
use Rattle.h2_inode.specs.Head.{HasZeros, MustBeZero, IsHeadFault}
use Rattle.h2_inode.specs.Fault.{IsFaultOf, HasRefs}
use Rattle.h2_inode.specs.FaultLaws.{kinds_same, fault_refuses}
use Rattle.h2_inode.specs.Cause.{why_of, why_of_set, IsInodeCause, IsSetCause, IsNameCause, IsSpellingCause, IsCauseOf}
use Rattle.h2_inode.specs.Cause.IsInodeCause.{no_inode, other_number}
use Rattle.h2_inode.specs.Cause.IsSetCause.{no_set, unarranged}
use Rattle.h2_inode.specs.Cause.IsNameCause.{no_name}
use Rattle.h2_inode.specs.Cause.IsCauseOf.{other_check, misspelled}
use Rattle.h2_set.specs.SetFaultLaws.{no_set_fault, refused_one, none_refused, set_fault_one}

-- Inodes

-- what must be zero is
pub zero_there : (kind : InodeKind) (b : Places) (k : ℕ) → HasZeros kind b → MustBeZero kind b k → b k ≡ 0
zero_there kind b k h (inl gap) = h.before_links k gap.0 gap.1
zero_there kind b k h (inr (inl gap)) = h.before_name k gap.0 gap.1
zero_there kind b k h (inr (inr (inl gap))) = h.behind_name k gap.0 gap.1
zero_there kind b k h (inr (inr (inr gap))) = h.behind_bytes k gap.0 gap.1

-- where the rules before the references hold, none of them is at fault
no_head_fault : (kind : InodeKind) (b : Places) (f : InodeFault) → HasRefs kind b → IsHeadFault kind b f → ⊥
no_head_fault kind b (Kind n) h fault = fault
no_head_fault kind b Body h fault = fault h.head.body
no_head_fault kind b (Links n) h fault = fault.1 h.head.links
no_head_fault kind b Number h fault = fault.1 h.head.number
no_head_fault kind b (Size n) h fault = fault.1 h.head.size
no_head_fault kind b Next h fault = fault.1 h.head.next
no_head_fault kind b Name h fault = fault.1 (h.name, h.head.named, h.head.name_fits)
no_head_fault kind b (Padding at) h fault = let zero_is : b at ≡ 0 = zero_there kind b at h.head.zeros fault.1.here in let more = fault.1.nonzero in omega arith
no_head_fault kind b (Reference at f) h fault = fault
no_head_fault kind b Shape h fault = fault

-- bytes of a kind whose rules before the references hold
abbrev pub ToRefs : Places → Type 0
ToRefs b = (kind : InodeKind) × (b 0 ≡ kind_byte kind) × HasRefs kind b

-- what a fault tells: the rules before the references don't hold, or a reference is refused, or none is
pub data Tells (b : Places) : Why → Type 0 where
  of_head : (ToRefs b → ⊥) → Tells b No_inode
  of_ref : (n : ℕ) (f : RefFault) → ToRefs b → IsRefused 4 (from_place b 512) (Set_ref n f) → Tells b (Bad_ref (512 + n) f)
  of_shape : ToRefs b → AreRefs 4 (from_place b 512) → Tells b No_shape

head_tells : (b : Places) (f : InodeFault) (kind : InodeKind) → b 0 ≡ kind_byte kind → IsHeadFault kind b f → Tells b No_inode
head_tells b f kind is fault = of_head (λ refs. no_head_fault kind b f (subst (λ k. HasRefs k b) (kinds_same refs.0 kind (sym refs.1 ∙ is)) refs.2) fault)

tells : (b : Places) (f : InodeFault) → IsFaultOf b f → Tells b (why_of f)
tells b (Kind n) h = of_head (λ refs. h.1 refs.0 (h.0 ∙ refs.1))
tells b Body h = head_tells b Body h.0 h.1 h.2
tells b (Links n) h = head_tells b (Links n) h.0 h.1 h.2
tells b Number h = head_tells b Number h.0 h.1 h.2
tells b (Size n) h = head_tells b (Size n) h.0 h.1 h.2
tells b Next h = head_tells b Next h.0 h.1 h.2
tells b Name h = head_tells b Name h.0 h.1 h.2
tells b (Padding at) h = head_tells b (Padding at) h.0 h.1 h.2
tells b (Reference at f) (kind, is, (refs, (n, place, refused))) = subst (λ x. Tells b (Bad_ref x f)) (sym place) (of_ref n f (kind, is, refs) refused)
tells b Shape (kind, is, (refs, (decoded, nothing))) = of_shape (kind, is, refs) decoded

tells_one : (b : Places) (v w : Why) → Tells b v → Tells b w → w ≡ v
tells_one b v w (of_head none) (of_head other) = refl
tells_one b v w (of_head none) (of_ref n f refs refused) = absurd (none refs)
tells_one b v w (of_head none) (of_shape refs decoded) = absurd (none refs)
tells_one b v w (of_ref n f refs refused) (of_head none) = absurd (none refs)
tells_one b v w (of_ref n f refs refused) (of_ref m g others there) =
    let e = refused_one 4 (from_place b 512) n m f g refused there in
    ap (λ x. Bad_ref (512 + x) g) e.0 ∙ ap (Bad_ref (512 + n)) e.1
tells_one b v w (of_ref n f refs refused) (of_shape others decoded) = absurd (none_refused 4 (from_place b 512) n f decoded refused)
tells_one b v w (of_shape refs decoded) (of_head none) = absurd (none refs)
tells_one b v w (of_shape refs decoded) (of_ref n f others refused) = absurd (none_refused 4 (from_place b 512) n f decoded refused)
tells_one b v w (of_shape refs decoded) (of_shape others there) = refl

inode_cause_one : (number : ℕ) (b : Places) (v w : Why) → IsInodeCause number b v → IsInodeCause number b w → w ≡ v
inode_cause_one number b v w (no_inode f h) (no_inode g k) = tells_one b (why_of f) (why_of g) (tells b f h) (tells b g k)
inode_cause_one number b v w (no_inode f h) (other_number i rules bytes isnt) = absurd (fault_refuses b f h i rules bytes)
inode_cause_one number b v w (other_number i rules bytes isnt) (no_inode f h) = absurd (fault_refuses b f h i rules bytes)
inode_cause_one number b v w (other_number i rules bytes isnt) (other_number j laws there differs) = refl

-- Sets

set_cause_one : (r : Ref) (b : Places) (v w : Why) → IsSetCause r b v → IsSetCause r b w → w ≡ v
set_cause_one r b v w (no_set f h) (no_set g k) = ap why_of_set (set_fault_one 32 b f g h k)
set_cause_one r b v w (no_set f h) (unarranged refs there isnt) = absurd (no_set_fault 32 refs b f there h)
set_cause_one r b v w (unarranged refs there isnt) (no_set f h) = absurd (no_set_fault 32 refs b f there h)
set_cause_one r b v w (unarranged refs there isnt) (unarranged others here differs) = refl

name_cause_one : (r : Ref) (b : Places) (v w : Why) → IsNameCause r b v → IsNameCause r b w → w ≡ v
name_cause_one r b v w (no_name none) (no_name other) = refl

-- Blocks

spelling_cause_one : (k : RefKind) (r : Ref) (b : Places) (v w : Why) → IsSpellingCause k r b v → IsSpellingCause k r b w → w ≡ v
spelling_cause_one Empty r b v w h g = absurd h
spelling_cause_one Inode_kind r b v w h g = inode_cause_one r.key b v w h g
spelling_cause_one Indirect r b v w h g = set_cause_one r b v w h g
spelling_cause_one Content r b v w h g = absurd h
spelling_cause_one Entry_kind r b v w h g = name_cause_one r b v w h g
spelling_cause_one MapNode r b v w h g = absurd h
spelling_cause_one MapLeaf r b v w h g = absurd h

-- a block has one cause at most
pub cause_one : (r : Ref) (b : Places) (v w : Why) → IsCauseOf r b v → IsCauseOf r b w → w ≡ v
cause_one r b v w (other_check lacks) (other_check lacks_too) = refl
cause_one r b v w (other_check lacks) (misspelled why check cause) = absurd (lacks check)
cause_one r b v w (misspelled why check cause) (other_check lacks) = absurd (lacks check)
cause_one r b v w (misspelled why check cause) (misspelled other there found) = spelling_cause_one r.kind r b why other cause found
