-- Which refusal 1024 bytes that are no inode meet: the first of the order.
use Rattle.std.specs.Prelude.{◌≡◌, ◌<◌, ℕ, ◌+◌, List}
use Rattle.h2_num.specs.Places.{Places, number_at, from_place}
use Rattle.h2_ref.specs.declared.reference.Ref.{Ref}
use Rattle.h2_set.specs.declared.set_decoding.SetFault.{SetFault}
use Rattle.h2_set.specs.declared.set_decoding.SetFault.TheVariants.{Reference as RefusedRef, Shape as Unshaped}
use Rattle.h2_set.specs.SetBytes.{SetBytes, AreRefs, IsRefused}
use Rattle.h2_inode.specs.declared.kind.InodeKind.{InodeKind}
use Rattle.h2_inode.specs.declared.fault.InodeFault.{InodeFault}
use Rattle.h2_inode.specs.declared.fault.InodeFault.TheVariants.{Kind, Reference, Shape}
use Rattle.h2_inode.specs.Kind.{kind_byte}
use Rattle.h2_inode.specs.Head.{HeadFits, IsHeadFault, body_of}
use Rattle.h2_inode.specs.Inode.{IsRootSet}

-- what is at fault first in the 512 bytes of references: one of them, or that they aren't those of the kind
abbrev pub IsRefsFault : InodeKind → ℕ → Places → InodeFault → Type 0
IsRefsFault kind size c (Reference at fault) = (n : ℕ) × (at ≡ 512 + n) × IsRefused 4 c (RefusedRef n fault)
IsRefsFault kind size c Shape = AreRefs 4 c × ((refs : List Ref) → IsRootSet kind size refs → SetBytes 4 refs c → ⊥)
IsRefsFault kind size c f = ⊥

-- all rules hold but those on references, which the body has
pub record HasRefs (kind : InodeKind) (b : Places) : Type 0 where
  pub name : List ℕ
  pub head : HeadFits kind name b
  pub refs : body_of kind (number_at b 16 8) ≡ 0

-- what is at fault first in bytes that begin with the kind
abbrev pub IsFaultFor : InodeKind → Places → InodeFault → Type 0
IsFaultFor kind b (Reference at fault) = HasRefs kind b × IsRefsFault kind (number_at b 16 8) (from_place b 512) (Reference at fault)
IsFaultFor kind b Shape = HasRefs kind b × IsRefsFault kind (number_at b 16 8) (from_place b 512) Shape
IsFaultFor kind b f = IsHeadFault kind b f

-- what is at fault first
abbrev pub IsFaultOf : Places → InodeFault → Type 0
IsFaultOf b (Kind n) = (n ≡ b 0) × ((kind : InodeKind) → n ≡ kind_byte kind → ⊥)
IsFaultOf b f = (kind : InodeKind) × (b 0 ≡ kind_byte kind) × IsFaultFor kind b f

-- a fault of the set in the body, as one of the block
abbrev pub in_body : SetFault → InodeFault
in_body (RefusedRef at fault) = Reference (512 + at) fault
in_body Unshaped = Shape

-- it lies in the body
abbrev pub LiesInBody : SetFault → Type 0
LiesInBody (RefusedRef at fault) = at < 512
LiesInBody Unshaped = Unit {0}
