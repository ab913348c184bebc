-- The fields of an inode before its body: what they must be, and which is at fault first.
use Rattle.std.specs.Prelude.{◌≡◌, ◌⊎◌, ◌<◌, ◌≤◌, ℕ, ◌+◌, nat_le, if◌then◌else◌, List, [], length, slice_index}
use Rattle.h2_num.specs.Places.{Places, number_at, ZeroIn}
use Rattle.h2_dirkey.specs.PfsName.{IsPfsName}
use Rattle.h2_inode.specs.declared.kind.InodeKind.{InodeKind}
use Rattle.h2_inode.specs.declared.kind.InodeKind.TheVariants.{Directory, File, Pfs}
use Rattle.h2_inode.specs.declared.fault.InodeFault.{InodeFault}
use Rattle.h2_inode.specs.declared.fault.InodeFault.TheVariants.{Kind, Body, Links, Number, Size, Next, Name, Padding, Reference, Shape}
use Rattle.h2_ref.specs.Ref.{InSpan}
use Rattle.h2_inode.specs.Limits.{limits_of, numbers}

-- the number of the body: a file of at most 512 bytes has its bytes there, every other inode references
abbrev pub body_of : InodeKind → ℕ → ℕ
body_of Directory size = 0
body_of File size = if nat_le size 512 then 1 else 0
body_of Pfs size = 0

-- the name that stands in the bytes
pub record HasName (name : List ℕ) (b : Places) : Type 0 where
  pub len : number_at b 32 2 ≡ length name
  pub bytes : (k : ℕ) → k < length name → b (48 + k) ≡ slice_index name k

-- only a PFS has a name
abbrev pub IsNameOf : InodeKind → List ℕ → Type 0
IsNameOf Directory name = name ≡ []
IsNameOf File name = name ≡ []
IsNameOf Pfs name = IsPfsName name

-- where the zeros begin in the body's half: behind a file's bytes, or nowhere where references stand
abbrev pub zeros_from : InodeKind → ℕ → ℕ
zeros_from Directory size = 1024
zeros_from File size = if nat_le size 512 then 512 + size else 1024
zeros_from Pfs size = 1024

-- The rules in their order, each for bytes that begin with the kind

-- the number of the body is that of the kind at this size
abbrev pub HasBody : InodeKind → Places → Type 0
HasBody kind b = b 1 ≡ body_of kind (number_at b 16 8)

-- the links are as many as the kind may have
abbrev pub HasLinks : InodeKind → Places → Type 0
HasLinks kind b = InSpan (limits_of kind).links (number_at b 4 4)

-- the number is one of an inode or a PFS
abbrev pub HasNumber : Places → Type 0
HasNumber b = InSpan numbers (number_at b 8 8)

-- the size is one that the kind may have
abbrev pub HasSize : InodeKind → Places → Type 0
HasSize kind b = InSpan (limits_of kind).sizes (number_at b 16 8)

-- the next inode number is one that the kind may have
abbrev pub HasNext : InodeKind → Places → Type 0
HasNext kind b = InSpan (limits_of kind).nexts (number_at b 24 8)

-- a name stands there that the kind may have
abbrev pub HasNameOf : InodeKind → Places → Type 0
HasNameOf kind b = (name : List ℕ) × HasName name b × IsNameOf kind name

-- the byte at the place must be zero
abbrev pub MustBeZero : InodeKind → Places → ℕ → Type 0
MustBeZero kind b k =
    ((2 ≤ k) × (k < 4)) ⊎ (((34 ≤ k) × (k < 48)) ⊎ (((48 + number_at b 32 2 ≤ k) × (k < 512)) ⊎ ((zeros_from kind (number_at b 16 8) ≤ k) × (k < 1024))))

-- each of them is
pub record HasZeros (kind : InodeKind) (b : Places) : Type 0 where
  pub before_links : ZeroIn 2 4 b
  pub before_name : ZeroIn 34 48 b
  pub behind_name : ZeroIn (48 + number_at b 32 2) 512 b
  pub behind_bytes : ZeroIn (zeros_from kind (number_at b 16 8)) 1024 b

-- all rules but those on references hold
pub record HeadFits (kind : InodeKind) (name : List ℕ) (b : Places) : Type 0 where
  pub body : HasBody kind b
  pub links : HasLinks kind b
  pub number : HasNumber b
  pub size : HasSize kind b
  pub next : HasNext kind b
  pub named : HasName name b
  pub name_fits : IsNameOf kind name
  pub zeros : HasZeros kind b

-- The first of them that doesn't hold

-- the rules before the links hold
abbrev pub ToLinks : InodeKind → Places → Type 0
ToLinks kind b = HasBody kind b

-- the rules before the number hold
abbrev pub ToNumber : InodeKind → Places → Type 0
ToNumber kind b = ToLinks kind b × HasLinks kind b

-- the rules before the size hold
abbrev pub ToSize : InodeKind → Places → Type 0
ToSize kind b = ToNumber kind b × HasNumber b

-- the rules before the next inode number hold
abbrev pub ToNext : InodeKind → Places → Type 0
ToNext kind b = ToSize kind b × HasSize kind b

-- the rules before the name hold
abbrev pub ToName : InodeKind → Places → Type 0
ToName kind b = ToNext kind b × HasNext kind b

-- the rules before the zeros hold
abbrev pub ToPadding : InodeKind → Places → Type 0
ToPadding kind b = ToName kind b × HasNameOf kind b

-- the first place that must be zero and isn't
pub record IsFirstPadding (kind : InodeKind) (b : Places) (at : ℕ) : Type 0 where
  pub here : MustBeZero kind b at
  pub nonzero : 0 < b at
  pub first : (k : ℕ) → k < at → MustBeZero kind b k → b k ≡ 0

-- what is at fault first in bytes that begin with the kind, but for references
abbrev pub IsHeadFault : InodeKind → Places → InodeFault → Type 0
IsHeadFault kind b (Kind n) = ⊥
IsHeadFault kind b Body = HasBody kind b → ⊥
IsHeadFault kind b (Links n) = ToLinks kind b × (HasLinks kind b → ⊥) × (n ≡ number_at b 4 4)
IsHeadFault kind b Number = ToNumber kind b × (HasNumber b → ⊥)
IsHeadFault kind b (Size n) = ToSize kind b × (HasSize kind b → ⊥) × (n ≡ number_at b 16 8)
IsHeadFault kind b Next = ToNext kind b × (HasNext kind b → ⊥)
IsHeadFault kind b Name = ToName kind b × (HasNameOf kind b → ⊥)
IsHeadFault kind b (Padding at) = ToPadding kind b × IsFirstPadding kind b at
IsHeadFault kind b (Reference at fault) = ⊥
IsHeadFault kind b Shape = ⊥
