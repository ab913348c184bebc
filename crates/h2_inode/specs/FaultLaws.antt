-- Bytes that meet a refusal spell no inode.
use Rattle.std.specs.Prelude.{◌≡◌, ◌<◌, ◌≤◌, ℕ, ◌+◌, ◌-◌, nat_le, if◌then◌else◌, Bool, true, false, refl}
use Rattle.std.proofs.Common.{ap, sym, ◌∙◌, arith, inl, inr, subst}
use Rattle.std.proofs.lemmas.Option.{none-some}
use Rattle.h2_num.specs.Places.{Places, from_place}
use Rattle.h2_set.specs.SetBytesLaws.{set_decoded}
use Rattle.h2_inode.specs.declared.kind.InodeKind.{InodeKind}
use Rattle.h2_inode.specs.declared.kind.InodeKind.TheVariants.{Directory, File, Pfs}
use Rattle.h2_inode.specs.declared.inode.Body.{Body}
use Rattle.h2_inode.specs.declared.inode.Body.TheVariants.{Refs, Bytes}
use Rattle.h2_inode.specs.declared.inode.Inode.{Inode}
use Rattle.h2_inode.specs.declared.fault.InodeFault.{InodeFault}
use Rattle.h2_inode.specs.declared.fault.InodeFault.TheVariants.{Kind, Body as BadBody, Links, Number, Size, Next, Name, Padding, Reference, Shape}
use Rattle.h2_inode.specs.Kind.{kind_byte}
use Rattle.h2_ref.specs.Ref.{InSpan}
use Rattle.h2_inode.specs.Limits.{limits_of, numbers}
use Rattle.h2_inode.specs.Head.{body_of, zeros_from, MustBeZero}
use Rattle.h2_inode.specs.Inode.{BodyFits, BodyBytes, body_byte, IsInode, InodeBytes, NoInode}
use Rattle.h2_inode.specs.Fault.{IsFaultOf, IsFaultFor, IsRefsFault}

-- a kind is known by its number
pub kinds_same : (k l : InodeKind) → kind_byte k ≡ kind_byte l → k ≡ l
kinds_same Directory Directory e = refl
kinds_same Directory File e = absurd (omega arith)
kinds_same Directory Pfs e = absurd (omega arith)
kinds_same File Directory e = absurd (omega arith)
kinds_same File File e = refl
kinds_same File Pfs e = absurd (omega arith)
kinds_same Pfs Directory e = absurd (omega arith)
kinds_same Pfs File e = absurd (omega arith)
kinds_same Pfs Pfs e = refl

-- a body that fits has the number of the kind and size
body_number : (kind : InodeKind) (size : ℕ) (body : Body) → BodyFits kind size body → body_of kind size ≡ body_byte body
body_number kind size (Refs s) h = h.0
body_number kind size (Bytes bytes) h = h.0

-- the number of the body, by whether bytes stand there
abbrev number_if : Bool → ℕ
number_if t = if t then 1 else 0

-- where the zeros begin in the body, by whether bytes stand there
abbrev from_if : Bool → ℕ → ℕ
from_if t size = if t then 512 + size else 1024

choice_zero : (t : Bool) (size : ℕ) → number_if t ≡ 0 → from_if t size ≡ 1024
choice_zero true size e = absurd (omega arith)
choice_zero false size e = refl

choice_one : (t : Bool) (size : ℕ) → number_if t ≡ 1 → from_if t size ≡ 512 + size
choice_one true size e = refl
choice_one false size e = absurd (omega arith)

no_zeros : (kind : InodeKind) (size : ℕ) → body_of kind size ≡ 0 → zeros_from kind size ≡ 1024
no_zeros Directory size e = refl
no_zeros File size e = choice_zero (nat_le size 512) size e
no_zeros Pfs size e = refl

some_zeros : (kind : InodeKind) (size : ℕ) → body_of kind size ≡ 1 → zeros_from kind size ≡ 512 + size
some_zeros Directory size e = absurd (omega arith)
some_zeros File size e = choice_one (nat_le size 512) size e
some_zeros Pfs size e = absurd (omega arith)

-- zeros end the block
zeros_end : (kind : InodeKind) (size : ℕ) (body : Body) (b : Places) → BodyFits kind size body → BodyBytes body (from_place b 512) → (k : ℕ) → zeros_from kind size ≤ k → k < 1024 → b k ≡ 0
zeros_end kind size (Refs s) b h bytes k ge lt = let all : zeros_from kind size ≡ 1024 = no_zeros kind size h.0 in absurd (omega arith)
zeros_end kind size (Bytes bytes) b h there k ge lt =
    let from : zeros_from kind size ≡ 512 + size = some_zeros kind size h.0 in
    let at : k ≡ 512 + (k - 512) = omega arith in
    ap b at ∙ there (k - 512) (omega arith) ∙ h.2 (k - 512) (omega arith) (omega arith)

-- what must be zero is
is_zero : (i : Inode) (b : Places) → IsInode i → InodeBytes i b → (k : ℕ) → MustBeZero i.kind b k → b k ≡ 0
is_zero i b h s k (inl gap) = s.before_links k gap.0 gap.1
is_zero i b h s k (inr (inl gap)) = s.before_name k gap.0 gap.1
is_zero i b h s k (inr (inr (inl gap))) = let len = s.name_at.len in s.behind_name k (subst (λ n. 48 + n ≤ k) len gap.0) gap.1
is_zero i b h s k (inr (inr (inr gap))) = zeros_end i.kind i.size i.body b h.body_fits s.contents k (subst (λ n. zeros_from i.kind n ≤ k) s.size_at gap.0) gap.1

-- references that fit are no fault
no_refs_fault : (kind : InodeKind) (size : ℕ) (body : Body) (c : Places) (f : InodeFault) → BodyFits kind size body → BodyBytes body c → body_of kind size ≡ 0 → IsRefsFault kind size c f → ⊥
no_refs_fault kind size (Bytes bytes) c f h there none fault = let one : body_of kind size ≡ 1 = h.0 in omega arith
no_refs_fault kind size (Refs s) c (Reference at fault) h there none (n, is, (j, lt, refused, decoded)) =
    none-some fault (sym (set_decoded 4 s.refs c h.2.held there j lt) ∙ refused.1)
no_refs_fault kind size (Refs s) c Shape h there none (decoded, nothing) = nothing s.refs h.2 there
no_refs_fault kind size (Refs s) c (Kind n) h there none fault = fault
no_refs_fault kind size (Refs s) c BadBody h there none fault = fault
no_refs_fault kind size (Refs s) c (Links n) h there none fault = fault
no_refs_fault kind size (Refs s) c Number h there none fault = fault
no_refs_fault kind size (Refs s) c (Size n) h there none fault = fault
no_refs_fault kind size (Refs s) c Next h there none fault = fault
no_refs_fault kind size (Refs s) c Name h there none fault = fault
no_refs_fault kind size (Refs s) c (Padding at) h there none fault = fault

-- no fault of the kind's own
no_fault_for : (i : Inode) (b : Places) (f : InodeFault) → IsInode i → InodeBytes i b → IsFaultFor i.kind b f → ⊥
no_fault_for i b (Kind n) h s fault = fault
no_fault_for i b BadBody h s fault = fault (subst (λ n. b 1 ≡ body_of i.kind n) (sym s.size_at) (s.body_at ∙ sym (body_number i.kind i.size i.body h.body_fits)))
no_fault_for i b (Links n) h s fault = fault.1 (subst (λ n. InSpan (limits_of i.kind).links n) (sym s.links_at) h.links_fit)
no_fault_for i b Number h s fault = fault.1 (subst (λ n. InSpan numbers n) (sym s.number_at_8) h.number_fits)
no_fault_for i b (Size n) h s fault = fault.1 (subst (λ n. InSpan (limits_of i.kind).sizes n) (sym s.size_at) h.size_fits)
no_fault_for i b Next h s fault = fault.1 (subst (λ n. InSpan (limits_of i.kind).nexts n) (sym s.next_at) h.next_fits)
no_fault_for i b Name h s fault = fault.1 (i.name, s.name_at, h.name_fits)
no_fault_for i b (Padding at) h s fault = let zero_is : b at ≡ 0 = is_zero i b h s at fault.1.here in let more = fault.1.nonzero in omega arith
no_fault_for i b (Reference at f) h s fault =
    no_refs_fault i.kind i.size i.body (from_place b 512) (Reference at f) h.body_fits s.contents (subst (λ n. body_of i.kind n ≡ 0) s.size_at fault.0.refs) (subst (λ n. IsRefsFault i.kind n (from_place b 512) (Reference at f)) s.size_at fault.1)
no_fault_for i b Shape h s fault =
    no_refs_fault i.kind i.size i.body (from_place b 512) Shape h.body_fits s.contents (subst (λ n. body_of i.kind n ≡ 0) s.size_at fault.0.refs) (subst (λ n. IsRefsFault i.kind n (from_place b 512) Shape) s.size_at fault.1)

-- of another kind's either
by_kind : (b : Places) (f : InodeFault) → (kind : InodeKind) → b 0 ≡ kind_byte kind → IsFaultFor kind b f → NoInode b
by_kind b f kind is fault i h s = no_fault_for i b f h s (subst (λ k. IsFaultFor k b f) (kinds_same kind i.kind (sym is ∙ s.kind_at)) fault)

-- bytes that meet a refusal spell no inode
pub fault_refuses : (b : Places) (f : InodeFault) → IsFaultOf b f → NoInode b
fault_refuses b (Kind n) h i rules s = h.1 i.kind (h.0 ∙ s.kind_at)
fault_refuses b BadBody h i rules s = by_kind b BadBody h.0 h.1 h.2 i rules s
fault_refuses b (Links n) h i rules s = by_kind b (Links n) h.0 h.1 h.2 i rules s
fault_refuses b Number h i rules s = by_kind b Number h.0 h.1 h.2 i rules s
fault_refuses b (Size n) h i rules s = by_kind b (Size n) h.0 h.1 h.2 i rules s
fault_refuses b Next h i rules s = by_kind b Next h.0 h.1 h.2 i rules s
fault_refuses b Name h i rules s = by_kind b Name h.0 h.1 h.2 i rules s
fault_refuses b (Padding at) h i rules s = by_kind b (Padding at) h.0 h.1 h.2 i rules s
fault_refuses b (Reference at f) h i rules s = by_kind b (Reference at f) h.0 h.1 h.2 i rules s
fault_refuses b Shape h i rules s = by_kind b Shape h.0 h.1 h.2 i rules s
