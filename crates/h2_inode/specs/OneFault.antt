-- The bytes of an inode have one first fault at most.
use Rattle.std.specs.Prelude.{◌≡◌, ◌<◌, ℕ, ◌+◌, refl}
use Rattle.std.proofs.Common.{ap, sym, ◌∙◌, arith, subst, inl, inr}
use Rattle.std.proofs.lemmas.Bool.{cases_lt}
use Rattle.h2_num.specs.Places.{Places, number_at, from_place}
use Rattle.h2_ref.specs.declared.faults.RefFault.{RefFault}
use Rattle.h2_set.specs.declared.set_decoding.SetFault.TheVariants.{Reference as Set_ref}
use Rattle.h2_set.specs.SetBytes.{AreRefs, IsRefused}
use Rattle.h2_inode.specs.declared.kind.InodeKind.{InodeKind}
use Rattle.h2_inode.specs.declared.fault.InodeFault.{InodeFault}
use Rattle.h2_inode.specs.declared.fault.InodeFault.TheVariants.{Kind, Body, Links, Number, Size, Next, Name, Padding, Reference, Shape}
use Rattle.h2_inode.specs.Kind.{kind_byte}
use Rattle.h2_inode.specs.Head.{HasBody, HasLinks, HasNumber, HasSize, HasNext, HasNameOf, MustBeZero, IsFirstPadding}
use Rattle.h2_inode.specs.Fault.{HasRefs, IsFaultFor, IsFaultOf}
use Rattle.h2_inode.specs.FaultLaws.{kinds_same}
use Rattle.h2_set.specs.SetFaultLaws.{refused_one, none_refused}
use Rattle.h2_inode.specs.OneCause.{zero_there}

-- A rule and those behind it: where it doesn't hold, the fault is its own, and else one of theirs.
data InOrder (Holds : Type 0) (Own Rest : InodeFault → Type 0) : InodeFault → Type 0 where
  broken : {f : InodeFault} → (Holds → ⊥) → Own f → InOrder Holds Own Rest f
  kept : {f : InodeFault} → Holds → Rest f → InOrder Holds Own Rest f

-- at most one fault is of this sort
abbrev IsOne : (InodeFault → Type 0) → Type 0
IsOne F = (f g : InodeFault) → F f → F g → g ≡ f

order_one : (Holds : Type 0) (Own Rest : InodeFault → Type 0) → IsOne Own → IsOne Rest → IsOne (InOrder Holds Own Rest)
order_one Holds Own Rest own rest f g (broken fails h) (broken too k) = own f g h k
order_one Holds Own Rest own rest f g (broken fails h) (kept holds k) = absurd (fails holds)
order_one Holds Own Rest own rest f g (kept holds h) (broken fails k) = absurd (fails holds)
order_one Holds Own Rest own rest f g (kept holds h) (kept too k) = rest f g h k

-- the fault of a rule that has but one
abbrev Just : InodeFault → InodeFault → Type 0
Just fault f = f ≡ fault

just_one : (fault : InodeFault) → IsOne (Just fault)
just_one fault f g h k = k ∙ sym h

-- all that must be zero is
abbrev IsPadded : InodeKind → Places → Type 0
IsPadded kind b = (k : ℕ) → MustBeZero kind b k → b k ≡ 0

-- the fault of padding: its first byte that isn't zero
abbrev IsPadding : InodeKind → Places → InodeFault → Type 0
IsPadding kind b f = (at : ℕ) × IsFirstPadding kind b at × (f ≡ Padding at)

not_later : (kind : InodeKind) (b : Places) (at by : ℕ) → IsFirstPadding kind b at → IsFirstPadding kind b by → at < by → ⊥
not_later kind b at by p q lt = let zero_is : b at ≡ 0 = q.first at lt p.here in let more = p.nonzero in omega arith

padding_one : (kind : InodeKind) (b : Places) → IsOne (IsPadding kind b)
padding_one kind b f g (at, p, is) (by, q, are) = elim (cases_lt at by) [
  | inl lt ↦ absurd (not_later kind b at by p q lt)
  | inr ge ↦ elim (cases_lt by at) [
    | inl lt ↦ absurd (not_later kind b by at q p lt)
    | inr le ↦ let same : by ≡ at = omega arith in are ∙ ap Padding same ∙ sym is
  ]
]

-- the faults of references: the first that is refused, or where none is, their shape
data OfRefs (c : Places) : InodeFault → Type 0 where
  refused : (n : ℕ) (f : RefFault) → IsRefused 4 c (Set_ref n f) → OfRefs c (Reference (512 + n) f)
  unshaped : AreRefs 4 c → OfRefs c Shape

of_refs_one : (c : Places) → IsOne (OfRefs c)
of_refs_one c f g (refused n x h) (refused m y k) =
    let e = refused_one 4 c n m x y h k in
    ap (λ z. Reference (512 + z) y) e.0 ∙ ap (Reference (512 + n)) e.1
of_refs_one c f g (refused n x h) (unshaped k) = absurd (none_refused 4 c n x k h)
of_refs_one c f g (unshaped h) (refused m y k) = absurd (none_refused 4 c m y h k)
of_refs_one c f g (unshaped h) (unshaped k) = refl

-- the rules in their order, for bytes that begin with the kind

-- the rule of zeros, and those behind it
abbrev FromPadding : InodeKind → Places → InodeFault → Type 0
FromPadding kind b = InOrder (IsPadded kind b) (IsPadding kind b) (OfRefs (from_place b 512))

-- the rule of the name, and those behind it
abbrev FromName : InodeKind → Places → InodeFault → Type 0
FromName kind b = InOrder (HasNameOf kind b) (Just Name) (FromPadding kind b)

-- the rule of the next inode number, and those behind it
abbrev FromNext : InodeKind → Places → InodeFault → Type 0
FromNext kind b = InOrder (HasNext kind b) (Just Next) (FromName kind b)

-- the rule of the size, and those behind it
abbrev FromSize : InodeKind → Places → InodeFault → Type 0
FromSize kind b = InOrder (HasSize kind b) (Just (Size (number_at b 16 8))) (FromNext kind b)

-- the rule of the number, and those behind it
abbrev FromNumber : InodeKind → Places → InodeFault → Type 0
FromNumber kind b = InOrder (HasNumber b) (Just Number) (FromSize kind b)

-- the rule of the links, and those behind it
abbrev FromLinks : InodeKind → Places → InodeFault → Type 0
FromLinks kind b = InOrder (HasLinks kind b) (Just (Links (number_at b 4 4))) (FromNumber kind b)

-- all rules, from that of the body on
abbrev FromBody : InodeKind → Places → InodeFault → Type 0
FromBody kind b = InOrder (HasBody kind b) (Just Body) (FromLinks kind b)

from_body_one : (kind : InodeKind) (b : Places) → IsOne (FromBody kind b)
from_body_one kind b =
    order_one (HasBody kind b) (Just Body) (FromLinks kind b) (just_one Body) (
    order_one (HasLinks kind b) (Just (Links (number_at b 4 4))) (FromNumber kind b) (just_one (Links (number_at b 4 4))) (
    order_one (HasNumber b) (Just Number) (FromSize kind b) (just_one Number) (
    order_one (HasSize kind b) (Just (Size (number_at b 16 8))) (FromNext kind b) (just_one (Size (number_at b 16 8))) (
    order_one (HasNext kind b) (Just Next) (FromName kind b) (just_one Next) (
    order_one (HasNameOf kind b) (Just Name) (FromPadding kind b) (just_one Name) (
    order_one (IsPadded kind b) (IsPadding kind b) (OfRefs (from_place b 512)) (padding_one kind b) (of_refs_one (from_place b 512))))))))

-- where the rules before the references hold, the fault is one of those
behind_head : (kind : InodeKind) (b : Places) (f : InodeFault) → HasRefs kind b → OfRefs (from_place b 512) f → FromBody kind b f
behind_head kind b f h fault =
    kept h.head.body (kept h.head.links (kept h.head.number (kept h.head.size (kept h.head.next (
    kept (h.name, h.head.named, h.head.name_fits) (kept (λ k must. zero_there kind b k h.head.zeros must) fault))))))

-- a first fault is one in their order
in_order : (kind : InodeKind) (b : Places) (f : InodeFault) → IsFaultFor kind b f → FromBody kind b f
in_order kind b (Kind n) h = absurd h
in_order kind b Body h = broken h refl
in_order kind b (Links n) h = kept h.0 (broken h.1 (ap Links h.2))
in_order kind b Number h = kept h.0.0 (kept h.0.1 (broken h.1 refl))
in_order kind b (Size n) h = kept h.0.0.0 (kept h.0.0.1 (kept h.0.1 (broken h.1 (ap Size h.2))))
in_order kind b Next h = kept h.0.0.0.0 (kept h.0.0.0.1 (kept h.0.0.1 (kept h.0.1 (broken h.1 refl))))
in_order kind b Name h = kept h.0.0.0.0.0 (kept h.0.0.0.0.1 (kept h.0.0.0.1 (kept h.0.0.1 (kept h.0.1 (broken h.1 refl)))))
in_order kind b (Padding at) h =
    kept h.0.0.0.0.0.0 (kept h.0.0.0.0.0.1 (kept h.0.0.0.0.1 (kept h.0.0.0.1 (kept h.0.0.1 (kept h.0.1 (broken (λ all. some all) (at, h.1, refl)))))))
  where
    some : IsPadded kind b → ⊥
    some all = let zero_is : b at ≡ 0 = all at h.1.here in let more = h.1.nonzero in omega arith
in_order kind b (Reference at f) (refs, (n, place, refusal)) = subst (λ x. FromBody kind b (Reference x f)) (sym place) (behind_head kind b (Reference (512 + n) f) refs (refused n f refusal))
in_order kind b Shape (refs, (decoded, nothing)) = behind_head kind b Shape refs (unshaped decoded)

-- a fault of the kind, or one in the order of a kind that the bytes begin with
data Stands (b : Places) : InodeFault → Type 0 where
  no_kind : ((kind : InodeKind) → b 0 ≡ kind_byte kind → ⊥) → Stands b (Kind (b 0))
  of_kind : {f : InodeFault} → (kind : InodeKind) → b 0 ≡ kind_byte kind → FromBody kind b f → Stands b f

stands : (b : Places) (f : InodeFault) → IsFaultOf b f → Stands b f
stands b (Kind n) h = subst (λ x. Stands b (Kind x)) (sym h.0) (no_kind (λ kind e. h.1 kind (h.0 ∙ e)))
stands b Body h = of_kind h.0 h.1 (in_order h.0 b Body h.2)
stands b (Links n) h = of_kind h.0 h.1 (in_order h.0 b (Links n) h.2)
stands b Number h = of_kind h.0 h.1 (in_order h.0 b Number h.2)
stands b (Size n) h = of_kind h.0 h.1 (in_order h.0 b (Size n) h.2)
stands b Next h = of_kind h.0 h.1 (in_order h.0 b Next h.2)
stands b Name h = of_kind h.0 h.1 (in_order h.0 b Name h.2)
stands b (Padding at) h = of_kind h.0 h.1 (in_order h.0 b (Padding at) h.2)
stands b (Reference at f) h = of_kind h.0 h.1 (in_order h.0 b (Reference at f) h.2)
stands b Shape h = of_kind h.0 h.1 (in_order h.0 b Shape h.2)

stands_one : (b : Places) (f g : InodeFault) → Stands b f → Stands b g → g ≡ f
stands_one b f g (no_kind none) (no_kind neither) = refl
stands_one b f g (no_kind none) (of_kind kind is h) = absurd (none kind is)
stands_one b f g (of_kind kind is h) (no_kind none) = absurd (none kind is)
stands_one b f g (of_kind kind is h) (of_kind other too k) =
    from_body_one kind b f g h (subst (λ x. FromBody x b g) (kinds_same other kind (sym too ∙ is)) k)

-- bytes have one first fault at most
pub fault_one : (b : Places) (f g : InodeFault) → IsFaultOf b f → IsFaultOf b g → g ≡ f
fault_one b f g h k = stands_one b f g (stands b f h) (stands b g k)
