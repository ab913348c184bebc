-- An inode has one spelling, bytes spell one inode at most, and which one is seen by their first 1024 alone.
use Rattle.std.specs.Prelude.{◌≡◌, ◌≤◌, ℕ, ◌+◌, ◌-◌, List, length}
use Rattle.std.proofs.Common.{ap, sym, ◌∙◌, arith, inl, inr}
use Rattle.std.proofs.lemmas.Bool.{cases_lt}
use Rattle.std.proofs.lemmas.List.{ext_get_or}
use Rattle.h2_num.specs.Places.{Places, AreBytes, SameBelow, from_place}
use Rattle.h2_num.specs.PlaceLaws.{number_bytes, number_same, zero_bytes, zeros_same}
use Rattle.h2_set.specs.SetBytesLaws.{SetBytes-same, set_one, set_spelling}
use Rattle.h2_inode.specs.declared.kind.InodeKind.{InodeKind}
use Rattle.h2_inode.specs.declared.kind.InodeKind.TheVariants.{Directory, File, Pfs}
use Rattle.h2_inode.specs.declared.inode.Body.{Body}
use Rattle.h2_inode.specs.declared.inode.Body.TheVariants.{Refs, Bytes}
use Rattle.h2_inode.specs.declared.inode.Inode.{Inode}
use Rattle.h2_inode.specs.Head.{HasName, IsNameOf}
use Rattle.h2_inode.specs.Inode.{BodyFits, BodyBytes, body_byte, IsInode, InodeBytes}
use Rattle.h2_inode.specs.FaultLaws.{kinds_same}

-- the name of an inode has at most 64 bytes
name_short : (kind : InodeKind) (name : List ℕ) → IsNameOf kind name → length name ≤ 64
name_short Directory name h = let e : length name ≡ 0 = ap length h in omega arith
name_short File name h = let e : length name ≡ 0 = ap length h in omega arith
name_short Pfs name h = h.few

pub name_few : (i : Inode) → IsInode i → length i.name ≤ 64
name_few i h = name_short i.kind i.name h.name_fits

-- one name stands in the bytes
pub name_one : (m n : List ℕ) (b : Places) → HasName m b → HasName n b → n ≡ m
name_one m n b p q =
    let same : length n ≡ length m = sym q.len ∙ p.len in
    ext_get_or 0 n m same (λ k lt. sym (q.bytes k lt) ∙ p.bytes k (omega arith))

-- the bytes of a body are seen by their 512 places alone
pub body_same : (body : Body) (a b : Places) → SameBelow 512 a b → BodyBytes body a → BodyBytes body b
body_same (Refs s) a b same h = SetBytes-same 4 s.refs a b (λ k lt. same k (omega arith)) h
body_same (Bytes bytes) a b same h = λ k lt. same k lt ∙ h k lt

-- so are those of an inode
pub InodeBytes-same : (i : Inode) (a b : Places) → IsInode i → SameBelow 1024 a b → InodeBytes i a → InodeBytes i b
InodeBytes-same i a b rules same h = let few = name_few i rules in record {
  kind_at = same 0 (omega arith) ∙ h.kind_at;
  body_at = same 1 (omega arith) ∙ h.body_at;
  before_links = zeros_same 2 4 1024 a b (omega arith) same h.before_links;
  links_at = number_same 4 4 1024 a b (omega arith) same ∙ h.links_at;
  number_at_8 = number_same 8 8 1024 a b (omega arith) same ∙ h.number_at_8;
  size_at = number_same 16 8 1024 a b (omega arith) same ∙ h.size_at;
  next_at = number_same 24 8 1024 a b (omega arith) same ∙ h.next_at;
  name_at = record {
    len = number_same 32 2 1024 a b (omega arith) same ∙ h.name_at.len;
    bytes = λ k lt. same (48 + k) (omega arith) ∙ h.name_at.bytes k lt;
  };
  before_name = zeros_same 34 48 1024 a b (omega arith) same h.before_name;
  behind_name = zeros_same (48 + length i.name) 512 1024 a b (omega arith) same h.behind_name;
  contents = body_same i.body (from_place a 512) (from_place b 512) (λ k lt. same (512 + k) (omega arith)) h.contents;
}

-- An inode has one spelling

same_at : (a b : Places) (n k : ℕ) → k ≡ n → b n ≡ a n → b k ≡ a k
same_at a b n k e h = ap b e ∙ h ∙ sym (ap a e)

body_spelling : (body : Body) (a b : Places) → AreBytes a → AreBytes b → BodyBytes body a → BodyBytes body b → SameBelow 512 a b
body_spelling (Refs s) a b fa fb p q = λ k lt. set_spelling 4 s.refs a b fa fb p q k (omega arith)
body_spelling (Bytes bytes) a b fa fb p q = λ k lt. q k lt ∙ sym (p k lt)

-- up to the name's length
fields_spelling : (i : Inode) (a b : Places) → AreBytes a → AreBytes b → InodeBytes i a → InodeBytes i b → SameBelow 34 a b
fields_spelling i a b fa fb p q k lt = elim (cases_lt k 4) [
  | inl low ↦ elim (cases_lt k 2) [
    | inl lower ↦ elim (cases_lt k 1) [
      | inl first ↦ same_at a b 0 k (omega arith) (q.kind_at ∙ sym p.kind_at)
      | inr second ↦ same_at a b 1 k (omega arith) (q.body_at ∙ sym p.body_at)
    ]
    | inr from_2 ↦ zero_bytes a b 2 4 k p.before_links q.before_links from_2 low
  ]
  | inr from_4 ↦ elim (cases_lt k 16) [
    | inl low ↦ elim (cases_lt k 8) [
      | inl lower ↦ number_bytes a b 4 4 fa fb (p.links_at ∙ sym q.links_at) k from_4 lower
      | inr from_8 ↦ number_bytes a b 8 8 fa fb (p.number_at_8 ∙ sym q.number_at_8) k from_8 low
    ]
    | inr from_16 ↦ elim (cases_lt k 24) [
      | inl low ↦ number_bytes a b 16 8 fa fb (p.size_at ∙ sym q.size_at) k from_16 low
      | inr from_24 ↦ elim (cases_lt k 32) [
        | inl low ↦ number_bytes a b 24 8 fa fb (p.next_at ∙ sym q.next_at) k from_24 low
        | inr from_32 ↦ number_bytes a b 32 2 fa fb (p.name_at.len ∙ sym q.name_at.len) k from_32 lt
      ]
    ]
  ]
]

pub inode_spelling : (i : Inode) (a b : Places) → AreBytes a → AreBytes b → InodeBytes i a → InodeBytes i b → SameBelow 1024 a b
inode_spelling i a b fa fb p q k lt = elim (cases_lt k 48) [
  | inl low ↦ elim (cases_lt k 34) [
    | inl lower ↦ fields_spelling i a b fa fb p q k lower
    | inr from_34 ↦ zero_bytes a b 34 48 k p.before_name q.before_name from_34 low
  ]
  | inr from_48 ↦ elim (cases_lt k 512) [
    | inl low ↦ elim (cases_lt k (48 + length i.name)) [
      | inl in_name ↦ same_at a b (48 + (k - 48)) k (omega arith) (q.name_at.bytes (k - 48) (omega arith) ∙ sym (p.name_at.bytes (k - 48) (omega arith)))
      | inr behind ↦ zero_bytes a b (48 + length i.name) 512 k p.behind_name q.behind_name behind low
    ]
    | inr from_512 ↦
        same_at a b (512 + (k - 512)) k (omega arith)
        (body_spelling i.body (from_place a 512) (from_place b 512) (λ m. fa (512 + m)) (λ m. fb (512 + m)) p.contents q.contents (k - 512) (omega arith))
  ]
]

-- Bytes spell one inode at most

body_one : (kind : InodeKind) (size : ℕ) (l : InodeKind) (m : ℕ) (x y : Body) (c : Places) → BodyFits kind size x → BodyFits l m y → BodyBytes x c → BodyBytes y c
    → body_byte x ≡ body_byte y → y ≡ x
body_one kind size l m (Refs s) (Refs t) c h g p q e =
    let refs = set_one 4 s.refs t.refs c (record { held = h.2.held; rising = h.2.rising; bytes = p }) (record { held = g.2.held; rising = g.2.rising; bytes = q }) in
    let room = g.1 ∙ sym h.1 in
    ap Refs (λ z. record { refs = refs z; capacity = room z })
body_one kind size l m (Refs s) (Bytes y) c h g p q e = absurd (omega arith)
body_one kind size l m (Bytes x) (Refs t) c h g p q e = absurd (omega arith)
body_one kind size l m (Bytes x) (Bytes y) c h g p q e =
    let long : length x ≡ 512 = h.1 in
    let same : length y ≡ length x = g.1 ∙ sym h.1 in
    ap Bytes (ext_get_or 0 y x same (λ k lt. sym (q k (omega arith)) ∙ p k (omega arith)))

pub inode_one : (i j : Inode) (b : Places) → IsInode i → IsInode j → InodeBytes i b → InodeBytes j b → j ≡ i
inode_one i j b h g p q =
    let kind = kinds_same j.kind i.kind (sym q.kind_at ∙ p.kind_at) in
    let number = sym q.number_at_8 ∙ p.number_at_8 in
    let size = sym q.size_at ∙ p.size_at in
    let links = sym q.links_at ∙ p.links_at in
    let next = sym q.next_at ∙ p.next_at in
    let name = name_one i.name j.name b p.name_at q.name_at in
    let body = body_one i.kind i.size j.kind j.size i.body j.body (from_place b 512) h.body_fits g.body_fits p.contents q.contents (sym p.body_at ∙ q.body_at) in
    λ z. record { kind = kind z; number = number z; size = size z; links = links z; next = next z; name = name z; body = body z }
