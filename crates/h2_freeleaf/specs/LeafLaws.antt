-- A leaf is seen by its 1024 places alone; it has one spelling, and bytes spell one leaf at most.
use Rattle.std.specs.Prelude.{◌≡◌, ◌<◌, ℕ, ◌+◌, ◌*◌, ◌/◌, ◌%◌, ◌^◌, List, [], length, slice_index_or}
use Rattle.std.proofs.Common.{ap, sym, ◌∙◌, arith, inl, inr}
use Rattle.std.proofs.lemmas.Bool.{cases_lt}
use Rattle.std.proofs.lemmas.List.{ext_get_or}
use Rattle.h2_num.specs.Places.{Places, AreBytes, SameBelow}
use Rattle.h2_num.specs.PlaceLaws.{number_same, zeros_same, number_bytes, zero_bytes}
use Rattle.h2_codes.specs.declared.code.Code.{Code}
use Rattle.h2_codes.specs.Layout.{HoldCodes}
use Rattle.h2_codes.specs.LayoutLaws.{OneSegment, OneSpelling}
use Rattle.h2_freeleaf.specs.Leaf.{part_of, PartBytes, IsLeaf, LeafBytes}

-- the codes are seen by 64 places alone
pub HoldCodes-same : (codes : List Code) (a b : Places) → SameBelow 64 a b → HoldCodes a codes → HoldCodes b codes
HoldCodes-same codes a b same h c lt = ap (λ (n : ℕ). n / 2 ^ (2 * (c % 4)) % 4) (same (c / 4) (omega arith)) ∙ h c lt

-- a part is seen by its 128 places alone
pub PartBytes-same : (codes : List Code) (a b : Places) → SameBelow 128 a b → PartBytes codes a → PartBytes codes b
PartBytes-same codes a b same h = record {
  holds = HoldCodes-same codes a b (λ k lt. same k (omega arith)) h.holds;
  free = number_same 64 4 128 a b (omega arith) same ∙ h.free;
  tail = zeros_same 68 128 128 a b (omega arith) same h.tail;
}

-- a leaf is seen by its 1024 places alone
pub LeafBytes-same : (leaf : List (List Code)) (a b : Places) → IsLeaf leaf → SameBelow 1024 a b → LeafBytes leaf a → LeafBytes leaf b
LeafBytes-same leaf a b is same h i d lt =
    let count : length leaf ≡ 8 = is.count in
    PartBytes-same (slice_index_or leaf i d) (part_of i a) (part_of i b) (λ k k_lt. same (128 * i + k) (omega arith)) (h i d lt)

-- a segment has one spelling in a part
part_spelling : OneSpelling → (codes : List Code) (a b : Places) → AreBytes a → AreBytes b → PartBytes codes a → PartBytes codes b → SameBelow 128 a b
part_spelling law codes a b fa fb p q k lt = elim (cases_lt k 64) [
  | inl in_codes ↦ law codes a b fa fb p.holds q.holds k in_codes
  | inr from_64 ↦ elim (cases_lt k 68) [
    | inl in_count ↦ number_bytes a b 64 4 fa fb (p.free ∙ sym q.free) k from_64 in_count
    | inr from_68 ↦ zero_bytes a b 68 128 k p.tail q.tail from_68 lt
  ]
]

-- a leaf has one spelling
pub leaf_spelling : OneSpelling → (leaf : List (List Code)) (a b : Places) → AreBytes a → AreBytes b → IsLeaf leaf → LeafBytes leaf a → LeafBytes leaf b → SameBelow 1024 a b
leaf_spelling law leaf a b fa fb is p q k lt =
    let count : length leaf ≡ 8 = is.count in
    let i = k / 128 in
    let inside : i < length leaf = omega arith in
    let whole : k ≡ 128 * i + k % 128 = omega arith in
    let one = part_spelling law (slice_index_or leaf i []) (part_of i a) (part_of i b) (λ j. fa (128 * i + j)) (λ j. fb (128 * i + j)) (p i [] inside) (q i [] inside) (k % 128) (omega arith) in
    ap b whole ∙ one ∙ sym (ap a whole)

-- bytes spell one leaf at most
pub leaf_one : OneSegment → (x y : List (List Code)) (b : Places) → IsLeaf x → IsLeaf y → LeafBytes x b → LeafBytes y b → y ≡ x
leaf_one law x y b is_x is_y p q =
    let count_x : length x ≡ 8 = is_x.count in
    let count_y : length y ≡ 8 = is_y.count in
    ext_get_or [] y x (is_y.count ∙ sym is_x.count) (λ i lt.
    let inside : i < length x = omega arith in
    law (part_of i b) (slice_index_or x i []) (slice_index_or y i []) (is_x.segments i [] inside) (is_y.segments i [] lt) (p i [] inside).holds (q i [] lt).holds)
