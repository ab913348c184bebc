-- A block that meets a refusal of leaves is no leaf, one that meets a refusal of nodes is no node, and it meets one refusal
-- of each at most.
use Rattle.std.specs.Prelude.{◌≡◌, ◌<◌, ℕ, ◌+◌, ◌*◌, List, [], length, slice_index_or, refl}
use Rattle.std.proofs.Common.{ap, sym, ◌∙◌, subst, arith, inl, inr}
use Rattle.std.proofs.lemmas.Bool.{cases_lt}
use Rattle.h2_num.specs.Places.{Places}
use Rattle.h2_codes.specs.declared.code.Code.{Code}
use Rattle.h2_ref.specs.Ref.{empty_ref, NoRef}
use Rattle.h2_ref.specs.FaultLaws.{IsSpelled}
use Rattle.h2_freeleaf.specs.Leaf.{part_of, IsLeaf, LeafBytes, NoLeaf}
use Rattle.h2_freeleaf.specs.Node.{NoNode}
use Rattle.h2_freeleaf.specs.Fault.{IsPart, IsPartFault, bad_count, bad_tail, IsLeafFault, IsNodeFault}
use Rattle.h2_freeleaf.specs.declared.fault.MapFault.{MapFault}
use Rattle.h2_freeleaf.specs.declared.fault.MapFault.TheVariants.{Padding, Reference}

-- a part that meets a refusal spells no segment
pub part_fault-none : (at : ℕ) (b : Places) (f : MapFault) → IsPartFault at b f → IsPart b → ⊥
part_fault-none at b _ (bad_count wrong) p = wrong (record { codes = p.codes; segment = p.segment; holds = p.bytes.holds; free = p.bytes.free })
part_fault-none at b _ (bad_tail k counted low high wrong zeros) p = wrong (p.bytes.tail k low high)

-- a part meets one refusal at most
part_one_fault : (at : ℕ) (b : Places) (f g : MapFault) → IsPartFault at b f → IsPartFault at b g → g ≡ f
part_one_fault at b _ _ (bad_count w) (bad_count v) = refl
part_one_fault at b _ _ (bad_count w) (bad_tail k c low high v z) = absurd (w c)
part_one_fault at b _ _ (bad_tail k c low high w z) (bad_count v) = absurd (v c)
part_one_fault at b _ _ (bad_tail k c low high w z) (bad_tail j d from to v y) = elim (cases_lt k j) [
  | inl before ↦ absurd (w (y k low before))
  | inr ge ↦ elim (cases_lt j k) [
    | inl before ↦ absurd (v (z j from before))
    | inr le ↦ let same : j ≡ k = omega arith in ap (λ (n : ℕ). Padding (at + n)) same
  ]
]

-- a part of a leaf spells a segment
leaf_part : (b : Places) (leaf : List (List Code)) (i : ℕ) → IsLeaf leaf → LeafBytes leaf b → i < 8 → IsPart (part_of i b)
leaf_part b leaf i is h lt =
    let count : length leaf ≡ 8 = is.count in
    let inside : i < length leaf = omega arith in
    record { codes = slice_index_or leaf i []; segment = is.segments i [] inside; bytes = h i [] inside }

-- a block that meets a refusal of leaves is no leaf
pub leaf_fault-none : (at : ℕ) (b : Places) (f : MapFault) → IsLeafFault at b f → NoLeaf b
leaf_fault-none at b f h leaf is bytes = part_fault-none (at + 128 * h.index) (part_of h.index b) f h.here (leaf_part b leaf h.index is bytes h.below)

-- it meets one refusal of leaves at most
pub leaf_one_fault : (at : ℕ) (b : Places) (f g : MapFault) → IsLeafFault at b f → IsLeafFault at b g → g ≡ f
leaf_one_fault at b f g h k = elim (cases_lt h.index k.index) [
  | inl before ↦ absurd (part_fault-none (at + 128 * h.index) (part_of h.index b) f h.here (k.before h.index before))
  | inr ge ↦ elim (cases_lt k.index h.index) [
    | inl before ↦ absurd (part_fault-none (at + 128 * k.index) (part_of k.index b) g k.here (h.before k.index before))
    | inr le ↦
        let same : k.index ≡ h.index = omega arith in
        part_one_fault (at + 128 * h.index) (part_of h.index b) f g h.here (subst (λ (i : ℕ). IsPartFault (at + 128 * i) (part_of i b) g) same k.here)
  ]
]

-- a block that meets a refusal of nodes is no node
pub node_fault-none : (at : ℕ) (b : Places) (f : MapFault) → IsNodeFault at b f → NoNode b
node_fault-none at b f h refs is bytes =
    let count : length refs ≡ 8 = is.count in
    let below : h.index < 8 = h.below in
    let inside : h.index < length refs = omega arith in
    h.here (slice_index_or refs h.index empty_ref) (is.valid h.index empty_ref inside) (bytes h.index empty_ref inside)

-- bytes that spell a valid reference aren't such that spell none
not_both : (b : Places) → NoRef b → IsSpelled b → ⊥
not_both b none s = none s.ref s.valid s.bytes

-- it meets one refusal of nodes at most
pub node_one_fault : (at : ℕ) (b : Places) (f g : MapFault) → IsNodeFault at b f → IsNodeFault at b g → g ≡ f
node_one_fault at b f g h k = elim (cases_lt h.index k.index) [
  | inl before ↦ absurd (not_both (part_of h.index b) h.here (k.before h.index before))
  | inr ge ↦ elim (cases_lt k.index h.index) [
    | inl before ↦ absurd (not_both (part_of k.index b) k.here (h.before k.index before))
    | inr le ↦
        let same : k.index ≡ h.index = omega arith in
        k.is ∙ ap (λ (i : ℕ). Reference (at + 128 * i)) same ∙ sym h.is
  ]
]
