-- The refusal of a block is the one at the least place of all that are wrong in it.
use Rattle.std.specs.Prelude.{◌≡◌, ◌≢◌, ◌<◌, ◌≤◌, ℕ, ◌+◌, ◌*◌, ◌-◌, refl}
use Rattle.std.proofs.Common.{ap, sym, ◌∙◌, subst, arith, inl, inr}
use Rattle.std.proofs.lemmas.Bool.{cases_lt}
use Rattle.h2_num.specs.Places.{Places}
use Rattle.h2_ref.specs.Ref.{NoRef}
use Rattle.h2_freeleaf.specs.Leaf.{part_of}
use Rattle.h2_freeleaf.specs.Fault.{IsCounted, IsPart, IsPartFault, bad_count, bad_tail, IsLeafFault, IsNodeFault}
use Rattle.h2_freeleaf.specs.declared.fault.MapFault.{MapFault}
use Rattle.h2_freeleaf.specs.declared.fault.MapFault.TheVariants.{Padding, Shape, Reference}

-- what is wrong at a place p of a leaf, whose first byte has a place on the disk: the count of a segment, or a byte that
-- must be zero
pub data IsWrongInLeaf (at : ℕ) (b : Places) (p : ℕ) (fault : MapFault) : Type 0 where
  wrong_count : (i : ℕ) → i < 8 → p ≡ 128 * i + 64 → (IsCounted (part_of i b) → ⊥) → fault ≡ Shape (at + p) → IsWrongInLeaf at b p fault
  wrong_byte : (i : ℕ) → i < 8 → 128 * i + 68 ≤ p → p < 128 * i + 128 → b p ≢ 0 → fault ≡ Padding (at + p) → IsWrongInLeaf at b p fault

-- what is wrong at a place p of a node: the reference that begins there
pub record IsWrongInNode (at : ℕ) (b : Places) (p : ℕ) (fault : MapFault) : Type 0 where
  pub index : ℕ
  pub below : index < 8
  pub place : p ≡ 128 * index
  pub none : NoRef (part_of index b)
  pub is : fault ≡ Reference (at + p)

-- the fault at the least place of what is wrong
pub record IsLeastOf (IsWrong : ℕ → MapFault → Type 0) (fault : MapFault) : Type 0 where
  pub place : ℕ
  pub here : IsWrong place fault
  pub none_before : (q : ℕ) (other : MapFault) → q < place → IsWrong q other → ⊥

-- in a part that spells a segment nothing is wrong
whole_part : (at : ℕ) (b : Places) (i q : ℕ) (g : MapFault) → ((j : ℕ) → j < i → IsPart (part_of j b)) → q < 128 * i → IsWrongInLeaf at b q g → ⊥
whole_part at b i q g before lt (wrong_count j j_lt is wrong e) =
    let p = before j (omega arith) in
    wrong (record { codes = p.codes; segment = p.segment; holds = p.bytes.holds; free = p.bytes.free })
whole_part at b i q g before lt (wrong_byte j j_lt low high wrong e) =
    let p = before j (omega arith) in
    let there : 128 * j + (q - 128 * j) ≡ q = omega arith in
    wrong (ap b (sym there) ∙ p.bytes.tail (q - 128 * j) (omega arith) (omega arith))

-- the refusal of a leaf is at the least place
pub leaf_fault-least : (at : ℕ) (b : Places) (f : MapFault) → IsLeafFault at b f → IsLeastOf (IsWrongInLeaf at b) f
leaf_fault-least at b f h = least f h.here
  where
    i : ℕ
    i = h.index

    least : (g : MapFault) → IsPartFault (at + 128 * i) (part_of i b) g → IsLeastOf (IsWrongInLeaf at b) g
    least _ (bad_count wrong) = record {
      place = 128 * i + 64;
      here = wrong_count i h.below refl wrong (ap Shape (omega arith));
      none_before = λ q g lt bad. elim (cases_lt q (128 * i)) [
        | inl low ↦ whole_part at b i q g h.before low bad
        | inr high ↦ none q g lt high bad
      ];
    }
      where
        none : (q : ℕ) (g : MapFault) → q < 128 * i + 64 → 128 * i ≤ q → IsWrongInLeaf at b q g → ⊥
        none q g lt high (wrong_count j j_lt is w e) = absurd (omega arith)
        none q g lt high (wrong_byte j j_lt low end w e) = absurd (omega arith)
    least _ (bad_tail k counted low high wrong zeros) = record {
      place = 128 * i + k;
      here = wrong_byte i h.below (omega arith) (omega arith) wrong (ap Padding (omega arith));
      none_before = λ q g lt bad. elim (cases_lt q (128 * i)) [
        | inl below ↦ whole_part at b i q g h.before below bad
        | inr from ↦ none q g lt from bad
      ];
    }
      where
        none : (q : ℕ) (g : MapFault) → q < 128 * i + k → 128 * i ≤ q → IsWrongInLeaf at b q g → ⊥
        none q g lt from (wrong_count j j_lt is w e) = let same : j ≡ i = omega arith in w (subst (λ (n : ℕ). IsCounted (part_of n b)) (sym same) counted)
        none q g lt from (wrong_byte j j_lt start end w e) =
            let same : j ≡ i = omega arith in
            let there : 128 * i + (q - 128 * i) ≡ q = omega arith in
            w (ap b (sym there) ∙ zeros (q - 128 * i) (omega arith) (omega arith))

-- the refusal of a node is at the least place
pub node_fault-least : (at : ℕ) (b : Places) (f : MapFault) → IsNodeFault at b f → IsLeastOf (IsWrongInNode at b) f
node_fault-least at b f h = record {
  place = 128 * h.index;
  here = record { index = h.index; below = h.below; place = refl; none = h.here; is = h.is };
  none_before = λ q g lt bad.
      let is : q ≡ 128 * bad.index = bad.place in
      let s = h.before bad.index (omega arith) in
      bad.none s.ref s.valid s.bytes;
}
