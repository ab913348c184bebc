-- Parts of leaves.
use Rattle.std.proofs.Common.{◌≡◌, ◌≢◌, ◌<◌, ◌+◌, ◌*◌, ℕ, List, [], length, sym, ap, ◌∙◌, arith}
use Rattle.std.specs.Prelude.{Result, Ok, Err, IfOk, IfErr, slice_index_or}
use Rattle.h2_num.specs.Places.{Places, places, number_at, ZeroIn, SameBelow, Puts, Lays}
use Rattle.h2_codes.specs.declared.code.Code.{Code}
use Rattle.h2_codes.specs.declared.code.Code.TheVariants.{Free}
use Rattle.h2_codes.specs.Codes.{IsSegment, count_of}
use Rattle.h2_codes.specs.Layout.{HoldCodes}
use Rattle.h2_codes.specs.LayoutLaws.{OneSegment}
use Rattle.h2_num.specs.PlaceLaws.{number_same}
use Rattle.h2_freeleaf.specs.Leaf.{part_of, PartBytes, IsLeaf, LeafBytes}
use Rattle.h2_freeleaf.specs.LeafLaws.{HoldCodes-same, PartBytes-same}
use Rattle.h2_freeleaf.specs.Fault.{IsCounted, IsPartFault, bad_count, bad_tail, IsLeafFault}
use Rattle.h2_freeleaf.specs.declared.fault.MapFault.{MapFault}
use Rattle.h2_freeleaf.proofs.Parts.{ReadTo}

-- the part of a segment: its codes were laid over zeros, and its count was put
pub part_put : (codes : List Code) (bytes : List ℕ) (free : ℕ) (b0 b1 b2 : Places) → length bytes ≡ 64 → HoldCodes (places bytes) codes → free ≡ count_of Free codes
    → ZeroIn 68 128 b0 → Lays 0 bytes b0 b1 → Puts 64 4 free b1 b2 → PartBytes codes b2
part_put codes bytes free b0 b1 b2 len holds count zeros lays p = record {
  holds = HoldCodes-same codes (places bytes) b2 (λ k lt. let e : k ≡ 0 + k = omega arith in p.others.before k lt ∙ ap b1 e ∙ lays.inside k (omega arith)) holds;
  free = p.field ∙ count;
  tail = λ k ge lt. p.others.after k (omega arith) ∙ lays.others.after k (omega arith) ∙ zeros k ge lt;
}

-- a count that isn't that of the codes
pub wrong_count : OneSegment → (codes : List Code) (b : Places) → IsSegment codes → HoldCodes b codes → number_at b 64 4 ≢ count_of Free codes → IsCounted b → ⊥
wrong_count law codes b is holds ne counted =
    let same : counted.codes ≡ codes = law b codes counted.codes is counted.segment holds counted.holds in
    ne (counted.free ∙ ap (count_of Free) same)

-- what is read of a part of a block is seen by its places alone
counted_same : (a b : Places) → SameBelow 128 a b → IsCounted a → IsCounted b
counted_same a b same c = record {
  codes = c.codes;
  segment = c.segment;
  holds = HoldCodes-same c.codes a b (λ k lt. same k (omega arith)) c.holds;
  free = number_same 64 4 128 a b (omega arith) same ∙ c.free;
}

pub fault_same : (at : ℕ) (a b : Places) (f : MapFault) → SameBelow 128 a b → IsPartFault at a f → IsPartFault at b f
fault_same at a b _ same (bad_count wrong) = bad_count (λ c. wrong (counted_same b a (λ k lt. sym (same k lt)) c))
fault_same at a b _ same (bad_tail k counted low high wrong zeros) =
    bad_tail k (counted_same a b same counted) low high (λ e. wrong (sym (same k high) ∙ e)) (λ j from to. let below : j < 128 = omega arith in same j below ∙ zeros j from to)

pub part_refused : (at : ℕ) (a b : Places) (x : Result (List Code) MapFault) → SameBelow 128 a b → IfErr x (IsPartFault at a) → IfErr x (IsPartFault at b)
part_refused at a b (Ok codes) same h = tt
part_refused at a b (Err f) same h = fault_same at a b f same h

pub part_found : (a b : Places) (x : Result (List Code) MapFault) → SameBelow 128 a b → IfOk x (λ codes. IsSegment codes × PartBytes codes a) → IfOk x (λ codes. IsSegment codes × PartBytes codes b)
part_found a b (Ok codes) same h = (h.0, PartBytes-same codes a b same h.1)
part_found a b (Err f) same h = tt

-- a refusal of a part of a leaf
pub leaf_fault : (at : ℕ) (b : Places) (leaf : List (List Code)) (i : ℕ) (f : MapFault) → i < 8 → ReadTo IsSegment PartBytes b leaf i → IsPartFault (at + 128 * i) (part_of i b) f → IsLeafFault at b f
leaf_fault at b leaf i f lt h wrong = record {
  index = i;
  below = lt;
  here = wrong;
  before = λ j below. record { codes = slice_index_or leaf j []; segment = h.each j [] (omega arith) below; bytes = h.bytes j [] below };
}

-- all parts of a leaf were read
pub all_read : (b : Places) (leaf : List (List Code)) → ReadTo IsSegment PartBytes b leaf 8 → IsLeaf leaf × LeafBytes leaf b
all_read b leaf h =
    let len : length leaf ≡ 8 = h.size in
    (record { count = h.size; segments = λ k d lt. h.each k d (omega arith) (omega arith) }, λ k d lt. h.bytes k d (omega arith))
