-- What is found in a block that was read is found in the image.
use Rattle.std.proofs.Common.{◌≡◌, ◌<◌, ◌+◌, ◌*◌, ℕ, List, length, sym, ap, ◌∙◌, subst, arith}
use Rattle.h2_num.specs.Places.{Places, places, from_place, SameBelow}
use Rattle.h2_check.specs.Crc.{crc32c_of}
use Rattle.h2_check.specs.CrcLaws.{crc32c_of-same}
use Rattle.h2_codes.specs.declared.code.Code.{Code}
use Rattle.h2_ref.specs.declared.reference.Ref.{Ref}
use Rattle.h2_ref.specs.RefLaws.{RefBytes-same}
use Rattle.h2_freeleaf.specs.Leaf.{part_of, IsLeaf, LeafBytes}
use Rattle.h2_freeleaf.specs.LeafLaws.{PartBytes-same, LeafBytes-same}
use Rattle.h2_freeleaf.specs.Node.{IsNode, NodeBytes}
use Rattle.h2_freeleaf.specs.NodeLaws.{NodeBytes-same}
use Rattle.h2_freeleaf.specs.Fault.{IsPart, IsLeafFault}
use Rattle.h2_freeleaf.specs.declared.fault.MapFault.{MapFault}
use Rattle.h2_freeleaf.specs.InImage.{HasCheck, LeadsToLeaf, LeadsToNode}
use Rattle.h2_freeleaf.specs.FirstBad.{check_at, IsBadLeaf, IsEntryAt, IsWrongEntry, IsBadNode}
use Rattle.h2_freeleaf.proofs.Leaves.{fault_same}

-- the check of a block that was read
pub read_check : (image : Places) (place : ℕ) (block : List ℕ) (got : ℕ) → length block ≡ 1024 → SameBelow (length block) (from_place image place) (places block) → got ≡ crc32c_of (places block) (length block) → got ≡ check_at image place
read_check image place block got len same e =
    e ∙ ap (crc32c_of (places block)) len ∙ crc32c_of-same (from_place image place) (places block) 1024 (subst (λ (n : ℕ). SameBelow n (from_place image place) (places block)) len same)

-- a part that is a segment is one by its places
part_is : (a b : Places) → SameBelow 128 a b → IsPart a → IsPart b
part_is a b same p = record { codes = p.codes; segment = p.segment; bytes = PartBytes-same p.codes a b same p.bytes }

-- the part of a block is seen by the block's places
part_same : (a b : Places) (i : ℕ) → i < 8 → SameBelow 1024 a b → SameBelow 128 (part_of i a) (part_of i b)
part_same a b i lt same k k_lt = same (128 * i + k) (omega arith)

-- a leaf's fault is one of its image
leaf_fault_same : (at : ℕ) (a b : Places) (f : MapFault) → SameBelow 1024 a b → IsLeafFault at a f → IsLeafFault at b f
leaf_fault_same at a b f same h =
    let low : h.index < 8 = h.below in
    record {
      index = h.index;
      below = h.below;
      here = fault_same (at + 128 * h.index) (part_of h.index a) (part_of h.index b) f (part_same a b h.index h.below same) h.here;
      before = λ i lt. part_is (part_of i a) (part_of i b) (part_same a b i (omega arith) same) (h.before i lt);
    }

-- a reference of a node that is right is right by the node's places
entry_same : (a b : Places) (level zones number zone i : ℕ) → i < 8 → SameBelow 1024 a b → IsEntryAt a level zones number zone i → IsEntryAt b level zones number zone i
entry_same a b level zones number zone i lt same e = record {
  ref = e.ref;
  spelled = RefBytes-same e.ref (part_of i a) (part_of i b) (part_same a b i lt same) e.spelled;
  valid = e.valid;
  names = e.names;
}

back : (a b : Places) → SameBelow 1024 a b → SameBelow 1024 b a
back a b same k lt = sym (same k lt)

-- a leaf that was read
pub leaf_read : (image : Places) (r : Ref) (block : List ℕ) (leaf : List (List Code)) → SameBelow 1024 (from_place image r.place) (places block) → HasCheck image r → IsLeaf leaf × LeafBytes leaf (places block) → LeadsToLeaf image leaf r
leaf_read image r block leaf same check found = record {
  check = check;
  valid = found.0;
  bytes = LeafBytes-same leaf (places block) (from_place image r.place) found.0 (back (from_place image r.place) (places block) same) found.1;
}

pub leaf_refused : (image : Places) (r : Ref) (block : List ℕ) (f : MapFault) → SameBelow 1024 (from_place image r.place) (places block) → HasCheck image r → IsLeafFault r.place (places block) f → IsBadLeaf image r f
leaf_refused image r block f same check wrong = IsBadLeaf.bad_bytes check (leaf_fault_same r.place (places block) (from_place image r.place) f (back (from_place image r.place) (places block) same) wrong)

-- a node that was read
pub node_read : (image : Places) (r : Ref) (block : List ℕ) (refs : List Ref) → SameBelow 1024 (from_place image r.place) (places block) → HasCheck image r → IsNode refs × NodeBytes refs (places block) → LeadsToNode image refs r
node_read image r block refs same check found = record {
  check = check;
  valid = found.0;
  bytes = NodeBytes-same refs (places block) (from_place image r.place) found.0 (back (from_place image r.place) (places block) same) found.1;
}

pub node_refused : (image : Places) (level zones number zone : ℕ) (r : Ref) (block : List ℕ) (f : MapFault) → SameBelow 1024 (from_place image r.place) (places block) → HasCheck image r
    → IsWrongEntry (places block) level zones number zone r.place f → IsBadNode image zones number level zone r f
node_refused image level zones number zone r block f same check wrong =
    let low : wrong.index < 8 = wrong.below in
    let there = from_place image r.place in
    IsBadNode.bad_entry check (record {
      index = wrong.index;
      below = wrong.below;
      wrong = λ e. wrong.wrong (entry_same there (places block) level zones number zone wrong.index wrong.below same e);
      right = λ i lt. entry_same (places block) there level zones number zone i (omega arith) (back there (places block) same) (wrong.right i lt);
      is = wrong.is;
    })
