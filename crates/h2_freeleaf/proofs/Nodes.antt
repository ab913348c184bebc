-- References of nodes.
use Rattle.std.proofs.Common.{◌≡◌, ◌<◌, ◌+◌, ◌*◌, ℕ, List, length, sym, subst, arith}
use Rattle.std.specs.Prelude.{Result, Ok, Err, Option, IfOk, OnErr, IfNone, IfSome, slice_index_or}
use Rattle.std.specs.Result.{result_ok}
use Rattle.h2_num.specs.Places.{Places, SameBelow}
use Rattle.h2_ref.specs.declared.reference.Ref.{Ref}
use Rattle.h2_ref.specs.declared.faults.RefFault.{RefFault}
use Rattle.h2_ref.specs.Ref.{empty_ref, IsValid, NoRef, RefBytes}
use Rattle.h2_ref.specs.RefLaws.{RefBytes-same}
use Rattle.h2_freeleaf.specs.Leaf.{part_of}
use Rattle.h2_freeleaf.specs.Node.{IsNode, NodeBytes}
use Rattle.h2_freeleaf.specs.Fault.{IsNodeFault}
use Rattle.h2_freeleaf.specs.declared.fault.MapFault.{MapFault}
use Rattle.h2_freeleaf.specs.declared.fault.MapFault.TheVariants.{Reference}
use Rattle.h2_freeleaf.proofs.Parts.{ReadTo}

pub found_same : (x : Result Ref RefFault) (o : Option Ref) (a b : Places) → o ≡ result_ok x → SameBelow 128 a b → IfOk x (λ r. IsValid r × RefBytes r a) → IfSome o (λ r. IsValid r × RefBytes r b)
found_same (Ok r) o a b e same h = subst (λ p. IfSome p (λ r. IsValid r × RefBytes r b)) (sym e) (h.0, RefBytes-same r a b same h.1)
found_same (Err f) o a b e same h = subst (λ p. IfSome p (λ r. IsValid r × RefBytes r b)) (sym e) tt

pub none_same : (x : Result Ref RefFault) (o : Option Ref) (a b : Places) → o ≡ result_ok x → SameBelow 128 a b → OnErr x (NoRef a) → IfNone o (NoRef b)
none_same (Ok r) o a b e same h = subst (λ p. IfNone p (NoRef b)) (sym e) tt
none_same (Err f) o a b e same h = subst (λ p. IfNone p (NoRef b)) (sym e) (λ r valid bytes. h r valid (RefBytes-same r b a (λ k lt. sym (same k lt)) bytes))

-- a reference that is none
pub node_fault : (at : ℕ) (b : Places) (refs : List Ref) (i : ℕ) (f : MapFault) → i < 8 → ReadTo IsValid RefBytes b refs i → NoRef (part_of i b) → f ≡ Reference (at + 128 * i) → IsNodeFault at b f
node_fault at b refs i f lt h none is = record {
  index = i;
  below = lt;
  is = is;
  here = none;
  before = λ j below. record { ref = slice_index_or refs j empty_ref; valid = h.each j empty_ref (omega arith) below; bytes = h.bytes j empty_ref below };
}

-- all references of a node were read
pub all_read : (b : Places) (refs : List Ref) → ReadTo IsValid RefBytes b refs 8 → IsNode refs × NodeBytes refs b
all_read b refs h =
    let len : length refs ≡ 8 = h.size in
    (record { count = h.size; valid = λ k d lt. h.each k d (omega arith) (omega arith) }, λ k d lt. h.bytes k d (omega arith))
