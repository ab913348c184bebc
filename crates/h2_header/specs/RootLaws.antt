-- The super-root of one reference.
use Rattle.std.specs.Prelude.{◌≡◌, ◌<◌, ℕ, zero, suc, ◌+◌, List, length, slice_index_or}
use Rattle.std.proofs.Common.{ap, sym, subst, arith, inl}
use Rattle.h2_ref.specs.declared.reference.Ref.{Ref}
use Rattle.h2_ref.specs.Ref.{empty_ref}
use Rattle.h2_ref.specs.RefLaws.{empty_valid}
use Rattle.h2_header.specs.Header.{IsRoot, IsRootRef}

-- the empty reference may stand in a super-root
pub empty_root_ref : IsRootRef empty_ref
empty_root_ref = record { valid = empty_valid; kind = tt; key_below = omega arith }

-- one reference and three empty ones are a super-root
pub root_of_one : (refs : List Ref) → length refs ≡ 4 → ((d : Ref) → IsRootRef (slice_index_or refs 0 d))
    → ((i : ℕ) (d : Ref) → 0 < i → i < 4 → slice_index_or refs i d ≡ empty_ref) → IsRoot refs
root_of_one refs len first rest = record {
  length_is = len;
  each = each;
  set = λ k d lt. inl (ap (λ v. v.kind) (rest (k + 1) d (omega arith) (omega arith)));
}
  where
    each : (k : ℕ) (d : Ref) → k < length refs → IsRootRef (slice_index_or refs k d)
    each zero d lt = first d
    each (suc k) d lt = let P : Ref → Type 0 = λ v. IsRootRef v in subst P (sym (rest (suc k) d (omega arith) (omega arith))) empty_root_ref
