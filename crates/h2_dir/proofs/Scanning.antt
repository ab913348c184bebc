-- The leaves that a search for a name has passed.
use Rattle.std.proofs.Common.{◌≡◌, ℕ, ◌+◌, ◌<◌, sym, arith, List, Some, subst, inl, inr, get_or, length}
use Rattle.std.specs.Prelude.{slice_get}
use Rattle.std.proofs.lemmas.Option.{slice_get-get_or, get_or_from_slice_get}
use Rattle.std.proofs.lemmas.Bool.{cases_lt}
use Rattle.h2_ref.specs.declared.reference.Ref.{Ref}
use Rattle.h2_set.specs.Forest.{Forest}
use Rattle.h2_set.specs.Calls.{Unchanged}
use Rattle.h2_dir.specs.Names.{IsEntryNamed, MayBeNamed, IsPlaceOfName}
use Rattle.h2_dir.proofs.Unchanging.{named_stays, may_stays}

pub place_found : (f g : Forest) (xs : List Ref) (i : ℕ) (d : Ref) (name : List ℕ) → Unchanged f g → i < length xs → MayBeNamed g (get_or xs i d) name → IsPlaceOfName f xs name i
place_found f g xs i d name same lt named = record {
  leaf = get_or xs i d;
  read = slice_get-get_or xs i d lt;
  named = may_stays g f (get_or xs i d) name (λ r. sym (same.fixed.name r)) named;
}

pub none_more : (f g : Forest) (xs : List Ref) (i : ℕ) (d : Ref) (name : List ℕ) → Unchanged f g
    → ((k : ℕ) (leaf : Ref) → k < i → slice_get xs k ≡ Some leaf → IsEntryNamed f leaf name → ⊥)
    → (IsEntryNamed g (get_or xs i d) name → ⊥)
    → (k : ℕ) (leaf : Ref) → k < i + 1 → slice_get xs k ≡ Some leaf → IsEntryNamed f leaf name → ⊥
none_more f g xs i d name same before here k leaf lt read named = elim (cases_lt k i) [
  | inl below ↦ before k leaf below read named
  | inr above ↦
      let at : k ≡ i = omega arith in
      let is : get_or xs i d ≡ leaf = get_or_from_slice_get xs i leaf d (subst (λ n. slice_get xs n ≡ Some leaf) at read) in
      here (subst (λ r. IsEntryNamed g r name) (sym is) (named_stays f g leaf name same.fixed.name named))
]
