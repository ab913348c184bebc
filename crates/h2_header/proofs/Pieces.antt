-- References in the bytes of a block, read one after the other.
use Rattle.std.proofs.Common.{◌≡◌, ◌≢◌, ◌<◌, ◌≤◌, ◌+◌, ◌*◌, ◌-◌, ◌↔◌, ℕ, Bool, false, List, length, drop, take, refl, sym, ap, subst, ◌∙◌, arith, inl, inr, get_or-set_other, get_or-set_same, length-set}
use Rattle.std.specs.Prelude.{Option, Some, None, Result, Ok, Err, MatchOption, IfOk, OnErr, IfNone, IfSome, IsTrue, slice_index, slice_index_or, slice_set}
use Rattle.std.specs.List.{AllWithin, AllAdjacentBelow}
use Rattle.std.specs.Result.{result_ok}
use Rattle.std.proofs.lemmas.Bool.{cases_lt, both_ways}
use Rattle.std.specs.Array.{IsFirstChunk}
use Rattle.std.proofs.lemmas.List.{get_or-take, get_or-drop}
use Rattle.h2_num.specs.Places.{Places, places, from_place, SameBelow, number_at}
use Rattle.h2_ref.specs.Ref.{empty_ref, IsValid, NoRef, RefBytes}
use Rattle.h2_ref.specs.Set.{RefsBytes, MayFollow}
use Rattle.h2_ref.specs.RefLaws.{RefBytes-same}
use Rattle.h2_ref.specs.Spelling.{one_value}
use Rattle.h2_ref.specs.declared.reference.Ref.{Ref}
use Rattle.h2_ref.specs.declared.faults.RefFault.{RefFault}
use Rattle.h2_header.specs.Map.{IsMapSlot, IsMap}
use Rattle.h2_header.specs.Header.{IsRootRef, IsRoot}
use Rattle.h2_header.specs.Fault.{ref_bytes, IsRootAt, IsMapAt}
use Rattle.h2_header.specs.Reading.{IsBefore, IsFirstRoot, IsFirstMap}

-- the 128 bytes of reference i of those from a place on
pub chunk_same : (b chunk : List ℕ) (at i n : ℕ) → 128 ≤ n → IsFirstChunk (take n (drop (at + 128 * i) b)) chunk 128 → SameBelow 128 (places chunk) (ref_bytes at i (places b))
chunk_same b chunk at i n le h k lt =
    sym (ap (λ (l : List ℕ). slice_index l k) h.same ∙ get_or-take 128 (take n (drop (at + 128 * i) b)) k 0 lt ∙ get_or-take n (drop (at + 128 * i) b) k 0 (omega arith) ∙ get_or-drop (at + 128 * i) b k 0 ∙ ap (places b) (omega arith))

pub found_same : (x : Result Ref RefFault) (o : Option Ref) (a b : Places) → o ≡ result_ok x → SameBelow 128 a b → IfOk x (λ r. IsValid r × RefBytes r a) → IfSome o (λ r. IsValid r × RefBytes r b)
found_same (Ok r) o a b e same h = subst (λ p. IfSome p (λ r. IsValid r × RefBytes r b)) (sym e) (h.0, RefBytes-same r a b same h.1)
found_same (Err f) o a b e same h = subst (λ p. IfSome p (λ r. IsValid r × RefBytes r b)) (sym e) tt

pub none_same : (x : Result Ref RefFault) (o : Option Ref) (a b : Places) → o ≡ result_ok x → SameBelow 128 a b → OnErr x (NoRef a) → IfNone o (NoRef b)
none_same (Ok r) o a b e same h = subst (λ p. IfNone p (NoRef b)) (sym e) tt
none_same (Err f) o a b e same h = subst (λ p. IfNone p (NoRef b)) (sym e) (λ r valid bytes. h r valid (RefBytes-same r b a (λ k lt. sym (same k lt)) bytes))

-- What a loop has read of references

-- so many first references have the property
more_each : (P : Ref → Type 0) (refs : List Ref) (r : Ref) (i : ℕ) → i < length refs → AllWithin P refs 0 i → P r → AllWithin P (slice_set refs i r) 0 (i + 1)
more_each P refs r i inside so_far new k d ge lt = elim (cases_lt k i) [
  | inl below ↦ let ne : k ≢ i = omega arith in rw get_or-set_other (so_far k d ge below)
  | inr here ↦ let e : k ≡ i = omega arith in rw (e, get_or-set_same) new
]

-- so many are spelled
more_bytes : (refs : List Ref) (r : Ref) (b : Places) (at i : ℕ) → i < length refs
    → ((k : ℕ) (d : Ref) → k < i → RefBytes (slice_index_or refs k d) (ref_bytes at k b)) → RefBytes r (ref_bytes at i b)
    → (k : ℕ) (d : Ref) → k < i + 1 → RefBytes (slice_index_or (slice_set refs i r) k d) (ref_bytes at k b)
more_bytes refs r b at i inside so_far bytes k d lt = elim (cases_lt k i) [
  | inl below ↦ let ne : k ≢ i = omega arith in rw get_or-set_other (so_far k d below)
  | inr here ↦ let e : k ≡ i = omega arith in rw (e, get_or-set_same) bytes
]

-- the first i references of the super-root were read, and this is the last of them
pub record RootsTo (b : Places) (refs : List Ref) (last : Option Ref) (i : ℕ) : Type 0 where
  pub size : length refs ≡ 4
  pub each : AllWithin IsRootRef refs 0 i
  pub bytes : (k : ℕ) (d : Ref) → k < i → RefBytes (slice_index_or refs k d) (ref_bytes 512 k b)
  pub set : AllAdjacentBelow MayFollow refs i
  pub before : MatchOption last (i ≡ 0) (IsBefore b i)
  pub is_last : IfSome last (λ r. (d : Ref) → slice_index_or refs (i - 1) d ≡ r)

-- nothing was read yet
pub no_roots : (b : Places) (refs : List Ref) → length refs ≡ 4 → RootsTo b refs None 0
no_roots b refs size = record {
  size = size;
  each = λ k d ge lt. absurd (omega arith);
  bytes = λ k d lt. absurd (omega arith);
  set = λ k d lt. absurd (omega arith);
  before = refl;
  is_last = tt;
}

-- the last two may follow one another
last_two : (b : Places) (refs : List Ref) (last : Option Ref) (r : Ref) (i k : ℕ) (d : Ref) → i < length refs → k + 1 ≡ i → MatchOption last (i ≡ 0) (IsBefore b i)
    → IfSome last (λ q. (d : Ref) → slice_index_or refs (i - 1) d ≡ q) → IfSome last (λ q. MayFollow q r)
    → MayFollow (slice_index_or (slice_set refs i r) k d) (slice_index_or (slice_set refs i r) (k + 1) d)
last_two b refs None r i k d inside next before is_last follows = absurd (omega arith)
last_two b refs (Some q) r i k d inside next before is_last follows =
    let ne : k ≢ i = omega arith in
    let at : i - 1 ≡ k = omega arith in
    let first : slice_index_or (slice_set refs i r) k d ≡ q = get_or-set_other refs i k r d ne ∙ ap (λ n. slice_index_or refs n d) (sym at) ∙ is_last d in
    let second : slice_index_or (slice_set refs i r) (k + 1) d ≡ r = ap (λ n. slice_index_or (slice_set refs i r) n d) next ∙ get_or-set_same refs i r d inside in
    subst (λ x. MayFollow x (slice_index_or (slice_set refs i r) (k + 1) d)) (sym first) (subst (λ y. MayFollow q y) (sym second) follows)

-- one more was read
pub more_roots : (b : Places) (refs : List Ref) (last : Option Ref) (r : Ref) (i : ℕ) → i < 4 → RootsTo b refs last i → RefBytes r (ref_bytes 512 i b) → IsRootRef r → IfSome last (λ q. MayFollow q r)
    → RootsTo b (slice_set refs i r) (Some r) (i + 1)
more_roots b refs last r i lt h bytes may follows =
    let len : length refs ≡ 4 = h.size in
    let inside : i < length refs = omega arith in
    let at : i + 1 - 1 ≡ i = omega arith in
    record {
      size = length-set refs i r ∙ h.size;
      each = more_each IsRootRef refs r i inside h.each may;
      bytes = more_bytes refs r b 512 i inside h.bytes bytes;
      set = λ k d below. elim (cases_lt (k + 1) i) [
        | inl early ↦
            let one : k ≢ i = omega arith in
            let two : k + 1 ≢ i = omega arith in
            let first = sym (get_or-set_other refs i k r d one) in
            let second = sym (get_or-set_other refs i (k + 1) r d two) in
            subst (λ x. MayFollow x (slice_index_or (slice_set refs i r) (k + 1) d)) first (subst (λ y. MayFollow (slice_index_or refs k d) y) second (h.set k d early))
        | inr late ↦ last_two b refs last r i k d inside (omega arith) h.before h.is_last follows
      ];
      before = record { index = i; next = refl; valid = may.valid; spelled = bytes };
      is_last = λ d. ap (λ n. slice_index_or (slice_set refs i r) n d) at ∙ get_or-set_same refs i r d inside;
    }

-- those that were read are right
roots_right : (b : Places) (refs : List Ref) (last : Option Ref) (i : ℕ) → i ≤ 4 → RootsTo b refs last i → (j : ℕ) → j < i → IsRootAt b j
roots_right b refs last i le h j lt = record {
  ref = slice_index_or refs j empty_ref;
  spelled = h.bytes j empty_ref lt;
  may = h.each j empty_ref (omega arith) lt;
  follows = λ k before next valid bytes.
      let near : k < i = omega arith in
      let more : k + 1 < i = omega arith in
      let is : slice_index_or refs k empty_ref ≡ before = one_value before (slice_index_or refs k empty_ref) (ref_bytes 512 k b) valid (h.each k empty_ref (omega arith) near).valid bytes (h.bytes k empty_ref near) in
      subst (λ r. MayFollow r (slice_index_or refs j empty_ref)) is (subst (λ n. MayFollow (slice_index_or refs k empty_ref) (slice_index_or refs n empty_ref)) next (h.set k empty_ref more));
}

-- the next one is wrong
pub wrong_root : (b : Places) (refs : List Ref) (last : Option Ref) (i at : ℕ) → i < 4 → RootsTo b refs last i → (IsRootAt b i → ⊥) → at ≡ 512 + 128 * i → IsFirstRoot b at
wrong_root b refs last i at lt h wrong place = record { index = i; below = lt; place = place; wrong = wrong; right = roots_right b refs last i (omega arith) h }

-- all were read
pub all_roots : (b : Places) (refs : List Ref) (last : Option Ref) → RootsTo b refs last 4 → IsRoot refs × RefsBytes refs (from_place b 512)
all_roots b refs last h =
    let len : length refs ≡ 4 = h.size in
    (record { length_is = h.size; each = λ k d lt. h.each k d (omega arith) (omega arith); set = λ k d lt. h.set k d (omega arith) }, λ k d lt. h.bytes k d (omega arith))

-- the first i references of the map were read
pub record MapsTo (b : Places) (zones number : ℕ) (refs : List Ref) (i : ℕ) : Type 0 where
  pub size : length refs ≡ 8
  pub each : AllWithin IsValid refs 0 i
  pub bytes : (k : ℕ) (d : Ref) → k < i → RefBytes (slice_index_or refs k d) (ref_bytes 1024 k b)
  pub slots : (k : ℕ) (d : Ref) → k < i → IsMapSlot zones number k (slice_index_or refs k d)

pub more_maps : (b : Places) (zones number : ℕ) (refs : List Ref) (r : Ref) (i : ℕ) → i < 8 → MapsTo b zones number refs i → RefBytes r (ref_bytes 1024 i b) → IsValid r → IsMapSlot zones number i r
    → MapsTo b zones number (slice_set refs i r) (i + 1)
more_maps b zones number refs r i lt h bytes valid slot =
    let len : length refs ≡ 8 = h.size in
    let inside : i < length refs = omega arith in
    record {
      size = length-set refs i r ∙ h.size;
      each = more_each IsValid refs r i inside h.each valid;
      bytes = more_bytes refs r b 1024 i inside h.bytes bytes;
      slots = λ k d below. elim (cases_lt k i) [
        | inl early ↦ let ne : k ≢ i = omega arith in rw get_or-set_other (h.slots k d early)
        | inr late ↦ let e : k ≡ i = omega arith in rw (e, get_or-set_same) slot
      ];
    }

pub wrong_map : (b : Places) (zones number : ℕ) (refs : List Ref) (i at : ℕ) → zones ≡ number_at b 12 4 → number ≡ number_at b 24 8 → i < 8 → MapsTo b zones number refs i → (IsMapAt b i → ⊥) → at ≡ 1024 + 128 * i → IsFirstMap b at
wrong_map b zones number refs i at z n lt h wrong place = record {
  index = i;
  below = lt;
  place = place;
  wrong = wrong;
  right = λ j below. record {
    ref = slice_index_or refs j empty_ref;
    spelled = h.bytes j empty_ref below;
    valid = h.each j empty_ref (omega arith) below;
    names = subst (λ x. IsMapSlot x (number_at b 24 8) j (slice_index_or refs j empty_ref)) z (subst (λ x. IsMapSlot zones x j (slice_index_or refs j empty_ref)) n (h.slots j empty_ref below));
  };
}

pub all_maps : (b : Places) (zones number : ℕ) (refs : List Ref) → MapsTo b zones number refs 8 → IsMap zones number refs × RefsBytes refs (from_place b 1024)
all_maps b zones number refs h =
    let len : length refs ≡ 8 = h.size in
    (record { length_is = h.size; valid = λ k d lt. h.each k d (omega arith) (omega arith); slots = λ k d lt. h.slots k d lt }, λ k d lt. h.bytes k d (omega arith))

-- a reference that isn't the slot's is wrong
pub not_slot : (b : Places) (i zones number : ℕ) (r : Ref) (t : Bool) → zones ≡ number_at b 12 4 → number ≡ number_at b 24 8 → IsValid r → RefBytes r (ref_bytes 1024 i b)
    → (IsTrue t ↔ IsMapSlot zones number i r) → t ≡ false → IsMapAt b i → ⊥
not_slot b i zones number r t z n valid bytes test out m =
    let same : m.ref ≡ r = one_value r m.ref (ref_bytes 1024 i b) valid m.valid bytes m.spelled in
    let named = subst (λ x. IsMapSlot zones x i r) (sym n) (subst (λ x. IsMapSlot x (number_at b 24 8) i r) (sym z) (subst (λ x. IsMapSlot (number_at b 12 4) (number_at b 24 8) i x) same m.names)) in
    both_ways t out (test.1 named)
