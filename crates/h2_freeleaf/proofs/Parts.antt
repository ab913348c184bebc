-- The eight parts of a block, put and read one after the other.
use Rattle.std.proofs.Common.{◌≡◌, ◌≢◌, ◌<◌, ◌≤◌, ◌+◌, ◌*◌, ℕ, List, length, drop, take, sym, ap, ◌∙◌, arith, inl, inr, get_or-set_other, get_or-set_same, length-set}
use Rattle.std.specs.Prelude.{slice_index, slice_index_or, slice_set}
use Rattle.std.specs.List.{AllWithin}
use Rattle.std.proofs.lemmas.Bool.{cases_lt}
use Rattle.std.specs.Array.{IsFirstChunk}
use Rattle.std.proofs.lemmas.List.{get_or-take, get_or-drop}
use Rattle.h2_num.specs.Places.{Places, places, from_place, SameBelow, SameOutside, Lays}
use Rattle.h2_freeleaf.specs.Leaf.{part_of}

-- the first bytes of a list
pub front_same : (b chunk : List ℕ) (n : ℕ) → IsFirstChunk b chunk n → SameBelow n (places chunk) (places b)
front_same b chunk n h k lt = sym (ap (λ (l : List ℕ). slice_index l k) h.same ∙ get_or-take n b k 0 lt)

-- the 128 bytes of part i
pub part_same : (b chunk : List ℕ) (i n : ℕ) → 128 ≤ n → IsFirstChunk (take n (drop (128 * i) b)) chunk 128 → SameBelow 128 (places chunk) (part_of i (places b))
part_same b chunk i n le h k lt =
    sym (ap (λ (l : List ℕ). slice_index l k) h.same ∙ get_or-take 128 (take n (drop (128 * i) b)) k 0 lt ∙ get_or-take n (drop (128 * i) b) k 0 (omega arith) ∙ get_or-drop (128 * i) b k 0)

-- it is seen by its 128 places alone
abbrev pub IsLocal : {X : Type 0} → (X → Places → Type 0) → Type 0
IsLocal {X} P = (x : X) (a b : Places) → SameBelow 128 a b → P x a → P x b

-- the first i are spelled by the first parts
abbrev pub Spelled : {X : Type 0} → (X → Places → Type 0) → List X → Places → ℕ → Type 0
Spelled {X} P xs b i = (k : ℕ) (d : X) → k < i → P (slice_index_or xs k d) (part_of k b)

-- a part that was laid at a place
pub part_laid : {X : Type 0} (P : X → Places → Type 0) → IsLocal P → (x : X) (at : ℕ) (bytes : List ℕ) (old new : Places) → length bytes ≡ 128 → P x (places bytes) → Lays at bytes old new → P x (from_place new at)
part_laid P local x at bytes old new len h lays = local x (places bytes) (from_place new at) (λ k lt. lays.inside k (omega arith)) h

-- one more of a list has the property
pub all_more : {X : Type 0} (P : X → Type 0) (xs : List X) (x : X) (i : ℕ) → ((d : X) → slice_index_or xs i d ≡ x) → AllWithin P xs 0 i → P x → AllWithin P xs 0 (i + 1)
all_more P xs x i is so_far one k d ge below = elim (cases_lt k i) [
  | inl earlier ↦ so_far k d ge earlier
  | inr late ↦ let e : k ≡ i = omega arith in rw (e, is d) one
]

-- one more was put
pub put_more : {X : Type 0} (P : X → Places → Type 0) → IsLocal P → (xs : List X) (x : X) (i : ℕ) (old new : Places) → ((d : X) → slice_index_or xs i d ≡ x)
    → Spelled P xs old i → P x (from_place new (128 * i)) → SameOutside (128 * i) 128 old new → Spelled P xs new (i + 1)
put_more P local xs x i old new is so_far one same k d below = elim (cases_lt k i) [
  | inl earlier ↦ local (slice_index_or xs k d) (part_of k old) (part_of k new) (λ j j_lt. same.before (128 * k + j) (omega arith)) (so_far k d earlier)
  | inr late ↦ let e : k ≡ i = omega arith in rw (e, is d) one
]

-- the first i were read
pub record ReadTo {X : Type 0} (IsX : X → Type 0) (P : X → Places → Type 0) (b : Places) (xs : List X) (i : ℕ) : Type 0 where
  pub size : length xs ≡ 8
  pub each : AllWithin IsX xs 0 i
  pub bytes : Spelled P xs b i

-- one more was read
pub read_more : {X : Type 0} (IsX : X → Type 0) (P : X → Places → Type 0) (b : Places) (xs : List X) (x : X) (i : ℕ) → i < 8 → ReadTo IsX P b xs i → IsX x → P x (part_of i b) → ReadTo IsX P b (slice_set xs i x) (i + 1)
read_more IsX P b xs x i lt h valid bytes =
    let len : length xs ≡ 8 = h.size in
    let inside : i < length xs = omega arith in
    record {
      size = length-set xs i x ∙ h.size;
      each = λ k d ge below. elim (cases_lt k i) [
        | inl early ↦ let ne : k ≢ i = omega arith in rw get_or-set_other (h.each k d ge early)
        | inr late ↦ let e : k ≡ i = omega arith in rw (e, get_or-set_same) valid
      ];
      bytes = λ k d below. elim (cases_lt k i) [
        | inl early ↦ let ne : k ≢ i = omega arith in rw get_or-set_other (h.bytes k d early)
        | inr late ↦ let e : k ≡ i = omega arith in rw (e, get_or-set_same) bytes
      ];
    }

-- one more place of an array is filled
pub fill_more : {X : Type 0} (Q : ℕ → X → Type 0) (xs : List X) (x : X) (i : ℕ) → i < length xs → ((k : ℕ) (d : X) → k < i → Q k (slice_index_or xs k d)) → Q i x → (k : ℕ) (d : X) → k < i + 1 → Q k (slice_index_or (slice_set xs i x) k d)
fill_more Q xs x i inside so_far new k d below = elim (cases_lt k i) [
  | inl early ↦ let ne : k ≢ i = omega arith in rw get_or-set_other (so_far k d early)
  | inr late ↦ let e : k ≡ i = omega arith in rw (e, get_or-set_same) new
]
