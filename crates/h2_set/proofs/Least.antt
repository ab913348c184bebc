-- The least range that holds half of the references.
use Rattle.std.proofs.Common.{◌≡◌, ℕ, ◌+◌, ◌-◌, ◌*◌, ◌/◌, ◌%◌, ◌<◌, ◌≤◌, ◌^◌, Bool, true, false, nat_le, ◌&&◌, arith, refl, cond, sym, ◌∙◌, ap, List, [], ◌∷◌, length, Some, subst, ◌⊎◌, inl, inr, slice_get, suc, zero}
use Rattle.std.specs.Prelude.{count_by, filter}
use Rattle.std.proofs.lemmas.Bool.Decides.{nat_tests}
use Rattle.std.proofs.lemmas.Bool.{cases_lt}
use Rattle.std.proofs.lemmas.Nat.{pow_pos, pow_below, div-add-mod', div-mul-add, mod_below}
use Rattle.std.proofs.Math.Nat.{mod-eq_of_lt, mul-mod_left, mul-le-mul_left}
use Rattle.std.proofs.lemmas.Option.{none-some, slice_get-get_or, slice_get_within}
use Rattle.std.proofs.lemmas.List.Sums.{sum_by-cons}
use Rattle.std.proofs.Common.{get_or}
use Rattle.h2_ref.specs.declared.reference.Ref.{Ref}
use Rattle.h2_set.specs.Ranges.{Rising, limit, lies, put, IsApart, AllAligned, IsOneClass}
use Rattle.h2_set.specs.RefSet.{HoldsHalf, IsSplitOf, IsRefSet}
use Rattle.h2_set.specs.LeafLaws.{place_above}
use Rattle.h2_set.specs.SplitLaws.{one_class, halved, split_few}
use Rattle.h2_set.specs.EditLaws.{Rising-put, length-put}
use Rattle.h2_set.specs.PutLaws.{Rising-filter}

-- a shift of one
pub shift_is : (k : ℕ) → k < 64 → 1 * 2 ^ k % 18446744073709551616 ≡ 2 ^ k
shift_is k lt =
    let small : 2 ^ k < 2 ^ 64 = pow_below k 64 lt in
    let e : 1 * 2 ^ k ≡ 2 ^ k = omega arith in
    rw e (mod-eq_of_lt small)

pub lies_by_size : (key low p q : ℕ) → key ≤ low → q ≤ p → (nat_le (low - key) (p - q)) ≡ (nat_le key low && nat_le (low + q) (key + p))
lies_by_size key low p q le fits = grind (arith, nat_tests)

pub lies_longer : (key low p q : ℕ) → key ≤ low → p < q → false ≡ (nat_le key low && nat_le (low + q) (key + p))
lies_longer key low p q le longer = grind (arith, nat_tests)

pub lies_lower : (key low p q : ℕ) → low < key → false ≡ (nat_le key low && nat_le (low + q) (key + p))
lies_lower key low p q lt = grind (arith, nat_tests)

-- the multiple that a range begins with
pub floor_is : (x k p : ℕ) → 0 < p → k % p ≡ 0 → k ≤ x → x < k + p → x / p * p ≡ k
floor_is x k p pos aligned le lt =
    let whole = div-add-mod' k p in
    let x_is : x ≡ k / p * p + (x - k) = omega (arith, whole, aligned, le) in
    let quotient : x / p ≡ k / p = ap (λ z. z / p) x_is ∙ div-mul-add (k / p) p (x - k) (omega (arith, lt, le)) in
    rw quotient (omega (arith, whole, aligned))

-- some reference lies in a range that holds one
pub some_lies : (k b : ℕ) (rs : List Ref) → 0 < count_by (lies k b) rs → (j : ℕ) × (q : Ref) × (slice_get rs j ≡ Some q) × (lies k b q ≡ true)
some_lies k b [] h = absurd (omega (arith, h))
some_lies k b (r ∷ rs) h = head (lies k b r) refl (rw sum_by-cons at h) (some_lies k b rs)
  where
    head : (e : Bool) → lies k b r ≡ e → 0 < cond e 1 0 + count_by (lies k b) rs → (0 < count_by (lies k b) rs → (j : ℕ) × (q : Ref) × (slice_get rs j ≡ Some q) × (lies k b q ≡ true)) → (j : ℕ) × (q : Ref) × (slice_get (r ∷ rs) j ≡ Some q) × (lies k b q ≡ true)
    head true e h ih = (0, r, refl, e)
    head false e h ih = let it = ih (omega (arith, h)) in (suc it.0, it.1, it.2, it.3)

-- the range begins at the floor of a reference in it
pub record Begins (rs : List Ref) (k b : ℕ) : Type 0 where
  pub place : ℕ
  pub ref : Ref
  pub read : slice_get rs place ≡ Some ref
  pub floor : ref.key / 2 ^ b * 2 ^ b ≡ k

pub begins : (rs : List Ref) (k b : ℕ) → 0 < length rs → HoldsHalf rs k b → Begins rs k b
begins rs k b some h =
    let it = some_lies k b rs (half_pos (length rs) (count_by (lies k b) rs) some h.half) in
    let lo : k ≤ it.1.key = inside it.1 it.3 in
    let hi : it.1.key < k + 2 ^ b = below it.1 it.3 in
    record { place = it.0; ref = it.1; read = it.2; floor = floor_is it.1.key k (2 ^ b) (pow_pos b) h.aligned lo hi }
  where
    half_pos : (n m : ℕ) → 0 < n → (n + 1) / 2 ≤ m → 0 < m
    half_pos n m pos le = omega (arith, pos, le)

    inside : (r : Ref) → lies k b r ≡ true → k ≤ r.key
    inside r e = grind (arith, nat_tests)

    below : (r : Ref) → lies k b r ≡ true → r.key < k + 2 ^ b
    below r e = let pos = pow_pos r.keybits in grind (arith, nat_tests)

-- floors keep the order
pub floor_mono : (x y p : ℕ) → 0 < p → x ≤ y → x / p * p ≤ y / p * p
floor_mono x y p pos le =
    let wx = div-add-mod' x p in
    let wy = div-add-mod' y p in
    elim (cases_lt (y / p) (x / p)) as (λ _. x / p * p ≤ y / p * p) [
      | inl lt ↦
          let more : p * (y / p + 1) ≤ p * (x / p) = mul-le-mul_left p (omega (arith, lt)) in
          let rest = mod_below y p pos in
          absurd (omega (arith, more, wx, wy, rest, le))
      | inr le' ↦ let more : p * (x / p) ≤ p * (y / p) = mul-le-mul_left p le' in omega (arith, more)
    ]

-- later references have greater keys
pub later_key : (low high : ℕ) (rs : List Ref) (i j : ℕ) (q r : Ref) → Rising low high rs → i ≤ j → slice_get rs i ≡ Some q → slice_get rs j ≡ Some r → q.key ≤ r.key
later_key low high [] i j q r h le read read' = absurd (none-some q read)
later_key low high (x ∷ xs) zero zero q r h le read read' = let same : q ≡ r = (cc) in rw same (omega arith)
later_key low high (x ∷ xs) zero (suc j) q r h le read read' =
    let same : x ≡ q = (cc) in
    let pos = pow_pos x.keybits in
    let above = place_above (limit x) high xs j r h.1 read' in
    let lower : x.key ≤ r.key = omega (arith, above, pos) in
    subst (λ (y : Ref). y.key ≤ r.key) same lower
later_key low high (x ∷ xs) (suc i) zero q r h le read read' = absurd (omega (arith, le))
later_key low high (x ∷ xs) (suc i) (suc j) q r h le read read' = later_key (limit x) high xs i j q r h.1 (omega (arith, le)) read read'

-- none of the references before place i begins a range that holds half
abbrev pub NoneBefore : List Ref → ℕ → ℕ → ℕ → Type 0
NoneBefore rs bits half i = (j : ℕ) (q : Ref) → j < i → slice_get rs j ≡ Some q → count_by (lies (q.key / 2 ^ bits * 2 ^ bits) bits) rs < half

pub none_more : (rs : List Ref) (bits half i key : ℕ) (d : Ref) → i < length rs → NoneBefore rs bits half i → key ≡ (get_or rs i d).key / 2 ^ bits * 2 ^ bits → count_by (lies key bits) rs < half → NoneBefore rs bits half (i + 1)
none_more rs bits half i key d within before key_is few j q lt read = elim (cases_lt j i) as (λ _. count_by (lies (q.key / 2 ^ bits * 2 ^ bits) bits) rs < half) [
  | inl less ↦ before j q less read
  | inr le ↦
      let j_is : j ≡ i = omega (arith, lt, le) in
      let here : slice_get rs i ≡ Some q = subst (λ z. slice_get rs z ≡ Some q) j_is read in
      let there = slice_get-get_or rs i d within in
      let same : get_or rs i d ≡ q = cc (here, there) in
      let floor : key ≡ q.key / 2 ^ bits * 2 ^ bits = key_is ∙ ap (λ (r : Ref). r.key / 2 ^ bits * 2 ^ bits) same in
      subst (λ z. count_by (lies z bits) rs < half) floor few
]

pub lowest : (rs : List Ref) (bits i key high : ℕ) (d : Ref) → Rising 0 high rs → i < length rs → NoneBefore rs bits ((length rs + 1) / 2) i → key ≡ (get_or rs i d).key / 2 ^ bits * 2 ^ bits → (length rs + 1) / 2 ≤ count_by (lies key bits) rs → HoldsHalf rs key bits × ((k : ℕ) → HoldsHalf rs k bits → key ≤ k)
lowest rs bits i key high d rising within before key_is enough =
    let aligned : key % 2 ^ bits ≡ 0 = rw key_is (mul-mod_left ((get_or rs i d).key / 2 ^ bits) (2 ^ bits)) in (
      record { aligned = aligned; half = enough },
      λ k h.
          let it = begins rs k bits (omega (arith, within)) h in
          elim (cases_lt it.place i) as (λ _. key ≤ k) [
            | inl less ↦
                let few = before it.place it.ref less it.read in
                let few' : count_by (lies k bits) rs < (length rs + 1) / 2 = subst (λ z. count_by (lies z bits) rs < (length rs + 1) / 2) it.floor few in
                absurd (omega (arith, few', h.half))
            | inr le ↦
                let there = slice_get-get_or rs i d within in
                let later = later_key 0 high rs i it.place (get_or rs i d) it.ref rising le there it.read in
                let floors = floor_mono (get_or rs i d).key it.ref.key (2 ^ bits) (pow_pos bits) later in
                omega (arith, floors, key_is, it.floor)
          ],
    )

pub none_at_all : (rs : List Ref) (bits i : ℕ) → 0 < length rs → length rs ≤ i → NoneBefore rs bits ((length rs + 1) / 2) i → (k : ℕ) → HoldsHalf rs k bits → ⊥
none_at_all rs bits i some all before k h =
    let it = begins rs k bits some h in
    let within = slice_get_within rs it.place it.ref it.read in
    let few = before it.place it.ref (omega (arith, within, all)) it.read in
    let few' : count_by (lies k bits) rs < (length rs + 1) / 2 = subst (λ z. count_by (lies z bits) rs < (length rs + 1) / 2) it.floor few in
    omega (arith, few', h.half)

pub is_split : (rs : List Ref) (key bits : ℕ) → ((k b : ℕ) → b < bits → HoldsHalf rs k b → ⊥) → HoldsHalf rs key bits → ((k : ℕ) → HoldsHalf rs k bits → key ≤ k) → IsSplitOf rs key bits
is_split rs key bits shorter half low = record {
  half = half;
  least = λ k b h. elim (cases_lt bits b) as (λ _. (bits < b) ⊎ ((b ≡ bits) × (key ≤ k))) [
    | inl longer ↦ inl longer
    | inr le ↦ elim (cases_lt b bits) as (λ _. (bits < b) ⊎ ((b ≡ bits) × (key ≤ k))) [
      | inl less ↦ absurd (shorter k b less h)
      | inr ge ↦ let e : b ≡ bits = omega (arith, le, ge) in inr (e, low k (subst (λ z. HoldsHalf rs k z) e h))
    ]
  ];
}

-- a range that holds half is found before the bits run out
pub never_none : (rs : List Ref) → 3 ≤ length rs → Rising 0 (2 ^ 64) rs → AllAligned rs → IsOneClass rs → ((k b : ℕ) → b < 63 → HoldsHalf rs k b → ⊥) → ⊥
never_none rs three rising aligned class none = elim (one_class rs 0 (2 ^ 64) rising aligned (omega (arith, three)) (omega arith) class) as (λ _. ⊥) [
  | inl low ↦ elim (halved rs 0 (2 ^ 64) rising aligned 0 61 low (omega (arith, three))) as (λ _. ⊥) [
    | inl h ↦ none 0 61 (omega arith) h
    | inr h ↦ none (0 + 2 ^ 61) 61 (omega arith) h
  ]
  | inr high ↦ elim (halved rs 0 (2 ^ 64) rising aligned (2 ^ 63) 62 high (omega (arith, three))) as (λ _. ⊥) [
    | inl h ↦ none (2 ^ 63) 62 (omega arith) h
    | inr h ↦ none (2 ^ 63 + 2 ^ 62) 62 (omega arith) h
  ]
]

-- what lies in the range fits a block
pub few_enough : (r : Ref) (rs first all : List Ref) (key bits : ℕ) → (4 ≤ length rs) × (length rs ≤ 32) → Rising 0 (2 ^ 64) rs → IsApart r rs → limit r ≤ 2 ^ 64 → AllAligned (put r rs) → IsSplitOf first key bits → first ≡ put r rs → all ≡ put r rs → count_by (lies key bits) all ≤ 32
few_enough r rs first all key bits few rising apart small aligned split same e =
    let n = length-put r rs apart in
    let it = split_few (put r rs) 0 (2 ^ 64) (Rising-put 0 (2 ^ 64) rs r rising apart (omega arith) small) aligned key bits (omega (arith, n, few.0)) (subst (λ l. IsSplitOf l key bits) same split) in
    rw e (omega (arith, it, n, few.1))

pub inner_is_set : (r : Ref) (rs all inner : List Ref) (key bits : ℕ) → Rising 0 (2 ^ 64) rs → IsApart r rs → limit r ≤ 2 ^ 64 → all ≡ put r rs → inner ≡ filter (lies key bits) all → length inner ≤ 32 → IsRefSet (record { refs = inner; capacity = 32 })
inner_is_set r rs all inner key bits rising apart small e inner_is few = record {
  rising = subst (Rising 0 (2 ^ 64)) (sym (inner_is ∙ ap (filter (lies key bits)) e)) (Rising-filter (lies key bits) 0 (2 ^ 64) (put r rs) (Rising-put 0 (2 ^ 64) rs r rising apart (omega arith) small));
  fits = few;
  known = inr refl;
}
