-- What the split rule's range is: one exists, it lies in each aligned range that holds all, and it parts them.
use Rattle.std.proofs.Common.{◌≡◌, ℕ, ◌+◌, ◌/◌, ◌%◌, ◌<◌, ◌≤◌, ◌^◌, Bool, true, false, arith, refl, cond, sym, ◌∙◌, ap, List, [], ◌∷◌, length, Some, subst, ◌⊎◌, inl, inr, slice_get, suc, zero, pow_mono}
use Rattle.std.specs.Prelude.{count_by}
use Rattle.std.proofs.lemmas.Bool.Decides.{nat_tests}
use Rattle.std.proofs.lemmas.Bool.{cases_lt}
use Rattle.std.proofs.lemmas.Nat.{pow_pos, pow_below, pow-add}
use Rattle.std.proofs.Math.Nat.{mod_self, mod-eq_of_lt}
use Rattle.std.proofs.lemmas.Option.{none-some}
use Rattle.std.proofs.lemmas.List.Sums.{sum_by-cons}
use Rattle.h2_ref.specs.declared.reference.Ref.{Ref}
use Rattle.h2_set.specs.Ranges.{Rising, limit, lies, AllAligned, IsOneClass, Sides}
use Rattle.h2_set.specs.RefSet.{HoldsHalf, HoldsAll, IsSplitOf}
use Rattle.h2_set.specs.LeafLaws.{Rising-le}
use Rattle.h2_set.specs.ChangeLaws.{step_up, lower_power, multiple_add, apart_places}

-- an aligned range that is no longer lies in another, or apart from it
pub nested : (k b j c : ℕ) → k % 2 ^ b ≡ 0 → j % 2 ^ c ≡ 0 → b ≤ c → ((j ≤ k) × (k + 2 ^ b ≤ j + 2 ^ c)) ⊎ ((k + 2 ^ b ≤ j) ⊎ (j + 2 ^ c ≤ k))
nested k b j c ek ej le =
    let p = 2 ^ b in
    let ej' = lower_power j b c le ej in
    let end = multiple_add j (2 ^ c) p ej' (lower_power (2 ^ c) b c le (mod_self (2 ^ c))) in
    elim (cases_lt k j) as (λ _. ((j ≤ k) × (k + 2 ^ b ≤ j + 2 ^ c)) ⊎ ((k + 2 ^ b ≤ j) ⊎ (j + 2 ^ c ≤ k))) [
      | inl before ↦ inr (inl (step_up k j p ek ej' before))
      | inr from ↦ elim (cases_lt k (j + 2 ^ c)) as (λ _. ((j ≤ k) × (k + 2 ^ b ≤ j + 2 ^ c)) ⊎ ((k + 2 ^ b ≤ j) ⊎ (j + 2 ^ c ≤ k))) [
        | inl inside ↦ inl (from, step_up k (j + 2 ^ c) p ek end inside)
        | inr behind ↦ inr (inr behind)
      ]
    ]

pub lies_in : (key bits : ℕ) (r : Ref) → lies key bits r ≡ true → (key ≤ r.key) × (limit r ≤ key + 2 ^ bits)
lies_in key bits r e = (grind (arith, nat_tests), grind (arith, nat_tests))

pub in_lies : (key bits : ℕ) (r : Ref) → key ≤ r.key → limit r ≤ key + 2 ^ bits → lies key bits r ≡ true
in_lies key bits r lo hi = grind (arith, nat_tests)

-- what lies in a range has no more keybits
lies_bits : (key bits : ℕ) (r : Ref) → lies key bits r ≡ true → r.keybits ≤ bits
lies_bits key bits r e = elim (cases_lt bits r.keybits) as (λ _. r.keybits ≤ bits) [
  | inl more ↦ let big = pow_below bits r.keybits more in let in_it = lies_in key bits r e in absurd (omega (arith, big, in_it.0, in_it.1))
  | inr le ↦ le
]

aligned_small : (k p : ℕ) → k % p ≡ 0 → k < p → k ≡ 0
aligned_small k p e lt = sym (mod-eq_of_lt lt) ∙ e

-- ranges in order end at the high end or before
pub below_high : (low high : ℕ) (rs : List Ref) (i : ℕ) (r : Ref) → Rising low high rs → slice_get rs i ≡ Some r → limit r ≤ high
below_high low high [] i r h read = absurd (none-some r read)
below_high low high (x ∷ xs) zero r h read = let same : x ≡ r = (cc) in subst (λ (y : Ref). limit y ≤ high) same (Rising-le (limit x) high xs h.1)
below_high low high (x ∷ xs) (suc i) r h read = below_high (limit x) high xs i r h.1 read

-- one of the places that a count counts
pub record Counted (p : Ref → Bool) (rs : List Ref) : Type 0 where
  pub place : ℕ
  pub ref : Ref
  pub read : slice_get rs place ≡ Some ref
  pub holds : p ref ≡ true

pub counted : (p : Ref → Bool) (rs : List Ref) → 0 < count_by p rs → Counted p rs
counted p [] h = absurd (omega (arith, h))
counted p (r ∷ rs) h = head (p r) refl (rw sum_by-cons at h) (counted p rs)
  where
    head : (e : Bool) → p r ≡ e → 0 < cond e 1 0 + count_by p rs → (0 < count_by p rs → Counted p rs) → Counted p (r ∷ rs)
    head true e h ih = record { place = 0; ref = r; read = refl; holds = e }
    head false e h ih = let it = ih (omega (arith, h)) in record { place = suc it.place; ref = it.ref; read = it.read; holds = it.holds }

-- another place that a count of two or more counts
pub record CountedBeside (p : Ref → Bool) (rs : List Ref) (i : ℕ) : Type 0 where
  pub place : ℕ
  pub ref : Ref
  pub read : slice_get rs place ≡ Some ref
  pub holds : p ref ≡ true
  pub other : place ≡ i → ⊥

pub counted_beside : (p : Ref → Bool) (rs : List Ref) (i : ℕ) → 2 ≤ count_by p rs → CountedBeside p rs i
counted_beside p [] i h = absurd (omega (arith, h))
counted_beside p (r ∷ rs) zero h =
    let it = counted p rs (less (p r) (rw sum_by-cons at h)) in
    record { place = suc it.place; ref = it.ref; read = it.read; holds = it.holds; other = λ e. omega (arith, e) }
  where
    less : (e : Bool) → 2 ≤ cond e 1 0 + count_by p rs → 0 < count_by p rs
    less true h = omega (arith, h)
    less false h = omega (arith, h)
counted_beside p (r ∷ rs) (suc i) h = head (p r) refl (rw sum_by-cons at h) (counted_beside p rs i)
  where
    head : (e : Bool) → p r ≡ e → 2 ≤ cond e 1 0 + count_by p rs → (2 ≤ count_by p rs → CountedBeside p rs i) → CountedBeside p (r ∷ rs) (suc i)
    head true e h ih = record { place = 0; ref = r; read = refl; holds = e; other = λ e'. omega (arith, e') }
    head false e h ih = let it = ih (omega (arith, h)) in record { place = suc it.place; ref = it.ref; read = it.read; holds = it.holds; other = λ e'. it.other (omega (arith, e')) }

-- where each element is counted once or twice, the counts sum up
counts_cover : (p q : Ref → Bool) (rs : List Ref) → ((i : ℕ) (r : Ref) → slice_get rs i ≡ Some r → (p r ≡ true) ⊎ (q r ≡ true)) → length rs ≤ count_by p rs + count_by q rs
counts_cover p q [] h = omega arith
counts_cover p q (r ∷ rs) h = rw (sum_by-cons, sum_by-cons) (head (p r) (q r) (h 0 r refl) (counts_cover p q rs (λ i x read. h (suc i) x read)))
  where
    head : (a b : Bool) → (a ≡ true) ⊎ (b ≡ true) → length rs ≤ count_by p rs + count_by q rs → suc (length rs) ≤ (cond a 1 0 + count_by p rs) + (cond b 1 0 + count_by q rs)
    head true true e ih = omega (arith, ih)
    head true false e ih = omega (arith, ih)
    head false true e ih = omega (arith, ih)
    head false false (inl e) ih = absurd (cc)
    head false false (inr e) ih = absurd (cc)

-- all are counted where each passes
pub count_all : (p : Ref → Bool) (rs : List Ref) → ((i : ℕ) (r : Ref) → slice_get rs i ≡ Some r → p r ≡ true) → count_by p rs ≡ length rs
count_all p [] h = refl
count_all p (r ∷ rs) h = rw (sum_by-cons, h 0 r refl, count_all p rs (λ i x read. h (suc i) x read)) (omega arith)

pub count_most : (p : Ref → Bool) (rs : List Ref) → count_by p rs ≤ length rs
count_most p [] = omega arith
count_most p (r ∷ rs) = rw sum_by-cons (head (p r) (count_most p rs))
  where
    head : (a : Bool) → count_by p rs ≤ length rs → cond a 1 0 + count_by p rs ≤ suc (length rs)
    head true ih = omega (arith, ih)
    head false ih = omega (arith, ih)

-- where not all lie in the range, one doesn't
pub all_counted : (p : Ref → Bool) (rs : List Ref) → count_by p rs ≡ length rs → (i : ℕ) (r : Ref) → slice_get rs i ≡ Some r → p r ≡ true
all_counted p [] e i r read = absurd (none-some r read)
all_counted p (x ∷ xs) e i r read = head (p x) refl (rw sum_by-cons at e) (count_most p xs) (all_counted p xs) i read
  where
    head : (a : Bool) → p x ≡ a → cond a 1 0 + count_by p xs ≡ suc (length xs) → count_by p xs ≤ length xs → (count_by p xs ≡ length xs → (i : ℕ) (r : Ref) → slice_get xs i ≡ Some r → p r ≡ true) → (i : ℕ) → slice_get (x ∷ xs) i ≡ Some r → p r ≡ true
    head false px e most ih i read = absurd (omega (arith, e, most))
    head true px e most ih zero read = let same : x ≡ r = (cc) in subst (λ (y : Ref). p y ≡ true) same px
    head true px e most ih (suc i) read = ih (omega (arith, e)) i r read

-- a reference as long as an aligned range in which it lies is the whole of it
module _ (rs : List Ref) (low high : ℕ) (rising : Rising low high rs) (aligned : AllAligned rs) where
  -- in a range that holds two, each is shorter than it
  pub shorter_of_two : (key bits : ℕ) → 2 ≤ count_by (lies key bits) rs → (i : ℕ) (r : Ref) → slice_get rs i ≡ Some r → lies key bits r ≡ true → r.keybits < bits
  shorter_of_two key bits two i r read e =
      let in_r = lies_in key bits r e in
      elim (cases_lt r.keybits bits) as (λ _. r.keybits < bits) [
        | inl lt ↦ lt
        | inr ge ↦
            let same : r.keybits ≡ bits = (let le = lies_bits key bits r e in omega (arith, le, ge)) in
            let size : 2 ^ r.keybits ≡ 2 ^ bits = ap (λ z. 2 ^ z) same in
            let it = counted_beside (lies key bits) rs i two in
            let in_q = lies_in key bits it.ref it.holds in
            let pos = pow_pos it.ref.keybits in
            elim (apart_places low high rs i it.place r it.ref rising read it.read it.other) as (λ _. r.keybits < bits) [
              | inl before ↦ absurd (omega (arith, before, in_q.0, in_r.0, in_r.1, size, pos, in_q.1))
              | inr behind ↦ absurd (omega (arith, behind, in_q.0, in_r.0, in_r.1, size, pos, in_q.1))
            ]
      ]

  -- one half of an aligned range that holds all holds half of them
  pub halved : (k b : ℕ) → HoldsAll rs k (b + 1) → 2 ≤ length rs → HoldsHalf rs k b ⊎ HoldsHalf rs (k + 2 ^ b) b
  halved k b all two =
      let whole : 2 ^ (b + 1) ≡ 2 ^ b + 2 ^ b = pow_double b in
      let k_is : k % 2 ^ b ≡ 0 = lower_power k b (b + 1) (omega arith) all.aligned in
      let up_is : (k + 2 ^ b) % 2 ^ b ≡ 0 = multiple_add k (2 ^ b) (2 ^ b) k_is (mod_self (2 ^ b)) in
      let side = λ (i : ℕ) (r : Ref) (read : slice_get rs i ≡ Some r).
      let in_r = lies_in k (b + 1) r (all.all i r read) in
      let less : r.keybits < b + 1 = shorter_of_two k (b + 1) (rw (count_all (lies k (b + 1)) rs all.all) two) i r read (all.all i r read) in
      let it : (lies k b r ≡ true) ⊎ (lies (k + 2 ^ b) b r ≡ true) = elim (nested r.key r.keybits k b (aligned i r read) k_is (omega (arith, less))) as (λ _. (lies k b r ≡ true) ⊎ (lies (k + 2 ^ b) b r ≡ true)) [
        | inl lower ↦ inl (in_lies k b r lower.0 lower.1)
        | inr out ↦ elim out as (λ _. (lies k b r ≡ true) ⊎ (lies (k + 2 ^ b) b r ≡ true)) [
          | inl before ↦ let pos = pow_pos r.keybits in absurd (omega (arith, before, in_r.0, pos))
          | inr behind ↦ inr (in_lies (k + 2 ^ b) b r behind (omega (arith, in_r.1, whole)))
        ]
      ] in
      it in
      let sum = counts_cover (lies k b) (lies (k + 2 ^ b) b) rs side in
      elim (cases_lt (count_by (lies k b) rs) ((length rs + 1) / 2)) as (λ _. HoldsHalf rs k b ⊎ HoldsHalf rs (k + 2 ^ b) b) [
        | inl few ↦ inr (record { aligned = up_is; half = upper_half (length rs) (count_by (lies k b) rs) _ sum few })
        | inr enough ↦ inl (record { aligned = k_is; half = enough })
      ]
    where
      pow_double : (b : ℕ) → 2 ^ (b + 1) ≡ 2 ^ b + 2 ^ b
      pow_double b = let e = pow-add 2 b 1 in omega (arith, e)

      upper_half : (n x y : ℕ) → n ≤ x + y → x < (n + 1) / 2 → (n + 1) / 2 ≤ y
      upper_half n x y sum few = omega (arith, sum, few)

  half_of : (n m : ℕ) → 3 ≤ n → (n + 1) / 2 ≤ m → 2 ≤ m
  half_of n m three le = omega (arith, three, le)

  module _ (key bits : ℕ) (three : 3 ≤ length rs) (split : IsSplitOf rs key bits) where
    -- at least two lie in it
    pub split_two : 2 ≤ count_by (lies key bits) rs
    split_two = half_of (length rs) _ three split.half.half

    -- each that lies in it has fewer keybits
    pub split_shorter : (i : ℕ) (r : Ref) → slice_get rs i ≡ Some r → lies key bits r ≡ true → r.keybits < bits
    split_shorter = shorter_of_two key bits split_two

    -- it has fewer keybits than each aligned range that holds all
    pub split_fewer : (k b : ℕ) → HoldsAll rs k b → bits < b
    split_fewer k zero all =
        let it = counted (lies key bits) rs (omega (arith, split_two)) in
        absurd (omega (arith, shorter_of_two k 0 (rw (count_all (lies k 0) rs all.all) (omega (arith, three))) it.place it.ref it.read (all.all it.place it.ref it.read)))
    split_fewer k (suc b) all =
        let e : suc b ≡ b + 1 = omega arith in
        let all' : HoldsAll rs k (b + 1) = subst (HoldsAll rs k) e all in
        elim (halved k b all' (omega (arith, three))) as (λ _. bits < suc b) [
          | inl low ↦ below b (split.least k b low)
          | inr high ↦ below b (split.least (k + 2 ^ b) b high)
        ]
      where
        below : {X : Type 0} (b : ℕ) → (bits < b) ⊎ ((b ≡ bits) × X) → bits < suc b
        below b (inl lt) = omega (arith, lt)
        below b (inr same) = omega (arith, same.0)

    -- and lies in it
    pub split_inside : (k b : ℕ) → HoldsAll rs k b → (k ≤ key) × (key + 2 ^ bits ≤ k + 2 ^ b)
    split_inside k b all =
        let fewer = split_fewer k b all in
        let it = counted (lies key bits) rs (omega (arith, split_two)) in
        let in_it = lies_in key bits it.ref it.holds in
        let in_all = lies_in k b it.ref (all.all it.place it.ref it.read) in
        let pos = pow_pos it.ref.keybits in
        elim (nested key bits k b split.half.aligned all.aligned (omega (arith, fewer))) as (λ _. (k ≤ key) × (key + 2 ^ bits ≤ k + 2 ^ b)) [
          | inl inside ↦ inside
          | inr out ↦ elim out as (λ _. (k ≤ key) × (key + 2 ^ bits ≤ k + 2 ^ b)) [
            | inl before ↦ absurd (omega (arith, before, in_it.1, in_all.0, pos))
            | inr behind ↦ absurd (omega (arith, behind, in_it.0, in_all.1, pos))
          ]
        ]

    -- each reference lies in it, or apart from it
    pub split_sides : (i : ℕ) (r : Ref) → slice_get rs i ≡ Some r → Sides key bits r
    split_sides i r read = elim (cases_lt bits r.keybits) as (λ _. Sides key bits r) [
      | inr short ↦ elim (nested r.key r.keybits key bits (aligned i r read) split.half.aligned short) as (λ _. Sides key bits r) [
        | inl inside ↦ inl (in_lies key bits r inside.0 inside.1)
        | inr out ↦ inr out
      ]
      | inl long ↦ elim (nested key bits r.key r.keybits split.half.aligned (aligned i r read) (omega (arith, long))) as (λ _. Sides key bits r) [
        | inl inside ↦
            let it = counted_beside (lies key bits) rs i split_two in
            let in_it = lies_in key bits it.ref it.holds in
            let pos = pow_pos it.ref.keybits in
            elim (apart_places low high rs i it.place r it.ref rising read it.read it.other) as (λ _. Sides key bits r) [
              | inl before ↦ absurd (omega (arith, before, in_it.0, in_it.1, inside.0, inside.1, pos))
              | inr behind ↦ absurd (omega (arith, behind, in_it.0, in_it.1, inside.0, inside.1, pos))
            ]
        | inr out ↦ elim out as (λ _. Sides key bits r) [
          | inl before ↦ inr (inr before)
          | inr behind ↦ inr (inl behind)
        ]
      ]
    ]

    -- not all lie in it
    pub split_few : count_by (lies key bits) rs < length rs
    split_few = elim (cases_lt (count_by (lies key bits) rs) (length rs)) as (λ _. count_by (lies key bits) rs < length rs) [
      | inl lt ↦ lt
      | inr ge ↦
          let most = count_most (lies key bits) rs in
          let same : count_by (lies key bits) rs ≡ length rs = omega (arith, ge, most) in
          let fewer = split_fewer key bits (record { aligned = split.half.aligned; all = all_counted (lies key bits) rs same }) in
          absurd (omega (arith, fewer))
    ]

  -- references whose keys are in one class lie in one aligned range that is shorter than all keys
  pub one_class : 2 ≤ length rs → (high ≤ 2 ^ 64) → IsOneClass rs → HoldsAll rs 0 62 ⊎ HoldsAll rs (2 ^ 63) 63
  one_class two top (inl small) = inl (record {
    aligned = refl;
    all = λ i r read. elim (cases_lt 62 r.keybits) as (λ _. lies 0 62 r ≡ true) [
      | inr short ↦
          let end = step_up r.key (2 ^ 62) (2 ^ r.keybits) (aligned i r read) (lower_power (2 ^ 62) r.keybits 62 short (mod_self (2 ^ 62))) (small i r read) in
          in_lies 0 62 r (omega arith) (omega (arith, end))
      | inl long ↦ absurd (alone i r read (pow_mono {i = 63} {j = r.keybits} (omega (arith, long))))
    ];
  })
    where
      alone : (i : ℕ) (r : Ref) → slice_get rs i ≡ Some r → 2 ^ 63 ≤ 2 ^ r.keybits → ⊥
      alone i r read long =
          let it = counted_beside (λ _. true) rs i (rw (count_all (λ _. true) rs (λ j q e. refl)) two) in
          let zero_is : r.key ≡ 0 = aligned_small r.key (2 ^ r.keybits) (aligned i r read) (omega (arith, small i r read, long)) in
          let pos = pow_pos it.ref.keybits in
          elim (apart_places low high rs i it.place r it.ref rising read it.read it.other) as (λ _. ⊥) [
            | inl before ↦ omega (arith, before, zero_is, pos)
            | inr behind ↦ omega (arith, behind, zero_is, long, small it.place it.ref it.read)
          ]
  one_class two top (inr large) = inr (record {
    aligned = refl;
    all = λ i r read. in_lies (2 ^ 63) 63 r (large i r read) (let end = below_high low high rs i r rising read in omega (arith, end, top));
  })
