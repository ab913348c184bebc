-- Laws of bytes by their places.
use Rattle.std.specs.Prelude.{◌≡◌, ◌≢◌, ◌⊎◌, ◌<◌, ◌≤◌, ℕ, zero, suc, ◌+◌, ◌-◌, nat_le, ◌||◌, true, Bool, List, length, slice_index, refl}
use Rattle.std.proofs.Common.{ap, sym, ◌∙◌, arith, inl, inr}
use Rattle.std.proofs.lemmas.Bool.{or_cases, leb-true, cases_lt, cases_eq}
use Rattle.h2_num.specs.Places.{Places, AreBytes, number_at, InRange, SameOutside, SameBelow, ZeroIn, Holds}

-- n bytes at a place have none of the m bytes at another
abbrev pub apart : ℕ → ℕ → ℕ → ℕ → Bool
apart at n other m = nat_le (at + n) other || nat_le (other + m) at

-- two sequences of places read as one number where they agree
pub number_at-same : (f g : Places) (i j n : ℕ) → ((k : ℕ) → k < n → f (i + k) ≡ g (j + k)) → number_at f i n ≡ number_at g j n
number_at-same f g i j zero h = refl
number_at-same f g i j (suc n) h =
    let here : f i ≡ g j = ap f (omega arith) ∙ h 0 (omega arith) ∙ ap g (omega arith) in
    let e : (k : ℕ) → suc i + k ≡ i + suc k = λ k. omega arith in
    let d : (k : ℕ) → j + suc k ≡ suc j + k = λ k. omega arith in
    let rest = number_at-same f g (suc i) (suc j) n (λ k lt. ap f (e k) ∙ h (suc k) (omega arith) ∙ ap g (d k)) in
    omega (arith, here, rest)

-- a number below the end is the same
pub number_same : (i m n : ℕ) (a b : Places) → i + m ≤ n → SameBelow n a b → number_at b i m ≡ number_at a i m
number_same i m n a b le same = number_at-same b a i i m (λ k lt. same (i + k) (omega arith))

-- equal numbers have equal bytes
pub number_bytes : (a b : Places) (i n : ℕ) → AreBytes a → AreBytes b → number_at a i n ≡ number_at b i n → (k : ℕ) → i ≤ k → k < i + n → b k ≡ a k
number_bytes a b i zero fa fb e k ge lt = absurd (omega arith)
number_bytes a b i (suc n) fa fb e k ge lt =
    let low_a = fa i in
    let low_b = fb i in
    let head : a i ≡ b i = omega arith in
    let tail : number_at a (suc i) n ≡ number_at b (suc i) n = omega arith in
    elim (cases_lt i k) [
      | inl above ↦ number_bytes a b (suc i) n fa fb tail k above (omega arith)
      | inr here ↦ let same : k ≡ i = omega arith in rw same (sym head)
    ]

-- a byte outside the range stays
pub byte_stays : (k at n : ℕ) (old new : Places) → SameOutside at n old new → apart k 1 at n ≡ true → new k ≡ old k
byte_stays k at n old new same test = elim (or_cases (nat_le (k + 1) at) (nat_le (at + n) k) test) [
  | inl below ↦ same.before k (omega (arith, leb-true (k + 1) at below))
  | inr above ↦ same.after k (leb-true (at + n) k above)
]

-- a range apart from the written one stays
pub range_stays : (i m at n : ℕ) (old new : Places) → SameOutside at n old new → apart i m at n ≡ true → (k : ℕ) → k < m → new (i + k) ≡ old (i + k)
range_stays i m at n old new same test k lt = elim (or_cases (nat_le (i + m) at) (nat_le (at + n) i) test) [
  | inl below ↦ same.before (i + k) (omega (arith, leb-true (i + m) at below))
  | inr above ↦ same.after (i + k) (omega (arith, leb-true (at + n) i above))
]

-- a number apart from the written range stays
pub number_stays : (i m at n : ℕ) (old new : Places) → SameOutside at n old new → apart i m at n ≡ true → number_at new i m ≡ number_at old i m
number_stays i m at n old new same test = number_at-same new old i i m (range_stays i m at n old new same test)

-- zeros apart from the written range stay
pub zeros_stay : (from m at n : ℕ) (old new : Places) → SameOutside at n old new → apart from m at n ≡ true → ZeroIn from (from + m) old → ZeroIn from (from + m) new
zeros_stay from m at n old new same test zeros = λ k ge lt. elim (or_cases (nat_le (from + m) at) (nat_le (at + n) from) test) [
  | inl below ↦ same.before k (omega (arith, leb-true (from + m) at below)) ∙ zeros k ge lt
  | inr above ↦ same.after k (omega (arith, leb-true (at + n) from above)) ∙ zeros k ge lt
]

-- zeros in a part of a range of zeros
pub zeros_within : (from to a b : ℕ) (f : Places) → from ≤ a → b ≤ to → ZeroIn from to f → ZeroIn a b f
zeros_within from to a b f h1 h2 zeros = λ k ge lt. zeros k (omega arith) (omega arith)

-- zeros below the end are the same
pub zeros_same : (from to n : ℕ) (a b : Places) → to ≤ n → SameBelow n a b → ZeroIn from to a → ZeroIn from to b
zeros_same from to n a b le same zeros = λ k ge lt. same k (omega arith) ∙ zeros k ge lt

-- two ranges of zeros are the same
pub zero_bytes : (a b : Places) (from to k : ℕ) → ZeroIn from to a → ZeroIn from to b → from ≤ k → k < to → b k ≡ a k
zero_bytes a b from to k za zb ge lt = zb k ge lt ∙ sym (za k ge lt)

-- one write after another, both in one range
pub outside_both : (at n i m j l : ℕ) (a b c : Places) → at ≤ i → i + m ≤ at + n → at ≤ j → j + l ≤ at + n → SameOutside i m a b → SameOutside j l b c → SameOutside at n a c
outside_both at n i m j l a b c h1 h2 h3 h4 one two = record {
  before = λ k lt. two.before k (omega arith) ∙ one.before k (omega arith);
  after = λ k le. two.after k (omega arith) ∙ one.after k (omega arith);
}

pub in_range : (at n k : ℕ) → InRange at n k ⊎ (InRange at n k → ⊥)
in_range at n k = split (cases_lt k at) (cases_lt k (at + n))
  where
    split : (k < at) ⊎ (at ≤ k) → (k < at + n) ⊎ (at + n ≤ k) → InRange at n k ⊎ (InRange at n k → ⊥)
    split (inl lt) c = inr (λ r. let le : at ≤ k = r.0 in absurd (omega arith))
    split (inr le) (inl lt) = inl (le, lt)
    split (inr le) (inr ge) = inr (λ r. let lt : k < at + n = r.1 in absurd (omega arith))

-- a byte outside the written range stays
pub outside : (at n : ℕ) (a b : Places) → SameOutside at n a b → (k : ℕ) → (InRange at n k → ⊥) → b k ≡ a k
outside at n a b same k out = split (cases_lt k at) (cases_lt k (at + n))
  where
    split : (k < at) ⊎ (at ≤ k) → (k < at + n) ⊎ (at + n ≤ k) → b k ≡ a k
    split (inl lt) c = same.before k lt
    split (inr le) (inl lt) = absurd (out (le, lt))
    split (inr le) (inr ge) = same.after k ge

-- bytes that stand in a range, by their places
pub held : (at : ℕ) (bytes : List ℕ) (image : Places) → Holds at bytes image → (k : ℕ) → InRange at (length bytes) k → image k ≡ slice_index bytes (k - at)
held at bytes image h k r =
    let le : at ≤ k = r.0 in
    let lt : k < at + length bytes = r.1 in
    let e : k ≡ at + (k - at) = omega arith in
    ap image e ∙ h (k - at) (omega arith)

pub same_held : (at : ℕ) (bytes : List ℕ) (a b : Places) → Holds at bytes a → Holds at bytes b → (k : ℕ) → InRange at (length bytes) k → a k ≡ b k
same_held at bytes a b ha hb k r = held at bytes a ha k r ∙ sym (held at bytes b hb k r)

-- bytes stand where they are as in an image in which they stand
pub holds_too : (at : ℕ) (bytes : List ℕ) (a b : Places) → Holds at bytes a → ((k : ℕ) → InRange at (length bytes) k → b k ≡ a k) → Holds at bytes b
holds_too at bytes a b h same k lt = same (at + k) (omega arith, omega arith) ∙ h k lt

pub same_below : (n : ℕ) (a b : Places) → SameBelow n a b ⊎ (SameBelow n a b → ⊥)
same_below zero a b = inl (λ k lt. absurd (omega arith))
same_below (suc n) a b = split (same_below n a b) (cases_eq (b n) (a n))
  where
    split : SameBelow n a b ⊎ (SameBelow n a b → ⊥) → (b n ≡ a n) ⊎ (b n ≢ a n) → SameBelow (suc n) a b ⊎ (SameBelow (suc n) a b → ⊥)
    split (inl h) (inl e) = inl (λ k lt. pick k (cases_lt k n) lt)
      where
        pick : (k : ℕ) → (k < n) ⊎ (n ≤ k) → k < suc n → b k ≡ a k
        pick k (inl below) lt = h k below
        pick k (inr le) lt = let here : k ≡ n = omega arith in rw here e
    split (inl h) (inr ne) = inr (λ all. ne (all n (omega arith)))
    split (inr differ) c = inr (λ all. differ (λ k lt. all k (omega arith)))
