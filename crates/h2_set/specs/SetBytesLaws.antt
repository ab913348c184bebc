-- A set has one spelling, bytes spell one set at most, and which one is seen by them alone.
use Rattle.std.specs.Prelude.{◌≡◌, ◌⊎◌, ◌<◌, ◌≤◌, ℕ, ◌+◌, ◌*◌, ◌/◌, ◌%◌, nat_lt, List, length, slice_index_or, All, refl}
use Rattle.std.proofs.Common.{ap, sym, ◌∙◌, arith, inl, inr, subst, lit<}
use Rattle.std.proofs.lemmas.Bool.{cases_lt, lt-ltb, le-ltb, cond-true, cond-false}
use Rattle.std.proofs.lemmas.List.{ext_get_or}
use Rattle.h2_num.specs.Places.{Places, AreBytes, SameBelow}
use Rattle.h2_ref.specs.declared.reference.Ref.{Ref}
use Rattle.h2_ref.specs.Ref.{empty_ref, RefBytes, IsValid}
use Rattle.h2_ref.specs.FaultLaws.{spelled-none}
use Rattle.h2_ref.specs.Spelling.{one_spelling, one_value}
use Rattle.h2_set.specs.SetBytes.{slot, SetBytes, IsSetAt, IsHeld, AreRefs}
use Rattle.h2_set.specs.ValidLaws.{number_zero}

-- a place of a set is seen by the bytes of the set
same_byte : (n i : ℕ) (a b : Places) → i < n → SameBelow (128 * n) a b → (k : ℕ) → slot a i k ≡ slot b i k
same_byte n i a b inside same k = elim (cases_lt k 128) [
  | inl lt ↦ cond-true (nat_lt k 128) (a (128 * i + k)) 0 (lt-ltb k 128 lt) ∙ sym (same (128 * i + k) (omega arith)) ∙ sym (cond-true (nat_lt k 128) (b (128 * i + k)) 0 (lt-ltb k 128 lt))
  | inr ge ↦ cond-false (nat_lt k 128) (a (128 * i + k)) 0 (le-ltb k 128 ge) ∙ sym (cond-false (nat_lt k 128) (b (128 * i + k)) 0 (le-ltb k 128 ge))
]

pub slot_same : (n i : ℕ) (a b : Places) → i < n → SameBelow (128 * n) a b → slot a i ≡ slot b i
slot_same n i a b inside same = λ z k. same_byte n i a b inside same k z

-- the bytes of a set are seen by their places alone
pub SetBytes-same : (n : ℕ) (refs : List Ref) (a b : Places) → SameBelow (128 * n) a b → SetBytes n refs a → SetBytes n refs b
SetBytes-same n refs a b same h =
    let fits = h.fits in
    record {
      fits = h.fits;
      each = λ i d lt. subst (λ p. RefBytes (slice_index_or refs i d) p) (slot_same n i a b (omega arith) same) (h.each i d lt);
      empty = λ i ge lt. subst (λ p. RefBytes empty_ref p) (slot_same n i a b lt same) (h.empty i ge lt);
    }

-- a set isn't shorter than another with the same bytes
not_shorter : (n : ℕ) (rs ss : List Ref) (b : Places) → IsSetAt n rs b → IsSetAt n ss b → length rs < length ss → ⊥
not_shorter n rs ss b p q lt =
    let i = length rs in
    let fits = q.bytes.fits in
    let there = q.bytes.each i empty_ref lt in
    let none = p.bytes.empty i (omega arith) (omega arith) in
    (q.held i empty_ref lt).something (number_zero _ (sym there.fields.kind ∙ none.fields.kind))

-- bytes spell one set at most
pub set_one : (n : ℕ) (rs ss : List Ref) (b : Places) → IsSetAt n rs b → IsSetAt n ss b → ss ≡ rs
set_one n rs ss b p q = ext_get_or empty_ref ss rs same (λ i lt.
    one_value (slice_index_or rs i empty_ref) (slice_index_or ss i empty_ref) (slot b i) (p.held i empty_ref (omega (arith, same))).valid (q.held i empty_ref lt).valid (p.bytes.each i empty_ref (omega (arith, same))) (q.bytes.each i empty_ref lt))
  where
    pick : (length rs < length ss) ⊎ (length ss ≤ length rs) → (length ss < length rs) ⊎ (length rs ≤ length ss) → length ss ≡ length rs
    pick (inl lt) c = absurd (not_shorter n rs ss b p q lt)
    pick (inr le) (inl lt) = absurd (not_shorter n ss rs b q p lt)
    pick (inr le) (inr ge) = omega arith

    same : length ss ≡ length rs
    same = pick (cases_lt (length rs) (length ss)) (cases_lt (length ss) (length rs))

-- a set has one spelling
pub set_spelling : (n : ℕ) (refs : List Ref) (a b : Places) → AreBytes a → AreBytes b → SetBytes n refs a → SetBytes n refs b → SameBelow (128 * n) a b
set_spelling n refs a b fa fb p q k lt =
    let i = k / 128 in
    let j = k % 128 in
    let few : j < 128 = omega arith in
    let whole : k ≡ 128 * i + j = omega arith in
    ap b whole ∙ sym (cond-true (nat_lt j 128) (b (128 * i + j)) 0 (lt-ltb j 128 few)) ∙ spelled (cases_lt i (length refs)) j few ∙ cond-true (nat_lt j 128) (a (128 * i + j)) 0 (lt-ltb j 128 few) ∙ sym (ap a whole)
  where
    bytes : (c : Places) → AreBytes c → AreBytes (slot c (k / 128))
    bytes c f m = elim (cases_lt m 128) [
      | inl low ↦ subst (λ x. x < 256) (sym (cond-true (nat_lt m 128) (c (128 * (k / 128) + m)) 0 (lt-ltb m 128 low))) (f (128 * (k / 128) + m))
      | inr high ↦ subst (λ x. x < 256) (sym (cond-false (nat_lt m 128) (c (128 * (k / 128) + m)) 0 (le-ltb m 128 high))) (omega arith)
    ]

    spelled : (k / 128 < length refs) ⊎ (length refs ≤ k / 128) → SameBelow 128 (slot a (k / 128)) (slot b (k / 128))
    spelled (inl inside) = one_spelling (slice_index_or refs (k / 128) empty_ref) (slot a (k / 128)) (slot b (k / 128)) (bytes a fa) (bytes b fb) (p.each (k / 128) empty_ref inside) (q.each (k / 128) empty_ref inside)
    spelled (inr past) = one_spelling empty_ref (slot a (k / 128)) (slot b (k / 128)) (bytes a fa) (bytes b fb) (p.empty (k / 128) past (omega arith)) (q.empty (k / 128) past (omega arith))

-- the empty reference is valid
pub empty_valid : IsValid empty_ref
empty_valid = record {
  method = refl;
  stored = lit< tt;
  radix = refl;
  place = refl;
  key = record { keybits = refl; key = record { least = omega arith; last = omega arith }; multiple = refl };
  id = record { least = omega arith; last = omega arith };
  entry = tt;
}

-- the references of a set are decoded, and so are the empty ones behind them
pub set_decoded : (n : ℕ) (refs : List Ref) (c : Places) → All IsHeld refs → SetBytes n refs c → AreRefs n c
set_decoded n refs c held bytes i lt = elim (cases_lt i (length refs)) [
  | inl inside ↦ spelled-none (slice_index_or refs i empty_ref) (slot c i) (held i empty_ref inside).valid (bytes.each i empty_ref inside)
  | inr past ↦ spelled-none empty_ref (slot c i) empty_valid (bytes.empty i past lt)
]
