-- The references at the places of a set.
use Rattle.std.specs.Prelude.{◌≡◌, ◌⊎◌, ◌<◌, ◌≤◌, ℕ, suc, zero, ◌+◌, ◌*◌, ◌^◌, nat_lt, List, [], ◌∷◌, length, take, drop, slice_index, slice_get, slice_index_or, Some, ◌≢◌}
use Rattle.std.proofs.Common.{ap, sym, ◌∙◌, arith, inl, inr, subst}
use Rattle.std.proofs.lemmas.Bool.{cases_lt, lt-ltb, le-ltb, cond-true, cond-false}
use Rattle.std.proofs.lemmas.List.{get_or-take, get_or-drop, get_or_past, length-take, get_or_default}
use Rattle.std.proofs.lemmas.Option.{same_Some}
use Rattle.std.proofs.Math.Pow.{pow_mono}
use Rattle.h2_num.specs.Places.{Places, places, Lays}
use Rattle.h2_ref.specs.declared.reference.Ref.{Ref}
use Rattle.h2_set.specs.Ranges.{Rising, limit}
use Rattle.h2_ref.specs.Ref.{RefBytes, empty_ref}
use Rattle.h2_ref.specs.RefLaws.{RefBytes-same}
use Rattle.h2_set.specs.SetBytes.{slot, SetBytes}
use Rattle.h2_set.specs.Front.{WritesSlot, AreWritten}

-- 128 bytes of a slice are those of a place of the set
slot_byte : (l rest bytes : List ℕ) (i : ℕ) → rest ≡ drop (128 * i) l → bytes ≡ take 128 rest → (k : ℕ) → places bytes k ≡ slot (places l) i k
slot_byte l rest bytes i r e k = elim (cases_lt k 128) [
  | inl lt ↦ ap (λ x. slice_index x k) e ∙ get_or-take 128 rest k 0 lt ∙ ap (λ x. slice_index x k) r ∙ get_or-drop (128 * i) l k 0 ∙ sym (cond-true (nat_lt k 128) (places l (128 * i + k)) 0 (lt-ltb k 128 lt))
  | inr ge ↦ ap (λ x. slice_index x k) e ∙ get_or_past (take 128 rest) k 0 (omega (arith, length-take 128 rest)) ∙ sym (cond-false (nat_lt k 128) (places l (128 * i + k)) 0 (le-ltb k 128 ge))
]

pub slot_at : (l rest bytes : List ℕ) (i : ℕ) → rest ≡ drop (128 * i) l → bytes ≡ take 128 rest → places bytes ≡ slot (places l) i
slot_at l rest bytes i r e = λ z k. slot_byte l rest bytes i r e k z

-- the last of references is read
last_is : (rs : List Ref) (r q : Ref) (i : ℕ) → suc i ≡ length (r ∷ []) → slice_get (r ∷ []) i ≡ Some q → r ≡ q
last_is rs r q zero len get = same_Some r q get
last_is rs r q (suc i) len get = absurd (omega arith)

-- references in order end where the last one does
pub rising_to : (low high key i : ℕ) (rs : List Ref) (q : Ref) → Rising low high rs → suc i ≡ length rs → slice_get rs i ≡ Some q → limit q ≤ key → Rising low key rs
rising_to low high key i [] q h len get le = absurd (omega arith)
rising_to low high key i (r ∷ []) q h len get le = (h.0, subst (λ (x : Ref). limit x ≤ key) (sym (last_is [] r q i len get)) le)
rising_to low high key zero (r ∷ s ∷ rs) q h len get le = absurd (omega arith)
rising_to low high key (suc i) (r ∷ s ∷ rs) q h len get le = (h.0, rising_to (limit r) high key i (s ∷ rs) q h.1 (omega arith) get le)

-- a range of more keys than there are ends behind each
pub too_wide : (first bits key : ℕ) → 64 ≤ bits → key < 2 ^ 64 → first + 2 ^ bits ≤ key → ⊥
too_wide first bits key wide fits le = let all : 2 ^ 64 ≤ 2 ^ bits = pow_mono wide in omega arith

-- a reference that is laid at a place stands there, and the other places stay
written_byte : (bytes : List ℕ) (i j : ℕ) (a b : Places) → length bytes ≡ 128 → Lays (128 * i) bytes a b → j ≢ i → (k : ℕ) → slot b j k ≡ slot a j k
written_byte bytes i j a b len lays ne k = elim (cases_lt k 128) [
  | inl lt ↦ cond-true (nat_lt k 128) (b (128 * j + k)) 0 (lt-ltb k 128 lt) ∙ inside lt (cases_lt j i) ∙ sym (cond-true (nat_lt k 128) (a (128 * j + k)) 0 (lt-ltb k 128 lt))
  | inr ge ↦ cond-false (nat_lt k 128) (b (128 * j + k)) 0 (le-ltb k 128 ge) ∙ sym (cond-false (nat_lt k 128) (a (128 * j + k)) 0 (le-ltb k 128 ge))
]
  where
    inside : k < 128 → (j < i) ⊎ (i ≤ j) → b (128 * j + k) ≡ a (128 * j + k)
    inside lt (inl below) = lays.others.before (128 * j + k) (omega arith)
    inside lt (inr le) = lays.others.after (128 * j + k) (omega arith)

here_byte : (bytes : List ℕ) (i : ℕ) (a b : Places) → length bytes ≡ 128 → Lays (128 * i) bytes a b → (k : ℕ) → k < 128 → slot b i k ≡ places bytes k
here_byte bytes i a b len lays k lt = cond-true (nat_lt k 128) (b (128 * i + k)) 0 (lt-ltb k 128 lt) ∙ lays.inside k (omega arith)

pub writes_slot : (r : Ref) (bytes : List ℕ) (i : ℕ) (a b : Places) → length bytes ≡ 128 → RefBytes r (places bytes) → Lays (128 * i) bytes a b → WritesSlot r i a b
writes_slot r bytes i a b len spelled lays = record {
  here = RefBytes-same r (places bytes) (slot b i) (here_byte bytes i a b len lays) spelled;
  others = λ j ne. λ z k. written_byte bytes i j a b len lays ne k z;
}

-- one more is written
pub written_more : (n : ℕ) (refs : List Ref) (r : Ref) (a b : Places) → AreWritten n refs a → WritesSlot r n a b → slice_index_or refs n empty_ref ≡ r → AreWritten (n + 1) refs b
written_more n refs r a b before w is i lt = elim (cases_lt i n) [
  | inl below ↦ let ne : i ≢ n = omega arith in subst (λ p. RefBytes (slice_index_or refs i empty_ref) p) (sym (w.others i ne)) (before i below)
  | inr last ↦ let e : i ≡ n = omega arith in subst (λ j. RefBytes (slice_index_or refs j empty_ref) (slot b j)) (sym e) (subst (λ x. RefBytes x (slot b n)) (sym is) w.here)
]

-- all are written
pub written_set : (n : ℕ) (refs : List Ref) (b : Places) → length refs ≤ n → AreWritten n refs b → SetBytes n refs b
written_set n refs b fits all = record {
  fits = fits;
  each = λ i d lt. subst (λ x. RefBytes x (slot b i)) (same_at refs i empty_ref d lt) (all i (omega arith));
  empty = λ i ge lt. subst (λ x. RefBytes x (slot b i)) (get_or_past refs i empty_ref ge) (all i lt);
}
  where
    same_at : (l : List Ref) (i : ℕ) (d e : Ref) → i < length l → slice_index_or l i d ≡ slice_index_or l i e
    same_at l i d e lt = get_or_default l i d e lt
