use Rattle.std.proofs.Common.{◌≡◌, ◌≤◌, ◌<◌, ℕ, zero, suc, ◌+◌, false, nat_eq, List, [], ◌∷◌, length, arith, ap, sym, ◌∙◌, inl, inr, refl, get_or}
use Rattle.std.proofs.lemmas.Bool.Decides.{nat_tests}
use Rattle.std.proofs.lemmas.List.{get_or-replicate, length-replicate}
use Rattle.h2_num.specs.Places.{InRange, Holds}
use Rattle.h2_disk.specs.Trace.{Opened, Wrote, LeftAt, IsWritten, IsChanged, Appeared}
use Rattle.h2_checkpoint.specs.Slots.{slot_bytes}
use Rattle.h2_checkpoint.specs.Checkpoint.{HasOldHeaders}
use Rattle.h2_checkpoint.specs.Toy.{ToyHeader, IsToyHeader, toy}
use Rattle.h2_crash_rows.specs.Mounts.{image_made}
use Rattle.h2_crash_rows.specs.VolumeCuts.{second_written, header_calls, block_calls, with_second, trace_of}
use Rattle.h2_crash_rows.proofs.volume_cuts.worked_volume_cuts_law.Goals as goal

unlike : (a b : ℕ) → (a ≡ b → ⊥) → nat_eq a b ≡ false
unlike a b ne = grind (arith, nat_tests)

-- all but the two bytes of slot 1 are those of the volume
stays : (n p k : ℕ) → (k ≡ 33554432 → ⊥) → (k ≡ 33554433 → ⊥) → with_second n p k ≡ image_made k
stays n p k first second =
    let a : nat_eq k 33554432 ≡ false = unlike k 33554432 first in
    let b : nat_eq k 33554433 ≡ false = unlike k 33554433 second in
    rw (a, b) refl

zero_at : (k : ℕ) → (k ≡ 0 → ⊥) → (k ≡ 65536 → ⊥) → image_made k ≡ 0
zero_at k first second =
    let a : nat_eq k 0 ≡ false = unlike k 0 first in
    let b : nat_eq k 65536 ≡ false = unlike k 65536 second in
    rw (a, b) refl

-- What was written

long : length second_written ≡ 65536
long = ap (λ (n : ℕ). suc (suc n)) (length-replicate {A = ℕ} 65534 0)

within : (n k : ℕ) → n ≡ 65536 → 33554432 ≤ k → k < 33554434 → InRange 33554432 n k
within n k e low high = let top : k < 33554432 + n = omega arith in (low, top)

first_written : IsWritten (trace_of header_calls) 33554432
first_written = inl (within (length second_written) 33554432 long (omega arith) (omega arith))

left_second : (n p : ℕ) → LeftAt (trace_of header_calls) 5 (with_second n p)
left_second n p k unwritten = stays n p k not_first not_second
  where
    not_first : k ≡ 33554432 → ⊥
    not_first e = unwritten (inl (within (length second_written) k long (omega arith) (omega arith)))

    not_second : k ≡ 33554433 → ⊥
    not_second e = unwritten (inl (within (length second_written) k long (omega arith) (omega arith)))

zero_not_two : ◌≡◌ {A = ℕ} 0 2 → ⊥
zero_not_two e = absurd (omega arith)

two_not_zero : ◌≡◌ {A = ℕ} 2 0 → ⊥
two_not_zero e = absurd (omega arith)

zero_not_one : ◌≡◌ {A = ℕ} 0 1 → ⊥
zero_not_one e = absurd (omega arith)

eight_not_seven : ◌≡◌ {A = ℕ} 8 7 → ⊥
eight_not_seven e = absurd (omega arith)

some : (n : ℕ) → n ≡ 65536 → 0 < n
some n e = omega arith

differs : Holds 33554432 second_written image_made → ⊥
differs holds = zero_not_two (holds 0 (some (length second_written) long))

changed_at : (k : ℕ) → IsWritten (trace_of header_calls) k → (IsChanged (trace_of header_calls) k → ⊥) → ⊥
changed_at k (inl r) same = same (inl (r, differs))
changed_at k (inr w) same = w

-- Headers in the slots

first_slot : (n p : ℕ) → Appeared 0 65536 (trace_of header_calls) (slot_bytes (with_second n p) 0)
first_slot n p = inr (λ k lt. here k lt)
  where
    here : (k : ℕ) → k < 65536 → with_second n p (0 + k) ≡ image_made (0 + k)
    here k lt = stays n p (0 + k) (λ e. absurd (let is : 0 + k ≡ 33554432 = e in omega arith)) (λ e. absurd (let is : 0 + k ≡ 33554433 = e in omega arith))

none : (h : ToyHeader) → 0 ≡ h.number → 1 ≤ h.number → ⊥
none h e counts = absurd (omega arith)

old_headers : (n p : ℕ) → ((h : ToyHeader) → IsToyHeader 1 (slot_bytes (with_second n p) 1) h → Appeared 33554432 65536 (trace_of header_calls) (slot_bytes (with_second n p) 1))
    → HasOldHeaders toy (trace_of header_calls) (with_second n p)
old_headers n p second zero h lt at = first_slot n p
old_headers n p second (suc zero) h lt at = second h at
old_headers n p second (suc (suc zero)) h lt at = absurd (none h at.number_is at.counts)
old_headers n p second (suc (suc (suc zero))) h lt at = absurd (none h at.number_is at.counts)
old_headers n p second (suc (suc (suc (suc s)))) h lt at = absurd (let high : suc (suc (suc (suc s))) < 4 = lt in omega arith)

made_headers : (began at : ℕ) (bytes : List ℕ) → HasOldHeaders toy (Wrote began at bytes (Opened image_made)) image_made
made_headers began place bytes zero h lt at = inr (λ k lt. refl)
made_headers began place bytes (suc zero) h lt at = absurd (none h at.number_is at.counts)
made_headers began place bytes (suc (suc zero)) h lt at = absurd (none h at.number_is at.counts)
made_headers began place bytes (suc (suc (suc zero))) h lt at = absurd (none h at.number_is at.counts)
made_headers began place bytes (suc (suc (suc (suc s)))) h lt at = absurd (let high : suc (suc (suc (suc s))) < 4 = lt in omega arith)

spelled : (k : ℕ) → k < 65536 → with_second 2 1 (33554432 + k) ≡ get_or second_written k 0
spelled zero lt = refl
spelled (suc zero) lt = refl
spelled (suc (suc k)) lt =
    stays 2 1 (33554432 + suc (suc k)) (λ e. absurd (let is : 33554432 + suc (suc k) ≡ 33554432 = e in omega arith)) (λ e. absurd (let is : 33554432 + suc (suc k) ≡ 33554433 = e in omega arith))
    ∙ zero_at (33554432 + suc (suc k)) (λ e. absurd (let is : 33554432 + suc (suc k) ≡ 0 = e in omega arith)) (λ e. absurd (let is : 33554432 + suc (suc k) ≡ 65536 = e in omega arith))
    ∙ sym (get_or-replicate 65534 k 0 0 (let high : suc (suc k) < 65536 = lt in omega arith))

met : InRange 33554432 65536 33554432
met = let low : 33554432 ≤ 33554432 = omega arith in let high : 33554432 < 33619968 = omega arith in (low, high)

whole : Appeared 33554432 65536 (trace_of header_calls) (slot_bytes (with_second 2 1) 1)
whole = inl (record { byte = 33554432; met = met; wrote = within (length second_written) 33554432 long (omega arith) (omega arith); whole = λ e l k lt. spelled k lt })

abbrev torn_header : ToyHeader
torn_header = record { number = 2; place = 65536 }

torn_here : IsToyHeader 1 (slot_bytes (with_second 2 0) 1) torn_header
torn_here = record { number_is = refl; place_is = refl; slot_is = refl; counts = omega arith }

not_torn : Appeared 33554432 65536 (trace_of header_calls) (slot_bytes (with_second 2 0) 1) → ⊥
not_torn (inl m) = let high : 1 < 65536 = omega arith in zero_not_one (m.whole refl long 1 high)
not_torn (inr same) = let high : 0 < 65536 = omega arith in two_not_zero (same 0 high)

-- The block that is written again

holds_seven : Holds 65536 (7 ∷ []) image_made
holds_seven zero lt = refl
holds_seven (suc k) lt = absurd (let high : suc k < 1 = lt in omega arith)

in_block : InRange 65536 1 65536
in_block = let low : 65536 ≤ 65536 = omega arith in let high : 65536 < 65537 = omega arith in (low, high)

unchanged : IsChanged (trace_of block_calls) 65536 → ⊥
unchanged (inl c) = c.1 holds_seven
unchanged (inr c) = c

block_unwritten : IsWritten (trace_of header_calls) 65536 → ⊥
block_unwritten (inl r) = absurd (let low : 33554432 ≤ 65536 = r.0 in omega arith)
block_unwritten (inr w) = w

slot_one : 1 < 4
slot_one = omega arith

pub returns : goal.returns
returns c = record {
  old = record { left = λ k unwritten. refl; headers = made_headers 5 33554432 second_written; kept = λ k w same. refl };
  new = record { left = left_second 2 1; headers = old_headers 2 1 (λ h at. whole); kept = λ k w same. absurd (changed_at k w same) };
  no_header = record { left = left_second 0 1; headers = old_headers 0 1 (λ h at. absurd (none h at.number_is at.counts)); kept = λ k w same. absurd (changed_at k w same) };
  torn = λ cut. not_torn (cut.headers 1 torn_header slot_one torn_here);
  too_early = λ cut. two_not_zero (cut.left 33554432 (λ w. w));
  elsewhere = λ cut. eight_not_seven (cut.left 65536 block_unwritten);
  kept = record { left = λ k unwritten. refl; headers = made_headers 5 65536 (7 ∷ []); kept = λ k w same. refl };
  not_kept = λ cut. eight_not_seven (cut.kept 65536 (inl in_block) unchanged);
}
