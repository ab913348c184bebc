use Rattle.std.proofs.Common.{◌≡◌, ◌⊎◌, ◌≤◌, ◌<◌, ℕ, zero, suc, ◌+◌, ◌*◌, Bool, true, false, cond, nat_eq, [], ◌∷◌, length, arith, ap, sym, subst, inl, inr, refl}
use Rattle.std.specs.List.{Contains}
use Rattle.std.proofs.lemmas.Bool.{cases_eq}
use Rattle.std.proofs.lemmas.Bool.Decides.{nat_tests}
use Rattle.std.proofs.lemmas.List.{get_or-replicate, length-replicate}
use Rattle.h2_num.specs.Places.{InRange, Holds, places}
use Rattle.h2_checkpoint.specs.Slots.{InSlot}
use Rattle.h2_checkpoint.specs.Format.{by_root, by_child, Reach, HasNoHeader}
use Rattle.h2_checkpoint.specs.Queue.{Entry, entry_of, IsAmong, InEntries}
use Rattle.h2_checkpoint.specs.Checkpoint.{OwnsByte, IsCheckpoint, Blank, IsPlanned, IsQueuedOrThere}
use Rattle.h2_checkpoint.specs.Toy.{IsToyHeader, toy}
use Rattle.h2_crash_rows.specs.Cuts.{zeros}
use Rattle.h2_crash_rows.specs.Mounts.{first_header, image_made, made}
use Rattle.h2_crash_rows.specs.Plan.{frozen, header_written, piece_written}
use Rattle.h2_crash_rows.proofs.mounts.worked_plan_law.Goals as goal

-- the bytes of the image are small
small_if : (a b : Bool) → cond a 1 (cond b 7 0) ≤ 7
small_if true b = omega arith
small_if false true = omega arith
small_if false false = omega arith

small : (k : ℕ) → image_made k ≤ 7
small k = small_if (nat_eq k 0) (nat_eq k 65536)

-- Which bytes are reached

root_place : (r : ℕ) → Contains (65536 ∷ []) r → 65536 ≡ r
root_place r (zero, lt, e) = e
root_place r (suc k, lt, e) = absurd (let high : suc k < 1 = lt in omega arith)

reached_from : (r : ℕ) → Reach toy image_made (65536 ∷ []) r → 65536 ≤ r
reached_from _ (by_root r among) = let e : 65536 ≡ r = root_place r among in omega arith
reached_from _ (by_child r s reach child) = let e : 65536 + image_made (r + 0) ≡ s = child in omega arith

reached_to : (r : ℕ) → Reach toy image_made (65536 ∷ []) r → r ≤ 65543
reached_to _ (by_root r among) = let e : 65536 ≡ r = root_place r among in omega arith
reached_to _ (by_child r s reach child) =
    let e : 65536 + image_made (r + 0) ≡ s = child in
    let few : image_made (r + 0) ≤ 7 = small (r + 0) in
    omega arith

owned_from : (k : ℕ) → OwnsByte toy made k → 65536 ≤ k
owned_from k (r, reach, within) = let low : r ≤ k = within.0 in let from : 65536 ≤ r = reached_from r reach in omega arith

owned_to : (k : ℕ) → OwnsByte toy made k → k ≤ 65543
owned_to k (r, reach, within) = let high : k < r + 1 = within.1 in let to : r ≤ 65543 = reached_to r reach in omega arith

off_slot : (s k : ℕ) → 65536 ≤ k → k ≤ 65543 → InSlot s k → ⊥
off_slot s k low high inside =
    let from : 33554432 * s ≤ k = inside.0 in
    let to : k < 33554432 * s + 65536 = inside.1 in
    omega arith

is_checkpoint : IsCheckpoint toy made
is_checkpoint = record { stands = refl; off_slots = λ s k lt owns inside. off_slot s k (owned_from k owns) (owned_to k owns) inside }

-- What is queued

holds_seven : Holds 65536 (7 ∷ []) image_made
holds_seven zero lt = refl
holds_seven (suc k) lt = absurd (let high : suc k < 1 = lt in omega arith)

queued : (e : Entry) → IsAmong (entry_of piece_written ∷ []) e → Holds e.at e.bytes image_made
queued e (inl is) = subst (λ (z : Entry). Holds z.at z.bytes image_made) (sym is) holds_seven
queued e (inr none) = absurd none

queue_range : (e : Entry) (k : ℕ) → IsAmong (entry_of piece_written ∷ []) e → InRange e.at (length e.bytes) k → InRange 65536 1 k
queue_range e k (inl is) within = subst (λ (z : Entry). InRange z.at (length z.bytes) k) is within
queue_range e k (inr none) within = absurd none

queue_off_slots : (s k : ℕ) → InEntries (entry_of piece_written ∷ []) k → InSlot s k → ⊥
queue_off_slots s k (e, among, within) inside =
    let r : InRange 65536 1 k = queue_range e k among within in
    let low : 65536 ≤ k = r.0 in
    let high : k < 65537 = r.1 in
    off_slot s k low (omega arith) inside

unlike : (a b : ℕ) → (a ≡ b → ⊥) → nat_eq a b ≡ false
unlike a b ne = grind (arith, nat_tests)

-- all else that is reached is zero
there : (k : ℕ) → 65536 ≤ k → (k ≡ 65536 → ⊥) → zeros k ≡ image_made k
there k low ne =
    let first : k ≡ 0 → ⊥ = λ e. absurd (let is : k ≡ 0 = e in omega arith) in
    let a : nat_eq k 0 ≡ false = unlike k 0 first in
    let b : nat_eq k 65536 ≡ false = unlike k 65536 ne in
    rw (a, b) refl

queued_or_there : IsQueuedOrThere toy zeros frozen
queued_or_there k owns = split (cases_eq k 65536)
  where
    split : (k ≡ 65536) ⊎ (k ≡ 65536 → ⊥) → InEntries (entry_of piece_written ∷ []) k ⊎ (zeros k ≡ image_made k)
    split (inl e) = let low : 65536 ≤ k = omega arith in let high : k < 65537 = omega arith in inl (entry_of piece_written, inl refl, (low, high))
    split (inr ne) = inr (there k (owned_from k owns) ne)

none_in_zeros : HasNoHeader toy zeros
none_in_zeros s h lt at = absurd (let e : 0 ≡ h.number = at.number_is in let counts : 1 ≤ h.number = at.counts in omega arith)

header_spelled : IsToyHeader 0 (places header_written) first_header
header_spelled =
    let lt : 0 < 65535 = omega arith in
    record { number_is = refl; place_is = ap (λ (z : ℕ). 65536 + z) (get_or-replicate 65535 0 0 0 lt); slot_is = refl; counts = omega arith }

is_planned : IsPlanned toy (Blank zeros) frozen
is_planned = record {
  next = refl;
  checkpoint = is_checkpoint;
  long = ap suc (length-replicate {A = ℕ} 65535 0);
  spelled = header_spelled;
  queue = queued;
  queue_off = λ k among off. off;
  off_slots = λ s k lt among inside. queue_off_slots s k among inside;
}

pub returns : goal.returns
returns c = record {
  none = none_in_zeros;
  plan = is_planned;
  pieces_are = record { queue = refl; place_is = refl; header_is = refl };
  others = queued_or_there;
}
