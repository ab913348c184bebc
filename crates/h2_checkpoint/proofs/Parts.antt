-- What the proofs of several steps share.
use Rattle.std.proofs.Common.{◌≡◌, ◌≢◌, ◌⊎◌, ◌<◌, ◌≤◌, ℕ, suc, ◌+◌, length, inl, inr, arith}
use Rattle.h2_num.specs.Places.{InRange, Places}
use Rattle.h2_num.specs.PlaceLaws.{in_range}
use Rattle.h2_disk.specs.Trace.{IsChanged, IsWritten, KeepsDurable, MayLeave, Opened, Synced, Trace, Wrote, durable}
use Rattle.h2_geom.specs.Places.{header_bytes, header_place, turn_of}
use Rattle.h2_checkpoint.specs.Slots.{InSlot}

pub slots_apart : (s t k : ℕ) → InSlot s k → InSlot t k → s ≡ t
slots_apart s t k a b =
    let a0 : header_place s ≤ k = a.0 in
    let a1 : k < header_place s + header_bytes = a.1 in
    let b0 : header_place t ≤ k = b.0 in
    let b1 : k < header_place t + header_bytes = b.1 in
    omega arith

pub slot_below : (n : ℕ) → turn_of n < 4
slot_below n = omega arith

pub next_slot_apart : (n m : ℕ) → 1 ≤ n → m ≡ suc n → turn_of m ≢ turn_of n
next_slot_apart n m le e same = absurd (omega arith)

pub in_slot : (s k : ℕ) → k < header_bytes → InSlot s (header_place s + k)
in_slot s k lt = (omega arith, omega arith)

-- the image is as the durable one where no write was to change it
abbrev pub IsIntact : Trace → Places → Type 0
IsIntact p image = (k : ℕ) → (IsChanged p k → ⊥) → image k ≡ durable p k

covered : (p : Trace) (k : ℕ) → IsWritten p k ⊎ (IsWritten p k → ⊥)
covered (Opened image) k = inr (λ c. c)
covered (Wrote began at bytes p) k = either (in_range at (length bytes) k) (covered p k)
  where
    either : InRange at (length bytes) k ⊎ (InRange at (length bytes) k → ⊥) → IsWritten p k ⊎ (IsWritten p k → ⊥) → IsWritten (Wrote began at bytes p) k ⊎ (IsWritten (Wrote began at bytes p) k → ⊥)
    either (inl r) c = inl (inl r)
    either (inr out) (inl c) = inl (inr c)
    either (inr out) (inr none) = inr (λ c. elim c [ inl r ↦ out r | inr d ↦ none d ])
covered (Synced newest image p) k = inr (λ c. c)

pub intact : (p : Trace) (image : Places) → MayLeave p image → KeepsDurable p image → IsIntact p image
intact p image left keeps k same = elim (covered p k) [ inl c ↦ keeps k c same | inr none ↦ left k none ]
