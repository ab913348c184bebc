-- What is said of a disk after its headers were read is said of it before.
use Rattle.std.proofs.Common.{◌≡◌, ◌≤◌, ℕ, refl, subst, inl, inr, arith}
use Rattle.std.specs.Prelude.{Option, Some, None}
use Rattle.h2_num.specs.Places.{Places}
use Rattle.h2_disk.specs.Trace.{Trace, latest, IsDurable}
use Rattle.h2_disk.specs.Disk.{Keeps, HasCause, CountsWant, MayCountWant}
use Rattle.h2_disk.specs.declared.disk.DiskFault.{DiskFault}
use Rattle.h2_disk.specs.declared.disk.DiskFault.TheVariants.{Failed, NoMemory}
use Rattle.h2_checkpoint.specs.Stands.{DiskState}
use Rattle.h2_image.specs.VolumeFormat.{HasNoHeader}
use Rattle.h2_cmd.specs.Formatting.{IsNewestNumber, SameElsewhere, LeavesVolume, MakesVolume, FindsHeader, CutsFormat}
use Rattle.h2_cmd.proofs.Slots.{same_is, state_kept, cuts_nothing}

module _ (zones : ℕ) (i0 i1 : Places) (m0 m1 : ℕ) (t0 t1 : Trace) (kept : Keeps i0 i1 t0 t1) (time : m1 ≡ m0) where
  before : DiskState
  before = record { image = i0; moment = m0; trace = t0 }

  read : DiskState
  read = record { image = i1; moment = m1; trace = t1 }

  pub makes_too : (new : DiskState) → (HasNoHeader i1 → MakesVolume zones (record { image = i1; moment = m1; trace = t1 }) new) → HasNoHeader i0 → MakesVolume zones (record { image = i0; moment = m0; trace = t0 }) new
  makes_too new makes =
      let P : DiskState → Type 0 = λ s. HasNoHeader s.image → MakesVolume zones s new in
      subst P (state_kept i0 i1 m0 m1 t0 t1 kept time) makes

  pub cuts_too : (new : DiskState) → (IsDurable t1 i1 → HasNoHeader i1 → CutsFormat zones (record { image = i1; moment = m1; trace = t1 }) new)
      → IsDurable t0 i0 → HasNoHeader i0 → CutsFormat zones (record { image = i0; moment = m0; trace = t0 }) new
  cuts_too new cuts =
      let P : DiskState → Type 0 = λ s. IsDurable s.trace s.image → HasNoHeader s.image → CutsFormat zones s new in
      subst P (state_kept i0 i1 m0 m1 t0 t1 kept time) cuts

  pub elsewhere_too : (new : Places) → SameElsewhere zones i1 new → SameElsewhere zones i0 new
  elsewhere_too new same = let P : Places → Type 0 = λ i. SameElsewhere zones i new in subst P (same_is i0 i1 kept.image) same

  pub finds : (number : ℕ) (found : Option ℕ) → IsNewestNumber i0 found → found ≡ Some number → FindsHeader number (record { image = i0; moment = m0; trace = t0 }) (record { image = i1; moment = m1; trace = t1 })
  finds number found newest is =
      let P : Option ℕ → Type 0 = λ o. IsNewestNumber i0 o in
      let h = subst P is newest in
      record { header = h.0; newest = h.1; number_is = h.2; image = kept.image; trace = kept.trace }

  pub cuts_read : latest t0 ≤ m0 → IsDurable t0 i0 → HasNoHeader i0 → CutsFormat zones (record { image = i0; moment = m0; trace = t0 }) (record { image = i1; moment = m1; trace = t1 })
  cuts_read past durable none = cuts_nothing zones (record { image = i0; moment = m0; trace = t0 }) (record { image = i1; moment = m1; trace = t1 }) kept.trace past durable none

  pub elsewhere_read : SameElsewhere zones i0 i1
  elsewhere_read = record { same = λ k off_blocks off_slot. kept.image k }

  pub unchanged_read : LeavesVolume (record { image = i0; moment = m0; trace = t0 }) (record { image = i1; moment = m1; trace = t1 })
  unchanged_read = inr (record { image = kept.image; trace = kept.trace; moment = time })

-- no header was found
pub none_found : (image : Places) (found : Option ℕ) → IsNewestNumber image found → ((n : ℕ) → found ≡ Some n → ⊥) → HasNoHeader image
none_found image None newest other = newest
none_found image (Some n) newest other = absurd (other n refl)

-- where no header was found, there is no volume to be left
pub none_left : (old new : DiskState) (found : Option ℕ) → IsNewestNumber old.image found → ((n : ℕ) → found ≡ Some n → ⊥) → LeavesVolume old new
none_left old new found newest other = inl (none_found old.image found newest other)

-- a cause in a later time is one in the whole time
pub cause_later : (a b c : ℕ) (fault : DiskFault) → a ≤ b → HasCause b c fault → HasCause a c fault
cause_later a b c Failed le rose = omega arith
cause_later a b c NoMemory le h = tt

-- what a call counts of wants of memory, one that takes memory of its own too may count
pub may_want : (a b : ℕ) (fault : DiskFault) → CountsWant a b fault → MayCountWant a b fault
may_want a b Failed same = same
may_want a b NoMemory rose = inr rose

-- what may be counted of wants in a later time, may be in the whole time where none was counted before
pub may_want_later : (a b c : ℕ) (fault : DiskFault) → b ≡ a → MayCountWant b c fault → MayCountWant a c fault
may_want_later a b c fault same counts = subst (λ (n : ℕ). MayCountWant n c fault) same counts
