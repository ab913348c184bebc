-- What a disk in memory leaves is what a power cut may leave.
use Rattle.std.specs.Prelude.{◌≡◌, ◌≢◌, ◌⊎◌, ◌<◌, ◌≤◌, ℕ, ◌+◌, ◌-◌, List, length, take, slice_index, refl}
use Rattle.std.proofs.Common.{ap, sym, ◌∙◌, arith, inl, inr}
use Rattle.std.proofs.lemmas.Bool.{cases_eq}
use Rattle.std.proofs.lemmas.List.{length-take, get_or-take, take_all}
use Rattle.h2_num.specs.Places.{InRange}
use Rattle.h2_num.specs.PlaceLaws.{in_range, outside, held}
use Rattle.h2_disk.specs.Laid.{laid, laid_inside, laid_elsewhere}
use Rattle.h2_disk.specs.Trace.{Trace, Opened, Wrote, Synced, up_to, durable, IsWritten, IsChanged, LeftAt, KeepsDurable}
use Rattle.h2_disk.specs.Cut.{newest, torn, image_cut}
use Rattle.h2_disk.specs.declared.choice.Choice.{Choice}
use Rattle.h2_disk.specs.declared.choice.Choice.TheVariants.{Old, New, Torn}

-- a byte in the range of a write that changes no durable byte
written_same : (began at : ℕ) (bytes : List ℕ) (t : Trace) (k : ℕ) → InRange at (length bytes) k → (IsChanged (Wrote began at bytes t) k → ⊥) → slice_index bytes (k - at) ≡ durable t k
written_same began at bytes t k r same = split (cases_eq (slice_index bytes (k - at)) (durable t k))
  where
    split : (slice_index bytes (k - at) ≡ durable t k) ⊎ (slice_index bytes (k - at) ≢ durable t k) → slice_index bytes (k - at) ≡ durable t k
    split (inl e) = e
    split (inr ne) = absurd (same (inl (r, λ h. ne (sym (held at bytes (durable t) h k r)))))

-- the first n bytes of a write over an image
laid_same : (n began at : ℕ) (bytes : List ℕ) (t : Trace) (k : ℕ) → (IsChanged (Wrote began at bytes t) k → ⊥) → newest t k ≡ durable t k → laid at (take n bytes) (newest t) k ≡ durable t k
laid_same n began at bytes t k same below = split (in_range at (length (take n bytes)) k)
  where
    split : InRange at (length (take n bytes)) k ⊎ (InRange at (length (take n bytes)) k → ⊥) → laid at (take n bytes) (newest t) k ≡ durable t k
    split (inl r) =
        let from : at ≤ k = r.0 in
        let to : k < at + length (take n bytes) = r.1 in
        let len = length-take n bytes in
        held at (take n bytes) (laid at (take n bytes) (newest t)) (laid_inside at (take n bytes) (newest t)) k r
        ∙ get_or-take n bytes (k - at) 0 (omega arith)
        ∙ written_same began at bytes t k (from, omega arith) same
    split (inr out) = outside at (length (take n bytes)) (newest t) (laid at (take n bytes) (newest t)) (laid_elsewhere at (take n bytes) (newest t)) k out ∙ below

-- a byte that no write was to change is durable
newest_same : (t : Trace) (k : ℕ) → (IsChanged t k → ⊥) → newest t k ≡ durable t k
newest_same (Opened image) k same = refl
newest_same (Wrote began at bytes t) k same =
    let whole = take_all (length bytes) bytes (omega arith) in
    ap (λ b. laid at b (newest t) k) (sym whole) ∙ laid_same (length bytes) began at bytes t k same (newest_same t k (λ c. same (inr c)))
newest_same (Synced done image t) k same = refl

-- a byte that no write was to change is durable after a cut by any choice
pub cut_same : (choice : Choice) (t : Trace) (k : ℕ) → (IsChanged t k → ⊥) → image_cut choice t k ≡ durable t k
cut_same Old t k same = refl
cut_same New t k same = newest_same t k same
cut_same (Torn n) t k same = torn_same t same
  where
    torn_same : (t : Trace) → (IsChanged t k → ⊥) → torn n t k ≡ durable t k
    torn_same (Opened image) same = refl
    torn_same (Wrote began at bytes t) same = laid_same n began at bytes t k same (newest_same t k (λ c. same (inr c)))
    torn_same (Synced done image t) same = refl

-- a byte that wasn't written isn't changed
changed_written : (t : Trace) (k : ℕ) → IsChanged t k → IsWritten t k
changed_written (Opened image) k c = c
changed_written (Wrote began at bytes t) k (inl c) = inl c.0
changed_written (Wrote began at bytes t) k (inr c) = inr (changed_written t k c)
changed_written (Synced done image t) k c = c

-- what a cut leaves by a choice is among what a cut may leave
pub cut_left : (choice : Choice) (t : Trace) (m : ℕ) → LeftAt t m (image_cut choice (up_to m t))
cut_left choice t m k unwritten = cut_same choice (up_to m t) k (λ c. unwritten (changed_written (up_to m t) k c))

-- and keeps durable bytes that were written once more
pub cut_keeps : (choice : Choice) (t : Trace) → KeepsDurable t (image_cut choice t)
cut_keeps choice t k written same = cut_same choice t k same
