use Rattle.std.proofs.Common.{◌≡◌, ◌≤◌, ◌⊎◌, ◌<◌, ℕ, zero, suc, [], ◌∷◌, arith, inl, inr, refl}
use Rattle.h2_num.specs.Places.{Places, InRange, Holds, places}
use Rattle.h2_disk.specs.Trace.{IsWritten, IsChanged, MayLeave}
use Rattle.h2_crash_rows.specs.Cuts.{image_synced, unsynced, again}
use Rattle.h2_crash_rows.proofs.cuts.worked_cuts_law.Goals as goal

in_two : InRange 2 2 2
in_two = let low : 2 ≤ 2 = omega arith in let high : 2 < 4 = omega arith in (low, high)

in_three : InRange 2 2 3
in_three = let low : 2 ≤ 3 = omega arith in let high : 3 < 4 = omega arith in (low, high)

alone_in_two : InRange 2 1 2
alone_in_two = let low : 2 ≤ 2 = omega arith in let high : 2 < 3 = omega arith in (low, high)

-- at moment 4 a cut leaves all but places 2 and 3 as it was
left_but_two : (image : Places) → image 0 ≡ 0 → image 1 ≡ 0 → ((k : ℕ) → image (suc (suc (suc (suc k)))) ≡ 0) → MayLeave unsynced image
left_but_two image first second above zero unwritten = first
left_but_two image first second above (suc zero) unwritten = second
left_but_two image first second above (suc (suc zero)) unwritten = absurd (unwritten (inl in_two))
left_but_two image first second above (suc (suc (suc zero))) unwritten = absurd (unwritten (inl in_three))
left_but_two image first second above (suc (suc (suc (suc k)))) unwritten = above k

unwritten_one : IsWritten unsynced 1 → ⊥
unwritten_one (inl r) = absurd (let low : 2 ≤ 1 = r.0 in omega arith)
unwritten_one (inr w) = w

seven_not_zero : ◌≡◌ {A = ℕ} 7 0 → ⊥
seven_not_zero e = absurd (omega arith)

five_not_one : ◌≡◌ {A = ℕ} 5 1 → ⊥
five_not_one e = absurd (omega arith)

one_not_five : ◌≡◌ {A = ℕ} 1 5 → ⊥
one_not_five e = absurd (omega arith)

zero_not_one : ◌≡◌ {A = ℕ} 0 1 → ⊥
zero_not_one e = absurd (omega arith)

-- before the sync place 2 alone was written
left_but_one : (k : ℕ) → (InRange 2 1 k ⊎ ⊥ → ⊥) → image_synced k ≡ 0
left_but_one zero unwritten = refl
left_but_one (suc zero) unwritten = refl
left_but_one (suc (suc zero)) unwritten = absurd (unwritten (inl alone_in_two))
left_but_one (suc (suc (suc k))) unwritten = refl

-- the byte that was written again is the durable one
holds_again : Holds 2 (1 ∷ []) image_synced
holds_again zero lt = refl
holds_again (suc k) lt = absurd (let high : suc k < 1 = lt in omega arith)

unchanged_again : IsChanged again 2 → ⊥
unchanged_again (inl c) = c.1 holds_again
unchanged_again (inr c) = c

-- 5 and 6 aren't durable
differs : Holds 2 (5 ∷ 6 ∷ []) image_synced → ⊥
differs h = let low : 0 < 2 = omega arith in one_not_five (h 0 low)

changed_at : (k : ℕ) → IsWritten unsynced k → (IsChanged unsynced k → ⊥) → ⊥
changed_at k (inl r) same = same (inl (r, differs))
changed_at k (inr w) same = w

pub returns : goal.returns
returns c = record {
  moments = refl;
  earlier = refl;
  all_by = refl;
  synced_bytes = λ k. refl;
  is_durable = record { nothing_written = λ k w. w; same = λ k. refl };
  not_durable = λ image d. d.nothing_written 2 (inl in_two);
  old = left_but_two image_synced refl refl (λ k. refl);
  new = left_but_two (places (0 ∷ 0 ∷ 5 ∷ 6 ∷ [])) refl refl (λ k. refl);
  torn = left_but_two (places (0 ∷ 0 ∷ 5 ∷ [])) refl refl (λ k. refl);
  others = left_but_two (places (0 ∷ 0 ∷ 9 ∷ 9 ∷ [])) refl refl (λ k. refl);
  elsewhere = λ left. seven_not_zero (left 1 unwritten_one);
  too_early = λ left. five_not_one (left 2 (λ w. w));
  before_sync = λ k unwritten. refl;
  before_sync_new = left_but_one;
  kept = λ k w same. refl;
  not_kept = λ keeps. zero_not_one (keeps 2 (inl alone_in_two) unchanged_again);
  changed = λ k w same. absurd (changed_at k w same);
}
