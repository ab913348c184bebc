use Rattle.std.proofs.Common.{◌≡◌, ◌≤◌, ◌<◌, ℕ, zero, suc, [], ◌∷◌, arith, inl, inr, refl}
use Rattle.h2_num.specs.Places.{InRange}
use Rattle.h2_checkpoint.specs.Slots.{IsSlot, slot_bytes}
use Rattle.h2_checkpoint.specs.Format.{by_root, by_child, Reach, IsNewest, HasNoHeader}
use Rattle.h2_checkpoint.specs.Checkpoint.{Blank}
use Rattle.h2_checkpoint.specs.Marks.{IsLanding}
use Rattle.h2_checkpoint.specs.Runs.{MountsCheckpoint, Mounts}
use Rattle.h2_checkpoint.specs.Toy.{ToyHeader, IsToyHeader, toy}
use Rattle.h2_crash_rows.specs.Cuts.{zeros}
use Rattle.h2_crash_rows.specs.Mounts.{first_header, image_made, out_marks}
use Rattle.h2_crash_rows.proofs.mounts.worked_mounts_law.Goals as goal

first_here : IsToyHeader 0 (slot_bytes image_made 0) first_header
first_here = record { number_is = refl; place_is = refl; slot_is = refl; counts = omega arith }

greatest : (s : ℕ) (other : ToyHeader) → IsSlot s → IsToyHeader s (slot_bytes image_made s) other → other.number ≤ 1
greatest zero other lt at = let e : 1 ≡ other.number = at.number_is in omega arith
greatest (suc zero) other lt at = let e : 0 ≡ other.number = at.number_is in omega arith
greatest (suc (suc zero)) other lt at = let e : 0 ≡ other.number = at.number_is in omega arith
greatest (suc (suc (suc zero))) other lt at = let e : 0 ≡ other.number = at.number_is in omega arith
greatest (suc (suc (suc (suc s)))) other lt at = absurd (let high : suc (suc (suc (suc s))) < 4 = lt in omega arith)

is_newest : IsNewest toy image_made first_header
is_newest = record { here = first_here; greatest = greatest }

none_in_zeros : HasNoHeader toy zeros
none_in_zeros s h lt at = absurd (let e : 0 ≡ h.number = at.number_is in let counts : 1 ≤ h.number = at.counts in omega arith)

block_reached : Reach toy image_made (65536 ∷ []) 65536
block_reached = let lt : 0 < 1 = omega arith in by_root 65536 (0, lt, refl)

in_block : InRange 65536 1 65536
in_block = let low : 65536 ≤ 65536 = omega arith in let high : 65536 < 65537 = omega arith in (low, high)

in_child : InRange 65543 1 65543
in_child = let low : 65543 ≤ 65543 = omega arith in let high : 65543 < 65544 = omega arith in (low, high)

not_yet : MountsCheckpoint toy (Blank zeros) out_marks 3 image_made → ⊥
not_yet m = split m.landing
  where
    split : IsLanding 0 out_marks 3 m.header.number → ⊥
    split (inl e) = absurd (let is : m.header.number ≡ 0 = e in let counts : 1 ≤ m.header.number = m.newest.here.counts in omega arith)
    split (inr (e, inl o)) = absurd (let le : 4 ≤ 3 = o.1 in omega arith)
    split (inr (e, inr o)) = o

early : Mounts toy (Blank zeros) out_marks 3 image_made → ⊥
early (inl (none, landing)) = let lt : 0 < 4 = omega arith in none 0 first_header lt first_here
early (inr m) = not_yet m

pub returns : goal.returns
returns c = record {
  newest = is_newest;
  none = none_in_zeros;
  block = (65536, block_reached, in_block);
  child = (65543, by_child 65536 65543 block_reached refl, in_child);
  completed = record { header = first_header; forest = 7; newest = is_newest; stands = refl; landing = inl refl; frozen = (refl, refl) };
  blank = inl (none_in_zeros, inl refl);
  out =
      let le : 4 ≤ 4 = omega arith in
      inr (record { header = first_header; forest = 7; newest = is_newest; stands = refl; landing = inr (refl, inl (refl, le)); frozen = inl (refl, refl) });
  too_early = early;
}
