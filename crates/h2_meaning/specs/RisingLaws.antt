-- The leaves of references in order are in order.
use Rattle.std.specs.Prelude.{◌≡◌, ◌≤◌, ℕ, ◌^◌, true, nat_le, List, [], ◌∷◌, All}
use Rattle.std.proofs.Common.{arith}
use Rattle.std.proofs.lemmas.Bool.{and_parts, leb-true}
use Rattle.h2_num.specs.Places.{Places}
use Rattle.h2_ref.specs.declared.reference.Ref.{Ref}
use Rattle.h2_set.specs.Ranges.{Rising, limit, lies}
use Rattle.h2_set.specs.LeafLaws.{Rising-append, Rising-low}
use Rattle.h2_inode.specs.ListLaws.{all_head, all_tail}
use Rattle.h2_meaning.specs.Image.{LeavesIn, nothing_left, a_leaf, a_block}

-- the range of the second reference lies in that of the first
abbrev LiesIn : Ref → Ref → Type 0
LiesIn r s = lies r.key r.keybits s ≡ true

lies_low : (r s : Ref) → LiesIn r s → r.key ≤ s.key
lies_low r s h = leb-true r.key s.key (and_parts (nat_le r.key s.key) (nat_le (limit s) (limit r)) h).0

lies_high : (r s : Ref) → LiesIn r s → limit s ≤ limit r
lies_high r s h = leb-true (limit s) (limit r) (and_parts (nat_le r.key s.key) (nat_le (limit s) (limit r)) h).1

end_within : (r : Ref) (low high : ℕ) (xs : List Ref) → low ≤ limit r → All (LiesIn r) xs → Rising low high xs → Rising low (limit r) xs
end_within r low high [] le all h = le
end_within r low high (x ∷ xs) le all h = (h.0, end_within r (limit x) high xs (lies_high r x (all_head (LiesIn r) x xs all)) (all_tail (LiesIn r) x xs all) h.1)

-- references in the range of one are in order there
rising_within : (r : Ref) (low high : ℕ) (xs : List Ref) → All (LiesIn r) xs → Rising low high xs → Rising r.key (limit r) xs
rising_within r low high [] all h = omega arith
rising_within r low high (x ∷ xs) all h =
    let here = all_head (LiesIn r) x xs all in
    (lies_low r x here, end_within r (limit x) high xs (lies_high r x here) (all_tail (LiesIn r) x xs all) h.1)

pub image_leaves_rise : (x : Places) (t l : List Ref) (low high : ℕ) → LeavesIn x t l → Rising low high t → Rising low high l
image_leaves_rise x _ _ low high nothing_left h = h
image_leaves_rise x _ _ low high (a_leaf r kind rest) h = (h.0, image_leaves_rise x _ _ (limit r) high rest h.1)
image_leaves_rise x _ _ low high (a_block r inner {below = below} {l = l} holds under rest) h =
    let there = image_leaves_rise x _ _ r.key (limit r) under (rising_within r 0 (2 ^ 64) inner holds.arranged.inside holds.set.rising) in
    Rising-append low (limit r) high below l (Rising-low r.key low (limit r) below h.0 there) (image_leaves_rise x _ _ (limit r) high rest h.1)
