-- The need of blocks is what taking them uses.
use Rattle.std.proofs.Common.{ℕ, ◌≡◌, ◌⊎◌, ◌+◌, ◌-◌, ◌/◌, ◌≤◌, Option, Some, None, List, [], ◌∷◌, ◌++◌, refl, sym, ap, ◌∙◌, inl, inr, arith, subst}
use Rattle.std.proofs.lemmas.Bool.{cases_eq}
use Rattle.h2_num.specs.declared.block.Block.{Block}
use Rattle.h2_geom.specs.Geometry.{chunk_bytes}
use Rattle.h2_codes.specs.declared.code.Code.TheVariants.{Used}
use Rattle.h2_freemap.specs.declared.size.Size.{Size}
use Rattle.h2_freemap.specs.declared.size.Size.TheVariants.{Small, Middle, Whole}
use Rattle.h2_codes.specs.declared.cursor.Cursor.{Cursor}
use Rattle.h2_freemap.specs.Space.{Space, code_of}
use Rattle.h2_freemap.specs.Free.{free_of}
use Rattle.h2_freemap.specs.Taking.{HasNoRoom, GoesTo, at_cursor, at_lowest, Takes}
use Rattle.h2_freemap.specs.Need.{blocks_left, small_chunks, middle_chunks, need_of, need_of_one, need_of_all, small_of, middle_of, whole_of, NeedIsUsed, NeedIsEnough, NeedGrows, NeedIsAtMost, TakesOnlyUse, NeedSplits}
use Rattle.h2_freemap.proofs.Taken.{cost, taken_free, taken_in_use}

-- a block at the cursor is one less that has room
small_next : (n used : ℕ) → used + 1024 ≤ chunk_bytes → small_chunks (1 + n - (chunk_bytes - used) / 1024) ≡ small_chunks (n - (chunk_bytes - (used + 1024)) / 1024)
small_next n used room = omega arith

middle_next : (n used : ℕ) → used + 4096 ≤ chunk_bytes → middle_chunks (1 + n - (chunk_bytes - used) / 4096) ≡ middle_chunks (n - (chunk_bytes - (used + 4096)) / 4096)
middle_next n used room = omega arith

-- a cursor without room has no block left
pub small_none : (cursor : Option Cursor) → HasNoRoom Small cursor → blocks_left Small cursor ≡ 0
small_none None h = refl
small_none (Some cursor) h = omega arith

pub middle_none : (cursor : Option Cursor) → HasNoRoom Middle cursor → blocks_left Middle cursor ≡ 0
middle_none None h = refl
middle_none (Some cursor) h = omega arith

-- the first block of a chunk leaves room for the others
small_first : (n left : ℕ) → left ≡ 0 → small_chunks (1 + n - left) ≡ 1 + small_chunks (n - 15)
small_first n left e = omega arith

middle_first : (n left : ℕ) → left ≡ 0 → middle_chunks (1 + n - left) ≡ 1 + middle_chunks (n - 3)
middle_first n left e = omega arith

-- what a take costs, and the need of the others after it, is the need before
small_step : (s m w : ℕ) (x y : Space) (at : Cursor) (goes : GoesTo Small x at) → y.small ≡ Some (record { chunk = at.chunk; used = at.used + 1024 }) → y.middle ≡ x.middle
    → need_of (1 + s) m w x ≡ cost goes + need_of s m w y
small_step s m w x y at (at_cursor is room) now other =
    let was : blocks_left Small x.small ≡ (chunk_bytes - at.used) / 1024 = ap (blocks_left Small) is in
    let left : blocks_left Small y.small ≡ (chunk_bytes - (at.used + 1024)) / 1024 = ap (blocks_left Small) now in
    let step = small_next s at.used room in
    rw (was, left, other) (omega arith)
small_step s m w x y at (at_lowest none start lowest) now other =
    let was : blocks_left Small x.small ≡ 0 = small_none x.small none in
    let left : blocks_left Small y.small ≡ 15 = ap (blocks_left Small) now ∙ ap (λ (used : ℕ). (chunk_bytes - (used + 1024)) / 1024) start in
    rw (left, other) (omega (arith, small_first s (blocks_left Small x.small) was))

middle_step : (s m w : ℕ) (x y : Space) (at : Cursor) (goes : GoesTo Middle x at) → y.middle ≡ Some (record { chunk = at.chunk; used = at.used + 4096 }) → y.small ≡ x.small
    → need_of s (1 + m) w x ≡ cost goes + need_of s m w y
middle_step s m w x y at (at_cursor is room) now other =
    let was : blocks_left Middle x.middle ≡ (chunk_bytes - at.used) / 4096 = ap (blocks_left Middle) is in
    let left : blocks_left Middle y.middle ≡ (chunk_bytes - (at.used + 4096)) / 4096 = ap (blocks_left Middle) now in
    let step = middle_next m at.used room in
    rw (was, left, other) (omega arith)
middle_step s m w x y at (at_lowest none start lowest) now other =
    let was : blocks_left Middle x.middle ≡ 0 = middle_none x.middle none in
    let left : blocks_left Middle y.middle ≡ 3 = ap (blocks_left Middle) now ∙ ap (λ (used : ℕ). (chunk_bytes - (used + 4096)) / 4096) start in
    rw (left, other) (omega (arith, middle_first m (blocks_left Middle x.middle) was))

whole_step : (s m w : ℕ) (x y : Space) (at : Cursor) (goes : GoesTo Whole x at) → y.small ≡ x.small → y.middle ≡ x.middle → need_of s m (1 + w) x ≡ cost goes + need_of s m w y
whole_step s m w x y at (at_cursor is room) small middle = cc
whole_step s m w x y at (at_lowest none start lowest) small middle = rw (small, middle) (omega arith)

pub need_step : (sizes : List Size) (size : Size) (x y : Space) (b : Block) (t : Takes size x y b) → need_of_all (size ∷ sizes) x ≡ cost t.goes_to + need_of_all sizes y
need_step sizes Small x y b t = small_step (small_of sizes) (middle_of sizes) (whole_of sizes) x y t.at t.goes_to t.cursor (t.other_cursors Middle (λ e. cc))
need_step sizes Middle x y b t = middle_step (small_of sizes) (middle_of sizes) (whole_of sizes) x y t.at t.goes_to t.cursor (t.other_cursors Small (λ e. cc))
need_step sizes Whole x y b t = whole_step (small_of sizes) (middle_of sizes) (whole_of sizes) x y t.at t.goes_to (t.other_cursors Small (λ e. cc)) (t.other_cursors Middle (λ e. cc))

-- the need of one block is at most that of it and others
need_first : (sizes : List Size) (size : Size) (x : Space) → need_of_one size x ≤ need_of_all (size ∷ sizes) x
need_first sizes Small x = omega arith
need_first sizes Middle x = omega arith
need_first sizes Whole x = omega arith

pub need_is_used : NeedIsUsed
need_is_used [] x y in_use e = let same : free_of x ≡ free_of y = ap free_of e in omega arith
need_is_used (size ∷ sizes) x y in_use (u, b, t, rest) =
    let first : free_of x ≡ free_of u + cost t.goes_to = taken_free size x u t.at in_use t.goes_to t.code in
    let step : need_of_all (size ∷ sizes) x ≡ cost t.goes_to + need_of_all sizes u = need_step sizes size x u b t in
    let others : free_of u ≡ free_of y + need_of_all sizes u = need_is_used sizes u y (taken_in_use size x u b in_use t) rest in
    omega arith

pub takes_only_use : TakesOnlyUse
takes_only_use [] x y e c = inl (ap (λ (z : Space). code_of z c) (sym e))
takes_only_use (size ∷ sizes) x y (u, b, t, rest) c = split (cases_eq c t.at.chunk) (takes_only_use sizes u y rest c)
  where
    split : (c ≡ t.at.chunk) ⊎ (c ≡ t.at.chunk → ⊥) → (code_of y c ≡ code_of u c) ⊎ (code_of y c ≡ Used) → (code_of y c ≡ code_of x c) ⊎ (code_of y c ≡ Used)
    split o (inr used) = inr used
    split (inl e) (inl same) = inr (same ∙ ap (code_of u) e ∙ t.code.changed)
    split (inr ne) (inl same) = inl (same ∙ t.code.others c ne)

pub need_is_enough : NeedIsEnough
need_is_enough [] size after x y in_use e enough = subst (λ (z : Space). need_of_one size z ≤ free_of z) e (omega (arith, need_first after size x, enough))
need_is_enough (first ∷ before) size after x y in_use (u, b, t, rest) enough =
    let less : free_of x ≡ free_of u + cost t.goes_to = taken_free first x u t.at in_use t.goes_to t.code in
    let step : need_of_all (first ∷ (before ++ size ∷ after)) x ≡ cost t.goes_to + need_of_all (before ++ size ∷ after) u = need_step (before ++ size ∷ after) first x u b t in
    need_is_enough before size after u y (taken_in_use first x u b in_use t) rest (omega (arith, enough))

pub need_grows : NeedGrows
need_grows small middle whole more_small more_middle more_whole x s m w = omega arith

pub need_is_at_most : NeedIsAtMost
need_is_at_most small middle whole x = omega arith

pub need_splits : NeedSplits
need_splits [] after x y e = let same : need_of_all after x ≡ need_of_all after y = ap (need_of_all after) e in omega arith
need_splits (first ∷ before) after x y (u, b, t, rest) =
    let all : need_of_all (first ∷ (before ++ after)) x ≡ cost t.goes_to + need_of_all (before ++ after) u = need_step (before ++ after) first x u b t in
    let own : need_of_all (first ∷ before) x ≡ cost t.goes_to + need_of_all before u = need_step before first x u b t in
    let others : need_of_all (before ++ after) u ≡ need_of_all before u + need_of_all after y = need_splits before after u y rest in
    omega arith
