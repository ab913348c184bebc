-- Where blocks go in a consistent freemap.
use Rattle.std.proofs.Common.{ℕ, ◌≡◌, ◌+◌, ◌-◌, ◌*◌, ◌/◌, ◌%◌, ◌≤◌, ◌<◌, length, Option, Some, None, refl, sym, ap, ◌∙◌, arith, rules}
use Rattle.std.specs.Option.{IsSome, MatchOption}
use Rattle.h2_geom.specs.Geometry.{chunk_bytes, segments_of, chunk_place}
use Rattle.h2_codes.specs.declared.code.Code.TheVariants.{Used}
use Rattle.h2_freemap.specs.declared.size.Size.{Size}
use Rattle.h2_freemap.specs.declared.size.Size.TheVariants.{Small, Middle, Whole}
use Rattle.h2_codes.specs.declared.cursor.Cursor.{Cursor}
use Rattle.h2_freemap.specs.Space.{Space, chunk_count, code_of, cursor_of, ChangesCode}
use Rattle.h2_freemap.specs.Free.{free_of}
use Rattle.h2_codes.specs.Free.{NoneFreeBelow, IsLowestFree}
use Rattle.h2_freemap.specs.Taking.{bytes_of, HasNoRoom, GoesTo, at_cursor, at_lowest, with_cursor}
use Rattle.h2_freemap.specs.Need.{blocks_left, need_of_one, HasCursorsInUse}
use Rattle.h2_freemap.specs.Consistent.{IsCursor, IsConsistent}
use Rattle.h2_freemap.proofs.SegmentCodes.{free_none}
use Rattle.h2_freemap.proofs.Taken.{cost}
use Rattle.h2_freemap.proofs.Needs.{small_none, middle_none}

pub cursors_in_use : (x : Space) → IsConsistent x → HasCursorsInUse x
cursors_in_use x ok size cursor is = (ok.cursors size cursor is).in_use

-- a block goes to a chunk of the volume
pub place_within : (size : Size) (x : Space) (at : Cursor) → IsConsistent x → GoesTo size x at → at.chunk < chunk_count x
place_within size x at ok (at_cursor is room) = (ok.cursors size at is).in_volume
place_within size x at ok (at_lowest none start lowest) = lowest.in_volume

-- where the cursor has no room, a chunk is needed
no_room_need : (size : Size) (x : Space) → HasNoRoom size (cursor_of x size) → need_of_one size x ≡ 1
no_room_need Small x none = let left = small_none x.small none in omega arith
no_room_need Middle x none = let left = middle_none x.middle none in omega arith
no_room_need Whole x none = omega arith

-- and then there is one
pub found : (size : Size) (x : Space) (result : Option ℕ) → IsConsistent x → HasNoRoom size (cursor_of x size) → need_of_one size x ≤ free_of x
    → MatchOption result (NoneFreeBelow (code_of x) (256 * length x.segments)) (IsLowestFree (code_of x) (256 * length x.segments)) → IsSome result
found size x (Some chunk) ok none enough is = search rules
found size x None ok none enough is =
    let one : need_of_one size x ≡ 1 = no_room_need size x none in
    let n : length x.segments ≡ segments_of x.zones = ok.segment_count in
    let zero' : free_of x ≡ 0 = free_none (code_of x) (chunk_count x) (λ c lt. is c (omega arith)) in
    absurd (omega arith)

-- the cursor behind a block in a chunk that is now used
pub next_cursor : (size : Size) (x y : Space) (at : Cursor) (used : ℕ) → IsConsistent x → GoesTo size x at → ChangesCode at.chunk Used x y → used ≡ at.used + bytes_of size → IsCursor size y (record { chunk = at.chunk; used = used })
next_cursor size x y at used ok goes changes e = record {
  in_volume = let zones : y.zones ≡ x.zones = changes.zones in let in' = place_within size x at ok goes in omega arith;
  in_use = λ free. let now : code_of y at.chunk ≡ Used = changes.changed in cc;
  in_chunk = let room = fits size x at goes in omega arith;
  aligned = ap (λ (n : ℕ). n % bytes_of size) e ∙ behind size at (start size x at ok goes);
}
  where
    small_bytes : (s : Size) → bytes_of s ≤ chunk_bytes
    small_bytes Small = omega arith
    small_bytes Middle = omega arith
    small_bytes Whole = omega arith

    fits : (s : Size) (z : Space) (c : Cursor) → GoesTo s z c → c.used + bytes_of s ≤ chunk_bytes
    fits s z c (at_cursor is room) = room
    fits s z c (at_lowest none start' lowest) = let b = small_bytes s in omega arith

    zero_aligned : (s : Size) (n : ℕ) → n ≡ 0 → n % bytes_of s ≡ 0
    zero_aligned Small n z = omega arith
    zero_aligned Middle n z = omega arith
    zero_aligned Whole n z = omega arith

    start : (s : Size) (z : Space) (c : Cursor) → IsConsistent z → GoesTo s z c → c.used % bytes_of s ≡ 0
    start s z c ok' (at_cursor is room) = (ok'.cursors s c is).aligned
    start s z c ok' (at_lowest none start' lowest) = zero_aligned s c.used start'

    behind : (s : Size) (c : Cursor) → c.used % bytes_of s ≡ 0 → (c.used + bytes_of s) % bytes_of s ≡ 0
    behind Small c a = omega arith
    behind Middle c a = omega arith
    behind Whole c a = omega arith

-- a block begins at a multiple of its size
pub place_aligned : (size : Size) (x : Space) (at : Cursor) → IsConsistent x → GoesTo size x at → (chunk_place at.chunk + at.used) % bytes_of size ≡ 0
place_aligned Small x at ok (at_cursor is room) = let a : at.used % 1024 ≡ 0 = (ok.cursors Small at is).aligned in omega arith
place_aligned Middle x at ok (at_cursor is room) = let a : at.used % 4096 ≡ 0 = (ok.cursors Middle at is).aligned in omega arith
place_aligned Whole x at ok (at_cursor is room) = cc
place_aligned Small x at ok (at_lowest none start lowest) = omega arith
place_aligned Middle x at ok (at_lowest none start lowest) = omega arith
place_aligned Whole x at ok (at_lowest none start lowest) = omega arith

-- what a take costs is the need of its block
pub cost_is_need : (size : Size) (x : Space) (at : Cursor) (goes : GoesTo size x at) → cost goes ≡ need_of_one size x
cost_is_need Small x at (at_cursor is room) = let left : blocks_left Small x.small ≡ (chunk_bytes - at.used) / 1024 = ap (blocks_left Small) is in omega arith
cost_is_need Middle x at (at_cursor is room) = let left : blocks_left Middle x.middle ≡ (chunk_bytes - at.used) / 4096 = ap (blocks_left Middle) is in omega arith
cost_is_need Whole x at (at_cursor is room) = cc
cost_is_need size x at (at_lowest none start lowest) = sym (no_room_need size x none)

-- moving a cursor leaves the number of free chunks
pub cursor_free : (size : Size) (cursor : Cursor) (x : Space) → free_of (with_cursor size cursor x) ≡ free_of x
cursor_free Small cursor x = refl
cursor_free Middle cursor x = refl
cursor_free Whole cursor x = refl
