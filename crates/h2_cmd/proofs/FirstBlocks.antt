-- Where the first two small blocks of a new volume go.
use Rattle.std.proofs.Common.{ℕ, ◌≡◌, ◌⊎◌, ◌+◌, ◌-◌, ◌*◌, ◌/◌, ◌≤◌, ◌<◌, Option, Some, None, sym, ap, ◌∙◌, inl, inr, arith, subst}
use Rattle.std.specs.Option.{IfSome}
use Rattle.std.proofs.lemmas.Bool.{cases_lt}
use Rattle.h2_num.specs.declared.block.Block.{Block}
use Rattle.h2_geom.specs.Geometry.{IsReserved, chunks_of}
use Rattle.h2_codes.specs.declared.code.Code.TheVariants.{Free, Reserved, Used}
use Rattle.h2_freemap.specs.declared.size.Size.TheVariants.{Small}
use Rattle.h2_codes.specs.declared.cursor.Cursor.{Cursor}
use Rattle.h2_freemap.specs.Space.{Space, chunk_count, code_of}
use Rattle.h2_codes.specs.Free.{IsLowestFree}
use Rattle.h2_freemap.specs.Free.{free_of}
use Rattle.h2_freemap.specs.Taking.{HasNoRoom, GoesTo, at_cursor, at_lowest, Takes}
use Rattle.h2_freemap.specs.Need.{blocks_left, need_of_one}
use Rattle.h2_freemap.specs.Made.{IsFresh}
use Rattle.h2_freemap.specs.Consistent.{IsConsistent}
use Rattle.h2_image.specs.NewVolume.{inode_chunk, directory_place, pfs_place, IsNewCode, AreNewSegments}

-- the lowest free chunk of a new volume is the one behind its first reserved segment
lowest_is : (zones : ℕ) (x : Space) (c : ℕ) → 4 ≤ zones → IsFresh zones x → IsLowestFree (code_of x) (chunk_count x) c → c ≡ 256
lowest_is zones x c some fresh lowest = split (cases_lt c 256) (cases_lt 256 c)
  where
    in' : c < 2048 * zones
    in' = let z : x.zones ≡ zones = fresh.zones_are in let lt : c < chunk_count x = lowest.in_volume in omega arith

    first : code_of x 256 ≡ Free
    first = (fresh.codes 256 (omega arith)).free (λ is. absurd (omega arith))

    split : (c < 256) ⊎ (256 ≤ c) → (256 < c) ⊎ (c ≤ 256) → c ≡ 256
    split (inl below) above = let reserved : code_of x c ≡ Reserved = (fresh.codes c in').reserved (omega arith) in let free : code_of x c ≡ Free = lowest.free in cc
    split (inr le) (inl above) = absurd (lowest.lowest 256 above first)
    split (inr le) (inr ge) = omega arith

-- the first block goes there
pub first_at : (zones : ℕ) (x : Space) (at : Cursor) → 4 ≤ zones → IsFresh zones x → GoesTo Small x at → (at.chunk ≡ 256) × (at.used ≡ 0)
first_at zones x at some fresh (at_cursor is room) = let none : x.small ≡ None = fresh.no_use.small in cc
first_at zones x at some fresh (at_lowest none start lowest) = (lowest_is zones x at.chunk some fresh lowest, start)

pub first_place : (zones : ℕ) (x y : Space) (b : Block) → 4 ≤ zones → IsFresh zones x → Takes Small x y b → b.place ≡ directory_place
first_place zones x y b some fresh t = let at = first_at zones x t.at some fresh t.goes_to in let place = t.place in let chunk : t.at.chunk ≡ 256 = at.0 in let used : t.at.used ≡ 0 = at.1 in omega arith

-- the second goes behind it
second_at : (x : Space) (was at : Cursor) → x.small ≡ Some (record { chunk = was.chunk; used = was.used + 1024 }) → was.used ≡ 0 → GoesTo Small x at → (at.chunk ≡ was.chunk) × (at.used ≡ 1024)
second_at x was at is start (at_cursor now room) =
    let same : record { chunk = was.chunk; used = was.used + 1024 } ≡ at = cc in
    (sym (ap (λ (c : Cursor). c.chunk) same), sym (ap (λ (c : Cursor). c.used) same) ∙ (let z = start in omega arith))
second_at x was at is start (at_lowest none start' lowest) = let full : HasNoRoom Small (Some (record { chunk = was.chunk; used = was.used + 1024 })) = subst (HasNoRoom Small) is none in absurd (omega arith)

pub second_place : (zones : ℕ) (x y z : Space) (a b : Block) → 4 ≤ zones → IsFresh zones x → Takes Small x y a → Takes Small y z b → b.place ≡ pfs_place
second_place zones x y z a b some fresh t u =
    let first = first_at zones x t.at some fresh t.goes_to in
    let second = second_at y t.at u.at t.cursor first.1 u.goes_to in
    let place = u.place in
    let chunk : t.at.chunk ≡ 256 = first.0 in
    let same : u.at.chunk ≡ t.at.chunk = second.0 in
    let used : u.at.used ≡ 1024 = second.1 in
    omega arith

-- each may be taken
pub first_need : (zones : ℕ) (x : Space) → 4 ≤ zones → IsFresh zones x → need_of_one Small x ≤ free_of x
first_need zones x some fresh =
    let free : free_of x ≡ 1792 * zones = fresh.free in
    omega arith

pub second_need : (zones : ℕ) (x y : Space) (b : Block) → 4 ≤ zones → IsFresh zones x → Takes Small x y b → need_of_one Small y ≤ free_of y
second_need zones x y b some fresh t =
    let first = first_at zones x t.at some fresh t.goes_to in
    let used : t.at.used ≡ 0 = first.1 in
    let left : blocks_left Small y.small ≡ (16384 - (t.at.used + 1024)) / 1024 = ap (blocks_left Small) t.cursor in
    omega arith

-- Their codes

new_code_at : (x y z : Space) (a b : Block) → 4 ≤ x.zones → IsFresh x.zones x → Takes Small x y a → Takes Small y z b → (chunk : ℕ) → chunk < chunks_of x.zones → IsNewCode chunk (code_of z chunk)
new_code_at x y z a b some fresh t u chunk lt = record {
  reserved = λ here. same (λ e. reserved_is_other here e) ∙ (fresh.codes chunk lt).reserved here;
  used = λ is. subst (λ (n : ℕ). code_of z n ≡ Used) (second_chunk ∙ sym is) u.code.changed;
  free = λ not_reserved other. same other ∙ (fresh.codes chunk lt).free not_reserved;
}
  where
    first : (t.at.chunk ≡ 256) × (t.at.used ≡ 0)
    first = first_at x.zones x t.at some fresh t.goes_to

    second : (u.at.chunk ≡ t.at.chunk) × (u.at.used ≡ 1024)
    second = second_at y t.at u.at t.cursor first.1 u.goes_to

    second_chunk : u.at.chunk ≡ inode_chunk
    second_chunk = second.0 ∙ first.0

    same : (chunk ≡ inode_chunk → ⊥) → code_of z chunk ≡ code_of x chunk
    same other = u.code.others chunk (λ e. other (e ∙ second_chunk)) ∙ t.code.others chunk (λ e. other (e ∙ first.0))

    reserved_is_other : IsReserved chunk → chunk ≡ inode_chunk → ⊥
    reserved_is_other here is = absurd (omega arith)

pub new_segments : (x y z : Space) (a b : Block) → 4 ≤ x.zones → IsFresh x.zones x → Takes Small x y a → Takes Small y z b → IsConsistent z → AreNewSegments z.zones z.segments
new_segments x y z a b some fresh t u consistent = record {
  count = consistent.segment_count;
  each = consistent.segments;
  codes = λ chunk lt. new_code_at x y z a b some fresh t u chunk (subst (λ (n : ℕ). chunk < chunks_of n) (u.code.zones ∙ t.code.zones) lt);
}

-- the geometry of so many zones
pub zones_are : (r : Option ℕ) (g zones : ℕ) → IfSome r (λ (z : ℕ). z ≡ zones) → r ≡ Some g → g ≡ zones
zones_are None g zones is e = cc
zones_are (Some z) g zones is e = let same : z ≡ g = cc in sym same ∙ is
