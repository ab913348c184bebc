-- A freemap stays consistent as it changes.
use Rattle.std.proofs.Common.{ℕ, zero, suc, ◌≡◌, ◌≢◌, ◌⊎◌, ◌+◌, ◌*◌, ◌≤◌, ◌<◌, List, [], length, slice_index_or, set, Option, Some, None, refl, sym, ap, ◌∙◌, inl, inr, arith, subst}
use Rattle.std.specs.List.{All}
use Rattle.std.specs.Option.{IfSome}
use Rattle.std.proofs.lemmas.Bool.{cases_eq}
use Rattle.std.proofs.lemmas.List.{length-set, get_or-set_same, get_or-set_other}
use Rattle.std.proofs.lemmas.List.Elements.{All-set, All-get_or}
use Rattle.h2_geom.specs.Geometry.{segments_of, segment_of, in_segment}
use Rattle.h2_codes.specs.declared.code.Code.{Code}
use Rattle.h2_codes.specs.declared.code.Code.TheVariants.{Free, Used}
use Rattle.h2_codes.specs.Codes.{IsSegment, tally, count_of}
use Rattle.h2_freemap.specs.declared.size.Size.{Size}
use Rattle.h2_freemap.specs.declared.size.Size.TheVariants.{Small, Middle, Whole}
use Rattle.h2_codes.specs.declared.cursor.Cursor.{Cursor}
use Rattle.h2_freemap.specs.Space.{Space, chunk_count, code_in, code_of, cursor_of, ChangesCode}
use Rattle.h2_codes.specs.Free.{free_below}
use Rattle.h2_freemap.specs.Free.{free_of}
use Rattle.h2_freemap.specs.Search.{with_code}
use Rattle.h2_freemap.specs.Taking.{with_cursor}
use Rattle.h2_freemap.specs.Sweeping.{kept_cursor}
use Rattle.h2_freemap.specs.SweepingLaws.{kept_is}
use Rattle.h2_freemap.specs.Consistent.{IsCursor, IsConsistent}
use Rattle.h2_freemap.proofs.Counting.{free_changed}
use Rattle.h2_freemap.proofs.SegmentCodes.{with_code_here, with_code_other, with_code_segments, count_more}

-- the freemap with these segments
abbrev pub with_segments : List (List Code) → Space → Space
with_segments segments x = record x { segments = segments }

-- a chunk of the volume lies in one of the segments
pub segment_within : (x : Space) (chunk : ℕ) → IsConsistent x → chunk < chunk_count x → segment_of chunk < length x.segments
segment_within x chunk ok lt = let n : length x.segments ≡ segments_of x.zones = ok.segment_count in omega arith

-- a segment of the volume is one of the segments
pub segment_lt : (x : Space) (s : ℕ) → IsConsistent x → s < segments_of x.zones → s < length x.segments
segment_lt x s ok lt = let n : length x.segments ≡ segments_of x.zones = ok.segment_count in omega arith

-- one chunk is made used
abbrev pub used_at : Space → ℕ → Space
used_at x chunk = with_segments (with_code x.segments chunk Used) x

pub used_changes : (x : Space) (chunk : ℕ) → IsConsistent x → chunk < chunk_count x → ChangesCode chunk Used x (used_at x chunk)
used_changes x chunk ok lt = record {
  zones = refl;
  changed = with_code_here x.segments chunk Used (segment_within x chunk ok lt) ok.segments;
  others = λ c ne. with_code_other x.segments chunk Used c (segment_within x chunk ok lt) ne;
}

-- where chunks in use are in use afterwards, a cursor stays one
kept_in_use : (x y : Space) (chunk : ℕ) → ChangesCode chunk Used x y → (c : ℕ) → code_of x c ≢ Free → code_of y c ≢ Free
kept_in_use x y chunk changes c in_use free = split (cases_eq c chunk)
  where
    split : (c ≡ chunk) ⊎ (c ≡ chunk → ⊥) → ⊥
    split (inl e) = let now : code_of y c ≡ Used = ap (code_of y) e ∙ changes.changed in cc
    split (inr ne) = in_use (sym (changes.others c ne) ∙ free)

pub used_consistent : (x : Space) (chunk : ℕ) → IsConsistent x → chunk < chunk_count x → IsConsistent (used_at x chunk)
used_consistent x chunk ok lt = record {
  zone_count = ok.zone_count;
  segment_count = length-set x.segments (segment_of chunk) (set (slice_index_or x.segments (segment_of chunk) []) (in_segment chunk) Used) ∙ ok.segment_count;
  segments = with_code_segments x.segments chunk Used (segment_within x chunk ok lt) ok.segments;
  cursors = λ size cursor is. cursors size cursor (ok.cursors size cursor (sym (same size) ∙ is));
  pins = ok.pins;
  distinct = ok.distinct;
}
  where
    same : (size : Size) → cursor_of (used_at x chunk) size ≡ cursor_of x size
    same Small = refl
    same Middle = refl
    same Whole = refl

    cursors : (size : Size) (cursor : Cursor) → IsCursor size x cursor → IsCursor size (used_at x chunk) cursor
    cursors size cursor was = record {
      in_volume = was.in_volume;
      in_use = kept_in_use x (used_at x chunk) chunk (used_changes x chunk ok lt) cursor.chunk was.in_use;
      in_chunk = was.in_chunk;
      aligned = was.aligned;
    }

-- the number of free chunks when one is made used
pub used_free : (x : Space) (chunk : ℕ) → IsConsistent x → chunk < chunk_count x → free_of (used_at x chunk) + tally Free (code_of x chunk) ≡ free_of x
used_free x chunk ok lt =
    let changes : ChangesCode chunk Used x (used_at x chunk) = used_changes x chunk ok lt in
    let none : tally Free (code_of (used_at x chunk) chunk) ≡ 0 = ap (tally Free) changes.changed in
    let count : free_of (used_at x chunk) + tally Free (code_of x chunk) ≡ free_of x + tally Free (code_of (used_at x chunk) chunk) = free_changed (code_of x) (code_of (used_at x chunk)) chunk changes.others (chunk_count x) lt in
    omega arith

-- the same with the codes of the segment as they are made
pub used_whole : (x : Space) (chunk : ℕ) (was codes : List Code) → IsConsistent x → chunk < chunk_count x → was ≡ slice_index_or x.segments (segment_of chunk) [] → codes ≡ set was (in_segment chunk) Used
    → IsConsistent (with_segments (set x.segments (segment_of chunk) codes) x) × (free_of (with_segments (set x.segments (segment_of chunk) codes) x) + tally Free (code_of x chunk) ≡ free_of x)
used_whole x chunk was codes ok lt read made =
    let same : set x.segments (segment_of chunk) codes ≡ with_code x.segments chunk Used = ap (λ (s : List Code). set x.segments (segment_of chunk) s) (made ∙ ap (λ (s : List Code). set s (in_segment chunk) Used) read) in
    subst (λ (s : List (List Code)). IsConsistent (with_segments s x) × (free_of (with_segments s x) + tally Free (code_of x chunk) ≡ free_of x)) (sym same) (used_consistent x chunk ok lt, used_free x chunk ok lt)

-- a cursor of a freemap is one of each with the same zones and codes
pub same_cursor : (size : Size) (x y : Space) (at : Cursor) → y.zones ≡ x.zones → y.segments ≡ x.segments → IsCursor size x at → IsCursor size y at
same_cursor size x y at zones segments is = record {
  in_volume = let z : y.zones ≡ x.zones = zones in let lt : at.chunk < chunk_count x = is.in_volume in omega arith;
  in_use = λ free. is.in_use (ap (λ (s : List (List Code)). code_in s at.chunk) (sym segments) ∙ free);
  in_chunk = is.in_chunk;
  aligned = is.aligned;
}

-- a cursor for a size
pub cursor_consistent : (size : Size) (cursor : Cursor) (x : Space) → IsConsistent x → IsCursor size x cursor → IsConsistent (with_cursor size cursor x)
cursor_consistent Small cursor x ok is = record { zone_count = ok.zone_count; segment_count = ok.segment_count; segments = ok.segments; cursors = cursors; pins = ok.pins; distinct = ok.distinct }
  where
    cursors : (size : Size) (at : Cursor) → cursor_of (with_cursor Small cursor x) size ≡ Some at → IsCursor size (with_cursor Small cursor x) at
    cursors Small at e = let same : cursor ≡ at = cc in same_cursor Small x (with_cursor Small cursor x) at refl refl (subst (λ (c : Cursor). IsCursor Small x c) same is)
    cursors Middle at e = same_cursor Middle x (with_cursor Small cursor x) at refl refl (ok.cursors Middle at e)
    cursors Whole at e = same_cursor Whole x (with_cursor Small cursor x) at refl refl (ok.cursors Whole at e)
cursor_consistent Middle cursor x ok is = record { zone_count = ok.zone_count; segment_count = ok.segment_count; segments = ok.segments; cursors = cursors; pins = ok.pins; distinct = ok.distinct }
  where
    cursors : (size : Size) (at : Cursor) → cursor_of (with_cursor Middle cursor x) size ≡ Some at → IsCursor size (with_cursor Middle cursor x) at
    cursors Small at e = same_cursor Small x (with_cursor Middle cursor x) at refl refl (ok.cursors Small at e)
    cursors Middle at e = let same : cursor ≡ at = cc in same_cursor Middle x (with_cursor Middle cursor x) at refl refl (subst (λ (c : Cursor). IsCursor Middle x c) same is)
    cursors Whole at e = same_cursor Whole x (with_cursor Middle cursor x) at refl refl (ok.cursors Whole at e)
cursor_consistent Whole cursor x ok is = ok

-- a segment has other codes, and cursors in free chunks are forgotten
abbrev pub swept_at : Space → ℕ → List Code → Space
swept_at x s codes = record x { segments = set x.segments s codes; small = kept_cursor (set x.segments s codes) x.small; middle = kept_cursor (set x.segments s codes) x.middle }

pub swept_consistent : (x : Space) (s : ℕ) (codes : List Code) → IsConsistent x → IsSegment codes → IsConsistent (swept_at x s codes)
swept_consistent x s codes ok whole = record {
  zone_count = ok.zone_count;
  segment_count = length-set x.segments s codes ∙ ok.segment_count;
  segments = All-set IsSegment x.segments s codes whole ok.segments;
  cursors = cursors;
  pins = ok.pins;
  distinct = ok.distinct;
}
  where
    stays : (size : Size) (at : Cursor) → IsCursor size x at → code_in (set x.segments s codes) at.chunk ≢ Free → IsCursor size (swept_at x s codes) at
    stays size at is in_use = record { in_volume = is.in_volume; in_use = in_use; in_chunk = is.in_chunk; aligned = is.aligned }

    cursors : (size : Size) (at : Cursor) → cursor_of (swept_at x s codes) size ≡ Some at → IsCursor size (swept_at x s codes) at
    cursors Small at e = let was = kept_is (set x.segments s codes) x.small at e in stays Small at (ok.cursors Small at was.0) was.1
    cursors Middle at e = let was = kept_is (set x.segments s codes) x.middle at e in stays Middle at (ok.cursors Middle at was.0) was.1
    cursors Whole at e = cc

-- the free chunks of the first n segments where one of them has other codes
swept_count : (segments : List (List Code)) (s : ℕ) (codes : List Code) (freed : ℕ) → s < length segments → All IsSegment segments → IsSegment codes → count_of Free codes ≡ count_of Free (slice_index_or segments s []) + freed
    → (n : ℕ) → n ≤ length segments → ((n ≤ s) × (free_below (code_in (set segments s codes)) (256 * n) ≡ free_below (code_in segments) (256 * n))) ⊎ ((s < n) × (free_below (code_in (set segments s codes)) (256 * n) ≡ free_below (code_in segments) (256 * n) + freed))
unfolding free_below
swept_count segments s codes freed lt all whole more zero le = inl (omega arith, refl)
swept_count segments s codes freed lt all whole more (suc n) le = split (cases_eq n s) (swept_count segments s codes freed lt all whole more n (omega arith))
  where
    Below : ℕ → Type 0
    Below m = ((m ≤ s) × (free_below (code_in (set segments s codes)) (256 * m) ≡ free_below (code_in segments) (256 * m))) ⊎ ((s < m) × (free_below (code_in (set segments s codes)) (256 * m) ≡ free_below (code_in segments) (256 * m) + freed))

    old_whole : IsSegment (slice_index_or segments n [])
    old_whole = All-get_or IsSegment segments n [] (omega arith) all

    new_whole : IsSegment (slice_index_or (set segments s codes) n [])
    new_whole = All-get_or IsSegment (set segments s codes) n [] (let e = length-set segments s codes in omega arith) (All-set IsSegment segments s codes whole all)

    next : 256 * suc n ≡ 256 * (n + 1)
    next = omega arith

    old_more : free_below (code_in segments) (256 * suc n) ≡ free_below (code_in segments) (256 * n) + count_of Free (slice_index_or segments n [])
    old_more = ap (free_below (code_in segments)) next ∙ count_more segments n old_whole

    new_more : free_below (code_in (set segments s codes)) (256 * suc n) ≡ free_below (code_in (set segments s codes)) (256 * n) + count_of Free (slice_index_or (set segments s codes) n [])
    new_more = ap (free_below (code_in (set segments s codes))) next ∙ count_more (set segments s codes) n new_whole

    split : (n ≡ s) ⊎ (n ≡ s → ⊥) → Below n → Below (suc n)
    split (inl e) (inr below) = absurd (omega arith)
    split (inl e) (inl below) =
        let here : count_of Free (slice_index_or (set segments s codes) n []) ≡ count_of Free codes = ap (count_of Free) (ap (λ (k : ℕ). slice_index_or (set segments s codes) k []) e ∙ get_or-set_same segments s codes [] lt) in
        let was : count_of Free (slice_index_or segments n []) ≡ count_of Free (slice_index_or segments s []) = ap (λ (k : ℕ). count_of Free (slice_index_or segments k [])) e in
        let o = old_more in
        let w = new_more in
        inr (omega arith, omega arith)
    split (inr ne) (inl below) =
        let here : count_of Free (slice_index_or (set segments s codes) n []) ≡ count_of Free (slice_index_or segments n []) = ap (count_of Free) (get_or-set_other segments s n codes [] ne) in
        let o = old_more in
        let w = new_more in
        inl (omega arith, omega arith)
    split (inr ne) (inr below) =
        let here : count_of Free (slice_index_or (set segments s codes) n []) ≡ count_of Free (slice_index_or segments n []) = ap (count_of Free) (get_or-set_other segments s n codes [] ne) in
        let o = old_more in
        let w = new_more in
        inr (omega arith, omega arith)

pub swept_free : (x : Space) (s : ℕ) (codes : List Code) (freed : ℕ) → IsConsistent x → s < length x.segments → IsSegment codes → count_of Free codes ≡ count_of Free (slice_index_or x.segments s []) + freed → free_of (swept_at x s codes) ≡ free_of x + freed
swept_free x s codes freed ok lt whole more = split (swept_count x.segments s codes freed lt ok.segments whole more (length x.segments) (omega arith))
  where
    chunks : 256 * length x.segments ≡ chunk_count x
    chunks = let n : length x.segments ≡ segments_of x.zones = ok.segment_count in omega arith

    split : ((length x.segments ≤ s) × (free_below (code_in (set x.segments s codes)) (256 * length x.segments) ≡ free_below (code_in x.segments) (256 * length x.segments))) ⊎ ((s < length x.segments) × (free_below (code_in (set x.segments s codes)) (256 * length x.segments) ≡ free_below (code_in x.segments) (256 * length x.segments) + freed))
        → free_of (swept_at x s codes) ≡ free_of x + freed
    split (inl below) = absurd (omega arith)
    split (inr (in', count)) = subst (λ (n : ℕ). free_below (code_in (set x.segments s codes)) n ≡ free_below (code_in x.segments) n + freed) chunks count

-- a cursor lies in one of the segments
pub cursor_within : (x : Space) (size : Size) (cursor : Option Cursor) (n : ℕ) → IsConsistent x → cursor_of x size ≡ cursor → n ≡ length x.segments → IfSome cursor (λ (at : Cursor). at.chunk < 256 * n)
cursor_within x size None n ok is count = tt
cursor_within x size (Some at) n ok is count =
    let lt : at.chunk < chunk_count x = (ok.cursors size at is).in_volume in
    let all : length x.segments ≡ segments_of x.zones = ok.segment_count in
    omega arith

-- the same with the cursors as they are made
pub swept_whole : (x : Space) (s : ℕ) (codes was : List Code) (small middle : Option Cursor) (freed : ℕ) → IsConsistent x → s < length x.segments → IsSegment codes → was ≡ slice_index_or x.segments s [] → count_of Free codes ≡ count_of Free was + freed
    → small ≡ kept_cursor (set x.segments s codes) x.small → middle ≡ kept_cursor (set x.segments s codes) x.middle
    → IsConsistent (record x { segments = set x.segments s codes; small = small; middle = middle }) × (free_of (record x { segments = set x.segments s codes; small = small; middle = middle }) ≡ free_of x + freed)
swept_whole x s codes was small middle freed ok lt whole read more small_is middle_is = (
  subst (λ (c : Option Cursor). IsConsistent (record x { segments = set x.segments s codes; small = c; middle = middle })) (sym small_is)
      (subst (λ (c : Option Cursor). IsConsistent (record x { segments = set x.segments s codes; small = kept_cursor (set x.segments s codes) x.small; middle = c })) (sym middle_is) (swept_consistent x s codes ok whole)),
  swept_free x s codes freed ok lt whole (more ∙ ap (λ (c : List Code). count_of Free c + freed) read),
)
