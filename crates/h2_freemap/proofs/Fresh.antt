-- The freemap of a new volume.
use Rattle.std.proofs.Common.{ℕ, zero, suc, ◌≡◌, ◌≢◌, ◌⊎◌, ◌+◌, ◌-◌, ◌*◌, ◌/◌, ◌%◌, ◌≤◌, ◌<◌, Bool, Result, Ok, Err, List, [], ◌∷◌, ◌++◌, length, slice_index_or, replicate, if◌then◌else◌, ◌==◌, refl, ap, ◌∙◌, inl, inr, arith, subst}
use Rattle.std.specs.Result.{IfOk}
use Rattle.h2_num.specs.declared.memory.NoMemory.{NoMemory}
use Rattle.std.proofs.lemmas.Bool.{cases_eq, cases_lt, eq-eqb, ne_eqb}
use Rattle.std.proofs.lemmas.List.{get_or-replicate, length-replicate, get_or_push, get_or_append_left, length_push}
use Rattle.h2_geom.specs.Geometry.{chunks_of, segments_of, segment_of, in_segment}
use Rattle.h2_codes.specs.declared.code.Code.{Code}
use Rattle.h2_codes.specs.declared.code.Code.TheVariants.{Free, Reserved}
use Rattle.h2_codes.specs.Codes.{IsSegment, code_at, count_of}
use Rattle.h2_freemap.specs.Space.{Space, code_in, code_of}
use Rattle.h2_codes.specs.Free.{free_below}
use Rattle.h2_freemap.specs.Free.{free_of}
use Rattle.h2_freemap.specs.Made.{fresh_segment, AreFresh, IsOpened, IsFresh}
use Rattle.h2_freemap.proofs.SegmentCodes.{count_more}

-- no segment
pub fresh_none : (segments : List (List Code)) → segments ≡ [] → AreFresh 0 segments
fresh_none segments e = record { count_is = ap length e; each = λ s d lt. absurd (omega arith) }

-- and one more
pub fresh_more : (segments : List (List Code)) (n : ℕ) → AreFresh n segments → AreFresh (n + 1) (segments ++ fresh_segment n ∷ [])
fresh_more segments n fresh = record {
  count_is = length_push segments (fresh_segment n) ∙ ap (λ (k : ℕ). k + 1) fresh.count_is;
  each = λ s d lt. split s d lt (cases_lt s n);
}
  where
    split : (s : ℕ) (d : List Code) → s < n + 1 → (s < n) ⊎ (n ≤ s) → slice_index_or (segments ++ fresh_segment n ∷ []) s d ≡ fresh_segment s
    split s d lt (inl below) = let n_is = fresh.count_is in get_or_append_left segments (fresh_segment n ∷ []) d s (omega arith) ∙ fresh.each s d below
    split s d lt (inr above) = let n_is = fresh.count_is in let e : n ≡ s = omega arith in get_or_push segments (fresh_segment n) d s (omega arith) ∙ ap fresh_segment e

-- the code of each chunk of a segment
abbrev pub fresh_code : ℕ → Code
fresh_code segment = if segment % 8 == 0 then Reserved else Free

code_reserved : (segment : ℕ) → segment % 8 ≡ 0 → fresh_code segment ≡ Reserved
code_reserved segment e = ap (λ (b : Bool). if b then Reserved else Free) (eq-eqb (segment % 8) 0 e)

code_free : (segment : ℕ) → (segment % 8 ≡ 0 → ⊥) → fresh_code segment ≡ Free
code_free segment ne = ap (λ (b : Bool). if b then Reserved else Free) (ne_eqb (segment % 8) 0 ne)

code_is : (segments : List (List Code)) (n chunk : ℕ) → AreFresh n segments → segment_of chunk < n → code_in segments chunk ≡ fresh_code (segment_of chunk)
code_is segments n chunk fresh lt =
    let in' : in_segment chunk < 256 = omega arith in
    ap (λ (codes : List Code). code_at codes (in_segment chunk)) (fresh.each (segment_of chunk) [] lt) ∙ get_or-replicate 256 (in_segment chunk) (fresh_code (segment_of chunk)) Reserved in'

count_free : (n : ℕ) → count_of Free (replicate n Free) ≡ n
count_free zero = refl
count_free (suc n) = let rest = count_free n in omega arith

count_reserved : (n : ℕ) → count_of Free (replicate n Reserved) ≡ 0
count_reserved zero = refl
count_reserved (suc n) = let rest = count_reserved n in omega arith

-- of the first n segments, those that aren't the first of a zone are free
fresh_count : (segments : List (List Code)) (n : ℕ) → AreFresh n segments → (m : ℕ) → m ≤ n → free_below (code_in segments) (256 * m) ≡ 256 * (m - (m + 7) / 8)
unfolding free_below
fresh_count segments n fresh zero le = refl
fresh_count segments n fresh (suc m) le = split (cases_eq (m % 8) 0) (fresh_count segments n fresh m (omega arith))
  where
    here : slice_index_or segments m [] ≡ replicate 256 (fresh_code m)
    here = fresh.each m [] (omega arith)

    whole : IsSegment (slice_index_or segments m [])
    whole = ap length here ∙ length-replicate 256 (fresh_code m)

    more : free_below (code_in segments) (256 * (m + 1)) ≡ free_below (code_in segments) (256 * m) + count_of Free (slice_index_or segments m [])
    more = count_more segments m whole

    next : 256 * suc m ≡ 256 * (m + 1)
    next = omega arith

    split : (m % 8 ≡ 0) ⊎ (m % 8 ≡ 0 → ⊥) → free_below (code_in segments) (256 * m) ≡ 256 * (m - (m + 7) / 8) → free_below (code_in segments) (256 * suc m) ≡ 256 * (suc m - (suc m + 7) / 8)
    split (inl e) below =
        let none : count_of Free (slice_index_or segments m []) ≡ 0 = ap (count_of Free) (here ∙ ap (replicate 256) (code_reserved m e)) ∙ count_reserved 256 in
        let n_is : free_below (code_in segments) (256 * suc m) ≡ free_below (code_in segments) (256 * (m + 1)) = ap (free_below (code_in segments)) next in
        let m_is = more in
        omega arith
    split (inr ne) below =
        let all : count_of Free (slice_index_or segments m []) ≡ 256 = ap (count_of Free) (here ∙ ap (replicate 256) (code_free m ne)) ∙ count_free 256 in
        let n_is : free_below (code_in segments) (256 * suc m) ≡ free_below (code_in segments) (256 * (m + 1)) = ap (free_below (code_in segments)) next in
        let m_is = more in
        let some : m % 8 ≢ 0 = ne in
        omega arith

pub fresh_is : (zones : ℕ) (segments : List (List Code)) (x : Space) → AreFresh (segments_of zones) segments → IsOpened zones segments x → IsFresh zones x
fresh_is zones segments x fresh opened = record {
  zones_are = opened.zones_are;
  codes = λ chunk lt. record {
    reserved = λ is. code chunk lt ∙ code_reserved (segment_of chunk) (omega arith);
    free = λ isnt. code chunk lt ∙ code_free (segment_of chunk) (λ e. isnt (omega arith));
  };
  free = free;
  no_use = opened.no_use;
}
  where
    code : (chunk : ℕ) → chunk < chunks_of zones → code_of x chunk ≡ fresh_code (segment_of chunk)
    code chunk lt = ap (λ (s : List (List Code)). code_in s chunk) opened.segments_are ∙ code_is segments (segments_of zones) chunk fresh (omega arith)

    free : free_of x ≡ 1792 * zones
    free =
        let count : free_below (code_in segments) (256 * segments_of zones) ≡ 256 * (segments_of zones - (segments_of zones + 7) / 8) = fresh_count segments (segments_of zones) fresh (segments_of zones) (omega arith) in
        let e : chunks_of zones ≡ 256 * segments_of zones = omega arith in
        let same : free_of x ≡ free_below (code_in segments) (256 * segments_of zones) = ap (λ (s : List (List Code)). free_below (code_in s) (chunks_of x.zones)) opened.segments_are ∙ (ap (λ (z : ℕ). free_below (code_in segments) (chunks_of z)) opened.zones_are ∙ ap (free_below (code_in segments)) e) in
        omega arith

-- where memory is given
pub fresh_ok : (zones count : ℕ) (segments : List (List Code)) (r : Result Space NoMemory) → count ≡ segments_of zones → AreFresh count segments → IfOk r (λ (x : Space). IsOpened zones segments x) → IfOk r (λ (x : Space). IsFresh zones x)
fresh_ok zones count segments (Ok x) e fresh opened = fresh_is zones segments x (subst (λ (n : ℕ). AreFresh n segments) e fresh) opened
fresh_ok zones count segments (Err no_memory) e fresh opened = tt
