-- The codes of chunks in the codes of their segments.
use Rattle.std.proofs.Common.{ℕ, zero, suc, ◌≡◌, ◌≢◌, ◌⊎◌, ◌+◌, ◌-◌, ◌*◌, ◌≤◌, ◌<◌, List, [], ◌∷◌, length, slice_index_or, set, refl, sym, ap, ◌∙◌, inl, inr, arith}
use Rattle.std.specs.List.{All}
use Rattle.std.proofs.lemmas.Bool.{cases_eq, cases_lt}
use Rattle.std.proofs.lemmas.List.{get_or-set_same, get_or-set_other, length-set}
use Rattle.std.proofs.lemmas.List.Elements.{All-set, All-get_or}
use Rattle.h2_geom.specs.Geometry.{segment_of, in_segment}
use Rattle.h2_codes.specs.declared.code.Code.{Code}
use Rattle.h2_codes.specs.declared.code.Code.TheVariants.{Free, Reserved, Staged, Used}
use Rattle.h2_codes.specs.Codes.{IsSegment, code_at, tally, count_of}
use Rattle.h2_freemap.specs.Space.{code_in}
use Rattle.h2_codes.specs.Free.{free_below, NoneFreeBelow}
use Rattle.h2_freemap.specs.Search.{with_code}
use Rattle.h2_freemap.proofs.Counting.{not_free}

-- a chunk by its segment and its number there
pub code_here : (segments : List (List Code)) (s k : ℕ) → k < 256 → code_in segments (256 * s + k) ≡ code_at (slice_index_or segments s []) k
code_here segments s k lt =
    let a : segment_of (256 * s + k) ≡ s = omega arith in
    let b : in_segment (256 * s + k) ≡ k = omega arith in
    ap (λ (i : ℕ). code_at (slice_index_or segments i []) (in_segment (256 * s + k))) a ∙ ap (λ (i : ℕ). code_at (slice_index_or segments s []) i) b

-- a segment more without a free chunk
pub none_more : (segments : List (List Code)) (s : ℕ) → NoneFreeBelow (code_in segments) (256 * s) → ((k : ℕ) → k < 256 → code_at (slice_index_or segments s []) k ≢ Free) → NoneFreeBelow (code_in segments) (256 * (s + 1))
none_more segments s below here c lt free = split (cases_lt c (256 * s))
  where
    split : (c < 256 * s) ⊎ (256 * s ≤ c) → ⊥
    split (inl l) = below c l free
    split (inr le) =
        let e : c ≡ 256 * s + (c - 256 * s) = omega arith in
        let in' : c - 256 * s < 256 = omega arith in
        here (c - 256 * s) in' (sym (code_here segments s (c - 256 * s) in') ∙ ap (code_in segments) (sym e) ∙ free)

-- where the count is 0, no chunk is free
pub count_none : (codes : List Code) → count_of Free codes ≡ 0 → (k : ℕ) → code_at codes k ≢ Free
count_none [] e k free = cc
count_none (x ∷ xs) e zero free = let one : tally Free x ≡ 1 = ap (tally Free) free in omega arith
count_none (x ∷ xs) e (suc k) free = count_none xs (omega arith) k free

-- a range of chunks counts as the list of its codes
free_range : (f : ℕ → Code) (codes : List Code) (base : ℕ) → ((k : ℕ) → k < length codes → f (base + k) ≡ code_at codes k) → free_below f (base + length codes) ≡ free_below f base + count_of Free codes
unfolding free_below
free_range f [] base same = let e : base + 0 ≡ base = omega arith in let n : free_below f (base + 0) ≡ free_below f base = ap (free_below f) e in omega arith
free_range f (x ∷ xs) base same =
    let rest : free_below f (suc base + length xs) ≡ free_below f (suc base) + count_of Free xs = free_range f xs (suc base) (λ k lt. let e : suc base + k ≡ base + suc k = omega arith in ap f e ∙ same (suc k) (omega arith)) in
    let start : base ≡ base + 0 = omega arith in
    let here : tally Free (f base) ≡ tally Free x = ap (tally Free) (ap f start ∙ same 0 (omega arith)) in
    let e : base + suc (length xs) ≡ suc base + length xs = omega arith in
    let shifted : free_below f (base + suc (length xs)) ≡ free_below f (suc base + length xs) = ap (free_below f) e in
    omega arith

-- the count of one segment more
pub count_more : (segments : List (List Code)) (s : ℕ) → IsSegment (slice_index_or segments s []) → free_below (code_in segments) (256 * (s + 1)) ≡ free_below (code_in segments) (256 * s) + count_of Free (slice_index_or segments s [])
count_more segments s is =
    let e : 256 * (s + 1) ≡ 256 * s + length (slice_index_or segments s []) = omega arith in
    ap (free_below (code_in segments)) e ∙ free_range (code_in segments) (slice_index_or segments s []) (256 * s) (λ k lt. code_here segments s k (omega arith))

tally_small : (code : Code) → tally Free code ≤ 1
tally_small Free = omega arith
tally_small Reserved = omega arith
tally_small Staged = omega arith
tally_small Used = omega arith

-- no more chunks are free than there are
pub free_at_most : (f : ℕ → Code) (n : ℕ) → free_below f n ≤ n
unfolding free_below
free_at_most f zero = omega arith
free_at_most f (suc n) = omega (arith, free_at_most f n, tally_small (f n))

-- where none is free, the count is 0
pub free_none : (f : ℕ → Code) (n : ℕ) → ((c : ℕ) → c < n → f c ≢ Free) → free_below f n ≡ 0
unfolding free_below
free_none f zero none = refl
free_none f (suc n) none =
    let rest : free_below f n ≡ 0 = free_none f n (λ c lt. none c (omega arith)) in
    let here : tally Free (f n) ≡ 0 = not_free (f n) (none n (omega arith)) in
    omega arith

-- the changed code
pub with_code_here : (segments : List (List Code)) (chunk : ℕ) (code : Code) → segment_of chunk < length segments → All IsSegment segments → code_in (with_code segments chunk code) chunk ≡ code
with_code_here segments chunk code in' all =
    let old : List Code = slice_index_or segments (segment_of chunk) [] in
    let long : length old ≡ 256 = All-get_or IsSegment segments (segment_of chunk) [] in' all in
    ap (λ (codes : List Code). code_at codes (in_segment chunk)) (get_or-set_same segments (segment_of chunk) (set old (in_segment chunk) code) [] in')
    ∙ get_or-set_same old (in_segment chunk) code Reserved (omega arith)

-- and the others
pub with_code_other : (segments : List (List Code)) (chunk : ℕ) (code : Code) (c : ℕ) → segment_of chunk < length segments → c ≢ chunk → code_in (with_code segments chunk code) c ≡ code_in segments c
with_code_other segments chunk code c in' ne = split (cases_eq (segment_of c) (segment_of chunk))
  where
    old : List Code
    old = slice_index_or segments (segment_of chunk) []

    split : (segment_of c ≡ segment_of chunk) ⊎ (segment_of c ≡ segment_of chunk → ⊥) → code_in (with_code segments chunk code) c ≡ code_in segments c
    split (inl e) =
        let differs : in_segment c ≢ in_segment chunk = λ same. ne (omega arith) in
        ap (λ (s : ℕ). code_at (slice_index_or (with_code segments chunk code) s []) (in_segment c)) e
        ∙ (ap (λ (codes : List Code). code_at codes (in_segment c)) (get_or-set_same segments (segment_of chunk) (set (slice_index_or segments (segment_of chunk) []) (in_segment chunk) code) [] in')
        ∙ (get_or-set_other (slice_index_or segments (segment_of chunk) []) (in_segment chunk) (in_segment c) code Reserved differs
        ∙ ap (λ (s : ℕ). code_at (slice_index_or segments s []) (in_segment c)) (sym e)))
    split (inr differs) = ap (λ (codes : List Code). code_at codes (in_segment c)) (get_or-set_other segments (segment_of chunk) (segment_of c) (set (slice_index_or segments (segment_of chunk) []) (in_segment chunk) code) [] differs)

-- each segment still has 256 codes
pub with_code_segments : (segments : List (List Code)) (chunk : ℕ) (code : Code) → segment_of chunk < length segments → All IsSegment segments → All IsSegment (with_code segments chunk code)
with_code_segments segments chunk code in' all =
    All-set IsSegment segments (segment_of chunk) (set (slice_index_or segments (segment_of chunk) []) (in_segment chunk) code)
    (length-set (slice_index_or segments (segment_of chunk) []) (in_segment chunk) code ∙ All-get_or IsSegment segments (segment_of chunk) [] in' all) all
