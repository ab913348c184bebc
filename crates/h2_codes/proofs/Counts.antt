-- Counts of codes, chunk by chunk.
use Rattle.std.proofs.Common.{◌≡◌, ◌<◌, ◌≤◌, ℕ, zero, suc, ◌+◌, Bool, true, false, List, [], ◌∷◌, length, set, take, refl, ap, arith}
use Rattle.h2_codes.specs.declared.code.Code.{Code}
use Rattle.h2_codes.specs.declared.code.Code.TheVariants.{Free, Reserved, Staged, Used}
use Rattle.h2_codes.specs.Codes.{code_at, tally, count_of}
use Rattle.h2_codes.specs.Seen.{has_chunk, count_in}
use Rattle.h2_codes.specs.Bulkfree.{swept_code, tally_unseen, count_unseen}
use Rattle.h2_codes.specs.Packed.{sum_below, flag_bit}

pub tally_le : (code x : Code) → tally code x ≤ 1
tally_le Free Free = omega arith
tally_le Free Reserved = omega arith
tally_le Free Staged = omega arith
tally_le Free Used = omega arith
tally_le Reserved Free = omega arith
tally_le Reserved Reserved = omega arith
tally_le Reserved Staged = omega arith
tally_le Reserved Used = omega arith
tally_le Staged Free = omega arith
tally_le Staged Reserved = omega arith
tally_le Staged Staged = omega arith
tally_le Staged Used = omega arith
tally_le Used Free = omega arith
tally_le Used Reserved = omega arith
tally_le Used Staged = omega arith
tally_le Used Used = omega arith

pub tally_unseen_le : (code x : Code) (flag : Bool) → tally_unseen code x flag ≤ 1
tally_unseen_le code x true = omega arith
tally_unseen_le code x false = tally_le code x

-- a chunk's code is changed
pub count_of-set : (code : Code) (xs : List Code) (i : ℕ) (y : Code) → i < length xs → count_of code (set xs i y) + tally code (code_at xs i) ≡ count_of code xs + tally code y
count_of-set code [] i y lt = absurd (omega arith)
count_of-set code (x ∷ xs) zero y lt = omega arith
count_of-set code (x ∷ xs) (suc i) y lt = let rest = count_of-set code xs i y (omega arith) in omega (arith, rest)

-- one more chunk
pub count_of-take : (code : Code) (xs : List Code) (k : ℕ) → k < length xs → count_of code (take (suc k) xs) ≡ count_of code (take k xs) + tally code (code_at xs k)
count_of-take code [] k lt = absurd (omega arith)
count_of-take code (x ∷ xs) zero lt = omega arith
count_of-take code (x ∷ xs) (suc k) lt = let rest = count_of-take code xs k (omega arith) in omega (arith, rest)

pub count_unseen-take : (code : Code) (xs : List Code) (flags : List Bool) (k : ℕ) → k < length xs → count_unseen code (take (suc k) xs) flags ≡ count_unseen code (take k xs) flags + tally_unseen code (code_at xs k) (has_chunk flags k)
count_unseen-take code [] flags k lt = absurd (omega arith)
count_unseen-take code (x ∷ xs) [] zero lt = omega arith
count_unseen-take code (x ∷ xs) (flag ∷ flags) zero lt = omega arith
count_unseen-take code (x ∷ xs) [] (suc k) lt = let rest = count_unseen-take code xs [] k (omega arith) in omega (arith, rest)
count_unseen-take code (x ∷ xs) (flag ∷ flags) (suc k) lt = let rest = count_unseen-take code xs flags k (omega arith) in omega (arith, rest)

-- what a pass frees of one chunk
pub free-swept : (flag : Bool) (x : Code) → tally Free (swept_code flag x) ≡ tally Free x + tally_unseen Staged x flag
free-swept true Free = refl
free-swept true Reserved = refl
free-swept true Staged = refl
free-swept true Used = refl
free-swept false Free = refl
free-swept false Reserved = refl
free-swept false Staged = refl
free-swept false Used = refl

pub count_le : (code : Code) (xs : List Code) → count_of code xs ≤ length xs
count_le code [] = omega arith
count_le code (x ∷ xs) =
    let rest = count_le code xs in
    let one = tally_le code x in
    omega (arith, rest, one)

-- a chunk is counted in its segment
pub tally_le_count : (code : Code) (xs : List Code) (i : ℕ) → i < length xs → tally code (code_at xs i) ≤ count_of code xs
tally_le_count code [] i lt = absurd (omega arith)
tally_le_count code (x ∷ xs) zero lt = omega arith
tally_le_count code (x ∷ xs) (suc i) lt = let rest = tally_le_count code xs i (omega arith) in omega (arith, rest)

-- n more chunks
pub count_of-more : (code : Code) (xs : List Code) (f : ℕ → ℕ) (at n : ℕ) → at + n ≤ length xs → ((k : ℕ) → k < n → f k ≡ tally code (code_at xs (at + k))) → count_of code (take (at + n) xs) ≡ count_of code (take at xs) + sum_below n f
count_of-more code xs f at zero le h =
    let e : at + 0 ≡ at = omega arith in
    let same : count_of code (take (at + 0) xs) ≡ count_of code (take at xs) = ap (λ (k : ℕ). count_of code (take k xs)) e in
    omega (arith, same)
count_of-more code xs f at (suc n) le h =
    let e : at + suc n ≡ suc (at + n) = omega arith in
    let same : count_of code (take (at + suc n) xs) ≡ count_of code (take (suc (at + n)) xs) = ap (λ (k : ℕ). count_of code (take k xs)) e in
    let rest = count_of-more code xs f at n (omega arith) (λ k lt. h k (omega arith)) in
    let one = count_of-take code xs (at + n) (omega arith) in
    let here : f n ≡ tally code (code_at xs (at + n)) = h n (omega arith) in
    omega (arith, same, rest, one, here)

pub count_unseen-more : (code : Code) (xs : List Code) (flags : List Bool) (f : ℕ → ℕ) (at n : ℕ) → at + n ≤ length xs → ((k : ℕ) → k < n → f k ≡ tally_unseen code (code_at xs (at + k)) (has_chunk flags (at + k))) → count_unseen code (take (at + n) xs) flags ≡ count_unseen code (take at xs) flags + sum_below n f
count_unseen-more code xs flags f at zero le h =
    let e : at + 0 ≡ at = omega arith in
    let same : count_unseen code (take (at + 0) xs) flags ≡ count_unseen code (take at xs) flags = ap (λ (k : ℕ). count_unseen code (take k xs) flags) e in
    omega (arith, same)
count_unseen-more code xs flags f at (suc n) le h =
    let e : at + suc n ≡ suc (at + n) = omega arith in
    let same : count_unseen code (take (at + suc n) xs) flags ≡ count_unseen code (take (suc (at + n)) xs) flags = ap (λ (k : ℕ). count_unseen code (take k xs) flags) e in
    let rest = count_unseen-more code xs flags f at n (omega arith) (λ k lt. h k (omega arith)) in
    let one = count_unseen-take code xs flags (at + n) (omega arith) in
    let here : f n ≡ tally_unseen code (code_at xs (at + n)) (has_chunk flags (at + n)) = h n (omega arith) in
    omega (arith, same, rest, one, here)

-- a sum of bits
pub sum_below_le : (n : ℕ) (f : ℕ → ℕ) → ((k : ℕ) → k < n → f k ≤ 1) → sum_below n f ≤ n
sum_below_le zero f h = omega arith
sum_below_le (suc n) f h =
    let rest = sum_below_le n f (λ k lt. h k (omega arith)) in
    let here : f n ≤ 1 = h n (omega arith) in
    omega (arith, rest, here)

-- what a pass frees of a segment
pub count_of-swept : (xs ys : List Code) (flags : List Bool) → length ys ≡ length xs → ((c : ℕ) → c < length xs → code_at ys c ≡ swept_code (has_chunk flags c) (code_at xs c)) → count_of Free ys ≡ count_of Free xs + count_unseen Staged xs flags
count_of-swept [] [] flags len h = refl
count_of-swept [] (y ∷ ys) flags len h = absurd (omega arith)
count_of-swept (x ∷ xs) [] flags len h = absurd (omega arith)
count_of-swept (x ∷ xs) (y ∷ ys) [] len h =
    let rest = count_of-swept xs ys [] (omega arith) (λ c lt. h (suc c) (omega arith)) in
    let here : tally Free y ≡ tally Free (swept_code false x) = ap (tally Free) (h 0 (omega arith)) in
    let one = free-swept false x in
    omega (arith, rest, here, one)
count_of-swept (x ∷ xs) (y ∷ ys) (flag ∷ flags) len h =
    let rest = count_of-swept xs ys flags (omega arith) (λ c lt. h (suc c) (omega arith)) in
    let here : tally Free y ≡ tally Free (swept_code flag x) = ap (tally Free) (h 0 (omega arith)) in
    let one = free-swept flag x in
    omega (arith, rest, here, one)

pub take-all : (xs : List Code) (n : ℕ) → length xs ≤ n → take n xs ≡ xs
take-all [] zero le = refl
take-all [] (suc n) le = refl
take-all (x ∷ xs) zero le = absurd (omega arith)
take-all (x ∷ xs) (suc n) le = ap (λ (rest : List Code). x ∷ rest) (take-all xs n (omega arith))

-- chunks in a set

flag_bit_le : (flag : Bool) → flag_bit flag ≤ 1
flag_bit_le true = omega arith
flag_bit_le false = omega arith

pub flags_step_le : (flags : List Bool) (at : ℕ) → sum_below 32 (λ k. flag_bit (has_chunk flags (at + k))) ≤ 32
flags_step_le flags at = sum_below_le 32 (λ k. flag_bit (has_chunk flags (at + k))) (λ k lt. flag_bit_le (has_chunk flags (at + k)))

count_in-take : (flags : List Bool) (k : ℕ) → k < length flags → count_in (take (suc k) flags) ≡ count_in (take k flags) + flag_bit (has_chunk flags k)
count_in-take [] k lt = absurd (omega arith)
count_in-take (true ∷ flags) zero lt = omega arith
count_in-take (false ∷ flags) zero lt = omega arith
count_in-take (true ∷ flags) (suc k) lt = let rest = count_in-take flags k (omega arith) in omega (arith, rest)
count_in-take (false ∷ flags) (suc k) lt = count_in-take flags k (omega arith)

pub count_in-more : (flags : List Bool) (at n : ℕ) → at + n ≤ length flags → count_in (take (at + n) flags) ≡ count_in (take at flags) + sum_below n (λ k. flag_bit (has_chunk flags (at + k)))
count_in-more flags at zero le =
    let e : at + 0 ≡ at = omega arith in
    let same : count_in (take (at + 0) flags) ≡ count_in (take at flags) = ap (λ (k : ℕ). count_in (take k flags)) e in
    omega (arith, same)
count_in-more flags at (suc n) le =
    let e : at + suc n ≡ suc (at + n) = omega arith in
    let same : count_in (take (at + suc n) flags) ≡ count_in (take (suc (at + n)) flags) = ap (λ (k : ℕ). count_in (take k flags)) e in
    let rest = count_in-more flags at n (omega arith) in
    let one = count_in-take flags (at + n) (omega arith) in
    omega (arith, same, rest, one)

pub flags_all : (flags : List Bool) (n : ℕ) → length flags ≤ n → take n flags ≡ flags
flags_all [] zero le = refl
flags_all [] (suc n) le = refl
flags_all (x ∷ flags) zero le = absurd (omega arith)
flags_all (x ∷ flags) (suc n) le = ap (λ (rest : List Bool). x ∷ rest) (flags_all flags n (omega arith))
