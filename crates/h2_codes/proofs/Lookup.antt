-- The codes and flags in a list of bytes, one by one.
use Rattle.std.proofs.Common.{◌≡◌, ◌⊎◌, ◌<◌, ◌≤◌, ℕ, zero, suc, ◌+◌, ◌*◌, ◌-◌, ◌/◌, ◌%◌, ◌^◌, Bool, true, false, List, [], ◌∷◌, ◌++◌, length, set, replicate, slice_index, refl, sym, ap, ◌∙◌, inl, inr, arith}
use Rattle.std.proofs.lemmas.Bool.{cases_lt}
use Rattle.std.proofs.lemmas.Nat.{shr-shr}
use Rattle.h2_codes.specs.declared.code.Code.{Code}
use Rattle.h2_codes.specs.Codes.{code_at}
use Rattle.h2_codes.specs.Seen.{has_chunk}
use Rattle.h2_codes.specs.Layout.{code_number, chunk_bits, HoldCodes}
use Rattle.h2_codes.specs.PackedLaws.{chunk_bits-number}
use Rattle.h2_codes.specs.Packed.{code_of, word_code, byte_codes, codes_in, flag_of, flag_bit, byte_flag, byte_flags, flags_in, AllBytes, little}

-- codes

pub length-codes_in : (bs : List ℕ) → length (codes_in bs) ≡ 4 * length bs
length-codes_in [] = refl
length-codes_in (b ∷ bs) = let rest = length-codes_in bs in omega (arith, rest)

pub segment_length : (bs : List ℕ) → length bs ≡ 64 → length (codes_in bs) ≡ 256
segment_length bs len = let e = length-codes_in bs in omega (arith, e)

pub code_lookup : (bs : List ℕ) (c : ℕ) → c < 4 * length bs → code_at (codes_in bs) c ≡ code_of (chunk_bits (slice_index bs) c)
code_lookup [] c lt = absurd (omega arith)
code_lookup (b ∷ bs) zero lt = refl
code_lookup (b ∷ bs) (suc zero) lt = refl
code_lookup (b ∷ bs) (suc (suc zero)) lt = refl
code_lookup (b ∷ bs) (suc (suc (suc zero))) lt = refl
code_lookup (b ∷ bs) (suc (suc (suc (suc c)))) lt =
    let row : suc (suc (suc (suc c))) / 4 ≡ suc (c / 4) = omega arith in
    let place : suc (suc (suc (suc c))) % 4 ≡ c % 4 = omega arith in
    rw (row, place) (code_lookup bs c (omega arith))

-- a byte with another code
pub codes_in-set : (bs : List ℕ) (j k r : ℕ) (x : Code) → j < length bs → k < 4 → byte_codes r ≡ set (byte_codes (slice_index bs j)) k x → codes_in (set bs j r) ≡ set (codes_in bs) (4 * j + k) x
codes_in-set [] j k r x lt lk e = absurd (omega arith)
codes_in-set (b ∷ bs) zero zero r x lt lk e = ap (λ (xs : List Code). xs ++ codes_in bs) e
codes_in-set (b ∷ bs) zero (suc zero) r x lt lk e = ap (λ (xs : List Code). xs ++ codes_in bs) e
codes_in-set (b ∷ bs) zero (suc (suc zero)) r x lt lk e = ap (λ (xs : List Code). xs ++ codes_in bs) e
codes_in-set (b ∷ bs) zero (suc (suc (suc zero))) r x lt lk e = ap (λ (xs : List Code). xs ++ codes_in bs) e
codes_in-set (b ∷ bs) zero (suc (suc (suc (suc k)))) r x lt lk e = absurd (omega arith)
codes_in-set (b ∷ bs) (suc j) k r x lt lk e =
    let at : 4 * suc j + k ≡ suc (suc (suc (suc (4 * j + k)))) = omega arith in
    rw at (ap (λ (xs : List Code). byte_codes b ++ xs) (codes_in-set bs j k r x (omega arith) lk e))

-- words

-- two bits of a number, and two bits of one of its bytes
low_field : (b r k : ℕ) → k < 4 → (b + 256 * r) / 2 ^ (2 * k) % 4 ≡ b / 2 ^ (2 * k) % 4
low_field b r zero lt = omega arith
low_field b r (suc zero) lt = omega arith
low_field b r (suc (suc zero)) lt = omega arith
low_field b r (suc (suc (suc zero))) lt = omega arith
low_field b r (suc (suc (suc (suc k)))) lt = absurd (omega arith)

high_field : (b r k : ℕ) → b < 256 → (b + 256 * r) / 2 ^ (2 * (4 + k)) % 4 ≡ r / 2 ^ (2 * k) % 4
high_field b r k lt =
    let width : 2 * (4 + k) ≡ 8 + 2 * k = omega arith in
    let cut : (b + 256 * r) / 2 ^ 8 ≡ r = omega arith in
    ap (λ (n : ℕ). (b + 256 * r) / 2 ^ n % 4) width ∙ sym (ap (λ (n : ℕ). n % 4) (shr-shr (b + 256 * r) 8 (2 * k))) ∙ ap (λ (n : ℕ). n / 2 ^ (2 * k) % 4) cut

little_field : (bs : List ℕ) (at n k : ℕ) → AllBytes bs → k < 4 * n → little bs at n / 2 ^ (2 * k) % 4 ≡ slice_index bs (at + k / 4) / 2 ^ (2 * (k % 4)) % 4
little_field bs at zero k fits lt = absurd (omega arith)
little_field bs at (suc n) k fits lt = split (little_field bs (suc at) n (k - 4) fits) (cases_lt k 4)
  where
    split : (k - 4 < 4 * n → little bs (suc at) n / 2 ^ (2 * (k - 4)) % 4 ≡ slice_index bs (suc at + (k - 4) / 4) / 2 ^ (2 * ((k - 4) % 4)) % 4) → (k < 4) ⊎ (4 ≤ k) → (slice_index bs at + 256 * little bs (suc at) n) / 2 ^ (2 * k) % 4 ≡ slice_index bs (at + k / 4) / 2 ^ (2 * (k % 4)) % 4
    split rest (inl small) =
        let row : at + k / 4 ≡ at = omega arith in
        let place : k % 4 ≡ k = omega arith in
        rw (row, place) (low_field (slice_index bs at) (little bs (suc at) n) k small)
    split rest (inr le) =
        let whole : k ≡ 4 + (k - 4) = omega arith in
        let row : suc at + (k - 4) / 4 ≡ at + k / 4 = omega arith in
        let place : (k - 4) % 4 ≡ k % 4 = omega arith in
        ap (λ (i : ℕ). (slice_index bs at + 256 * little bs (suc at) n) / 2 ^ (2 * i) % 4) whole ∙ high_field (slice_index bs at) (little bs (suc at) n) (k - 4) (fits at) ∙ rest (omega arith) ∙ ap (λ (i : ℕ). slice_index bs i / 2 ^ (2 * ((k - 4) % 4)) % 4) row ∙ ap (λ (i : ℕ). slice_index bs (at + k / 4) / 2 ^ (2 * i) % 4) place

-- the codes of a word are those of its bytes
pub word_lookup : (bs : List ℕ) (j k : ℕ) → AllBytes bs → length bs ≡ 64 → j < 8 → k < 32 → code_at (codes_in bs) (32 * j + k) ≡ word_code (little bs (8 * j) 8) k
word_lookup bs j k fits len lj lk =
    let row : (32 * j + k) / 4 ≡ 8 * j + k / 4 = omega arith in
    let place : (32 * j + k) % 4 ≡ k % 4 = omega arith in
    code_lookup bs (32 * j + k) (omega arith)
    ∙ ap (λ (i : ℕ). code_of (slice_index bs i / 2 ^ (2 * ((32 * j + k) % 4)) % 4)) row
    ∙ ap (λ (i : ℕ). code_of (slice_index bs (8 * j + k / 4) / 2 ^ (2 * i) % 4)) place
    ∙ sym (ap code_of (little_field bs (8 * j) 8 k fits (omega arith)))

-- the two bits of a byte of a word
part_field : (w i r : ℕ) → r < 4 → w / 2 ^ (8 * i) % 256 / 2 ^ (2 * r) % 4 ≡ w / 2 ^ (2 * (4 * i + r)) % 4
part_field w i r lt =
    let width : 8 * i + 2 * r ≡ 2 * (4 * i + r) = omega arith in
    cut (w / 2 ^ (8 * i)) r lt ∙ ap (λ (n : ℕ). n % 4) (shr-shr w (8 * i) (2 * r)) ∙ ap (λ (n : ℕ). w / 2 ^ n % 4) width
  where
    cut : (x r : ℕ) → r < 4 → x % 256 / 2 ^ (2 * r) % 4 ≡ x / 2 ^ (2 * r) % 4
    cut x zero lt = omega arith
    cut x (suc zero) lt = omega arith
    cut x (suc (suc zero)) lt = omega arith
    cut x (suc (suc (suc zero))) lt = omega arith
    cut x (suc (suc (suc (suc r)))) lt = absurd (omega arith)

-- after a word was put
pub put_lookup : (bs : List ℕ) (j k w : ℕ) → length bs ≡ 64 → j < 8 → k < 32 → ((i : ℕ) → i < 8 → slice_index bs (8 * j + i) ≡ w / 2 ^ (8 * i) % 256) → code_at (codes_in bs) (32 * j + k) ≡ word_code w k
put_lookup bs j k w len lj lk inside =
    let row : (32 * j + k) / 4 ≡ 8 * j + k / 4 = omega arith in
    let place : (32 * j + k) % 4 ≡ k % 4 = omega arith in
    let whole : 4 * (k / 4) + k % 4 ≡ k = omega arith in
    code_lookup bs (32 * j + k) (omega arith)
    ∙ ap (λ (i : ℕ). code_of (slice_index bs i / 2 ^ (2 * ((32 * j + k) % 4)) % 4)) row
    ∙ ap (λ (i : ℕ). code_of (slice_index bs (8 * j + k / 4) / 2 ^ (2 * i) % 4)) place
    ∙ ap (λ (b : ℕ). code_of (b / 2 ^ (2 * (k % 4)) % 4)) (inside (k / 4) (omega arith))
    ∙ ap code_of (part_field w (k / 4) (k % 4) (omega arith))
    ∙ ap (word_code w) whole

-- a byte that stays keeps its codes
pub stays_lookup : (cs bs : List ℕ) (c : ℕ) → length cs ≡ 64 → length bs ≡ 64 → c < 256 → slice_index bs (c / 4) ≡ slice_index cs (c / 4) → code_at (codes_in bs) c ≡ code_at (codes_in cs) c
stays_lookup cs bs c la lb lc same = code_lookup bs c (omega arith) ∙ ap (λ (b : ℕ). code_of (b / 2 ^ (2 * (c % 4)) % 4)) same ∙ sym (code_lookup cs c (omega arith))

-- flags

pub length-flags_in : (bs : List ℕ) → length (flags_in bs) ≡ 8 * length bs
length-flags_in [] = refl
length-flags_in (b ∷ bs) = let rest = length-flags_in bs in omega (arith, rest)

pub flags_length : (bs : List ℕ) → length bs ≡ 32 → length (flags_in bs) ≡ 256
flags_length bs len = let e = length-flags_in bs in omega (arith, e)

pub flag_lookup : (bs : List ℕ) (c : ℕ) → c < 8 * length bs → has_chunk (flags_in bs) c ≡ byte_flag (slice_index bs (c / 8)) (c % 8)
flag_lookup [] c lt = absurd (omega arith)
flag_lookup (b ∷ bs) zero lt = refl
flag_lookup (b ∷ bs) (suc zero) lt = refl
flag_lookup (b ∷ bs) (suc (suc zero)) lt = refl
flag_lookup (b ∷ bs) (suc (suc (suc zero))) lt = refl
flag_lookup (b ∷ bs) (suc (suc (suc (suc zero)))) lt = refl
flag_lookup (b ∷ bs) (suc (suc (suc (suc (suc zero))))) lt = refl
flag_lookup (b ∷ bs) (suc (suc (suc (suc (suc (suc zero)))))) lt = refl
flag_lookup (b ∷ bs) (suc (suc (suc (suc (suc (suc (suc zero))))))) lt = refl
flag_lookup (b ∷ bs) (suc (suc (suc (suc (suc (suc (suc (suc c)))))))) lt =
    let row : suc (suc (suc (suc (suc (suc (suc (suc c))))))) / 8 ≡ suc (c / 8) = omega arith in
    let place : suc (suc (suc (suc (suc (suc (suc (suc c))))))) % 8 ≡ c % 8 = omega arith in
    rw (row, place) (flag_lookup bs c (omega arith))

set_8 : (f : ℕ → Bool) (rest : List Bool) (k : ℕ) (x : Bool) → k < 8 → set (f 0 ∷ f 1 ∷ f 2 ∷ f 3 ∷ f 4 ∷ f 5 ∷ f 6 ∷ f 7 ∷ []) k x ++ rest ≡ set (f 0 ∷ f 1 ∷ f 2 ∷ f 3 ∷ f 4 ∷ f 5 ∷ f 6 ∷ f 7 ∷ rest) k x
set_8 f rest zero x lt = refl
set_8 f rest (suc zero) x lt = refl
set_8 f rest (suc (suc zero)) x lt = refl
set_8 f rest (suc (suc (suc zero))) x lt = refl
set_8 f rest (suc (suc (suc (suc zero)))) x lt = refl
set_8 f rest (suc (suc (suc (suc (suc zero))))) x lt = refl
set_8 f rest (suc (suc (suc (suc (suc (suc zero)))))) x lt = refl
set_8 f rest (suc (suc (suc (suc (suc (suc (suc zero))))))) x lt = refl
set_8 f rest (suc (suc (suc (suc (suc (suc (suc (suc k)))))))) x lt = absurd (omega arith)

-- a byte with another flag
pub flags_in-set : (bs : List ℕ) (j k r : ℕ) (x : Bool) → j < length bs → k < 8 → byte_flags r ≡ set (byte_flags (slice_index bs j)) k x → flags_in (set bs j r) ≡ set (flags_in bs) (8 * j + k) x
flags_in-set [] j k r x lt lk e = absurd (omega arith)
flags_in-set (b ∷ bs) zero k r x lt lk e =
    let at : 8 * 0 + k ≡ k = omega arith in
    rw at (ap (λ (xs : List Bool). xs ++ flags_in bs) e ∙ set_8 (byte_flag b) (flags_in bs) k x lk)
flags_in-set (b ∷ bs) (suc j) k r x lt lk e =
    let at : 8 * suc j + k ≡ suc (suc (suc (suc (suc (suc (suc (suc (8 * j + k)))))))) = omega arith in
    rw at (ap (λ (xs : List Bool). byte_flags b ++ xs) (flags_in-set bs j k r x (omega arith) lk e))

pub flag_of-bit : (x : Bool) → flag_of (flag_bit x) ≡ x
flag_of-bit true = refl
flag_of-bit false = refl

-- bytes that are all the same
pub all_bytes-replicate : (n b : ℕ) → b < 256 → AllBytes (replicate n b)
all_bytes-replicate zero b lt k = omega arith
all_bytes-replicate (suc n) b lt zero = lt
all_bytes-replicate (suc n) b lt (suc k) = all_bytes-replicate n b lt k

-- bytes after a write
pub all_bytes-set : (bs : List ℕ) (j r : ℕ) → AllBytes bs → r < 256 → AllBytes (set bs j r)
all_bytes-set [] j r fits lt k = fits k
all_bytes-set (b ∷ bs) zero r fits lt zero = lt
all_bytes-set (b ∷ bs) zero r fits lt (suc k) = fits (suc k)
all_bytes-set (b ∷ bs) (suc j) r fits lt zero = fits 0
all_bytes-set (b ∷ bs) (suc j) r fits lt (suc k) = all_bytes-set bs j r (λ i. fits (suc i)) lt k

-- the bytes hold their codes
pub holds_codes : (bs : List ℕ) → length bs ≡ 64 → HoldCodes (slice_index bs) (codes_in bs)
holds_codes bs len c lt = sym (ap code_number (code_lookup bs c (omega arith)) ∙ chunk_bits-number (slice_index bs) c)
