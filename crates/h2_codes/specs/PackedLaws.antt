-- The bytes of codes and of flags are determined by them.
use Rattle.std.specs.Prelude.{◌≡◌, ◌<◌, ℕ, zero, suc, ◌+◌, ◌*◌, ◌/◌, ◌%◌, ◌^◌, List, [], ◌∷◌, refl}
use Rattle.std.specs.Int.{bit_at}
use Rattle.std.proofs.Common.{ap, ◌∙◌, arith}
use Rattle.h2_codes.specs.Layout.{code_number, chunk_bits}
use Rattle.h2_codes.specs.Packed.{code_of, word_code, codes_in, byte_of, bytes_of, flag_of, flag_bit, byte_flag, flags_in, flag_bytes, AllBytes}

-- the bytes are those of their codes
pub number-code_of : (n : ℕ) → n < 4 → code_number (code_of n) ≡ n
number-code_of zero lt = refl
number-code_of (suc zero) lt = refl
number-code_of (suc (suc zero)) lt = refl
number-code_of (suc (suc (suc zero))) lt = refl
number-code_of (suc (suc (suc (suc n)))) lt = absurd (omega arith)

pub chunk_bits-number : (bytes : ℕ → ℕ) (c : ℕ) → code_number (code_of (chunk_bits bytes c)) ≡ chunk_bits bytes c
chunk_bits-number bytes c = number-code_of (chunk_bits bytes c) (omega arith)

byte_of-codes : (b : ℕ) → b < 256 → byte_of (word_code b 0) (word_code b 1) (word_code b 2) (word_code b 3) ≡ b
byte_of-codes b lt =
    let e0 : code_number (word_code b 0) ≡ b % 4 = number-code_of (b / 2 ^ (2 * 0) % 4) (omega arith) ∙ omega arith in
    let e1 : code_number (word_code b 1) ≡ b / 4 % 4 = number-code_of (b / 2 ^ (2 * 1) % 4) (omega arith) in
    let e2 : code_number (word_code b 2) ≡ b / 16 % 4 = number-code_of (b / 2 ^ (2 * 2) % 4) (omega arith) in
    let e3 : code_number (word_code b 3) ≡ b / 64 % 4 = number-code_of (b / 2 ^ (2 * 3) % 4) (omega arith) in
    omega (arith, e0, e1, e2, e3)

pub bytes_of-codes_in : (bs : List ℕ) → AllBytes bs → bytes_of (codes_in bs) ≡ bs
bytes_of-codes_in [] fits = refl
bytes_of-codes_in (b ∷ bs) fits =
    let head = byte_of-codes b (fits 0) in
    let rest = bytes_of-codes_in bs (λ k. fits (suc k)) in
    ap (λ (x : ℕ). x ∷ bytes_of (codes_in bs)) head ∙ ap (λ (xs : List ℕ). b ∷ xs) rest

bit-flag_of : (n : ℕ) → n < 2 → flag_bit (flag_of n) ≡ n
bit-flag_of zero lt = refl
bit-flag_of (suc zero) lt = refl
bit-flag_of (suc (suc n)) lt = absurd (omega arith)

pub byte_bit : (b k : ℕ) → flag_bit (byte_flag b k) ≡ bit_at b k
byte_bit b k = bit-flag_of (bit_at b k) (omega arith)

pub flag_bytes-flags_in : (bs : List ℕ) → AllBytes bs → flag_bytes (flags_in bs) ≡ bs
flag_bytes-flags_in [] fits = refl
flag_bytes-flags_in (b ∷ bs) fits =
    let lt : b < 256 = fits 0 in
    let e0 = byte_bit b 0 in
    let e1 = byte_bit b 1 in
    let e2 = byte_bit b 2 in
    let e3 = byte_bit b 3 in
    let e4 = byte_bit b 4 in
    let e5 = byte_bit b 5 in
    let e6 = byte_bit b 6 in
    let e7 = byte_bit b 7 in
    let rest = flag_bytes-flags_in bs (λ k. fits (suc k)) in
    let head : flag_bit (byte_flag b 0) + 2 * flag_bit (byte_flag b 1) + 4 * flag_bit (byte_flag b 2) + 8 * flag_bit (byte_flag b 3) + 16 * flag_bit (byte_flag b 4) + 32 * flag_bit (byte_flag b 5) + 64 * flag_bit (byte_flag b 6) + 128 * flag_bit (byte_flag b 7) ≡ b = omega (arith, e0, e1, e2, e3, e4, e5, e6, e7) in
    ap (λ (x : ℕ). x ∷ flag_bytes (flags_in bs)) head ∙ ap (λ (xs : List ℕ). b ∷ xs) rest
