-- Codes and the bytes that hold them determine each other.
use Rattle.std.proofs.Common.{◌≡◌, ◌<◌, ℕ, suc, ◌+◌, ◌*◌, ◌/◌, ◌%◌, ◌^◌, List, [], ◌∷◌, length, refl, sym, ap, ◌∙◌, arith}
use Rattle.h2_codes.specs.declared.code.Code.{Code}
use Rattle.h2_codes.specs.Codes.{code_at}
use Rattle.h2_codes.specs.Layout.{code_number, chunk_bits}
use Rattle.h2_codes.specs.LayoutLaws.{OneSegment, OneSpelling}
use Rattle.h2_codes.specs.Packed.{code_of}
use Rattle.h2_codes.proofs.Bytes.{code_of-number}

same_codes : (xs ys : List Code) → length ys ≡ length xs → ((c : ℕ) → c < length xs → code_at ys c ≡ code_at xs c) → ys ≡ xs
same_codes [] [] len h = refl
same_codes [] (y ∷ ys) len h = absurd (omega arith)
same_codes (x ∷ xs) [] len h = absurd (omega arith)
same_codes (x ∷ xs) (y ∷ ys) len h =
    let head : y ≡ x = h 0 (omega arith) in
    let rest = same_codes xs ys (omega arith) (λ c lt. h (suc c) (omega arith)) in
    ap (λ (z : Code). z ∷ ys) head ∙ ap (λ (zs : List Code). x ∷ zs) rest

same_number : (x y : Code) → code_number y ≡ code_number x → y ≡ x
same_number x y e = sym (code_of-number y) ∙ ap code_of e ∙ code_of-number x

pub one_segment : OneSegment
one_segment bytes xs ys len_x len_y hx hy = same_codes xs ys (len_y ∙ sym len_x) (λ c lt. same_number (code_at xs c) (code_at ys c) (sym (hy c (omega arith)) ∙ hx c (omega arith)))

-- a byte by its four fields
by_fields : (a b : ℕ) → a < 256 → b < 256 → b / 2 ^ (2 * 0) % 4 ≡ a / 2 ^ (2 * 0) % 4 → b / 2 ^ (2 * 1) % 4 ≡ a / 2 ^ (2 * 1) % 4 → b / 2 ^ (2 * 2) % 4 ≡ a / 2 ^ (2 * 2) % 4 → b / 2 ^ (2 * 3) % 4 ≡ a / 2 ^ (2 * 3) % 4 → b ≡ a
by_fields a b la lb e0 e1 e2 e3 = omega arith

-- a field of byte k
same_field : (a b : ℕ → ℕ) (k r : ℕ) → ((c : ℕ) → c < 256 → chunk_bits b c ≡ chunk_bits a c) → k < 64 → r < 4 → b k / 2 ^ (2 * r) % 4 ≡ a k / 2 ^ (2 * r) % 4
same_field a b k r same lt lr =
    let row : (4 * k + r) / 4 ≡ k = omega arith in
    let place : (4 * k + r) % 4 ≡ r = omega arith in
    let e : b ((4 * k + r) / 4) / 2 ^ (2 * ((4 * k + r) % 4)) % 4 ≡ a ((4 * k + r) / 4) / 2 ^ (2 * ((4 * k + r) % 4)) % 4 = same (4 * k + r) (omega arith) in
    sym (turn b row place) ∙ e ∙ turn a row place
  where
    turn : (f : ℕ → ℕ) → (4 * k + r) / 4 ≡ k → (4 * k + r) % 4 ≡ r → f ((4 * k + r) / 4) / 2 ^ (2 * ((4 * k + r) % 4)) % 4 ≡ f k / 2 ^ (2 * r) % 4
    turn f row place = ap (λ (i : ℕ). f i / 2 ^ (2 * ((4 * k + r) % 4)) % 4) row ∙ ap (λ (i : ℕ). f k / 2 ^ (2 * i) % 4) place

pub one_spelling : OneSpelling
one_spelling codes a b la lb ha hb k lt =
    let same : (c : ℕ) → c < 256 → chunk_bits b c ≡ chunk_bits a c = λ c lc. hb c lc ∙ sym (ha c lc) in
    by_fields (a k) (b k) (la k) (lb k) (same_field a b k 0 same lt (omega arith)) (same_field a b k 1 same lt (omega arith)) (same_field a b k 2 same lt (omega arith)) (same_field a b k 3 same lt (omega arith))
