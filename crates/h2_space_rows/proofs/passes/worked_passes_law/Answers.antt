use Rattle.std.proofs.Common.{◌≡◌, ◌<◌, ℕ, zero, suc, Bool, true, false, replicate, arith, ap, refl, get_or}
use Rattle.std.proofs.lemmas.List.{get_or-replicate, length-replicate}
use Rattle.h2_codes.specs.declared.code.Code.{Code}
use Rattle.h2_codes.specs.declared.code.Code.TheVariants.{Free, Reserved, Staged, Used}
use Rattle.h2_codes.specs.Codes.{code_at}
use Rattle.h2_codes.specs.Seen.{has_chunk}
use Rattle.h2_codes.specs.Bulkfree.{swept_code, IsSwept}
use Rattle.h2_space_rows.specs.Passes.{four_codes, four_seen}
use Rattle.h2_space_rows.proofs.passes.worked_passes_law.Goals as goal

-- of the other chunks, all stay free
others : (k : ℕ) → k < 252 → get_or (replicate 252 Free) k Reserved ≡ swept_code (get_or (replicate 252 false) k false) (get_or (replicate 252 Free) k Reserved)
others k lt =
    let a : get_or (replicate 252 Free) k Reserved ≡ Free = get_or-replicate 252 k Free Reserved lt in
    let b : get_or (replicate 252 false) k false ≡ false = get_or-replicate 252 k false false lt in
    rw (a, b) refl

-- a pass over the four chunks, by what it makes of each
swept : (a b c d : Code) (p q r s : Bool) → IsSwept (four_seen p q r s) (four_codes a b c d) (four_codes (swept_code p a) (swept_code q b) (swept_code r c) (swept_code s d))
swept a b c d p q r s = record { length_is = ap (λ (n : ℕ). suc (suc (suc (suc n)))) (length-replicate 252 Free); codes = codes }
  where
    codes : (k : ℕ) → k < 256 → code_at (four_codes (swept_code p a) (swept_code q b) (swept_code r c) (swept_code s d)) k ≡ swept_code (has_chunk (four_seen p q r s) k) (code_at (four_codes a b c d) k)
    codes zero lt = refl
    codes (suc zero) lt = refl
    codes (suc (suc zero)) lt = refl
    codes (suc (suc (suc zero))) lt = refl
    codes (suc (suc (suc (suc k)))) lt = others k (let low : suc (suc (suc (suc k))) < 256 = lt in omega arith)

-- the number of a code
number : Code → ℕ
number Free = 0
number Reserved = 1
number Staged = 2
number Used = 3

unlike : (a b : Code) → a ≡ b → number a ≡ number b
unlike a b e = ap number e

in_segment : (k : ℕ) → k < 4 → k < 256
in_segment k lt = omega arith

free_not_staged : Free ≡ Staged → ⊥
unfolding number
free_not_staged e = absurd (let n : ◌≡◌ {A = ℕ} 0 2 = unlike Free Staged e in omega arith)

staged_not_free : Staged ≡ Free → ⊥
unfolding number
staged_not_free e = absurd (let n : ◌≡◌ {A = ℕ} 2 0 = unlike Staged Free e in omega arith)

pub returns : goal.returns
returns c = record {
  first = swept Used Used Used Used false false true true;
  second = swept Staged Used Used Used false true true false;
  reached = swept Staged Staged Used Used false true true false;
  first_staged = refl;
  first_freed = refl;
  second_staged = refl;
  second_freed = refl;
  not_at_once = λ is. free_not_staged (is.codes 0 (in_segment 0 (omega arith)));
  not_untaken = λ is. staged_not_free (is.codes 0 (in_segment 0 (omega arith)));
  not_kept = λ is. staged_not_free (is.codes 0 (in_segment 0 (omega arith)));
}
