use Rattle.std.proofs.Common.{◌≡◌, ◌<◌, ◌+◌, ◌*◌, ℕ, zero, suc, arith, ap, refl}
use Rattle.std.specs.Int.{bit_at}
use Rattle.h2_codes.specs.declared.code.Code.{Code}
use Rattle.h2_codes.specs.declared.code.Code.TheVariants.{Free, Reserved, Staged, Used}
use Rattle.h2_codes.specs.Packed.{NoneFreeIn}
use Rattle.h2_space_rows.proofs.places.worked_words_law.Goals as goal

-- the number of a code
number : Code → ℕ
number Free = 0
number Reserved = 1
number Staged = 2
number Used = 3

unlike : (a b : Code) → a ≡ b → number a ≡ number b
unlike a b e = ap number e

used_not_free : Used ≡ Free → ⊥
unfolding number
used_not_free e = absurd (let n : ◌≡◌ {A = ℕ} 3 0 = unlike Used Free e in omega arith)

staged_not_free : Staged ≡ Free → ⊥
unfolding number
staged_not_free e = absurd (let n : ◌≡◌ {A = ℕ} 2 0 = unlike Staged Free e in omega arith)

none : NoneFreeIn 0 2 11
none zero low high e = used_not_free e
none (suc zero) low high e = staged_not_free e
none (suc (suc k)) low high e = absurd (let f : suc (suc k) < 2 = high in omega arith)

nothing_between : NoneFreeIn 5 5 11
nothing_between k low high e = absurd (omega arith)

lower : (k : ℕ) → k < 8 → bit_at 17 (2 * k) ≡ bit_at 5 k
lower zero lt = refl
lower (suc zero) lt = refl
lower (suc (suc zero)) lt = refl
lower (suc (suc (suc zero))) lt = refl
lower (suc (suc (suc (suc zero)))) lt = refl
lower (suc (suc (suc (suc (suc zero))))) lt = refl
lower (suc (suc (suc (suc (suc (suc zero)))))) lt = refl
lower (suc (suc (suc (suc (suc (suc (suc zero))))))) lt = refl
lower (suc (suc (suc (suc (suc (suc (suc (suc k)))))))) lt = absurd (let f : suc (suc (suc (suc (suc (suc (suc (suc k))))))) < 8 = lt in omega arith)

upper : (k : ℕ) → k < 8 → bit_at 17 (2 * k + 1) ≡ 0
upper zero lt = refl
upper (suc zero) lt = refl
upper (suc (suc zero)) lt = refl
upper (suc (suc (suc zero))) lt = refl
upper (suc (suc (suc (suc zero)))) lt = refl
upper (suc (suc (suc (suc (suc zero))))) lt = refl
upper (suc (suc (suc (suc (suc (suc zero)))))) lt = refl
upper (suc (suc (suc (suc (suc (suc (suc zero))))))) lt = refl
upper (suc (suc (suc (suc (suc (suc (suc (suc k)))))))) lt = absurd (let f : suc (suc (suc (suc (suc (suc (suc (suc k))))))) < 8 = lt in omega arith)

set_bit : ◌≡◌ {A = ℕ} 1 0 → ⊥
set_bit e = absurd (omega arith)

pub returns : goal.returns
returns c = record {
  none = none;
  first = record { from_on = omega arith; in_word = omega arith; free = refl; least = none };
  later = record { from_on = omega arith; in_word = omega arith; free = refl; least = nothing_between };
  not_used = λ is. used_not_free is.free;
  not_least = λ is. is.least 2 (omega arith) (omega arith) refl;
  not_past = λ is. absurd (let lt : 32 < 32 = is.in_word in omega arith);
  spread = record { lower = lower; upper = upper; fits = omega arith };
  not_unspread = λ is. set_bit (is.lower 1 (omega arith));
}
