-- What a number's decimal digits begin with.
use Rattle.std.proofs.Common.{◌≡◌, ◌<◌, ◌≤◌, ◌^◌, ℕ, zero, suc, List, length, get_or, sym, ap, ◌∙◌, subst, inl, inr, arith}
use Rattle.std.specs.Prelude.{Result, Ok}
use Rattle.std.specs.Fmt.{decimal}
use Rattle.std.specs.Str.Parse.{AllDigits, digits_value, ParsesUnsigned}
use Rattle.std.proofs.lemmas.Fmt.{decimal_digit, first_decimal, decimal_nonempty, digits_decimal, decimal-digits_value, parse-decimal, decimal_injective}
use Rattle.std.proofs.lemmas.Str.Parse.{IsNumeralModel, numerals_by_value, tells_digits, not_in_digits, parse_plain}
use Rattle.h2_cmd.specs.DecimalNumber.{HasSignOrLeadingZero}

own : IsNumeralModel (AllDigits 10) (digits_value 10)
own = numerals_by_value (AllDigits 10) tells_digits

-- a number's digits have no sign and no leading zero
plain_digits : (n : ℕ) → n < 2 ^ 64 → HasSignOrLeadingZero (decimal n) → ⊥
plain_digits n fits (inl plus) = not_in_digits own (decimal n) 43 (digits_decimal own n fits) (λ r. omega (arith, r.0)) 0 (decimal_nonempty n fits) plus
plain_digits zero fits (inr (e, more)) = let one : length (decimal 0) ≡ 1 = ap length (decimal_digit 0 (omega arith)) in omega arith
plain_digits (suc n) fits (inr (e, more)) = let above = first_decimal (suc n) (omega arith) fits in omega arith

pub no_number_begins_so : (text : List ℕ) → HasSignOrLeadingZero text → (n : ℕ) → n < 2 ^ 64 → text ≡ decimal n → ⊥
no_number_begins_so text h n fits e = plain_digits n fits (subst HasSignOrLeadingZero e h)

-- what the standard parser refuses is no number's digits
pub no_number_refused : {E : Type 0} (r : Result ℕ E) (text : List ℕ) → ((x : ℕ) → r ≡ Ok x → ⊥) → ParsesUnsigned 64 10 text r → (n : ℕ) → n < 2 ^ 64 → text ≡ decimal n → ⊥
no_number_refused r text not_ok h n fits is = not_ok n (parse-decimal 64 n text r fits fits is h)

below_two : (k : ℕ) → (2 ≤ k → ⊥) → k < 2
below_two zero h = omega arith
below_two (suc zero) h = omega arith
below_two (suc (suc k)) h = absurd (h (omega arith))

-- what it takes is, where there is no sign and no leading zero
pub number_taken : {E : Type 0} (r : Result ℕ E) (text : List ℕ) (n : ℕ) → r ≡ Ok n → (HasSignOrLeadingZero text → ⊥) → ParsesUnsigned 64 10 text r → text ≡ decimal n
number_taken {E} r text n is plain h =
    let p = parse_plain own {E = E} 64 text (Ok n) (subst (λ (x : Result ℕ E). ParsesUnsigned 64 10 text x) is h) (λ plus. plain (inl plus)) in
    let value : n ≡ digits_value 10 text = p.1 in
    let digits : AllDigits 10 text = p.0.0 in
    let some : 0 < length text = p.0.1 in
    let short : get_or text 0 0 ≡ 48 → length text ≡ 1 = λ e. let lt : length text < 2 = below_two (length text) (λ more. plain (inr (e, more))) in omega arith in
    sym (decimal-digits_value own text digits some short p.0.2) ∙ ap decimal (sym value)

-- two numbers with the same digits are one
pub one_number : (m n : ℕ) (text : List ℕ) → m < 2 ^ 64 → n < 2 ^ 64 → text ≡ decimal m → text ≡ decimal n → m ≡ n
one_number m n text fm fn em en = decimal_injective m n fm fn (sym em ∙ en)
