-- What the standard parser makes of a numeral.
use Rattle.std.proofs.Common.{◌<◌, ◌≤◌, ◌^◌, ℕ, List, length, get_or, arith, refl, sym}
use Rattle.std.specs.Prelude.{Ok, Err}
use Rattle.std.specs.Str.Parse.{digits_value, ParsesUnsigned}
use Rattle.std.specs.Int.{IsInRange}
use Rattle.std.proofs.lemmas.Str.Parse.{IsNumeralModel, numerals_by_value, tells_by_index, parse_digits}
use Rattle.h2_script.specs.Numbers.{IsNumeral, IsNumber}

abbrev AreDigits : List ℕ → Type 0
AreDigits ds = (i : ℕ) → i < length ds → IsInRange 48 57 (get_or ds i 0)

own : IsNumeralModel AreDigits (digits_value 10)
own = numerals_by_value AreDigits tells_by_index

are_digits : (word : List ℕ) → IsNumeral word → AreDigits word
are_digits word numeral i lt = numeral.digits i 0 lt

not_below : (a b : ℕ) → (a < b → ⊥) → b ≤ a
not_below a b h = omega (arith, h)

-- a numeral that it refuses is too large
pub refused_is_large : {E : Type 0} (e : E) (word : List ℕ) → IsNumeral word → ParsesUnsigned {E = E} 64 10 word (Err e) → (n : ℕ) × IsNumber word n × (2 ^ 64 ≤ n)
refused_is_large {E} e word numeral h =
    let no = parse_digits own {E = E} 64 word (Err e) h (are_digits word numeral) in
    let some = numeral.some in
    (digits_value 10 word, record { numeral = numeral; value = refl }, not_below (digits_value 10 word) (2 ^ 64) (λ lt. no (some, lt)))

-- one that it takes is the number
pub taken_is_number : (E : Type 0) (n : ℕ) (word : List ℕ) → IsNumeral word → ParsesUnsigned {E = E} 64 10 word (Ok n) → IsNumber word n
taken_is_number E n word numeral h =
    let yes = parse_digits own {E = E} 64 word (Ok n) h (are_digits word numeral) in
    record { numeral = numeral; value = sym yes.1 }
