-- Words that are good up to one of them.
use Rattle.std.proofs.Common.{◌≡◌, ◌≢◌, ◌^◌, ℕ, List, [], ◌∷◌, length, get_or, map, Bor, subst, refl, inl, inr, arith}
use Rattle.std.specs.Prelude.{◌⊎◌}
use Rattle.h2_command.specs.declared.path.Path.{Path}
use Rattle.h2_script.specs.declared.fault.LineFault.{LineFault}
use Rattle.h2_script.specs.declared.fault.LineFault.TheVariants.{Utf8, Client, Word, Path as BadPath, Number, Payload as NoData, TooLong}
use Rattle.h2_script.specs.declared.number.Amount.{Amount}
use Rattle.h2_script.specs.declared.number.Amount.TheVariants.{Many}
use Rattle.h2_script.specs.Numbers.{IsNoNumber, IsAmount}
use Rattle.h2_script.specs.Paths.{SpellsEntryPath}
use Rattle.h2_script.specs.Payloads.{SpellsPayload, IsFaultOfData}
use Rattle.h2_script.specs.Verbs.{Handle, Place, Length, Datum}
use Rattle.h2_script.specs.Arguments.{IsNumberBelow, IsFaultOfWords, NameTwoPfss, AsksTooMuch, WritesTooMuch, TwoEntries}

abbrev pub texts : List (Bor (List ℕ)) → List (List ℕ)
texts words = map (λ word. word.now) words

pub no_size : (words : List (Bor (List ℕ))) (d : Bor (List ℕ)) (h : ℕ) → length words ≡ 2
    → IsNumberBelow (2 ^ 32) (get_or words 0 d).now h → ((n : ℕ) → IsNumberBelow (2 ^ 64) (get_or words 1 d).now n → ⊥)
    → IsFaultOfWords (Handle ∷ Place ∷ []) (texts words) Number
no_size [] d h two is none = absurd (omega arith)
no_size (x ∷ []) d h two is none = absurd (omega arith)
no_size (x ∷ y ∷ []) d h two is none = inr (refl, inr ((h, is), inl (λ a. none a.0 a.1, refl)))
no_size (x ∷ y ∷ z ∷ words) d h two is none = absurd (omega arith)

pub no_place_of_read : (words : List (Bor (List ℕ))) (d : Bor (List ℕ)) (h : ℕ) → length words ≡ 3
    → IsNumberBelow (2 ^ 32) (get_or words 0 d).now h → ((n : ℕ) → IsNumberBelow (2 ^ 64) (get_or words 1 d).now n → ⊥)
    → IsFaultOfWords (Handle ∷ Place ∷ Length ∷ []) (texts words) Number
no_place_of_read [] d h three is none = absurd (omega arith)
no_place_of_read (x ∷ []) d h three is none = absurd (omega arith)
no_place_of_read (x ∷ y ∷ []) d h three is none = absurd (omega arith)
no_place_of_read (x ∷ y ∷ z ∷ []) d h three is none = inr (refl, inr ((h, is), inl (λ a. none a.0 a.1, refl)))
no_place_of_read (x ∷ y ∷ z ∷ w ∷ words) d h three is none = absurd (omega arith)

pub no_place_of_write : (words : List (Bor (List ℕ))) (d : Bor (List ℕ)) (h : ℕ) → length words ≡ 3
    → IsNumberBelow (2 ^ 32) (get_or words 0 d).now h → ((n : ℕ) → IsNumberBelow (2 ^ 64) (get_or words 1 d).now n → ⊥)
    → IsFaultOfWords (Handle ∷ Place ∷ Datum ∷ []) (texts words) Number
no_place_of_write [] d h three is none = absurd (omega arith)
no_place_of_write (x ∷ []) d h three is none = absurd (omega arith)
no_place_of_write (x ∷ y ∷ []) d h three is none = absurd (omega arith)
no_place_of_write (x ∷ y ∷ z ∷ []) d h three is none = inr (refl, inr ((h, is), inl (λ a. none a.0 a.1, refl)))
no_place_of_write (x ∷ y ∷ z ∷ w ∷ words) d h three is none = absurd (omega arith)

pub no_length : (words : List (Bor (List ℕ))) (d : Bor (List ℕ)) (h off : ℕ) → length words ≡ 3
    → IsNumberBelow (2 ^ 32) (get_or words 0 d).now h → IsNumberBelow (2 ^ 64) (get_or words 1 d).now off → IsNoNumber (get_or words 2 d).now
    → IsFaultOfWords (Handle ∷ Place ∷ Length ∷ []) (texts words) Number
no_length [] d h off three is place none = absurd (omega arith)
no_length (x ∷ []) d h off three is place none = absurd (omega arith)
no_length (x ∷ y ∷ []) d h off three is place none = absurd (omega arith)
no_length (x ∷ y ∷ z ∷ []) d h off three is place none = inr (refl, inr ((h, is), inr ((off, place), inl (λ a. none a.0 a.1, refl))))
no_length (x ∷ y ∷ z ∷ w ∷ words) d h off three is place none = absurd (omega arith)

pub asks_too_much : (words : List (Bor (List ℕ))) (d : Bor (List ℕ)) (h off : ℕ) → length words ≡ 3
    → IsNumberBelow (2 ^ 32) (get_or words 0 d).now h → IsNumberBelow (2 ^ 64) (get_or words 1 d).now off → IsAmount (get_or words 2 d).now Many
    → AsksTooMuch (texts words) TooLong
asks_too_much [] d h off three is place many = absurd (omega arith)
asks_too_much (x ∷ []) d h off three is place many = absurd (omega arith)
asks_too_much (x ∷ y ∷ []) d h off three is place many = absurd (omega arith)
asks_too_much (x ∷ y ∷ z ∷ []) d h off three is place many = (refl, (x.now, y.now, z.now, refl, (h, is), (off, place), many))
asks_too_much (x ∷ y ∷ z ∷ w ∷ words) d h off three is place many = absurd (omega arith)

-- a write whose last word has a fault
pub bad_data : (words : List (Bor (List ℕ))) (d : Bor (List ℕ)) (h off : ℕ) → length words ≡ 3
    → IsNumberBelow (2 ^ 32) (get_or words 0 d).now h → IsNumberBelow (2 ^ 64) (get_or words 1 d).now off
    → (why : LineFault) → IsFaultOfData (SpellsPayload (get_or words 2 d).now) why
    → IsFaultOfWords (Handle ∷ Place ∷ Datum ∷ []) (texts words) why ⊎ WritesTooMuch (texts words) why
bad_data [] d h off three is place why bad = absurd (omega arith)
bad_data (x ∷ []) d h off three is place why bad = absurd (omega arith)
bad_data (x ∷ y ∷ []) d h off three is place why bad = absurd (omega arith)
bad_data (x ∷ y ∷ z ∷ []) d h off three is place Utf8 bad = absurd bad
bad_data (x ∷ y ∷ z ∷ []) d h off three is place Client bad = absurd bad
bad_data (x ∷ y ∷ z ∷ []) d h off three is place Word bad = absurd bad
bad_data (x ∷ y ∷ z ∷ []) d h off three is place BadPath bad = absurd bad
bad_data (x ∷ y ∷ z ∷ []) d h off three is place Number bad = absurd bad
bad_data (x ∷ y ∷ z ∷ []) d h off three is place NoData bad = inl (inr (refl, inr ((h, is), inr ((off, place), inl (λ a. bad a.0 a.1, refl)))))
bad_data (x ∷ y ∷ z ∷ []) d h off three is place TooLong bad = inr (refl, (x.now, y.now, z.now, refl, (h, is), (off, place), bad))
bad_data (x ∷ y ∷ z ∷ w ∷ words) d h off three is place why bad = absurd (omega arith)

pub name_two_pfss : (words : List (Bor (List ℕ))) (d : Bor (List ℕ)) (p q : Path) → length words ≡ 2
    → SpellsEntryPath (get_or words 0 d).now p → SpellsEntryPath (get_or words 1 d).now q → q.pfs ≢ p.pfs → NameTwoPfss (texts words) BadPath
name_two_pfss [] d p q two one other ne = absurd (omega arith)
name_two_pfss (x ∷ []) d p q two one other ne = absurd (omega arith)
name_two_pfss (x ∷ y ∷ []) d p q two one other ne = (refl, (x.now, y.now, p, q, refl, one, other, ne))
name_two_pfss (x ∷ y ∷ z ∷ words) d p q two one other ne = absurd (omega arith)

pub are_two_entries : (words : List (Bor (List ℕ))) (d : Bor (List ℕ)) (p q : Path) → length words ≡ 2
    → SpellsEntryPath (get_or words 0 d).now p → SpellsEntryPath (get_or words 1 d).now q → q.pfs ≡ p.pfs → TwoEntries (texts words) p q
are_two_entries [] d p q two one other same = absurd (omega arith)
are_two_entries (x ∷ []) d p q two one other same = absurd (omega arith)
are_two_entries (x ∷ y ∷ []) d p q two one other same = (x.now, y.now, refl, one, other, same)
are_two_entries (x ∷ y ∷ z ∷ words) d p q two one other same = absurd (omega arith)

pub is_many : (word : List ℕ) (a : Amount) → a ≡ Many → IsAmount word a → IsAmount word Many
is_many word a is h = subst (IsAmount word) is h
