-- A word spells one number, one path and one datum at most.
use Rattle.std.proofs.Common.{◌≡◌, ◌∙◌, ℕ, List, [], ◌∷◌, length, eqb, refl, sym, ap, subst, inl, inr, arith}
use Rattle.std.specs.List.{join_with_byte, slice_split}
use Rattle.h2_command.specs.declared.path.Path.{Path}
use Rattle.h2_contents.specs.declared.payload.Payload.{Payload}
use Rattle.h2_contents.specs.declared.payload.Payload.TheVariants.{Plain, Repeat}
use Rattle.h2_script.specs.declared.fault.LineFault.TheVariants.{TooLong}
use Rattle.h2_script.specs.declared.number.Amount.TheVariants.{Few, Many}
use Rattle.h2_script.specs.Cuts.{IsCut}
use Rattle.h2_script.specs.Names.{SpellsNames}
use Rattle.h2_script.specs.Numbers.{IsAmount}
use Rattle.h2_script.specs.Paths.{SpellsPath}
use Rattle.h2_script.specs.Payloads.{SpellsPlain, SpellsRepeat, SpellsPayload, IsFewBytes, IsFaultOfData}
use Rattle.h2_script.proofs.Joined.{parts_of_joined}
use Rattle.h2_script.proofs.Paths.{tails, joined_some, pfs_has_no_colon, parts_of}
use Rattle.h2_script.proofs.Payloads.{one_number, number_has_no_colon, parts_of as parts_of_repeat, x_alone, r_alone, x_only, r_only}

pub few_or_many : (word : List ℕ) (n : ℕ) → IsAmount word (Few n) → IsAmount word Many → ⊥
few_or_many word n few (m, is, large) = let same = one_number word n m few.0 is in let small = few.1 in omega arith

some_names : (text : List ℕ) (name : List ℕ) (names : List (List ℕ)) → SpellsNames text [] → SpellsNames text (name ∷ names) → ⊥
some_names text name names none spells =
    let some = joined_some (name ∷ names) spells.good (omega arith) in
    let short : length (join_with_byte 47 (name ∷ names)) ≡ 0 = ap length (sym spells.joined ∙ none.joined) in
    omega arith

one_names : (text : List ℕ) (names others : List (List ℕ)) → SpellsNames text names → SpellsNames text others → names ≡ others
one_names text [] [] p q = refl
one_names text [] (other ∷ others) p q = absurd (some_names text other others p q)
one_names text (name ∷ names) [] p q = absurd (some_names text name names q p)
one_names text (name ∷ names) (other ∷ others) p q = sym (parts_of_joined name names p.good) ∙ ap (slice_split (λ b. eqb b 47)) (sym p.joined ∙ q.joined) ∙ parts_of_joined other others q.good

pub one_path : (word : List ℕ) (p q : Path) → SpellsPath word p → SpellsPath word q → p ≡ q
one_path word p q a b =
    let cut : IsCut word p.pfs (47 ∷ a.written.0) = record { word_is = a.written.1; first = pfs_has_no_colon p.pfs a.pfs_is_good } in
    let parts = parts_of word p.pfs (47 ∷ a.written.0) q cut b in
    let names = one_names a.written.0 p.names q.names a.written.2 (subst (λ t. SpellsNames t q.names) (sym (tails a.written.0 parts.1.0 parts.1.1)) parts.1.2) in
    let path : List ℕ → List (List ℕ) → Path = λ pfs ns. record { pfs = pfs; names = ns } in
    ap (λ pfs. path pfs p.names) parts.0 ∙ ap (path q.pfs) names

one_plain : (digits : List ℕ) (p q : Payload) → SpellsPlain digits p → SpellsPlain digits q → p ≡ q
one_plain digits (Plain a) (Plain b) p q = let same : a ≡ b = cc in ap Plain same
one_plain digits (Plain a) (Repeat count byte) p q = absurd q
one_plain digits (Repeat count byte) other p q = absurd p

one_repeat : (text : List ℕ) (p q : Payload) → SpellsRepeat text p → SpellsRepeat text q → p ≡ q
one_repeat text (Plain a) other p q = absurd p
one_repeat text (Repeat count byte) (Plain b) p q = absurd q
one_repeat text (Repeat count byte) (Repeat other last) (c, b, is, m, n, small) q =
    let cut : IsCut text c b = record { word_is = is; first = number_has_no_colon c count m } in
    let parts = parts_of_repeat text c b other last cut q in
    ap (λ k. Repeat k byte) (one_number c count other m parts.0) ∙ ap (Repeat other) (one_number b byte last n parts.1)

pub one_datum : (word : List ℕ) (p q : Payload) → SpellsPayload word p → SpellsPayload word q → p ≡ q
one_datum word p q (rest, inl (is, spells)) other = one_plain rest p q spells (x_only word (120 ∷ []) rest q (record { word_is = is; first = x_alone }) refl other)
one_datum word p q (rest, inr (is, spells)) other = one_repeat rest p q spells (r_only word (114 ∷ []) rest q (record { word_is = is; first = r_alone }) refl other)

pub few_bytes : (word : List ℕ) (p : Payload) → SpellsPayload word p → IsFewBytes p → IsFaultOfData (SpellsPayload word) TooLong → ⊥
few_bytes word p is few (q, other, large) = let short = subst IsFewBytes (one_datum word p q is other) few in omega arith
