-- Words that are no data, or too much.
use Rattle.std.proofs.Common.{◌≡◌, ◌≢◌, ◌<◌, ◌≤◌, ◌∙◌, ℕ, List, [], ◌∷◌, ◌++◌, length, get_or, codes, sym, ap, subst, inl, inr, arith}
use Rattle.std.specs.Prelude.{◌⊎◌, Result, Ok, Err, MatchResult}
use Rattle.std.proofs.lemmas.List.{length-replicate}
use Rattle.hex.specs.Hex.{decode_of}
use Rattle.h2_contents.specs.declared.payload.Payload.{Payload}
use Rattle.h2_contents.specs.declared.payload.Payload.TheVariants.{Plain, Repeat}
use Rattle.h2_contents.specs.Payload.{payload_bytes}
use Rattle.h2_script.specs.declared.fault.LineFault.{LineFault}
use Rattle.h2_script.specs.declared.fault.LineFault.TheVariants.{Utf8, Client, Word, Path, Number, Payload as NoData, TooLong}
use Rattle.h2_script.specs.declared.fault.Refusal.{Refusal}
use Rattle.h2_script.specs.declared.fault.Refusal.TheVariants.{Fault, NoMemory}
use Rattle.h2_script.specs.Cuts.{IsCut, HasNoColon}
use Rattle.h2_script.specs.Numbers.{IsNumber, IsNoNumber, IsNoByte}
use Rattle.h2_script.specs.Payloads.{SpellsPlain, SpellsRepeat, SpellsPayload, IsFewBytes, IsFaultOfData}
use Rattle.h2_script.specs.Refusals.{RefusedBy}
use Rattle.h2_script.proofs.Cuts.{no_cut, one_cut}

pub number_has_no_colon : (word : List ℕ) (n : ℕ) → IsNumber word n → HasNoColon word
number_has_no_colon word n is k d lt e = let digit = is.numeral.digits k d lt in let high = digit.1 in omega arith

pub one_number : (word : List ℕ) (m n : ℕ) → IsNumber word m → IsNumber word n → m ≡ n
one_number word m n p q = sym p.value ∙ q.value

pub uncut_no_repeat : (text : List ℕ) → HasNoColon text → (p : Payload) → SpellsRepeat text p → ⊥
uncut_no_repeat text none (Plain bytes) spells = spells
uncut_no_repeat text none (Repeat count byte) (c, b, is, m, n, small) = no_cut text c b none is

-- the parts of a text that is a count and a byte
pub parts_of : (text c b : List ℕ) (count byte : ℕ) → IsCut text c b → SpellsRepeat text (Repeat count byte) → IsNumber c count × IsNumber b byte × (byte ≤ 255)
parts_of text c b count byte cut (x, y, is, m, n, small) =
    let same = one_cut c b x y cut.first (number_has_no_colon x count m) (sym cut.word_is ∙ is) in
    (subst (λ w. IsNumber w count) (sym same.0) m, subst (λ w. IsNumber w byte) (sym same.1) n, small)

pub no_count_no_repeat : (text c b : List ℕ) → IsCut text c b → IsNoNumber c → (p : Payload) → SpellsRepeat text p → ⊥
no_count_no_repeat text c b cut none (Plain bytes) spells = spells
no_count_no_repeat text c b cut none (Repeat count byte) spells = none count (parts_of text c b count byte cut spells).0

pub no_byte_no_repeat : (text c b : List ℕ) → IsCut text c b → IsNoByte b → (p : Payload) → SpellsRepeat text p → ⊥
no_byte_no_repeat text c b cut none (Plain bytes) spells = spells
no_byte_no_repeat text c b cut none (Repeat count byte) spells =
    let parts = parts_of text c b count byte cut spells in none byte parts.1 parts.2

-- a count and a byte that are too many bytes
pub too_many : (text c b : List ℕ) (byte : ℕ) → IsCut text c b → (count : ℕ) × IsNumber c count × (1048576 < count) → IsNumber b byte → byte ≤ 255 → IsFaultOfData (SpellsRepeat text) TooLong
too_many text c b byte cut (count, m, large) n small =
    let long : length (payload_bytes (Repeat count byte)) ≡ count = length-replicate count byte in
    (Repeat count byte, (c, b, cut.word_is, m, n, small), omega arith)

pub plain_too_many : (digits bytes : List ℕ) → decode_of digits ≡ Ok bytes → 1048576 < length bytes → IsFaultOfData (SpellsPlain digits) TooLong
plain_too_many digits bytes is large = (Plain bytes, is, large)

-- a word without a colon is no data
pub uncut_no_data : (word : List ℕ) → HasNoColon word → (p : Payload) → SpellsPayload word p → ⊥
uncut_no_data word none p (rest, inl (is, spells)) = no_cut word (120 ∷ []) rest none is
uncut_no_data word none p (rest, inr (is, spells)) = no_cut word (114 ∷ []) rest none is

pub x_alone : HasNoColon (120 ∷ [])
x_alone k d lt = let zero_k : k ≡ 0 = omega arith in subst (λ i. get_or (120 ∷ []) i d ≢ 58) (sym zero_k) (λ e. omega arith)

pub r_alone : HasNoColon (114 ∷ [])
r_alone k d lt = let zero_k : k ≡ 0 = omega arith in subst (λ i. get_or (114 ∷ []) i d ≢ 58) (sym zero_k) (λ e. omega arith)

-- which of the two spellings a word has
kind_of : (word kind rest : List ℕ) (p : Payload) → IsCut word kind rest → SpellsPayload word p → ((kind ≡ codes "x") × SpellsPlain rest p) ⊎ ((kind ≡ codes "r") × SpellsRepeat rest p)
kind_of word kind rest p cut (more, inl (is, spells)) =
    let same = one_cut kind rest (120 ∷ []) more cut.first x_alone (sym cut.word_is ∙ is) in
    inl (same.0, subst (λ t. SpellsPlain t p) (sym same.1) spells)
kind_of word kind rest p cut (more, inr (is, spells)) =
    let same = one_cut kind rest (114 ∷ []) more cut.first r_alone (sym cut.word_is ∙ is) in
    inr (same.0, subst (λ t. SpellsRepeat t p) (sym same.1) spells)

pub no_kind_no_data : (word kind rest : List ℕ) → IsCut word kind rest → kind ≢ codes "x" → kind ≢ codes "r" → (p : Payload) → SpellsPayload word p → ⊥
no_kind_no_data word kind rest cut no_x no_r p spells = elim (kind_of word kind rest p cut spells) [ inl h ↦ no_x h.0 | inr h ↦ no_r h.0 ]

x_written : (word kind rest : List ℕ) → IsCut word kind rest → kind ≡ codes "x" → word ≡ codes "x:" ++ rest
x_written word kind rest cut is = cut.word_is ∙ ap (λ k. k ++ 58 ∷ rest) is

r_written : (word kind rest : List ℕ) → IsCut word kind rest → kind ≡ codes "r" → word ≡ codes "r:" ++ rest
r_written word kind rest cut is = cut.word_is ∙ ap (λ k. k ++ 58 ∷ rest) is

pub x_only : (word kind rest : List ℕ) (p : Payload) → IsCut word kind rest → kind ≡ codes "x" → SpellsPayload word p → SpellsPlain rest p
x_only word kind rest p cut is spells = elim (kind_of word kind rest p cut spells) [ inl h ↦ h.1 | inr h ↦ absurd (differ (sym is ∙ h.0)) ]
  where
    differ : codes "x" ≡ codes "r" → ⊥
    differ e = let heads : get_or (codes "x") 0 0 ≡ get_or (codes "r") 0 0 = ap (λ l. get_or l 0 0) e in omega arith

pub r_only : (word kind rest : List ℕ) (p : Payload) → IsCut word kind rest → kind ≡ codes "r" → SpellsPayload word p → SpellsRepeat rest p
r_only word kind rest p cut is spells = elim (kind_of word kind rest p cut spells) [ inl h ↦ absurd (differ (sym is ∙ h.0)) | inr h ↦ h.1 ]
  where
    differ : codes "r" ≡ codes "x" → ⊥
    differ e = let heads : get_or (codes "r") 0 0 ≡ get_or (codes "x") 0 0 = ap (λ l. get_or l 0 0) e in omega arith

-- a fault of what follows is one of the word
fault_of_rest : (One Other : Payload → Type 0) (why : LineFault) → ((p : Payload) → One p → Other p) → ((p : Payload) → Other p → One p) → IsFaultOfData One why → IsFaultOfData Other why
fault_of_rest One Other Utf8 to from h = h
fault_of_rest One Other Client to from h = h
fault_of_rest One Other Word to from h = h
fault_of_rest One Other Path to from h = h
fault_of_rest One Other Number to from h = h
fault_of_rest One Other NoData to from h = λ p spells. h p (from p spells)
fault_of_rest One Other TooLong to from h = (h.0, to h.0 h.1, h.2)

data_of : (One Other : Payload → Type 0) (r : Result Payload Refusal) → ((p : Payload) → One p → Other p) → ((p : Payload) → Other p → One p)
    → MatchResult r (λ p. One p × IsFewBytes p) (RefusedBy (IsFaultOfData One)) → MatchResult r (λ p. Other p × IsFewBytes p) (RefusedBy (IsFaultOfData Other))
data_of One Other (Ok p) to from h = (to p h.0, h.1)
data_of One Other (Err (Fault why)) to from h = fault_of_rest One Other why to from h
data_of One Other (Err NoMemory) to from h = tt

pub plain_is_data : (word kind rest : List ℕ) (r : Result Payload Refusal) → IsCut word kind rest → kind ≡ codes "x" → MatchResult r (λ p. SpellsPlain rest p × IsFewBytes p) (RefusedBy (IsFaultOfData (SpellsPlain rest))) → MatchResult r (λ p. SpellsPayload word p × IsFewBytes p) (RefusedBy (IsFaultOfData (SpellsPayload word)))
plain_is_data word kind rest r cut is h = data_of (SpellsPlain rest) (SpellsPayload word) r (λ p spells. (rest, inl (x_written word kind rest cut is, spells))) (λ p spells. x_only word kind rest p cut is spells) h

pub repeat_is_data : (word kind rest : List ℕ) (r : Result Payload Refusal) → IsCut word kind rest → kind ≡ codes "r" → MatchResult r (λ p. SpellsRepeat rest p × IsFewBytes p) (RefusedBy (IsFaultOfData (SpellsRepeat rest))) → MatchResult r (λ p. SpellsPayload word p × IsFewBytes p) (RefusedBy (IsFaultOfData (SpellsPayload word)))
repeat_is_data word kind rest r cut is h = data_of (SpellsRepeat rest) (SpellsPayload word) r (λ p spells. (rest, inr (r_written word kind rest cut is, spells))) (λ p spells. r_only word kind rest p cut is spells) h
