-- Names that were joined by slashes are the parts between them.
use Rattle.std.proofs.Common.{◌≡◌, ◌≢◌, ◌≤◌, ◌∙◌, ℕ, suc, false, eqb, List, [], ◌∷◌, length, get_or, All, refl, sym, ap, subst, arith}
use Rattle.std.specs.Prelude.{Result, Ok, Err, MatchResult}
use Rattle.h2_script.specs.declared.fault.LineFault.TheVariants.{Path}
use Rattle.h2_script.specs.declared.fault.Refusal.{Refusal}
use Rattle.h2_script.specs.declared.fault.Refusal.TheVariants.{Fault, NoMemory}
use Rattle.h2_script.specs.Refusals.{RefusedBy}
use Rattle.std.specs.List.{join_with_byte, slice_split}
use Rattle.std.proofs.lemmas.List.Splits.{slice_split_none, slice_split_at, join_with_byte-slice_split}
use Rattle.std.proofs.lemmas.Bool.Decides.{nat_tests}
use Rattle.h2_script.specs.Names.{IsEntryName, SpellsNames, AreNoNames}

-- a name has no slash
no_slash : (name : List ℕ) → IsEntryName name → All (λ b. eqb b 47 ≡ false) name
no_slash name good k d lt = differ (get_or name k d) (good.bytes k d lt).1
  where
    differ : (b : ℕ) → b ≢ 47 → eqb b 47 ≡ false
    differ b ne = grind (arith, nat_tests)

first_of_all : {X : Type 0} (P : X → Type 0) (x : X) (xs : List X) → All P (x ∷ xs) → P x
first_of_all P x xs all = all 0 x (omega arith)

rest_of_all : {X : Type 0} (P : X → Type 0) (x : X) (xs : List X) → All P (x ∷ xs) → All P xs
rest_of_all P x xs all k d lt = all (suc k) d (omega arith)

-- the parts of joined names are the names
pub parts_of_joined : (name : List ℕ) (names : List (List ℕ)) → All IsEntryName (name ∷ names) → slice_split (λ b. eqb b 47) (join_with_byte 47 (name ∷ names)) ≡ name ∷ names
parts_of_joined name [] all = slice_split_none (λ b. eqb b 47) name (no_slash name (first_of_all IsEntryName name [] all))
parts_of_joined name (next ∷ names) all =
    slice_split_at (λ b. eqb b 47) name 47 (join_with_byte 47 (next ∷ names)) (no_slash name (first_of_all IsEntryName name (next ∷ names) all)) refl
    ∙ ap (λ parts. name ∷ parts) (parts_of_joined next names (rest_of_all IsEntryName name (next ∷ names) all))

-- good parts spell the text
pub parts_spell : (text : List ℕ) (names : List (List ℕ)) → names ≡ slice_split (λ b. eqb b 47) text → All IsEntryName names → SpellsNames text names
parts_spell text names is all = record { joined = sym (join_with_byte-slice_split 47 text) ∙ ap (join_with_byte 47) (sym is); good = all }

pub no_names : SpellsNames [] []
no_names = record { joined = refl; good = λ k d lt. absurd (omega arith) }

-- a text with a bad part is no names
pub bad_part : (text : List ℕ) (parts : List (List ℕ)) → 1 ≤ length text → parts ≡ slice_split (λ b. eqb b 47) text → (All IsEntryName parts → ⊥) → AreNoNames text
bad_part text parts some is bad [] spells = let none : length text ≡ 0 = ap length spells.joined in omega arith
bad_part text parts some is bad (name ∷ names) spells =
    let same : parts ≡ name ∷ names = is ∙ ap (slice_split (λ b. eqb b 47)) spells.joined ∙ parts_of_joined name names spells.good in
    bad (subst (All IsEntryName) (sym same) spells.good)

-- the parts of a text as names, or none
pub read_parts : (text : List ℕ) (parts : List (List ℕ)) (r : Result (List (List ℕ)) Refusal) → 1 ≤ length text → parts ≡ slice_split (λ b. eqb b 47) text
    → MatchResult r (λ names. (names ≡ parts) × All IsEntryName names) (RefusedBy (λ why. (why ≡ Path) × (All IsEntryName parts → ⊥)))
    → MatchResult r (SpellsNames text) (RefusedBy (λ why. (why ≡ Path) × AreNoNames text))
read_parts text parts (Ok names) some is h = parts_spell text names (h.0 ∙ is) h.1
read_parts text parts (Err (Fault why)) some is h = (h.0, bad_part text parts some is h.1)
read_parts text parts (Err NoMemory) some is h = tt
