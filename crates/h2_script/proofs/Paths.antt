-- Words that are no path.
use Rattle.std.proofs.Common.{◌≡◌, ◌≢◌, ◌≤◌, ◌∙◌, ℕ, List, [], ◌∷◌, length, get_or, All, Bool, true, eqb, refl, sym, ap, subst, inl, inr, arith}
use Rattle.std.specs.List.{join_with_byte}
use Rattle.std.proofs.lemmas.Bool.Decides.{nat_tests}
use Rattle.std.proofs.lemmas.List.{length-append}
use Rattle.h2_command.specs.declared.path.Path.{Path}
use Rattle.h2_dirkey.specs.PfsName.{IsPfsNameByte, IsPfsName}
use Rattle.h2_script.specs.Cuts.{IsCut, HasNoColon}
use Rattle.h2_script.specs.Names.{IsEntryName, SpellsNames, AreNoNames}
use Rattle.h2_script.specs.Paths.{BeginsWithSlash, SpellsPath, IsNoPath, IsNoEntryPath}
use Rattle.h2_script.proofs.Cuts.{no_cut, one_cut}

pub tails : (x y : List ℕ) → 47 ∷ x ≡ 47 ∷ y → x ≡ y
tails x y e = cc

-- names have a byte
pub joined_some : (names : List (List ℕ)) → All IsEntryName names → 1 ≤ length names → 1 ≤ length (join_with_byte 47 names)
joined_some [] all some = absurd (omega arith)
joined_some (name ∷ []) all some = (all 0 name (omega arith)).some
joined_some (name ∷ next ∷ names) all some =
    let good = all 0 name (omega arith) in let long = good.some in
    omega (arith, length-append name (47 ∷ join_with_byte 47 (next ∷ names)))

no_colon_byte : (b : ℕ) → IsPfsNameByte b → b ≢ 58
no_colon_byte b (inl r) e = let lo = r.0 in let hi = r.1 in omega arith
no_colon_byte b (inr (inl r)) e = let lo = r.0 in let hi = r.1 in omega arith
no_colon_byte b (inr (inr (inl r))) e = let lo = r.0 in let hi = r.1 in omega arith
no_colon_byte b (inr (inr (inr (inl r)))) e = omega arith
no_colon_byte b (inr (inr (inr (inr (inl r))))) e = omega arith
no_colon_byte b (inr (inr (inr (inr (inr r))))) e = omega arith

pub pfs_has_no_colon : (name : List ℕ) → IsPfsName name → HasNoColon name
pfs_has_no_colon name good k d lt = no_colon_byte (get_or name k d) (good.bytes k d lt)

pub no_colon_no_path : (word : List ℕ) → HasNoColon word → IsNoPath word
no_colon_no_path word none p spells = no_cut word p.pfs (47 ∷ spells.written.0) none spells.written.1

-- the parts of a word that is a path
pub parts_of : (word a b : List ℕ) (p : Path) → IsCut word a b → SpellsPath word p → (a ≡ p.pfs) × ((names : List ℕ) × (b ≡ 47 ∷ names) × SpellsNames names p.names)
parts_of word a b p cut spells =
    let same = one_cut a b p.pfs (47 ∷ spells.written.0) cut.first (pfs_has_no_colon p.pfs spells.pfs_is_good) (sym cut.word_is ∙ spells.written.1) in
    (same.0, (spells.written.0, same.1, spells.written.2))

pub no_slash_no_path : (word a b : List ℕ) → IsCut word a b → (BeginsWithSlash b → ⊥) → IsNoPath word
no_slash_no_path word a b cut none p spells =
    let parts = parts_of word a b p cut spells in none (parts.1.0, parts.1.1)

pub bad_pfs_no_path : (word a b : List ℕ) → IsCut word a b → (IsPfsName a → ⊥) → IsNoPath word
bad_pfs_no_path word a b cut bad p spells =
    let parts = parts_of word a b p cut spells in bad (subst IsPfsName (sym parts.0) spells.pfs_is_good)

pub bad_names_no_path : (word a b rest : List ℕ) → IsCut word a b → b ≡ 47 ∷ rest → AreNoNames rest → IsNoPath word
bad_names_no_path word a b rest cut is bad p spells =
    let parts = parts_of word a b p cut spells in
    let same : parts.1.0 ≡ rest = tails parts.1.0 rest (sym parts.1.1 ∙ is) in
    bad p.names (subst (λ text. SpellsNames text p.names) same parts.1.2)

-- a path without a name is none that leads to an entry
pub nameless : (word : List ℕ) (p : Path) → SpellsPath word p → p.names ≡ [] → IsNoEntryPath word
nameless word p spells none q entry =
    let cut : IsCut word p.pfs (47 ∷ spells.written.0) = record { word_is = spells.written.1; first = pfs_has_no_colon p.pfs spells.pfs_is_good } in
    let parts = parts_of word p.pfs (47 ∷ spells.written.0) q cut entry.path in
    let empty : spells.written.0 ≡ [] = spells.written.2.joined ∙ ap (join_with_byte 47) none in
    let some = joined_some q.names parts.1.2.good entry.named in
    let short : length (join_with_byte 47 q.names) ≡ 0 = ap length (sym parts.1.2.joined ∙ sym (tails spells.written.0 parts.1.0 parts.1.1) ∙ empty) in
    omega arith

no_element : {X : Type 0} (xs : List X) → length xs ≡ 0 → xs ≡ []
no_element [] e = refl
no_element (x ∷ xs) e = absurd (omega arith)

zero_by_test : (n : ℕ) (r : Bool) → r ≡ eqb n 0 → r ≡ true → n ≡ 0
zero_by_test n r is holds = grind (arith, nat_tests)

-- a list that a test found empty
pub empty_by_test : {X : Type 0} (xs ys : List X) (r : Bool) → xs ≡ ys → r ≡ eqb (length xs) 0 → r ≡ true → ys ≡ []
empty_by_test xs ys r same is holds = sym same ∙ no_element xs (zero_by_test (length xs) r is holds)
