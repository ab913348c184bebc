-- Names and ids of what was met are those of the PFSs.
use Rattle.std.proofs.Common.{◌≡◌, ◌∙◌, sym, ap, refl, ℕ, Bool, cond, List, [], ◌∷◌, Option, Some, true, false, None, length, suc}
use Rattle.std.specs.Prelude.{map, nat_eq, is_some}
use Rattle.std.specs.Cmp.Lexicographic.{pointwise}
use Rattle.h2_inode.specs.PfsList.{ListedPfs}
use Rattle.h2_pfs.specs.declared.met.Met.{Met}
use Rattle.h2_pfs.specs.Listing.{name_of, id_of}
use Rattle.h2_pfs.specs.Mets.{met_of, met_name, id_in}

met_length : (pfss : List ListedPfs) → length (map met_of pfss) ≡ length pfss
met_length [] = refl
met_length (p ∷ ps) = ap suc (met_length ps)

pub met_names : (pfss : List ListedPfs) → map met_name (map met_of pfss) ≡ map name_of pfss
met_names [] = refl
met_names (p ∷ ps) = ap (λ z. p.name ∷ z) (met_names ps)

met_ids : (name : List ℕ) (pfss : List ListedPfs) → id_in name (map met_of pfss) ≡ id_of name pfss
met_ids name [] = refl
met_ids name (p ∷ ps) = ap (cond (pointwise nat_eq p.name name) (Some p.id)) (met_ids name ps)

-- the names of what is kept
pub kept_names : (names : List (List ℕ)) (now items : List Met) (pfss : List ListedPfs) → names ≡ map met_name now → now ≡ items → items ≡ map met_of pfss → names ≡ map name_of pfss
kept_names names now items pfss are same kept = are ∙ ap (λ z. map met_name z) (same ∙ kept) ∙ met_names pfss

-- the id that was found in what is kept
pub kept_id : (name : List ℕ) (now items : List Met) (pfss : List ListedPfs) (o : Option ℕ) → o ≡ id_in name now → now ≡ items → items ≡ map met_of pfss → id_of name pfss ≡ o
kept_id name now items pfss o is same kept = sym (is ∙ ap (λ z. id_in name z) (same ∙ kept) ∙ met_ids name pfss)

-- what is found in a list is found in the same one
pub found_as : (name : List ℕ) (pfss known : List ListedPfs) (o : Option ℕ) → pfss ≡ known → id_of name pfss ≡ o → id_of name known ≡ o
found_as name pfss known o same found = ap (λ z. id_of name z) (sym same) ∙ found

pub named_as : (names : List (List ℕ)) (pfss known : List ListedPfs) → pfss ≡ known → names ≡ map name_of pfss → names ≡ map name_of known
named_as names pfss known same are = are ∙ ap (λ z. map name_of z) same

-- as many are kept
pub kept_length : (now items : List Met) (pfss : List ListedPfs) → now ≡ items → items ≡ map met_of pfss → length now ≡ length pfss
kept_length now items pfss same kept = ap (λ (z : List Met). length z) (same ∙ kept) ∙ met_length pfss

pub some_of : (o : Option ℕ) (b : Bool) → b ≡ is_some o → b ≡ true → (x : ℕ) × (o ≡ Some x)
some_of (Some x) b is e = (x, refl)
some_of None b is e = absurd (clash (sym is ∙ e))
  where
    clash : false ≡ true → ⊥
    clash e = (cc)

pub none_of : (o : Option ℕ) (b : Bool) → b ≡ is_some o → b ≡ false → o ≡ None
none_of None b is e = refl
none_of (Some x) b is e = absurd (clash (sym is ∙ e))
  where
    clash : true ≡ false → ⊥
    clash e = (cc)
