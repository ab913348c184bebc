-- The PFS that has a name, where it was met.
use Rattle.std.proofs.Common.{◌≡◌, ℕ, Bool, true, false, refl, sym, ◌∙◌, ap, subst, cond, List, [], ◌∷◌, Option, Some}
use Rattle.std.specs.Prelude.{nat_eq}
use Rattle.std.specs.Cmp.Lexicographic.{pointwise}
use Rattle.std.proofs.lemmas.Slice.Eq.{bytes_eq-Decides}
use Rattle.std.proofs.lemmas.Option.{none-some}
use Rattle.h2_ref.specs.declared.reference.Ref.{Ref}
use Rattle.h2_set.specs.Forest.{Forest, IsSound, Reaches, IsRootOf}
use Rattle.h2_set.specs.Calls.{KeepsBeside}
use Rattle.h2_tree.specs.Changes.{IsFree}
use Rattle.h2_inode.specs.Nodes.{Fields, held_by, HasInode, Visits}
use Rattle.h2_inode.specs.VisitLaws.{visits_name, visits_inode}
use Rattle.h2_inode.specs.Access.{OneByOne}
use Rattle.h2_inode.specs.PfsList.{ListedPfs}
use Rattle.h2_pfs.specs.Listing.{id_of}
use Rattle.h2_pfs.specs.Meets.{IsMet}
use Rattle.h2_pfs.specs.Removal.{NoneHeld}
use Rattle.h2_pfs.proofs.Visiting.{same_fields}

-- the PFS with this id has the name, and was met at this leaf
pub record Found (f : Forest) (holds : ℕ → Option Fields) (top id : ℕ) (name : List ℕ) : Type 0 where
  pub leaf : Ref
  pub pfs : ListedPfs
  pub met : IsMet f holds top leaf pfs
  pub key : leaf.key ≡ id
  pub named : pfs.name ≡ name

pub found_met : (f : Forest) (holds : ℕ → Option Fields) (top id : ℕ) (name : List ℕ) (leaves : List Ref) (pfss : List ListedPfs) → OneByOne (IsMet f holds top) leaves pfss → id_of name pfss ≡ Some id → Found f holds top id name
found_met f holds top id name [] [] all is = absurd (none-some id is)
found_met f holds top id name [] (p ∷ ps) all is = absurd all
found_met f holds top id name (r ∷ rs) [] all is = absurd all
found_met f holds top id name (r ∷ rs) (p ∷ ps) all is = decide (pointwise nat_eq p.name name) refl is (λ it. found_met f holds top id name rs ps all.1 it)
  where
    decide : (b : Bool) → pointwise nat_eq p.name name ≡ b → cond b (Some p.id) (id_of name ps) ≡ Some id → (id_of name ps ≡ Some id → Found f holds top id name) → Found f holds top id name
    decide true e it rest =
        let same : p.id ≡ id = (cc) in
        record { leaf = r; pfs = p; met = all.0; key = sym (all.0).id_is ∙ same; named = (bytes_eq-Decides p.name name).0 e }
    decide false e it rest = rest it

-- the path of the leaf of the PFS with the name
pub found_path : (f : Forest) (holds : ℕ → Option Fields) (top id : ℕ) (name : List ℕ) (it : Found f holds top id name) → Reaches f id top (Some it.leaf)
found_path f holds top id name it = subst (λ k. Reaches f k top (Some it.leaf)) it.key it.met.leaf.path

-- nothing of the PFS with the name is held
pub found_free : {B : Type 0} (fields : B → Option Fields) (f g : Forest) (old new : ℕ → B) (top id : ℕ) (name : List ℕ) → IsSound f → Visits f g → KeepsBeside f g old new → f.stands top ≡ true → NoneHeld f (held_by fields old) top name → Found g (held_by fields new) top id name → IsFree g top id
found_free fields f g old new top id name sound visits beside stands none it m st belongs = decide (g.held m) refl
  where
    clash : g.held m ≡ true → ⊥
    clash held =
        let held_f : f.held m ≡ true = sym (visits.held m) ∙ held in
        let stood = (sound.held m held_f).0 in
        let other = none m id held_f (sym ((visits.stays m stood).place.belongs top id) ∙ belongs) in
        let named = visits_name f g top id other.node visits stands other.named in
        let at = it.met.only other.node (subst (λ k. IsRootOf g top k other.node) (sym it.key) named) in
        let has = visits_inode fields f g old new other.node other.inode visits beside other.has in
        let there = subst (λ n. HasInode g (held_by fields new) n other.inode) at has in
        let same = ap (λ (x : Fields). x.name) (same_fields g (held_by fields new) it.met.node other.inode it.met.inode there it.met.has) in
        other.other (same ∙ sym it.met.name_is ∙ it.named)

    decide : (b : Bool) → g.held m ≡ b → g.held m ≡ false
    decide false e = e
    decide true e = absurd (clash e)
