-- Which nodes calls on PFSs load.
use Rattle.std.proofs.Common.{◌≡◌, ◌⊎◌, ◌<◌, ℕ, true, false, arith, refl, sym, ◌∙◌, subst, inl, inr, List, [], ◌∷◌, length}
use Rattle.std.proofs.lemmas.Bool.{cases_Bool}
use Rattle.h2_ref.specs.declared.reference.Ref.{Ref}
use Rattle.h2_set.specs.Forest.{Forest, IsSound, IsRootOf}
use Rattle.h2_tree.specs.Changes.{LoadsIn}
use Rattle.h2_inode.specs.Nodes.{IsInodeLeaf, Seeks, Visits}
use Rattle.h2_inode.specs.VisitLaws.{seeks_visit, visits_leaf, visits_name}
use Rattle.h2_pfs.specs.Meets.{AreLeaves, IsNamedRoot, LoadsPfss}

-- none
pub none_loads : (f g : Forest) (top : ℕ) → ((m : ℕ) → g.stands m ≡ true → f.stands m ≡ true) → LoadsPfss f g top
none_loads f g top none_new = record { only = λ m gone stands. let clash : true ≡ false = sym (none_new m stands) ∙ gone in absurd (cc) }

-- those of the super-root's tree
pub tree_loads : (f g : Forest) (top from to : ℕ) → f.root top ≡ top → LoadsIn f g top from to → LoadsPfss f g top
tree_loads f g top from to root h = record { only = λ m gone stands. inl (h.tree m gone stands ∙ root) }

-- the root of an inode that a leaf names
pub seek_loads : (f g : Forest) (top c : ℕ) (leaf : Ref) → IsSound f → IsInodeLeaf f top leaf → Seeks f g top leaf.key c → LoadsPfss f g top
seek_loads f g top c leaf sound is h = record {
  only = λ m gone stands. elim (h.brings.new m stands) as (λ _. (g.root m ≡ top) ⊎ IsNamedRoot g top m) [
    | inl e ↦ inr (leaf, visits_leaf f g top leaf sound (seeks_visit f g top leaf.key c h) is, subst (λ n. IsRootOf g top leaf.key n) (sym e) h.named)
    | inr stood ↦ let clash : true ≡ false = sym stood ∙ gone in absurd (cc)
  ];
}

-- the root of leaves stands, where there are some
pub leaves_stand : (f : Forest) (top i : ℕ) (leaves : List Ref) → AreLeaves f top leaves → i < length leaves → f.stands top ≡ true
leaves_stand f top i [] are within = absurd (omega (arith, within))
leaves_stand f top i (r ∷ rs) are within = (are.each 0 r refl).stands

-- some after others
pub loads_trans : (f g h : Forest) (top : ℕ) → IsSound g → g.stands top ≡ true → Visits g h → LoadsPfss f g top → LoadsPfss g h top → LoadsPfss f h top
loads_trans f g h top sound stands visits first second = record {
  only = λ m gone st. elim (cases_Bool (g.stands m)) as (λ _. (h.root m ≡ top) ⊎ IsNamedRoot h top m) [
    | inr new ↦ second.only m new st
    | inl between ↦ elim (first.only m gone between) as (λ _. (h.root m ≡ top) ⊎ IsNamedRoot h top m) [
      | inl root ↦ inl ((visits.stays m between).place.root ∙ root)
      | inr is ↦
          let leaf : Ref = is.0 in
          inr (leaf, visits_leaf g h top leaf sound visits is.1, visits_name g h top leaf.key m visits stands is.2)
    ]
  ];
}
