-- What loads keep: the inodes that leaves name, and what is known of those that aren't loaded.
use Rattle.std.proofs.Common.{◌≡◌, ℕ, ◌⊎◌, inl, inr, Bool, true, false, refl, sym, ◌∙◌, ap, subst, Option, Some}
use Rattle.std.specs.Prelude.{◌↔◌}
use Rattle.h2_ref.specs.declared.reference.Ref.{Ref}
use Rattle.h2_set.specs.Forest.{Forest, IsSound, IsRootOf}
use Rattle.h2_set.specs.Calls.{InPlace, Walks, KeepsBeside}
use Rattle.h2_set.specs.StayLaws.{Walks-refl}
use Rattle.h2_tree.specs.Changes.{LoadsTouched}
use Rattle.h2_inode.specs.declared.inode.Inode.{Inode}
use Rattle.h2_inode.specs.Nodes.{Fields, Told, held_by, fields_of, HasInode, IsInodeLeaf, IsUnloaded, IsAsTold, Seeks, Visits}
use Rattle.h2_inode.specs.VisitLaws.{walks_visit, seeks_visit, visits_name, visits_inode, visits_leaf}
use Rattle.h2_inode.specs.Loaded.{Tree, at_root, NamesInode}
use Rattle.h2_inode.specs.PfsList.{ListedPfs}
use Rattle.h2_pfs.specs.Meets.{IsMet, TellsFields}

-- no root belongs to its own tree
own_root : (f : Forest) (top key : ℕ) → IsSound f → f.stands top ≡ true → f.root top ≡ top → f.belongs top top key ≡ true → ⊥
own_root f top key sound stands root belongs = (sound.owner top top key stands belongs).other root

-- a root that a leaf names belongs to it
belongs_to : (f : Forest) (top key c : ℕ) → IsRootOf f top key c → f.belongs c top key ≡ true
belongs_to f top key c named = (named.belongs top key).1 (inl (refl, refl))

-- which leaf names a root was so before, where both roots stood
named_before : (f g : Forest) (top key c : ℕ) → InPlace f g top → InPlace f g c → f.stands c ≡ true → IsRootOf g top key c → IsRootOf f top key c
named_before f g top key c above here stands h = record {
  stands = stands;
  root = sym here.root ∙ h.root;
  belongs = λ t k.
      subst (λ x. (x ≡ true) ↔ (((t ≡ top) × (k ≡ key)) ⊎ (f.belongs top t k ≡ true))) (here.belongs t k)
      (subst (λ x. (g.belongs c t k ≡ true) ↔ (((t ≡ top) × (k ≡ key)) ⊎ (x ≡ true))) (above.belongs t k) (h.belongs t k));
}

-- the load of one inode names no root for another leaf
pub seeks_named : (f g : Forest) (top key other c d : ℕ) → f.stands top ≡ true → f.root top ≡ top → Seeks f g top key c → (other ≡ key → ⊥) → IsRootOf g top other d → IsRootOf f top other d
seeks_named f g top key other c d stands root h differs named =
    elim (h.brings.new d named.stands) as (λ _. IsRootOf f top other d) [
      | inr stood ↦ named_before f g top other d (h.brings.same top stands).place (h.brings.same d stood).place stood named
      | inl is_new ↦ absurd (elim ((h.named.belongs top other).0 (subst (λ m. g.belongs m top other ≡ true) is_new (belongs_to g top other d named))) as (λ _. ⊥) [
        | inl same ↦ differs same.1
        | inr belongs ↦ own_root g top other h.brings.sound (h.brings.same top stands).place.stands ((h.brings.same top stands).place.root ∙ root) belongs
      ])
    ]

-- loads of indirect blocks name no root
pub walks_named : (f g : Forest) (top key from to d : ℕ) → f.stands top ≡ true → Walks f g → LoadsTouched f g from to → IsRootOf g top key d → IsRootOf f top key d
walks_named f g top key from to d stands walks touched named =
    let stood = walks.roots d named.stands named.root in
    named_before f g top key d (walks.stays top stands).place (walks.stays d stood).place stood named

-- what is known of the inode that a leaf names stays so, where no new root is named by the leaf
pub known_stays : {B : Type 0} (fields : B → Option Fields) (f g : Forest) (old new : ℕ → B) (was now : Ref → Option Told) (top : ℕ) (r : Ref) (i : Inode) (t : Tree) → Visits f g → KeepsBeside f g old new → f.stands top ≡ true → ((r : Ref) (x : Told) → was r ≡ Some x → now r ≡ Some x) → ((d : ℕ) → IsRootOf g top r.key d → IsRootOf f top r.key d) → NamesInode f (held_by fields old) was (at_root top) r i t → NamesInode g (held_by fields new) now (at_root top) r i t
known_stays fields f g old new was now top r i t visits beside stands told back known =
    elim known as (λ _. NamesInode g (held_by fields new) now (at_root top) r i t) [
      | inl near ↦ inl (near.0, visits_name f g top r.key near.0 visits stands near.1, visits_inode fields f g old new near.0 i visits beside near.2, near.3)
      | inr far ↦ inr ((λ c named. far.0 c (back c named)), (far.1.0, told r far.1.0 far.1.1, far.1.2, far.1.3))
    ]

pub seeks_known : {B : Type 0} (fields : B → Option Fields) (f g : Forest) (old new : ℕ → B) (was now : Ref → Option Told) (top key c : ℕ) (r : Ref) (i : Inode) (t : Tree) → Seeks f g top key c → (r.key ≡ key → ⊥) → KeepsBeside f g old new → f.stands top ≡ true → f.root top ≡ top → ((r : Ref) (x : Told) → was r ≡ Some x → now r ≡ Some x) → NamesInode f (held_by fields old) was (at_root top) r i t → NamesInode g (held_by fields new) now (at_root top) r i t
seeks_known fields f g old new was now top key c r i t h differs beside stands root told known =
    known_stays fields f g old new was now top r i t (seeks_visit f g top key c h) beside stands told (λ d named. seeks_named f g top key r.key c d stands root h differs named) known

pub walks_known : {B : Type 0} (fields : B → Option Fields) (f g : Forest) (old new : ℕ → B) (was now : Ref → Option Told) (top from to : ℕ) (r : Ref) (i : Inode) (t : Tree) → Walks f g → LoadsTouched f g from to → KeepsBeside f g old new → f.stands top ≡ true → ((r : Ref) (x : Told) → was r ≡ Some x → now r ≡ Some x) → NamesInode f (held_by fields old) was (at_root top) r i t → NamesInode g (held_by fields new) now (at_root top) r i t
walks_known fields f g old new was now top from to r i t h touched beside stands told known =
    known_stays fields f g old new was now top r i t (walks_visit f g h) beside stands told (λ d named. walks_named f g top r.key from to d stands h touched named) known

-- a PFS that was met stays so, where no new root is named by the leaf
abbrev pub met_stays : {B : Type 0} (fields : B → Option Fields) (f g : Forest) (old new : ℕ → B) (top : ℕ) (r : Ref) (p : ListedPfs) → IsSound f → Visits f g → KeepsBeside f g old new → f.stands top ≡ true → ((d : ℕ) → IsRootOf g top r.key d → IsRootOf f top r.key d) → IsMet f (held_by fields old) top r p → IsMet g (held_by fields new) top r p
met_stays fields f g old new top r p sound visits beside stands back met = record {
  leaf = visits_leaf f g top r sound visits met.leaf;
  node = met.node;
  named = visits_name f g top r.key met.node visits stands met.named;
  only = λ d named. met.only d (back d named);
  inode = met.inode;
  has = visits_inode fields f g old new met.node met.inode visits beside met.has;
  numbered = met.numbered;
  id_is = met.id_is;
  name_is = met.name_is;
  next_is = met.next_is;
}

abbrev pub seeks_met : {B : Type 0} (fields : B → Option Fields) (f g : Forest) (old new : ℕ → B) (top key c : ℕ) (r : Ref) (p : ListedPfs) → IsSound f → Seeks f g top key c → (r.key ≡ key → ⊥) → KeepsBeside f g old new → f.stands top ≡ true → f.root top ≡ top → IsMet f (held_by fields old) top r p → IsMet g (held_by fields new) top r p
seeks_met fields f g old new top key c r p sound h differs beside stands root met =
    met_stays fields f g old new top r p sound (seeks_visit f g top key c h) beside stands (λ d named. seeks_named f g top key r.key c d stands root h differs named) met

abbrev pub walks_met : {B : Type 0} (fields : B → Option Fields) (f g : Forest) (old new : ℕ → B) (top from to : ℕ) (r : Ref) (p : ListedPfs) → IsSound f → Walks f g → LoadsTouched f g from to → KeepsBeside f g old new → f.stands top ≡ true → IsMet f (held_by fields old) top r p → IsMet g (held_by fields new) top r p
walks_met fields f g old new top from to r p sound h touched beside stands met =
    met_stays fields f g old new top r p sound (walks_visit f g h) beside stands (λ d named. walks_named f g top r.key from to d stands h touched named) met

-- one root has one inode's fields
pub same_fields : (f : Forest) (holds : ℕ → Option Fields) (c : ℕ) (i j : Inode) → HasInode f holds c i → HasInode f holds c j → fields_of i ≡ fields_of j
same_fields f holds c i j a b =
    let both : Some (fields_of i) ≡ Some (fields_of j) = sym a.fields ∙ b.fields in
    one_fields (fields_of i) (fields_of j) both
  where
    one_fields : (x y : Fields) → Some x ≡ Some y → x ≡ y
    one_fields x y e = (cc)

-- the load of an inode leaves one root that its leaf names
pub seeks_only : (f g : Forest) (top key c d : ℕ) → f.stands top ≡ true → Seeks f g top key c → IsRootOf g top key d → d ≡ c
seeks_only f g top key c d stands h named =
    elim (h.brings.new d named.stands) as (λ _. d ≡ c) [
      | inl is_new ↦ is_new
      | inr stood ↦ sym (h.loaded d (named_before f g top key d (h.brings.same top stands).place (h.brings.same d stood).place stood named))
    ]

-- an inode that wasn't loaded has a new root
pub seeks_fresh : (f g : Forest) (top key c : ℕ) → f.stands top ≡ true → Seeks f g top key c → IsUnloaded f top key → f.stands c ≡ false
seeks_fresh f g top key c stands h unloaded = decide (f.stands c) refl
  where
    decide : (b : Bool) → f.stands c ≡ b → f.stands c ≡ false
    decide false e = e
    decide true e = absurd (unloaded c (named_before f g top key c (h.brings.same top stands).place (h.brings.same c e).place e h.named))

-- the name that was known is that of the root which was found
pub seeks_tells : {B : Type 0} (fields : B → Option Fields) (f g : Forest) (old new : ℕ → B) (tells : Ref → Option Told) (top c : ℕ) (r : Ref) (j : Inode) → f.stands top ≡ true → Seeks f g top r.key c → KeepsBeside f g old new → ((x : Told) → f.stands c ≡ false → tells r ≡ Some x → IsAsTold g (held_by fields new) c x) → HasInode g (held_by fields new) c j → TellsFields f (held_by fields old) tells top r (fields_of j)
seeks_tells fields f g old new tells top c r j stands h beside told has i t known =
    elim known as (λ _. fields_of j ≡ fields_of i) [
      | inl near ↦
          let same : c ≡ near.0 = h.loaded near.0 near.1 in
          let there : HasInode g (held_by fields new) c i = subst (λ m. HasInode g (held_by fields new) m i) (sym same) (visits_inode fields f g old new near.0 i (seeks_visit f g top r.key c h) beside near.2) in
          same_fields g (held_by fields new) c j i has there
      | inr far ↦
          let x = far.1.0 in
          let as_told = told x (seeks_fresh f g top r.key c stands h far.0) far.1.1 in
          let is_it : i ≡ x.inode = far.1.2 in
          same_fields g (held_by fields new) c j x.inode has as_told.inode ∙ ap fields_of (sym is_it)
    ]

-- what the load of an inode met
abbrev pub seeks_meets : {B : Type 0} (fields : B → Option Fields) (f g : Forest) (new : ℕ → B) (top c : ℕ) (r : Ref) (i j : Inode) → IsSound f → IsInodeLeaf f top r → Seeks f g top r.key c → HasInode g (held_by fields new) c i → i.number ≡ r.key → HasInode g (held_by fields new) c j → IsMet g (held_by fields new) top r (record { id = r.key; name = j.name; next = j.next })
seeks_meets fields f g new top c r i j sound leaf h numbered_by number has = record {
  leaf = visits_leaf f g top r sound (seeks_visit f g top r.key c h) leaf;
  node = c;
  named = h.named;
  only = λ d named. seeks_only f g top r.key c d leaf.stands h named;
  inode = j;
  has = has;
  numbered = ap (λ (z : Fields). z.number) (same_fields g (held_by fields new) c j i has numbered_by) ∙ number;
  id_is = refl;
  name_is = refl;
  next_is = refl;
}

-- what wasn't loaded wasn't so before
pub visits_unloaded : (f g : Forest) (top key : ℕ) → Visits f g → f.stands top ≡ true → IsUnloaded g top key → IsUnloaded f top key
visits_unloaded f g top key visits stands none c named = none c (visits_name f g top key c visits stands named)

-- no load
pub visits_same : (f : Forest) → IsSound f → Visits f f
visits_same f sound = walks_visit f f (Walks-refl f sound)

-- the fields that are told by what is known later are those of what was known before
pub tells_before : {B : Type 0} (fields : B → Option Fields) (f g : Forest) (old new : ℕ → B) (was now : Ref → Option Told) (top : ℕ) (r : Ref) (x : Fields) → Visits f g → KeepsBeside f g old new → f.stands top ≡ true → ((r : Ref) (x : Told) → was r ≡ Some x → now r ≡ Some x) → ((d : ℕ) → IsRootOf g top r.key d → IsRootOf f top r.key d) → TellsFields g (held_by fields new) now top r x → TellsFields f (held_by fields old) was top r x
tells_before fields f g old new was now top r x visits beside stands told back tells i t known =
    tells i t (known_stays fields f g old new was now top r i t visits beside stands told back known)
