-- What a scan says of the whole tree, and of the list that was known.
use Rattle.std.proofs.Common.{◌≡◌, ◌-◌, ◌^◌, ◌⊎◌, inl, inr, ◌∙◌, refl, sym, ap, subst, [], ◌∷◌, ℕ, true, List, Option, Some}
use Rattle.std.specs.Prelude.{filter}
use Rattle.h2_ref.specs.declared.faults.Trouble.{Trouble}
use Rattle.h2_ref.specs.declared.faults.Trouble.TheVariants.{NoMemory}
use Rattle.h2_ref.specs.declared.reference.Ref.{Ref}
use Rattle.h2_set.specs.Forest.{Forest, IsSound, LeavesOf}
use Rattle.h2_set.specs.Calls.{HasCause, KeepsBeside, Walks}
use Rattle.h2_tree.specs.Changes.{is_between, LoadsTouched, Lists}
use Rattle.h2_inode.specs.Nodes.{Fields, Told, fields_of, held_by, Visits}
use Rattle.h2_inode.specs.VisitLaws.{walks_visit, visits_leaf, visits_leaves}
use Rattle.h2_inode.specs.Access.{OneByOne}
use Rattle.h2_inode.specs.Loaded.{loaded_nodes, at_root, no_content}
use Rattle.h2_inode.specs.PfsList.{ListedPfs, IsPfs}
use Rattle.h2_pfs.specs.Listing.{HasPfss}
use Rattle.h2_inode.specs.declared.kind.InodeKind.TheVariants.{Pfs as Pfs_kind}
use Rattle.h2_pfs.specs.Meets.{IsMet, Meets, MetBy, InodeMissing}
use Rattle.h2_pfs.specs.Faults.{IsTrouble, SomeMissing}
use Rattle.h2_pfs.proofs.Answering.{cause_after}
use Rattle.h2_pfs.proofs.Members.{all_carried}
use Rattle.h2_pfs.proofs.Visiting.{walks_named, tells_before, visits_unloaded}
use Rattle.h2_pfs.proofs.Scanned.{lists_stay, whole_range}

-- all leaves are met
pub meets_after : (h g : Forest) (mid new : ℕ → Option Fields) (tells : Ref → Option Told) (top : ℕ) (items now : List Ref) (pfss : List ListedPfs) → IsSound h → h.stands top ≡ true → Visits h g → Lists h top 0 (2 ^ 64 - 1) items → now ≡ items → OneByOne (MetBy h g mid new tells top) now pfss → Meets g new top pfss
meets_after h g mid new tells top items now pfss sound stands visits lists same all = record {
  leaves = items;
  lists = lists_stay h g top items sound visits stands lists;
  each = all_carried (MetBy h g mid new tells top) (IsMet g new top) items pfss (λ r p met. met.0) (subst (λ z. OneByOne (MetBy h g mid new tells top) z pfss) same all);
}

-- a PFS that was known is the one that is met
same_pfs : (p q : ListedPfs) → p.id ≡ q.id → p.name ≡ q.name → p.next ≡ q.next → p ≡ q
same_pfs p q id name next = rw (id, name, next) refl

-- what was known of each PFS is so of what is met, and holds of what is loaded now
met_pfss : (f g : Forest) (old new : ℕ → Option Fields) (was now : Ref → Option Told) (top : ℕ) (l : List Ref) (known pfss : List ListedPfs) → OneByOne (IsPfs (loaded_nodes f old was no_content) (at_root top)) l known → OneByOne (MetBy f g old new was top) l pfss → (pfss ≡ known) × OneByOne (IsPfs (loaded_nodes g new now no_content) (at_root top)) l known
met_pfss f g old new was now top [] [] [] a b = (refl, tt)
met_pfss f g old new was now top [] [] (p ∷ ps) a b = absurd b
met_pfss f g old new was now top [] (q ∷ qs) ps a b = absurd a
met_pfss f g old new was now top (r ∷ l) [] ps a b = absurd a
met_pfss f g old new was now top (r ∷ l) (q ∷ qs) [] a b = absurd b
met_pfss f g old new was now top (r ∷ l) (q ∷ qs) (p ∷ ps) a b =
    let is = a.0 in
    let met = (b.0).0 in
    let fields : fields_of met.inode ≡ fields_of is.inode = (b.0).1 is.inode is.tree is.read in
    let kind : met.inode.kind ≡ Pfs_kind = ap (λ (z : Fields). z.kind) fields ∙ is.pfs_is in
    let name : met.inode.name ≡ is.inode.name = ap (λ (z : Fields). z.name) fields in
    let next : met.inode.next ≡ is.inode.next = ap (λ (z : Fields). z.next) fields in
    let same : p ≡ q = same_pfs p q (met.id_is ∙ sym is.id_is) (met.name_is ∙ name ∙ sym is.name_is) (met.next_is ∙ next ∙ sym is.next_is) in
    let rest = met_pfss f g old new was now top l qs ps a.1 b.1 in
    let here : IsPfs (loaded_nodes g new now no_content) (at_root top) r q = record {
      kind_is = is.kind_is;
      inode = met.inode;
      tree = at_root met.node;
      read = inl (met.node, met.named, met.has, refl);
      pfs_is = kind;
      numbered = met.numbered;
      id_is = is.id_is;
      name_is = is.name_is ∙ sym name;
      next_is = is.next_is ∙ sym next;
    } in
    (both p q ps qs same rest.0, (here, rest.1))
  where
    both : (p q : ListedPfs) (ps qs : List ListedPfs) → p ≡ q → ps ≡ qs → p ∷ ps ≡ q ∷ qs
    both p q ps qs a b = rw (a, b) refl

-- the list that was known is what was met, and the tree stands for it now
pub listed_after : {B : Type 0} (fields : B → Option Fields) (f h g : Forest) (old mid : ℕ → B) (new : ℕ → Option Fields) (was then now : Ref → Option Told) (top next : ℕ) (items at : List Ref) (pfss known : List ListedPfs) → IsSound f → IsSound h → f.stands top ≡ true → Walks f h → LoadsTouched f h 0 (2 ^ 64 - 1) → KeepsBeside f h old mid → ((r : Ref) (x : Told) → was r ≡ Some x → then r ≡ Some x) → ((l : List Ref) → LeavesOf f top l → items ≡ filter (is_between 0 (2 ^ 64 - 1)) l) → at ≡ items → Visits h g → OneByOne (MetBy h g (held_by fields mid) new then top) at pfss → HasPfss f (held_by fields old) was top next known → HasPfss g new now top next known × (pfss ≡ known)
listed_after fields f h g old mid new was then now top next items at pfss known sound sound_h stands walks touched beside told found same visits all has =
    let l = has.leaves in
    let whole : at ≡ l = same ∙ found l has.has.read ∙ whole_range 0 l has.has.ordered in
    let at_l = subst (λ z. OneByOne (MetBy h g (held_by fields mid) new then top) z pfss) whole all in
    let carried = all_carried (MetBy h g (held_by fields mid) new then top) (MetBy f g (held_by fields old) new was top) l pfss (λ r p met. (met.0, tells_before fields f h old mid was then top r (fields_of met.0.inode) (walks_visit f h walks) beside stands told (λ d named. walks_named f h top r.key 0 (2 ^ 64 - 1) d stands walks touched named) met.1)) at_l in
    let both = met_pfss f g (held_by fields old) new was now top l known pfss has.each carried in
    let leaves = visits_leaves h g sound_h visits top (walks.stays top stands).place.stands l (visits_leaves f h sound (walks_visit f h walks) top stands l has.has.read) in (
      record {
        leaves = l;
        has = record { read = leaves; ordered = has.has.ordered };
        each = both.1;
        good = has.good;
        differ = has.differ;
        below = has.below;
      },
      both.0,
    )

-- trouble after the leaves were loaded
pub trouble_after : (f h g : Forest) (top : ℕ) (t : Trouble) → IsSound h → f.stands top ≡ true → Visits f h → Visits h g → HasCause h g t → (t ≡ NoMemory) ⊎ InodeMissing h h top → IsTrouble f g top t
trouble_after f h g top t sound stands before after cause only = record {
  cause = cause_after f h g t before cause;
  only = elim only as (λ _. (t ≡ NoMemory) ⊎ SomeMissing f g top) [
    | inl none ↦ inl none
    | inr missing ↦ inr (inr (record { leaf = missing.leaf; is_leaf = visits_leaf h g top missing.leaf sound after missing.is_leaf; unloaded = visits_unloaded f h top _ before stands missing.unloaded }))
  ];
}
