-- What is known of a list stays over the load of one path, and so do refusals.
use Rattle.std.proofs.Common.{◌≡◌, ◌⊎◌, inl, inr, ℕ, true, List, Option, Some}
use Rattle.h2_ref.specs.declared.faults.Trouble.{Trouble}
use Rattle.h2_ref.specs.declared.faults.Trouble.TheVariants.{NoMemory}
use Rattle.h2_ref.specs.declared.reference.Ref.{Ref}
use Rattle.h2_set.specs.Forest.{Forest, IsSound}
use Rattle.h2_set.specs.Calls.{Walks, KeepsBeside}
use Rattle.h2_tree.specs.Changes.{LoadsTouched}
use Rattle.h2_inode.specs.Nodes.{Fields, Told, held_by}
use Rattle.h2_inode.specs.VisitLaws.{walks_visit, visits_leaves}
use Rattle.h2_inode.specs.Loaded.{loaded_nodes, at_root, no_content}
use Rattle.h2_inode.specs.PfsList.{ListedPfs, IsPfs}
use Rattle.h2_pfs.specs.declared.fault.PfsFault.{PfsFault}
use Rattle.h2_pfs.specs.declared.fault.PfsFault.TheVariants.{NoPfs, Exists, Full, InUse, Trouble as Troubled}
use Rattle.h2_pfs.specs.Listing.{HasPfss}
use Rattle.h2_pfs.specs.Faults.{IsTrouble, SomeMissing, IsSpaceFault, IsAddFault}
use Rattle.h2_pfs.proofs.Answering.{cause_after}
use Rattle.h2_pfs.proofs.Members.{all_carried}
use Rattle.h2_pfs.proofs.Scanned.{range_stays}
use Rattle.h2_pfs.proofs.Visiting.{walks_known, visits_unloaded}

-- the tree stands for the same list after the load of blocks
pub list_stays : {B : Type 0} (fields : B → Option Fields) (f g : Forest) (old new : ℕ → B) (was now : Ref → Option Told) (top from to next : ℕ) (known : List ListedPfs) → IsSound f → f.stands top ≡ true → Walks f g → LoadsTouched f g from to → KeepsBeside f g old new → ((r : Ref) (x : Told) → was r ≡ Some x → now r ≡ Some x) → HasPfss f (held_by fields old) was top next known → HasPfss g (held_by fields new) now top next known
list_stays fields f g old new was now top from to next known sound stands walks touched beside told has = record {
  leaves = has.leaves;
  has = record { read = visits_leaves f g sound (walks_visit f g walks) top stands has.leaves has.has.read; ordered = has.has.ordered };
  each = all_carried (IsPfs (loaded_nodes f (held_by fields old) was no_content) (at_root top)) (IsPfs (loaded_nodes g (held_by fields new) now no_content) (at_root top)) has.leaves known (λ r p is. record {
    kind_is = is.kind_is;
    inode = is.inode;
    tree = is.tree;
    read = walks_known fields f g old new was now top from to r is.inode is.tree walks touched beside stands told is.read;
    pfs_is = is.pfs_is;
    numbered = is.numbered;
    id_is = is.id_is;
    name_is = is.name_is;
    next_is = is.next_is;
  }) has.each;
  good = has.good;
  differ = has.differ;
  below = has.below;
}

-- what was missing after the load was so before
pub trouble_before : (f h g : Forest) (top : ℕ) (t : Trouble) → IsSound f → f.stands top ≡ true → Walks f h → IsTrouble h g top t → IsTrouble f g top t
trouble_before f h g top t sound stands walks it =
    let visits = walks_visit f h walks in
    record {
      cause = cause_after f h g t visits it.cause;
      only = elim it.only as (λ _. (t ≡ NoMemory) ⊎ SomeMissing f g top) [
        | inl none ↦ inl none
        | inr some ↦ inr (elim some as (λ _. SomeMissing f g top) [
          | inl range ↦ inl (range_stays sound visits stands range)
          | inr missing ↦ inr (record { leaf = missing.leaf; is_leaf = missing.is_leaf; unloaded = visits_unloaded f h top _ visits stands missing.unloaded })
        ])
      ];
    }

pub fault_before : (f h g : Forest) (holds : ℕ → Option Fields) (top id : ℕ) (name : List ℕ) (e : PfsFault) → IsSound f → f.stands top ≡ true → Walks f h → IsSpaceFault h g holds top name e → IsAddFault f g holds top name id e
fault_before f h g holds top id name NoPfs sound stands walks it = it
fault_before f h g holds top id name Exists sound stands walks it = it
fault_before f h g holds top id name Full sound stands walks it = it
fault_before f h g holds top id name (InUse handles) sound stands walks it = it
fault_before f h g holds top id name (Troubled t) sound stands walks it = inl (trouble_before f h g top t sound stands walks it)
