-- Where the list of PFSs is known, no bad block is met.
use Rattle.std.proofs.Common.{◌≡◌, ℕ, suc, zero, true, ◌-◌, ◌^◌, ◌∙◌, inl, inr, subst, List, [], ◌∷◌, Option, Some, slice_get}
use Rattle.std.specs.Prelude.{filter}
use Rattle.std.proofs.lemmas.Option.{none-some, same_Some}
use Rattle.h2_ref.specs.declared.faults.Trouble.{Trouble}
use Rattle.h2_ref.specs.declared.reference.Ref.{Ref}
use Rattle.h2_set.specs.Forest.{Forest, LeavesOf}
use Rattle.h2_set.specs.Calls.{IsBad, KeepsBeside, Walks}
use Rattle.h2_tree.specs.Changes.{is_between, LoadsTouched}
use Rattle.h2_inode.specs.declared.inode.Inode.{Inode}
use Rattle.h2_inode.specs.Nodes.{Fields, Told, held_by, IsUnloaded}
use Rattle.h2_inode.specs.VisitLaws.{walks_visit}
use Rattle.h2_inode.specs.Access.{OneByOne}
use Rattle.h2_inode.specs.Loaded.{Tree, loaded_nodes, at_root, no_content, NamesInode}
use Rattle.h2_inode.specs.PfsList.{ListedPfs, IsPfs}
use Rattle.h2_pfs.specs.Listing.{HasPfss}
use Rattle.h2_pfs.specs.Meets.{AreKnown}
use Rattle.h2_pfs.proofs.Visiting.{known_stays, walks_named}
use Rattle.h2_pfs.proofs.Scanned.{whole_range}

-- an inode that is known and isn't loaded is told, and then its block isn't bad
pub named_good : (f : Forest) (holds : ℕ → Option Fields) (tells : Ref → Option Told) (top : ℕ) (r : Ref) (e : Trouble) → IsUnloaded f top r.key → ((x : Told) → tells r ≡ Some x → IsBad e → ⊥) → (i : Inode) (t : Tree) → NamesInode f holds tells (at_root top) r i t → IsBad e → ⊥
named_good f holds tells top r e unloaded good i t known bad =
    elim known as (λ _. ⊥) [
      | inl near ↦ unloaded near.0 near.1
      | inr far ↦ good far.1.0 far.1.1 bad
    ]

-- of each PFS that is listed the inode is known
listed_known : (f : Forest) (holds : ℕ → Option Fields) (tells : Ref → Option Told) (top : ℕ) (l : List Ref) (pfss : List ListedPfs) → OneByOne (IsPfs (loaded_nodes f holds tells no_content) (at_root top)) l pfss → AreKnown f holds tells top l
listed_known f holds tells top [] pfss all j r read = absurd (none-some r read)
listed_known f holds tells top (q ∷ l) [] all j r read = absurd all
listed_known f holds tells top (q ∷ l) (p ∷ ps) all zero r read =
    let is = all.0 in
    let same : q ≡ r = same_Some q r read in
    (is.inode, is.tree, subst (λ (x : Ref). NamesInode f holds tells (at_root top) x is.inode is.tree) same is.read)
listed_known f holds tells top (q ∷ l) (p ∷ ps) all (suc j) r read = listed_known f holds tells top l ps all.1 j r read

-- and after loads of indirect blocks too
pub known_after : {B : Type 0} (fields : B → Option Fields) (f h : Forest) (old mid : ℕ → B) (was then : Ref → Option Told) (top next : ℕ) (items at : List Ref) (known : List ListedPfs) → f.stands top ≡ true → Walks f h → LoadsTouched f h 0 (2 ^ 64 - 1) → KeepsBeside f h old mid → ((r : Ref) (x : Told) → was r ≡ Some x → then r ≡ Some x) → ((l : List Ref) → LeavesOf f top l → items ≡ filter (is_between 0 (2 ^ 64 - 1)) l) → at ≡ items → HasPfss f (held_by fields old) was top next known → AreKnown h (held_by fields mid) then top at
known_after fields f h old mid was then top next items at known stands walks touched beside told found same has j r read =
    let l = has.leaves in
    let whole : at ≡ l = same ∙ found l has.has.read ∙ whole_range 0 l has.has.ordered in
    let it = listed_known f (held_by fields old) was top l known has.each j r (subst (λ (z : List Ref). slice_get z j ≡ Some r) whole read) in
    (it.0, it.1, known_stays fields f h old mid was then top r it.0 it.1 (walks_visit f h walks) beside stands told (λ d named. walks_named f h top r.key 0 (2 ^ 64 - 1) d stands walks touched named) it.2)
