-- Names that are known: no block of theirs is bad.
use Rattle.std.specs.Prelude.{◌≡◌, ◌<◌, ◌≤◌, ℕ, Bool, true, List, length, filter, Contains, IsErrAnd, IfErr, Option, Some, Result, Ok, Err}
use Rattle.std.proofs.Common.{sym, ◌∙◌, subst, inl, inr, get_or}
use Rattle.std.proofs.lemmas.Option.{same_Some, slice_get-get_or}
use Rattle.h2_ref.specs.declared.faults.Trouble.{Trouble}
use Rattle.h2_ref.specs.declared.faults.Trouble.TheVariants.{NoMemory}
use Rattle.h2_ref.specs.declared.reference.Dirent.{Dirent}
use Rattle.h2_ref.specs.declared.reference.Ref.{Ref}
use Rattle.h2_set.specs.Forest.{Forest, LeavesOf}
use Rattle.h2_set.specs.Calls.{IsBad}
use Rattle.h2_inode.specs.Nodes.{Fields, Told}
use Rattle.h2_inode.specs.Loaded.{at_root, loaded_nodes, no_content}
use Rattle.h2_inode.specs.Directory.{Entries}
use Rattle.h2_dir.specs.Names.{IsEntryNamed, AllNamed}
use Rattle.h2_dir.specs.Finding.{HoldsEntries}
use Rattle.h2_inode.specs.FoundLaws.{entry_of_leaf}
use Rattle.h2_dir.proofs.Members.{at_place, has_place, kept}
use Rattle.h2_dir.proofs.Agreeing.{one_named}
use Rattle.h2_dir.proofs.Unchanging.{named_stays}

-- a name that stands in its entry needs no block, and one that is told has a good one
pub no_bad_name : (f : Forest) (leaf : Ref) (entry : Dirent) (own : List ℕ) (e : Trouble) → leaf.dirent ≡ Some entry → (entry.len ≤ 64 → e ≡ NoMemory) → ((name : List ℕ) → f.name leaf ≡ Some name → IsBad e → ⊥) → IsEntryNamed f leaf own → IsBad e → ⊥
no_bad_name f leaf entry own e is short long named bad =
    let same : named.entry ≡ entry = same_Some named.entry entry (sym named.entry_is ∙ is) in
    elim named.name_is [
      | inl here ↦ subst IsBad (short (subst (λ (d : Dirent). d.len ≤ 64) same here.0)) bad
      | inr told ↦ long own told.1 bad
    ]

-- one of the leaves
pub named_at : (f g : Forest) (xs : List Ref) (i : ℕ) (d : Ref) → ((r : Ref) → g.name r ≡ f.name r) → i < length xs → AllNamed f xs → (own : List ℕ) × IsEntryNamed g (get_or xs i d) own
named_at f g xs i d names lt all = let own = all i (get_or xs i d) (slice_get-get_or xs i d lt) in (own.0, named_stays f g (get_or xs i d) own.0 names own.1)

-- some of the leaves
pub named_kept : (f g : Forest) (p : Ref → Bool) (l items : List Ref) → ((r : Ref) → g.name r ≡ f.name r) → items ≡ filter p l → AllNamed f l → AllNamed g items
named_kept f g p l items names is all i leaf read =
    let at : Contains (filter p l) leaf = subst (λ v. Contains v leaf) is (at_place items i leaf read) in
    let there = has_place l leaf (kept p l leaf at).0 in
    let own = all there.0 leaf there.1 in
    (own.0, named_stays f g leaf own.0 names own.1)

-- those of a directory that is known to hold entries
pub entries_named : (f : Forest) (holds : ℕ → Option Fields) (tells : Ref → Option Told) (may : ℕ → ℕ → Bool) (dir size : ℕ) (entries : Entries) (h : HoldsEntries f holds tells may dir size entries) → AllNamed f h.leaves
entries_named f holds tells may dir size entries h i leaf read =
    let g = entry_of_leaf (loaded_nodes f holds tells no_content) (λ target number. may target number ≡ true) (at_root dir) size entries h leaf (at_place h.leaves i leaf read) in
    ((g.0).0, one_named f holds tells may dir size entries h leaf g.0 g.1)

-- a search among some of the leaves meets no bad block, where none is met at leaves whose names are known
pub no_bad_search : (f g : Forest) (p : Ref → Bool) (items xs : List Ref) (dir : ℕ) (e : Trouble) → ((r : Ref) → g.name r ≡ f.name r) → xs ≡ items → ((l : List Ref) → LeavesOf f dir l → items ≡ filter p l) → (AllNamed g xs → IsBad e → ⊥)
    → (l : List Ref) → LeavesOf f dir l → AllNamed f l → IsBad e → ⊥
no_bad_search f g p items xs dir e names same is good l has named = good (subst (λ ys. AllNamed g ys) (sym same) (named_kept f g p l items names (is l has) named))

-- a trouble that is handed on
pub carried_err : {X : Type 0} (P : Trouble → Type 0) (result : Result X Trouble) (e : Trouble) → IsErrAnd result (λ why. why ≡ e) → P e → IfErr result P
carried_err P (Ok x) e is p = absurd is
carried_err P (Err why) e is p = subst P (sym is) p
