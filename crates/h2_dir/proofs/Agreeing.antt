-- What a search among the leaves of a name found agrees with the entries of the directory.
use Rattle.std.specs.Prelude.{◌≡◌, ◌≤◌, ℕ, ◌/◌, ◌^◌, Bool, true, List, take, Contains, Option, Some, None, slice_get, filter, refl}
use Rattle.std.proofs.Common.{ap, sym, ◌∙◌, arith, inl, inr, subst}
use Rattle.std.proofs.lemmas.Option.{same_Some}
use Rattle.std.specs.FinMap.{get}
use Rattle.h2_ref.specs.declared.reference.Dirent.{Dirent}
use Rattle.h2_ref.specs.declared.reference.Ref.{Ref}
use Rattle.h2_set.specs.Forest.{Forest, LeavesOf}
use Rattle.h2_tree.specs.Changes.{is_between}
use Rattle.h2_dirkey.specs.Key.{upper_bits, least_key, IsNameUnder}
use Rattle.h2_inode.specs.Nodes.{Fields, Told}
use Rattle.h2_inode.specs.Loaded.{at_root, loaded_nodes, no_content}
use Rattle.h2_inode.specs.Directory.{Entries, IsEntry}
use Rattle.h2_dir.specs.Names.{IsEntryNamed, MayBeNamed, NoneNamed}
use Rattle.h2_dir.specs.Finding.{HoldsEntries, last_key}
use Rattle.h2_dir.proofs.Members.{at_place, has_place, kept, keeps}
use Rattle.std.proofs.lemmas.Bool.Decides.{nat_tests}
use Rattle.h2_inode.specs.FoundLaws.{held_in, held_by, exact_names, names_total}

pub between : (low high : ℕ) (leaf : Ref) → low ≤ leaf.key → leaf.key ≤ high → is_between low high leaf ≡ true
between low high leaf from to = grind (arith, nat_tests)

-- a key with the upper bits of a name's keys lies among them
pub key_between : (name : List ℕ) (leaf : Ref) → IsNameUnder leaf.key name → is_between (least_key name) (last_key name) leaf ≡ true
key_between name leaf under =
    let upper : leaf.key / 2 ^ 15 ≡ upper_bits name = under.upper in
    let low : least_key name ≤ leaf.key = omega arith in
    let high : leaf.key ≤ last_key name = omega arith in
    between (least_key name) (last_key name) leaf low high

module _ (f : Forest) (holds : ℕ → Option Fields) (tells : Ref → Option Told) (may : ℕ → ℕ → Bool) (dir size : ℕ) (entries : Entries) (h : HoldsEntries f holds tells may dir size entries) where
  abbrev IsOne : Ref → List ℕ × ℕ → Type 0
  IsOne leaf named = IsEntry (loaded_nodes f holds tells no_content) (λ target number. may target number ≡ true) (at_root dir) leaf named

  -- an entry of the directory is told
  pub one_named : (leaf : Ref) (named : List ℕ × ℕ) → IsOne leaf named → IsEntryNamed f leaf named.0
  one_named leaf named one = record { entry = one.entry; entry_is = one.entry_is; length_is = one.length_is; name_is = one.name_is }

  -- a leaf that may have another name than it is told doesn't
  pub told_once : (leaf : Ref) (name other : List ℕ) → IsEntryNamed f leaf other → MayBeNamed f leaf name → other ≡ name
  told_once leaf name other is maybe =
      let e : maybe.entry ≡ is.entry = same_Some maybe.entry is.entry (sym maybe.entry_is ∙ is.entry_is) in
      elim is.name_is [
        | inl short ↦ short.1 ∙ sym (subst (λ (d : Dirent). name ≡ take d.len d.name) e (maybe.short (subst (λ (d : Dirent). d.len ≤ 64) (sym e) short.0)))
        | inr long ↦ maybe.long other (subst (λ (d : Dirent). 65 ≤ d.len) (sym e) long.0) long.1
      ]

  pub found_agrees : (name : List ℕ) (leaf : Ref) (entry : Dirent) → Contains h.leaves leaf → MayBeNamed f leaf name → leaf.dirent ≡ Some entry → get entries name ≡ Some entry.number
  found_agrees name leaf entry at maybe is =
      let g = held_in names_total exact_names IsOne h.leaves h.named h.each h.differ leaf at in
      let one = g.1 in
      let same : one.entry ≡ entry = same_Some one.entry entry (sym one.entry_is ∙ is) in
      let name_is : (g.0).0 ≡ name = told_once leaf name (g.0).0 (one_named leaf g.0 one) maybe in
      subst (λ n. get entries n ≡ Some entry.number) name_is (ap (λ m. get m (g.0).0) h.entries_are ∙ g.2 ∙ ap Some (one.number_is ∙ ap (λ (d : Dirent). d.number) same))

  missing_cases : (name : List ℕ) → ((leaf : Ref) → Contains h.leaves leaf → IsNameUnder leaf.key name → IsEntryNamed f leaf name → ⊥) → (o : Option ℕ) → get entries name ≡ o → get entries name ≡ None
  missing_cases name none None e = e
  missing_cases name none (Some number) e =
      let g = held_by names_total exact_names IsOne h.leaves h.named h.each name number (sym (ap (λ m. get m name) h.entries_are) ∙ e) in
      absurd (none g.0 g.1 (g.2).under (one_named g.0 (name, number) g.2))

  pub missing_agrees : (name : List ℕ) → ((leaf : Ref) → Contains h.leaves leaf → IsNameUnder leaf.key name → IsEntryNamed f leaf name → ⊥) → get entries name ≡ None
  missing_agrees name none = missing_cases name none (get entries name) refl

  -- among the leaves under the keys of the name
  pub found_between : (name : List ℕ) (items : List Ref) (i : ℕ) (leaf : Ref) (entry : Dirent) → ((l : List Ref) → LeavesOf f dir l → items ≡ filter (is_between (least_key name) (last_key name)) l)
      → slice_get items i ≡ Some leaf → MayBeNamed f leaf name → leaf.dirent ≡ Some entry → get entries name ≡ Some entry.number
  found_between name items i leaf entry told read maybe is =
      let at : Contains (filter (is_between (least_key name) (last_key name)) h.leaves) leaf = subst (λ v. Contains v leaf) (told h.leaves h.has.read) (at_place items i leaf read) in
      found_agrees name leaf entry (kept (is_between (least_key name) (last_key name)) h.leaves leaf at).0 maybe is

  pub missing_between : (name : List ℕ) (items : List Ref) → ((l : List Ref) → LeavesOf f dir l → items ≡ filter (is_between (least_key name) (last_key name)) l)
      → NoneNamed f items name → get entries name ≡ None
  missing_between name items told none = missing_agrees name (λ leaf at under named.
      let there = has_place items leaf (subst (λ v. Contains v leaf) (sym (told h.leaves h.has.read)) (keeps (is_between (least_key name) (last_key name)) h.leaves leaf (key_between name leaf under) at)) in
      none there.0 leaf there.1 named)
