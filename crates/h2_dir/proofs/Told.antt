-- Where the tree of a directory stands for entries, what is listed of its leaves is the entries.
use Rattle.std.specs.Prelude.{◌≡◌, ◌<◌, ◌≤◌, ◌⊎◌, ℕ, ◌-◌, ◌/◌, ◌^◌, Bool, true, cond, List, [], ◌∷◌, length, filter, Contains, Option, IsPermutation, IsSorted, refl}
use Rattle.std.proofs.Common.{ap, sym, ◌∙◌, arith, inl, inr, subst, get_or}
use Rattle.std.proofs.lemmas.Option.{slice_get-get_or}
use Rattle.std.specs.FinMap.{entries}
use Rattle.h2_ref.specs.declared.reference.Ref.{Ref}
use Rattle.h2_ref.specs.declared.faults.Trouble.{Trouble}
use Rattle.h2_ref.specs.declared.faults.Trouble.TheVariants.{NoMemory}
use Rattle.h2_set.specs.Forest.{Forest, LeavesOf}
use Rattle.h2_tree.specs.Changes.{is_between, Lists, RangeUnloaded}
use Rattle.h2_dirkey.specs.Key.{upper_bits}
use Rattle.h2_dirkey.specs.KeyLaws.{upper_bits-low, upper_bits-high}
use Rattle.h2_inode.specs.Nodes.{Fields, Told}
use Rattle.h2_inode.specs.Access.{OneByOne}
use Rattle.h2_inode.specs.Loaded.{at_root, loaded_nodes, no_content}
use Rattle.h2_inode.specs.Directory.{Entries, IsEntry}
use Rattle.h2_inode.specs.ListLaws.{one_list}
use Rattle.h2_dir.specs.Finding.{HoldsEntries}
use Rattle.h2_dir.specs.Listing.{SaysEntry, HasLongName, AnyLongName, ListMayLoad, by_name, entries_of}
use Rattle.h2_dir.proofs.Agreeing.{between, one_named, told_once}
use Rattle.h2_inode.specs.FoundLaws.{held_in, exact_names, names_total}
use Rattle.h2_dir.proofs.Members.{first, behind}
use Rattle.h2_dir.proofs.Ordered.{in_order}

all_pass : {X : Type 0} (p : X → Bool) (xs : List X) → ((x : X) → Contains xs x → p x ≡ true) → filter p xs ≡ xs
all_pass p [] h = refl
all_pass p (x ∷ xs) h = ap (λ b. cond b (x ∷ filter p xs) (filter p xs)) (h x (first x xs)) ∙ ap (λ l. x ∷ l) (all_pass p xs (λ y at. h y (behind x xs y at)))

module _ (f : Forest) (holds : ℕ → Option Fields) (tells : Ref → Option Told) (may : ℕ → ℕ → Bool) (dir size : ℕ) (es : Entries) (h : HoldsEntries f holds tells may dir size es) where
  abbrev One : Ref → List ℕ × ℕ → Type 0
  One leaf named = IsEntry (loaded_nodes f holds tells no_content) (λ target number. may target number ≡ true) (at_root dir) leaf named

  one_key : (leaf : Ref) (named : List ℕ × ℕ) → One leaf named → is_between (2 ^ 63) (2 ^ 64 - 1) leaf ≡ true
  one_key leaf named one =
      let upper : leaf.key / 2 ^ 15 ≡ upper_bits named.0 = (one.under).upper in
      let least : 2 ^ 48 ≤ upper_bits named.0 = upper_bits-low named.0 in
      let most : upper_bits named.0 < 2 ^ 49 = upper_bits-high named.0 in
      let low : 2 ^ 63 ≤ leaf.key = omega arith in
      let high : leaf.key ≤ 2 ^ 64 - 1 = omega arith in
      between (2 ^ 63) (2 ^ 64 - 1) leaf low high

  same_entry : (leaf : Ref) (x y : List ℕ × ℕ) → SaysEntry f leaf x → One leaf y → y ≡ x
  same_entry leaf x y says one =
      let name : y.0 ≡ x.0 = told_once f holds tells may dir size es h leaf x.0 y.0 (one_named f holds tells may dir size es h leaf y one) says.name in
      let number : y.1 ≡ x.1 = one.number_is ∙ sym (says.number one.entry one.entry_is) in
      λ i. (name i, number i)

  -- what is listed is the entries in byte order
  pub lists_entries : (items : List Ref) (named sorted : List (List ℕ × ℕ)) → ((l : List Ref) → LeavesOf f dir l → items ≡ filter (is_between (2 ^ 63) (2 ^ 64 - 1)) l)
      → OneByOne (SaysEntry f) items named → IsPermutation named sorted → IsSorted by_name sorted → sorted ≡ entries_of es
  lists_entries items named sorted told each same rises =
      let all = all_pass (is_between (2 ^ 63) (2 ^ 64 - 1)) h.leaves (λ leaf at. let g = held_in names_total exact_names One h.leaves h.named h.each h.differ leaf at in one_key leaf g.0 g.1) in
      let leaves : items ≡ h.leaves = told h.leaves h.has.read ∙ all in
      let is : h.named ≡ named = one_list (SaysEntry f) One same_entry h.leaves named h.named (subst (λ (l : List Ref). OneByOne (SaysEntry f) l named) leaves each) h.each in
      in_order h.named sorted (subst (λ (l : List (List ℕ × ℕ)). IsPermutation l sorted) (sym is) same) h.differ rises ∙ ap entries (sym h.entries_are)

pub any_long : (xs : List Ref) (i : ℕ) (d : Ref) (e : Trouble) → i < length xs → (e ≡ NoMemory) ⊎ HasLongName (get_or xs i d) → (e ≡ NoMemory) ⊎ AnyLongName xs
any_long xs i d e lt (inl none) = inl none
any_long xs i d e lt (inr long) = inr (record { place = i; leaf = get_or xs i d; read = slice_get-get_or xs i d lt; long = long })

pub long_loads : (f g : Forest) (dir from to : ℕ) (l : List Ref) (e : Trouble) → Lists g dir from to l → (e ≡ NoMemory) ⊎ AnyLongName l → ListMayLoad f g dir e
long_loads f g dir from to l e lists (inl none) = inl none
long_loads f g dir from to l e lists (inr any) = inr (inr (any.leaf, (lists.each any.place any.leaf any.read).1, any.long))

pub range_loads : (f g : Forest) (dir : ℕ) (e : Trouble) → (e ≡ NoMemory) ⊎ RangeUnloaded f (2 ^ 63) (2 ^ 64 - 1) dir → ListMayLoad f g dir e
range_loads f g dir e (inl none) = inl none
range_loads f g dir e (inr un) = inr (inl un)
