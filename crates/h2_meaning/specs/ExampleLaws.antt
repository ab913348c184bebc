-- What the small readings stand for.
use Rattle.std.specs.Prelude.{◌≡◌, ◌≢◌, ◌<◌, ◌≤◌, ℕ, ◌+◌, ◌-◌, ◌/◌, ◌^◌, Bool, true, false, cond, List, [], ◌∷◌, ◌++◌, length, replicate, slice_index, All, map, sum, count_by, nat_eq, Option, Some, None, IsSome, Result, Ok, Err, if◌then◌else◌, refl}
use Rattle.std.proofs.Common.{ap, sym, ◌∙◌, arith, inl, inr, subst}
use Rattle.std.proofs.lemmas.Option.{none-some}
use Rattle.std.proofs.lemmas.List.{get_or_past, take-append-le, take_all}
use Rattle.std.specs.Ordering.{nat_cmp, eq_by_cmp}
use Rattle.std.specs.Cmp.{nat_cmp_total, Equal-is}
use Rattle.std.specs.Cmp.Lexicographic.{slice_cmp}
use Rattle.std.specs.FinMap.{get, empty, insert, entries, put, len-empty, len-entries, entries-insert, get-insert, get-empty, nat_cmp-IsAntisymmetric}
use Rattle.h2_num.specs.Places.{places}
use Rattle.h2_set.specs.Ranges.{find, holds, limit}
use Rattle.h2_set.specs.LeafLaws.{holds_outside}
use Rattle.h2_dirkey.specs.Name.{IsName}
use Rattle.h2_dirkey.specs.PfsName.{IsPfsName, IsPfsNameByte}
use Rattle.h2_dirkey.specs.Key.{least_key, upper_bits}
use Rattle.h2_dirkey.specs.KeyLaws.{upper_bits-high}
use Rattle.h2_command.specs.declared.reply.Reply.{Reply}
use Rattle.h2_command.specs.declared.reply.Reply.TheVariants.{NoEntry}
use Rattle.h2_forest.specs.Node.{Entries}
use Rattle.h2_forest.specs.declared.table.Node.{Node}
use Rattle.h2_forest.specs.declared.table.Node.TheVariants.{File, Directory}
use Rattle.h2_forest.specs.Table.{entries_of, entries_at, looked_up, found}
use Rattle.h2_forest.specs.TableLaws.{has_looked, directory_at}
use Rattle.h2_forest.specs.Forest.{bare_table, fresh}
use Rattle.h2_inode.specs.Contents.{IsPart, IsContents}
use Rattle.h2_inode.specs.Directory.{IsDirectory}
use Rattle.h2_consistent.specs.FileTree.{names_in, names_of, HasEntry, IsFileTree}
use Rattle.h2_inode.specs.PfsList.{ListedPfs, IsPfs, IsPfsList}
use Rattle.h2_meaning.specs.Forest.{IsTable, IsForest}
use Rattle.h2_inode.specs.Single.{IsSingle}
use Rattle.h2_inode.specs.Following.{Follows}
use Rattle.h2_inode.specs.FollowLaws.{itself_follows}
use Rattle.h2_inode.specs.ListLaws.{all_none, all_cons, pairs_none, pairs_cons}
use Rattle.h2_meaning.specs.Example.{inode_leaf, pfs_inode, listed_root, root_inode, new_volume, unchanged, one_block, content_leaf, entry_leaf, IsSecond}

-- The table with an empty root directory

-- a directory without entries
abbrev pub no_entries : Entries
no_entries = empty

no_items : {X : Type 0} (xs : List X) → length xs ≡ 0 → xs ≡ []
no_items [] e = refl
no_items (x ∷ xs) e = absurd (omega arith)

bare_entries : entries bare_table ≡ (1, Directory no_entries) ∷ []
bare_entries = entries-insert nat_cmp_total empty 1 (Directory no_entries) ∙ ap (put nat_cmp 1 (Directory no_entries)) (no_items (entries empty) (sym (len-entries empty) ∙ len-empty nat_cmp Node))

none_within : entries no_entries ≡ []
none_within = no_items (entries no_entries) (sym (len-entries no_entries) ∙ len-empty (slice_cmp nat_cmp) ℕ)

shown : Option Node → Node → Node
shown None d = d
shown (Some n) d = n

looked : (n : ℕ) (x : Node) (b : Bool) → eq_by_cmp nat_cmp n 1 ≡ b → cond b (Some (Directory no_entries)) None ≡ Some x → (n ≡ 1) × (x ≡ Directory no_entries)
unfolding shown
looked n x true e h = (nat_cmp-IsAntisymmetric n 1 ((Equal-is (nat_cmp n 1)).0 e), ap (λ o. shown o x) (sym h))
looked n x false e h = absurd (none-some x h)

-- there is one inode
only_one : (n : ℕ) (x : Node) → get bare_table n ≡ Some x → (n ≡ 1) × (x ≡ Directory no_entries)
only_one n x h = looked n x (eq_by_cmp nat_cmp n 1) refl (ap (λ o. cond (eq_by_cmp nat_cmp n 1) (Some (Directory no_entries)) o) (sym (get-empty nat_cmp n)) ∙ sym (get-insert nat_cmp_total empty 1 (Directory no_entries) n) ∙ h)

held_entries : Node → Entries → Entries
held_entries (File b n) d = d
held_entries (Directory e) d = e

not_file : (b : List ℕ) (n : ℕ) → File b n ≡ Directory no_entries → ⊥
not_file b n e = absurd (cc)

some_at : (o : Option Node) → IsSome o → (x : Node) × (o ≡ Some x)
some_at (Some x) h = (x, refl)
some_at None h = absurd (cc)

unnamed : (n : ℕ) → names_of bare_table n ≡ 0
unnamed n = ap (λ es. sum (map (λ e. names_in n e.1) es)) bare_entries ∙ ap (λ es. sum (count_by (λ e. nat_eq e.1 n) es ∷ [])) none_within

refused : (number : ℕ) (r : Result ℕ Reply) → r ≡ Err NoEntry → r ≡ Ok number → ⊥
refused number r e f = absurd (cc)

has_no_entry : (dir number : ℕ) (name : List ℕ) → HasEntry bare_table dir name number → ⊥
unfolding held_entries
has_no_entry dir number name h =
    let d = directory_at bare_table dir (has_looked (entries_at bare_table dir) name number h) in
    let same : d.0 ≡ no_entries = ap (λ v. held_entries v no_entries) (only_one dir (Directory d.0) d.1).1 in
    let here : entries_at bare_table dir ≡ Some no_entries = ap entries_of d.1 ∙ ap Some same in
    refused number (looked_up (entries_at bare_table dir) name) (ap (λ o. looked_up o name) here ∙ ap found (get-empty (slice_cmp nat_cmp) name)) h

root_here : get bare_table 1 ≡ Some (Directory no_entries)
root_here = get-insert nat_cmp_total empty 1 (Directory no_entries) 1

pub bare_tree : IsFileTree 2 bare_table
bare_tree = record {
  root = subst (λ o. IsSome (entries_of o)) (sym root_here) refl;
  root_unnamed = unnamed 1;
  named = λ dir number name h. absurd (has_no_entry dir number name h);
  links_are = λ number links bytes h. absurd (not_file bytes links (only_one number (File bytes links) h).1);
  once = λ number es h other. absurd (other (only_one number (Directory es) h).0);
  reached = λ number es h. ([], ap Ok (sym (only_one number (Directory es) h).0));
  below = λ number h. let x = some_at (get bare_table number) h in let e : number ≡ 1 = (only_one number x.0 x.1).0 in omega arith;
}

-- The list of a new volume has one PFS.

root_named : IsPfs new_volume 0 inode_leaf listed_root
root_named = record {
  kind_is = refl;
  inode = pfs_inode;
  tree = 1;
  read = (refl, refl);
  pfs_is = refl;
  numbered = refl;
  id_is = refl;
  name_is = refl;
  next_is = refl;
}

is_letter : (b : ℕ) → 65 ≤ b → b ≤ 90 → IsPfsNameByte b
is_letter b low high = inr (inl (low, high))

pub letters : All IsPfsNameByte listed_root.name
letters =
    all_cons IsPfsNameByte 82 (79 ∷ 79 ∷ 84 ∷ []) (is_letter 82 (omega arith) (omega arith))
    (all_cons IsPfsNameByte 79 (79 ∷ 84 ∷ []) (is_letter 79 (omega arith) (omega arith))
    (all_cons IsPfsNameByte 79 (84 ∷ []) (is_letter 79 (omega arith) (omega arith))
    (all_cons IsPfsNameByte 84 [] (is_letter 84 (omega arith) (omega arith)) (all_none IsPfsNameByte))))

pub new_volume_lists : IsPfsList new_volume 0 2 (listed_root ∷ [])
new_volume_lists = record {
  leaves = inode_leaf ∷ [];
  has = record { read = refl; ordered = (omega arith, omega arith) };
  each = (root_named, tt);
  good = all_cons (λ (p : ListedPfs). IsPfsName p.name) listed_root [] (record { some = omega arith; few = omega arith; bytes = letters }) (all_none (λ (p : ListedPfs). IsPfsName p.name));
  differ = pairs_cons (λ (p q : ListedPfs). p.name ≢ q.name) listed_root [] (all_none (λ (q : ListedPfs). listed_root.name ≢ q.name)) (pairs_none (λ (p q : ListedPfs). p.name ≢ q.name));
  below = all_cons (λ (p : ListedPfs). p.id < 2) listed_root [] (omega arith) (all_none (λ (p : ListedPfs). p.id < 2));
}

-- A new volume stands for the new forest.

root_holds : IsTable new_volume 1 2 bare_table
root_holds = record {
  members = (1, Directory no_entries) ∷ [];
  has = record {
    leaves = inode_leaf ∷ [];
    has = record { read = refl; ordered = (omega arith, omega arith) };
    each = (
      record {
        kind_is = refl;
        inode = root_inode;
        tree = 2;
        read = (refl, refl);
        number_is = refl;
        numbered = refl;
        node_is = record {
          leaves = [];
          has = record { read = refl; ordered = omega arith };
          named = [];
          each = tt;
          differ = pairs_none (λ x y. x.0 ≢ y.0);
          counted = refl;
          entries_are = refl;
        };
      },
      tt,
    );
  };
  table_is = refl;
  whole = bare_tree;
}

pub new_volume_stands : IsForest new_volume 0 2 fresh
unfolding root_named new_volume_lists
new_volume_stands = record {
  list = new_volume_lists;
  each = (record { named = root_named; holds = root_holds }, tt);
  next_is = refl;
  no_handles = refl;
}

-- Files with one block

out_of_range : (k : ℕ) (b : Bool) → holds k content_leaf ≡ b → (if b then Some content_leaf else None) ≡ None → holds k content_leaf ≡ false
out_of_range k true h e = absurd (none-some content_leaf (sym e))
out_of_range k false h e = h

past_the_block : (bytes : List ℕ) → length bytes ≤ 16384 → (k : ℕ) → find k (content_leaf ∷ []) ≡ None → slice_index bytes k ≡ 0
past_the_block bytes few k none = elim (holds_outside k content_leaf (out_of_range k (holds k content_leaf) refl none)) [
  | inl low ↦ absurd (omega (arith, low))
  | inr high ↦ let past : 16384 ≤ k = high in get_or_past bytes k 0 (omega arith)
]

-- Bytes of at most one block stand in a block with zeros behind them.
pub file_stands : (bytes : List ℕ) → 0 < length bytes → length bytes ≤ 16384 → IsContents (one_block bytes) (content_leaf ∷ []) (length bytes) bytes
file_stands bytes some few = record {
  leaves = content_leaf ∷ [];
  has = record { read = refl; ordered = (omega arith, omega arith) };
  parts = all_cons (IsPart (one_block bytes) (content_leaf ∷ []) (length bytes) bytes) content_leaf [] (record {
    kind_is = refl;
    keybits_are = refl;
    aligned = refl;
    below_size = some;
    block = places bytes;
    read = λ k lt. refl;
    bytes_are = λ k lt. let at : k ≡ 0 + k = omega arith in ap (slice_index bytes) at;
  }) (all_none (IsPart (one_block bytes) (content_leaf ∷ []) (length bytes) bytes));
  holes = past_the_block bytes few;
  sized = refl;
}

-- Directories with one entry

key_fits : (name : List ℕ) → limit (entry_leaf name) ≤ 2 ^ 64
key_fits name = let high : upper_bits name < 2 ^ 49 = upper_bits-high name in omega (arith, high)

key_upper : (name : List ℕ) → least_key name / 2 ^ 15 ≡ upper_bits name
key_upper name = omega arith

-- A name of at most 64 bytes stands in its entry.
pub entry_stands : (name : List ℕ) → IsName name → length name ≤ 64 → IsDirectory (one_block []) IsSecond (entry_leaf name ∷ []) 1 (insert empty name 2)
entry_stands name good few = record {
  leaves = entry_leaf name ∷ [];
  has = record { read = refl; ordered = (omega arith, key_fits name) };
  named = (name, 2) ∷ [];
  each = (
    record {
      kind_is = refl;
      entry = record { number = 2; len = length name; target = 1; name = name ++ replicate (64 - length name) 0 };
      entry_is = refl;
      number_is = refl;
      name_is = inl (few, sym (take-append-le (length name) name (replicate (64 - length name) 0) (omega arith) ∙ take_all (length name) name (omega arith)));
      length_is = refl;
      under = record { good = good; upper = key_upper name };
      target_fits = (refl, refl);
    },
    tt,
  );
  differ = pairs_cons (λ (x y : List ℕ × ℕ). x.0 ≢ y.0) (name, 2) [] (all_none (λ (y : List ℕ × ℕ). name ≢ y.0)) (pairs_none (λ (x y : List ℕ × ℕ). x.0 ≢ y.0));
  counted = refl;
  entries_are = refl;
}

-- The reading of a new volume gives one answer at most, and follows itself.

pub new_volume_single : IsSingle new_volume
new_volume_single = record {
  leaves = λ t l m p q. q ∙ sym p;
  inode = λ t r i j c d p q. (q.0 ∙ sym p.0, q.1 ∙ sym p.1);
  name = λ t r n m p q. absurd p;
  content = λ t r x y p q. absurd p;
}

pub unchanged_follows : Follows unchanged
unchanged_follows = itself_follows new_volume
