-- A table with two names of one file is a file tree where the file has two links.
use Rattle.std.specs.Prelude.{◌≡◌, ◌≢◌, ◌⊎◌, ℕ, ◌<◌, List, [], ◌∷◌, length, map, sum, count_by, nat_eq, cond, Bool, true, false, Option, Some, None, Ok, IsSome, refl}
use Rattle.std.specs.Ordering.{nat_cmp, eq_by_cmp}
use Rattle.std.specs.Cmp.{nat_cmp_total}
use Rattle.std.specs.Cmp.Lexicographic.{slice_cmp, nat_list_cmp_total}
use Rattle.std.specs.FinMap.{get, entries, insert, empty, put, find, entries-insert, get-entries, len-entries, len-empty, nat_cmp-IsAntisymmetric}
use Rattle.std.proofs.Common.{ap, sym, ◌∙◌, subst, arith, inl, inr}
use Rattle.h2_forest.specs.declared.table.Node.{Node}
use Rattle.h2_forest.specs.declared.table.Node.TheVariants.{File, Directory}
use Rattle.h2_forest.specs.Node.{Entries}
use Rattle.h2_forest.specs.Table.{entries_of}
use Rattle.h2_consistent.specs.FileTree.{names_in, names_of, IsReached, IsFileTree}
use Rattle.h2_consistent.specs.Example.{two_entries, two_names}
use Rattle.h2_consistent.proofs.Entries.{number_in}
use Rattle.h2_consistent.proofs.Counting.{same_number}
use Rattle.h2_consistent.proofs.Lookups.{told_apart}
use Rattle.h2_consistent.proofs.Names.{looked_entry}

pub no_items : {X : Type 0} (xs : List X) → length xs ≡ 0 → xs ≡ []
no_items [] e = refl
no_items (x ∷ xs) e = absurd (omega arith)

-- what stands in the directory and in the table
pub two_listed : entries two_entries ≡ (97 ∷ [], 2) ∷ (98 ∷ [], 2) ∷ []
two_listed =
    entries-insert nat_list_cmp_total (insert empty (97 ∷ []) 2) (98 ∷ []) 2
    ∙ ap (put (slice_cmp nat_cmp) (98 ∷ []) 2) (entries-insert nat_list_cmp_total empty (97 ∷ []) 2 ∙ ap (put (slice_cmp nat_cmp) (97 ∷ []) 2) (no_items (entries empty) (sym (len-entries empty) ∙ len-empty (slice_cmp nat_cmp) ℕ)))

module _ (links : ℕ) where
  table_listed : entries (two_names links) ≡ (1, Directory two_entries) ∷ (2, File [] links) ∷ []
  table_listed =
      entries-insert nat_cmp_total (insert empty 1 (Directory two_entries)) 2 (File [] links)
      ∙ ap (put nat_cmp 2 (File [] links)) (entries-insert nat_cmp_total empty 1 (Directory two_entries) ∙ ap (put nat_cmp 1 (Directory two_entries)) (no_items (entries empty) (sym (len-entries empty) ∙ len-empty nat_cmp Node)))

  stands_at : (n : ℕ) → get (two_names links) n ≡ find nat_cmp n ((1, Directory two_entries) ∷ (2, File [] links) ∷ [])
  stands_at n = get-entries (two_names links) n ∙ ap (find nat_cmp n) table_listed

  counted : (n : ℕ)
      → names_of (two_names links) n ≡ sum (count_by (λ (e : List ℕ × ℕ). nat_eq e.1 n) ((97 ∷ [], 2) ∷ (98 ∷ [], 2) ∷ []) ∷ 0 ∷ [])
  counted n =
      ap (λ es. sum (map (λ (e : ℕ × Node). names_in n e.1) es)) table_listed
      ∙ ap (λ es. sum (count_by (λ (e : List ℕ × ℕ). nat_eq e.1 n) es ∷ 0 ∷ [])) two_listed

  none_node : (x : Node) → None ≡ Some x → ⊥
  none_node x e = cc

  same_node : (x y : Node) → Some x ≡ Some y → x ≡ y
  same_node x y e = cc

  -- there are two inodes
  which : (n : ℕ) (x : Node) → get (two_names links) n ≡ Some x
      → ((n ≡ 1) × (Directory two_entries ≡ x)) ⊎ ((n ≡ 2) × (File [] links ≡ x))
  which n x is = by (same_number n 1) (same_number n 2)
    where
      at : find nat_cmp n ((1, Directory two_entries) ∷ (2, File [] links) ∷ []) ≡ Some x
      at = sym (stands_at n) ∙ is

      apart : (k : ℕ) → n ≢ k → eq_by_cmp nat_cmp n k ≡ false
      apart k d = told_apart nat_cmp_total nat_cmp-IsAntisymmetric n k d

      by : ((n ≡ 1) ⊎ (n ≢ 1)) → ((n ≡ 2) ⊎ (n ≢ 2))
          → ((n ≡ 1) × (Directory two_entries ≡ x)) ⊎ ((n ≡ 2) × (File [] links ≡ x))
      by (inl s) other = inl (s, same_node (Directory two_entries) x (sym (ap (λ m. find nat_cmp m ((1, Directory two_entries) ∷ (2, File [] links) ∷ [])) s) ∙ at))
      by (inr d) (inl s) = inr (s, same_node (File [] links) x (sym (ap (λ m. find nat_cmp m ((1, Directory two_entries) ∷ (2, File [] links) ∷ [])) s) ∙ at))
      by (inr d) (inr off) = absurd (none_node x (sym (ap (λ b. cond b (Some (Directory two_entries)) (cond (eq_by_cmp nat_cmp n 2) (Some (File [] links)) None)) (apart 1 d) ∙ ap (λ b. cond b (Some (File [] links)) None) (apart 2 off)) ∙ at))

-- both names are of number 2
named_two : (o : Option ℕ) (a b : Bool) → cond a (Some 2) (cond b (Some 2) None) ≡ o → (number : ℕ)
    → o ≡ Some number → number ≡ 2
named_two o true b e number is = let same : Some 2 ≡ Some number = e ∙ is in cc
named_two o false true e number is = let same : Some 2 ≡ Some number = e ∙ is in cc
named_two o false false e number is = let same : None ≡ Some number = e ∙ is in absurd (cc)

a_directory : (o : Option Node) (name : List ℕ) (number : ℕ) → number_in (entries_of o) name ≡ Some number
    → (es : Entries) × ((o ≡ Some (Directory es)) × (get es name ≡ Some number))
a_directory (Some (Directory es)) name number is = (es, (refl, is))
a_directory (Some (File bytes links)) name number is = let e : None ≡ Some number = is in absurd (cc)
a_directory None name number is = let e : None ≡ Some number = is in absurd (cc)

file_no_directory : (bytes : List ℕ) (links : ℕ) (es : Entries) → File bytes links ≡ Directory es → ⊥
file_no_directory bytes links es e = cc

same_entries : (es fs : Entries) → Directory es ≡ Directory fs → es ≡ fs
same_entries es fs e = cc

same_links : (bytes more : List ℕ) (l k : ℕ) → File bytes l ≡ File more k → l ≡ k
same_links bytes more l k e = cc

pub two_links_tree : IsFileTree 3 (two_names 2)
two_links_tree = record {
  root = subst (λ o. IsSome (entries_of o)) (sym (stands_at 2 1)) refl;
  root_unnamed = counted 2 1;
  named = λ dir number name at. named dir number name (a_directory (get (two_names 2) dir) name number (looked_entry (two_names 2) dir name number at));
  links_are = λ number links bytes is. links_are number links bytes (which 2 number (File bytes links) is);
  once = λ number es is other. once number es other (which 2 number (Directory es) is);
  reached = λ number es is. reached number es (which 2 number (Directory es) is);
  below = λ number is. below number (some_at (get (two_names 2) number) is);
}
  where
    two_at : (name : List ℕ) (number : ℕ) → get two_entries name ≡ Some number → number ≡ 2
    two_at name number is = named_two (get two_entries name) (eq_by_cmp (slice_cmp nat_cmp) name (97 ∷ [])) (eq_by_cmp (slice_cmp nat_cmp) name (98 ∷ [])) (sym (get-entries two_entries name ∙ ap (find (slice_cmp nat_cmp) name) two_listed)) number is

    file_there : IsSome (get (two_names 2) 2)
    file_there = subst IsSome (sym (stands_at 2 2)) refl

    named : (dir number : ℕ) (name : List ℕ)
        → ((es : Entries) × ((get (two_names 2) dir ≡ Some (Directory es)) × (get es name ≡ Some number)))
        → IsSome (get (two_names 2) number)
    named dir number name is = by (which 2 dir (Directory is.0) is.1.0)
      where
        by : ((dir ≡ 1) × (Directory two_entries ≡ Directory is.0)) ⊎ ((dir ≡ 2) × (File [] 2 ≡ Directory is.0))
            → IsSome (get (two_names 2) number)
        by (inl e) = subst (λ n. IsSome (get (two_names 2) n)) (sym (two_at name number (ap (λ (es : Entries). get es name) (same_entries two_entries is.0 e.1) ∙ is.1.1))) file_there
        by (inr e) = absurd (file_no_directory [] 2 is.0 e.1)

    links_are : (number links : ℕ) (bytes : List ℕ)
        → ((number ≡ 1) × (Directory two_entries ≡ File bytes links)) ⊎ ((number ≡ 2) × (File [] 2 ≡ File bytes links))
        → names_of (two_names 2) number ≡ links
    links_are number links bytes (inl e) = absurd (file_no_directory bytes links two_entries (sym e.1))
    links_are number links bytes (inr e) =
        ap (names_of (two_names 2)) e.0 ∙ counted 2 2 ∙ same_links [] bytes 2 links e.1

    once : (number : ℕ) (es : Entries) → number ≢ 1
        → ((number ≡ 1) × (Directory two_entries ≡ Directory es)) ⊎ ((number ≡ 2) × (File [] 2 ≡ Directory es))
        → names_of (two_names 2) number ≡ 1
    once number es other (inl e) = absurd (other e.0)
    once number es other (inr e) = absurd (file_no_directory [] 2 es e.1)

    reached : (number : ℕ) (es : Entries)
        → ((number ≡ 1) × (Directory two_entries ≡ Directory es)) ⊎ ((number ≡ 2) × (File [] 2 ≡ Directory es))
        → IsReached (two_names 2) number
    reached number es (inl e) = ([], ap Ok (sym e.0))
    reached number es (inr e) = absurd (file_no_directory [] 2 es e.1)

    some_at : (o : Option Node) → IsSome o → (x : Node) × (o ≡ Some x)
    some_at (Some x) h = (x, refl)
    some_at None h = absurd (cc)

    below : (number : ℕ) → ((x : Node) × (get (two_names 2) number ≡ Some x)) → number < 3
    below number is = by (which 2 number is.0 is.1)
      where
        by : ((number ≡ 1) × (Directory two_entries ≡ is.0)) ⊎ ((number ≡ 2) × (File [] 2 ≡ is.0)) → number < 3
        by (inl e) = let one : number ≡ 1 = e.0 in omega arith
        by (inr e) = let two : number ≡ 2 = e.0 in omega arith

-- the links of the file are two
pub links_two : (links next : ℕ) → IsFileTree next (two_names links) → links ≡ 2
links_two links next h = sym (h.links_are 2 links [] (stands_at links 2)) ∙ counted links 2

pub next_above : IsFileTree 2 (two_names 2) → ⊥
next_above h = let lt = h.below 2 (subst IsSome (sym (stands_at 2 2)) refl) in omega arith

-- with fewer or with more links it is none
pub fewer_links : IsFileTree 3 (two_names 1) → ⊥
fewer_links h = apart 1 (links_two 1 3 h) (omega arith)
  where
    apart : (n : ℕ) → n ≡ 2 → n < 2 → ⊥
    apart n e lt = omega arith

pub more_links : IsFileTree 3 (two_names 3) → ⊥
more_links h = apart 3 (links_two 3 3 h) (omega arith)
  where
    apart : (n : ℕ) → n ≡ 2 → 2 < n → ⊥
    apart n e lt = omega arith
