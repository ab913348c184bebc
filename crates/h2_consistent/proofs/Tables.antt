-- The entries and the kinds of inodes of a table, after each way in which a table changes.
use Rattle.std.specs.Prelude.{◌≡◌, ◌≢◌, ◌⊎◌, ℕ, List, Bool, true, false, not, cond, nat_eq, ◌||◌, Option, Some, None, refl}
use Rattle.std.specs.Cmp.{nat_cmp_total}
use Rattle.std.specs.Cmp.Lexicographic.{slice_cmp, nat_list_cmp_total}
use Rattle.std.specs.Ordering.{nat_cmp}
use Rattle.std.specs.FinMap.{get, insert, remove, len, get-empty, get-retain_keys, empty_of_len, nat_cmp-IsAntisymmetric, slice_cmp-IsAntisymmetric}
use Rattle.std.proofs.Common.{ap, sym, ◌∙◌, subst, inl, inr}
use Rattle.std.proofs.lemmas.Bool.{ne_eqb}
use Rattle.h2_forest.specs.declared.table.Node.{Node}
use Rattle.h2_forest.specs.declared.table.Node.TheVariants.{File, Directory}
use Rattle.h2_forest.specs.Node.{Entries}
use Rattle.h2_forest.specs.Table.{Table, entries_of, entries_at, changed_entries, changed_node, entered, left, links_of, relinked, with_links, with_bytes, rewritten, is_orphan, without_orphans}
use Rattle.h2_consistent.proofs.Entries.{EntryName, number_in, entry_at}
use Rattle.h2_consistent.proofs.Lookups.{inserted_here, inserted_there, removed_here, removed_there}
use Rattle.h2_consistent.proofs.Counting.{same_number, pair_of}
use Rattle.h2_consistent.proofs.Agreeing.{Kind, missing, directory, file, Changed, Turned, Alike, missing_directory, missing_file, file_directory}

abbrev pub kind_of : Option Node → Kind
kind_of (Some (File bytes links)) = file links
kind_of (Some (Directory entries)) = directory
kind_of None = missing

abbrev pub kind_at : Table → ℕ → Kind
kind_at t n = kind_of (get t n)

-- What is known of an inode of a kind

pub directory_of : (o : Option Node) (es : Entries) → entries_of o ≡ Some es → kind_of o ≡ directory
directory_of (Some (Directory entries)) es is = refl
directory_of (Some (File bytes links)) es is = absurd (cc)
directory_of None es is = absurd (cc)

pub entries_there : (o : Option Node) → kind_of o ≡ directory → (es : Entries) × (entries_of o ≡ Some es)
entries_there (Some (Directory entries)) is = (entries, refl)
entries_there (Some (File bytes links)) is = absurd (file_directory links is)
entries_there None is = absurd (missing_directory is)

pub file_of : (o : Option Node) (l : ℕ) → kind_of o ≡ file l → (bytes : List ℕ) × (o ≡ Some (File bytes l))
file_of (Some (Directory entries)) l is = absurd (file_directory l (sym is))
file_of (Some (File bytes links)) l is = (bytes, ap (λ k. Some (File bytes k)) (same_links links l is))
  where
    same_links : (k l : ℕ) → file k ≡ file l → k ≡ l
    same_links k l e = cc
file_of None l is = absurd (missing_file l is)

pub links_there : (o : Option Node) (l : ℕ) → kind_of o ≡ file l → links_of o ≡ l
links_there o l is = ap links_of (file_of o l is).1

-- an inode that isn't a directory has no entries
pub nothing_in : (o : Option Node) (name : List ℕ) → kind_of o ≢ directory → number_in (entries_of o) name ≡ None
nothing_in (Some (Directory entries)) name d = absurd (d refl)
nothing_in (Some (File bytes links)) name d = refl
nothing_in None name d = refl

some_number : (o : Option Node) (name : List ℕ) (n : ℕ) → number_in (entries_of o) name ≡ Some n → kind_of o ≡ directory
some_number (Some (Directory entries)) name n is = refl
some_number (Some (File bytes links)) name n is = absurd (cc)
some_number None name n is = absurd (cc)

-- what has an entry is a directory
pub has_entry : (t : Table) (x : EntryName) (n : ℕ) → entry_at t x ≡ Some n → kind_at t x.0 ≡ directory
has_entry t x n is = some_number (get t x.0) x.1 n is

-- An inode is put into the table

module _ (t : Table) (n : ℕ) (node : Node) where
  put_here : get (insert t n node) n ≡ Some node
  put_here = inserted_here nat_cmp_total nat_cmp-IsAntisymmetric t n node

  put_there : (m : ℕ) → m ≢ n → get (insert t n node) m ≡ get t m
  put_there m d = inserted_there nat_cmp_total nat_cmp-IsAntisymmetric t n node m d

  pub kind_put : Turned (kind_at t) (kind_at (insert t n node)) n (kind_of (Some node))
  kind_put = (ap kind_of put_here, λ m d. ap kind_of (put_there m d))

  -- one with the entries that stood there
  pub entries_put : ((name : List ℕ) → number_in (entries_of (Some node)) name ≡ number_in (entries_at t n) name) → (y : EntryName) → entry_at (insert t n node) y ≡ entry_at t y
  entries_put same y = by (same_number y.0 n)
    where
      by : ((y.0 ≡ n) ⊎ (y.0 ≢ n)) → entry_at (insert t n node) y ≡ entry_at t y
      by (inl s) = ap (λ w. number_in (entries_of w) y.1) (ap (get (insert t n node)) s ∙ put_here) ∙ same y.1 ∙ sym (ap (λ m. number_in (entries_at t m) y.1) s)
      by (inr d) = ap (λ w. number_in (entries_of w) y.1) (put_there y.0 d)

-- A directory has other entries

module _ (t : Table) (dir : ℕ) (es fs : Entries) (is : entries_at t dir ≡ Some es) where
  pub kind_stays : (n : ℕ) → kind_at (insert t dir (Directory fs)) n ≡ kind_at t n
  kind_stays n = by (same_number n dir)
    where
      by : ((n ≡ dir) ⊎ (n ≢ dir)) → kind_at (insert t dir (Directory fs)) n ≡ kind_at t n
      by (inl s) = ap (kind_at (insert t dir (Directory fs))) s ∙ (kind_put t dir (Directory fs)).0 ∙ sym (ap (kind_at t) s ∙ directory_of (get t dir) es is)
      by (inr d) = (kind_put t dir (Directory fs)).1 n d

  pub entry_changes : (name : List ℕ) (o : Option ℕ) → get fs name ≡ o → ((m : List ℕ) → m ≢ name → get fs m ≡ get es m) → Changed (entry_at t) (entry_at (insert t dir (Directory fs))) (dir, name) o
  entry_changes name o at off = (ap (λ w. number_in (entries_of w) name) (put_here t dir (Directory fs)) ∙ at, λ y apart. by y apart (same_number y.0 dir))
    where
      by : (y : EntryName) → y ≢ (dir, name) → ((y.0 ≡ dir) ⊎ (y.0 ≢ dir)) → entry_at (insert t dir (Directory fs)) y ≡ entry_at t y
      by y apart (inl s) =
          ap (λ w. number_in (entries_of w) y.1) (ap (get (insert t dir (Directory fs))) s ∙ put_here t dir (Directory fs))
          ∙ off y.1 (λ e. apart (pair_of y.0 dir y.1 name s e)) ∙ sym (ap (λ w. number_in w y.1) (ap (entries_at t) s ∙ is))
      by y apart (inr d) = ap (λ w. number_in (entries_of w) y.1) (put_there t dir (Directory fs) y.0 d)

-- a name is entered in a directory
module _ (t : Table) (dir : ℕ) (es : Entries) (is : entries_at t dir ≡ Some es) (name : List ℕ) where
  module _ (n : ℕ) where
    entered_is : entered t dir name n ≡ insert t dir (Directory (insert es name n))
    entered_is = ap (λ o. changed_entries t dir o (λ es. insert es name n)) is

    pub kind_entered : (m : ℕ) → kind_at (entered t dir name n) m ≡ kind_at t m
    kind_entered m = ap (λ u. kind_at u m) entered_is ∙ kind_stays t dir es (insert es name n) is m

    pub entry_entered : Changed (entry_at t) (entry_at (entered t dir name n)) (dir, name) (Some n)
    entry_entered = subst (λ u. Changed (entry_at t) (entry_at u) (dir, name) (Some n)) (sym entered_is)
        (entry_changes t dir es (insert es name n) is name (Some n) (inserted_here nat_list_cmp_total (slice_cmp-IsAntisymmetric nat_cmp-IsAntisymmetric) es name n)
        (λ m d. inserted_there nat_list_cmp_total (slice_cmp-IsAntisymmetric nat_cmp-IsAntisymmetric) es name n m d))

  left_is : left t dir name ≡ insert t dir (Directory (remove es name))
  left_is = ap (λ o. changed_entries t dir o (λ es. remove es name)) is

  -- a name is taken out of one
  pub kind_left : (m : ℕ) → kind_at (left t dir name) m ≡ kind_at t m
  kind_left m = ap (λ u. kind_at u m) left_is ∙ kind_stays t dir es (remove es name) is m

  pub entry_left : Changed (entry_at t) (entry_at (left t dir name)) (dir, name) None
  entry_left = subst (λ u. Changed (entry_at t) (entry_at u) (dir, name) None) (sym left_is)
      (entry_changes t dir es (remove es name) is name None (removed_here nat_list_cmp_total (slice_cmp-IsAntisymmetric nat_cmp-IsAntisymmetric) es name)
      (λ m d. removed_there nat_list_cmp_total (slice_cmp-IsAntisymmetric nat_cmp-IsAntisymmetric) es name m d))

-- The other changes

-- a file has other links
module _ (t : Table) (n l links : ℕ) (is : kind_at t n ≡ file l) where
  there : (bytes : List ℕ) × (get t n ≡ Some (File bytes l))
  there = file_of (get t n) l is

  relinked_is : relinked t n links ≡ insert t n (File there.0 links)
  relinked_is = ap (λ o. changed_node t n o (with_links links)) there.1

  pub kind_relinked : Turned (kind_at t) (kind_at (relinked t n links)) n (file links)
  kind_relinked = subst (λ u. Turned (kind_at t) (kind_at u) n (file links)) (sym relinked_is) (kind_put t n (File there.0 links))

  pub entry_relinked : (y : EntryName) → entry_at (relinked t n links) y ≡ entry_at t y
  entry_relinked y = ap (λ u. entry_at u y) relinked_is ∙ entries_put t n (File there.0 links) (λ name. sym (ap (λ w. number_in (entries_of w) name) there.1)) y

-- a file has other bytes
module _ (t : Table) (n : ℕ) (change : List ℕ → List ℕ) where
  pub same_rewritten : ((y : EntryName) → entry_at (rewritten t n change) y ≡ entry_at t y) × ((m : ℕ) → kind_at (rewritten t n change) m ≡ kind_at t m)
  same_rewritten = by (get t n) refl
    where
      Same : Option Node → Type 0
      Same o = ((y : EntryName) → entry_at (changed_node t n o (with_bytes change)) y ≡ entry_at t y) × ((m : ℕ) → kind_at (changed_node t n o (with_bytes change)) m ≡ kind_at t m)

      turned : (node : Node) → kind_of (Some node) ≡ kind_at t n → (m : ℕ) → ((m ≡ n) ⊎ (m ≢ n)) → kind_at (insert t n node) m ≡ kind_at t m
      turned node kinds m (inl s) = ap (kind_at (insert t n node)) s ∙ (kind_put t n node).0 ∙ kinds ∙ sym (ap (kind_at t) s)
      turned node kinds m (inr d) = (kind_put t n node).1 m d

      by : (o : Option Node) → get t n ≡ o → Same o
      by None is = (λ y. refl, λ m. refl)
      by (Some (File bytes links)) is =
          (entries_put t n (File (change bytes) links) (λ name. sym (ap (λ w. number_in (entries_of w) name) is)), λ m. turned (File (change bytes) links) (sym (ap kind_of is)) m (same_number m n))
      by (Some (Directory entries)) is =
          (entries_put t n (Directory entries) (λ name. sym (ap (λ w. number_in (entries_of w) name) is)), λ m. turned (Directory entries) (sym (ap kind_of is)) m (same_number m n))

-- an empty directory goes
module _ (t : Table) (n : ℕ) (es : Entries) (is : entries_at t n ≡ Some es) (bare : len es ≡ 0) where
  pub nothing_there : (name : List ℕ) → number_in (entries_at t n) name ≡ None
  nothing_there name = ap (λ w. number_in w name) (is ∙ ap Some (empty_of_len es bare)) ∙ get-empty (slice_cmp nat_cmp) name

pub kind_removed : (t : Table) (n : ℕ) → Turned (kind_at t) (kind_at (remove t n)) n missing
kind_removed t n = (ap kind_of (removed_here nat_cmp_total nat_cmp-IsAntisymmetric t n), λ m d. ap kind_of (removed_there nat_cmp_total nat_cmp-IsAntisymmetric t n m d))

pub entry_removed : (t : Table) (n : ℕ) → ((name : List ℕ) → number_in (entries_at t n) name ≡ None) → (y : EntryName) → entry_at (remove t n) y ≡ entry_at t y
entry_removed t n bare y = by (same_number y.0 n)
  where
    by : ((y.0 ≡ n) ⊎ (y.0 ≢ n)) → entry_at (remove t n) y ≡ entry_at t y
    by (inl s) = ap (λ w. number_in (entries_of w) y.1) (ap (get (remove t n)) s ∙ removed_here nat_cmp_total nat_cmp-IsAntisymmetric t n) ∙ sym (ap (λ m. number_in (entries_at t m) y.1) s ∙ bare y.1)
    by (inr d) = ap (λ w. number_in (entries_of w) y.1) (removed_there nat_cmp_total nat_cmp-IsAntisymmetric t n y.0 d)

-- files without a link go
module _ (t : Table) (kept : ℕ → Bool) where
  pub thinned : (n : ℕ) → get (without_orphans t kept) n ≡ cond (kept n || not (is_orphan (get t n))) (get t n) None
  thinned n = get-retain_keys t (λ m. kept m || not (is_orphan (get t m))) n (λ x e. ap (λ m. kept m || not (is_orphan (get t m))) (sym (nat_cmp-IsAntisymmetric n x e)))

  alike_by : (b : Bool) (o : Option Node) → Alike (kind_of o) (kind_of (cond (b || not (is_orphan o)) o None))
  alike_by true o = inl refl
  alike_by false None = inl refl
  alike_by false (Some (Directory entries)) = inl refl
  alike_by false (Some (File bytes links)) = by (same_number links 0)
    where
      by : ((links ≡ 0) ⊎ (links ≢ 0)) → Alike (file links) (kind_of (cond (not (nat_eq links 0)) (Some (File bytes links)) None))
      by (inl s) = inr (ap file s, ap (λ l. kind_of (cond (not (nat_eq l 0)) (Some (File bytes links)) None)) s)
      by (inr d) = inl (ap (λ b. kind_of (cond (not b) (Some (File bytes links)) None)) (ne_eqb links 0 d))

  no_entries : (b : Bool) (bytes : List ℕ) (links : ℕ) (name : List ℕ) → number_in (entries_of (cond b (Some (File bytes links)) None)) name ≡ None
  no_entries true bytes links name = refl
  no_entries false bytes links name = refl

  entry_by : (b : Bool) (o : Option Node) (name : List ℕ) → number_in (entries_of (cond (b || not (is_orphan o)) o None)) name ≡ number_in (entries_of o) name
  entry_by true o name = refl
  entry_by false None name = refl
  entry_by false (Some (Directory entries)) name = refl
  entry_by false (Some (File bytes links)) name = no_entries (not (nat_eq links 0)) bytes links name

  pub kind_thinned : (n : ℕ) → Alike (kind_at t n) (kind_at (without_orphans t kept) n)
  kind_thinned n = subst (λ o. Alike (kind_at t n) (kind_of o)) (sym (thinned n)) (alike_by (kept n) (get t n))

  pub entry_thinned : (y : EntryName) → entry_at (without_orphans t kept) y ≡ entry_at t y
  entry_thinned y = ap (λ o. number_in (entries_of o) y.1) (thinned y.0) ∙ entry_by (kept y.0) (get t y.0) y.1
