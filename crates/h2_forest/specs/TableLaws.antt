-- Laws of tables.
use Rattle.std.specs.Prelude.{◌≡◌, ℕ, List, Option, Some, None, Result, Ok, Err, OnOk, OnErr, IsSome, cond, refl, Bool, true, false}
use Rattle.std.specs.Ordering.{eq_by_cmp}
use Rattle.std.specs.Ordering.{nat_cmp}
use Rattle.std.specs.Cmp.{nat_cmp_total, eq_by_cmp_equiv}
use Rattle.std.specs.FinMap.{get, insert, remove, get-insert, nat_cmp-IsAntisymmetric, slice_cmp-IsAntisymmetric}
use Rattle.std.specs.Cmp.Lexicographic.{nat_list_cmp_total}
use Rattle.std.proofs.Common.{ap, sym, ◌∙◌, subst}
use Rattle.h2_maps.specs.Maps.{insert_twice, insert_same, remove_inserted}
use Rattle.h2_forest.specs.Node.{Entries}
use Rattle.h2_forest.specs.Table.{Table, entries_of, entries_at, changed_entries, changed_node, entered, left, looked_up}
use Rattle.h2_forest.specs.declared.table.Node.{Node}
use Rattle.h2_forest.specs.declared.table.Node.TheVariants.{File, Directory}

pub on_ok : {A E P Q : Type 0} (r : Result A E) → (P → Q) → OnOk r P → OnOk r Q
on_ok (Ok x) f p = f p
on_ok (Err e) f p = p

pub on_err : {A E P Q : Type 0} (r : Result A E) → (P → Q) → OnErr r P → OnErr r Q
on_err (Ok x) f p = p
on_err (Err e) f p = f p

-- an inode that stood aside while another one had its place
pub put_back : (t aside after : Table) (n : ℕ) (x y : Node) → aside ≡ insert t n x → after ≡ insert aside n y → after ≡ insert t n y
put_back t aside after n x y first second = second ∙ ap (λ m. insert m n y) first ∙ insert_twice nat_cmp_total nat_cmp-IsAntisymmetric t n x y

pub back_as_it_was : (t aside after : Table) (n : ℕ) (x y z : Node) → aside ≡ insert t n x → after ≡ insert aside n y → get t n ≡ Some z → z ≡ y → after ≡ t
back_as_it_was t aside after n x y z first second had is = put_back t aside after n x y first second ∙ insert_same nat_cmp_total nat_cmp-IsAntisymmetric t n y (had ∙ ap Some is)

pub has_inserted : (t aside : Table) (n : ℕ) (x : Node) → aside ≡ insert t n x → get aside n ≡ Some x
has_inserted t aside n x e = ap (λ m. get m n) e ∙ get-insert nat_cmp_total t n x n ∙ ap (λ b. cond b (Some x) (get t n)) ((eq_by_cmp_equiv nat_cmp_total).refl n)

-- what a change of the entries of a directory makes
pub changed_directory : (t : Table) (n : ℕ) (x : Node) (entries : Entries) (f : Entries → Entries) → get t n ≡ Some x → x ≡ Directory entries → changed_entries t n (entries_at t n) f ≡ insert t n (Directory (f entries))
changed_directory t n x entries f had is = ap (λ o. changed_entries t n (entries_of o) f) (had ∙ ap Some is)

some_of : (o : Option Node) → IsSome (entries_of o) → IsSome o
some_of (Some x) h = refl
some_of None h = h

-- an inode whose entries are known stands in the table
pub stands : (t : Table) (n : ℕ) → IsSome (entries_at t n) → IsSome (get t n)
stands t n h = some_of (get t n) h

pub none_here : (o : Option Node) → o ≡ None → IsSome o → ⊥
none_here None e h = cc
none_here (Some x) e h = cc

none_there : false ≡ true → ⊥
none_there e = cc

directory_by : (o p : Option Node) → p ≡ o → IsSome (entries_of o) → (entries : Entries) × (p ≡ Some (Directory entries))
directory_by (Some (Directory entries)) p e h = (entries, e)
directory_by (Some (File bytes links)) p e h = absurd (none_there h)
directory_by None p e h = absurd (none_there h)

-- what is known of an inode whose entries are known
pub directory_at : (t : Table) (n : ℕ) → IsSome (entries_at t n) → (entries : Entries) × (get t n ≡ Some (Directory entries))
directory_at t n h = directory_by (get t n) (get t n) refl h

entered_is : (t : Table) (n : ℕ) (name : List ℕ) (k : ℕ) (entries : Entries) → get t n ≡ Some (Directory entries) → entered t n name k ≡ insert t n (Directory (insert entries name k))
entered_is t n name k entries had = changed_directory t n (Directory entries) entries (λ es. insert es name k) had refl

entries_entered : (t : Table) (n : ℕ) (name : List ℕ) (k : ℕ) (entries : Entries) → get t n ≡ Some (Directory entries) → get (entered t n name k) n ≡ Some (Directory (insert entries name k))
entries_entered t n name k entries had = has_inserted t (entered t n name k) n (Directory (insert entries name k)) (entered_is t n name k entries had)

-- a directory is one after a name is entered
pub still_directory : (t : Table) (n : ℕ) (name : List ℕ) (k : ℕ) → IsSome (entries_at t n) → IsSome (entries_at (entered t n name k) n)
still_directory t n name k h = let d = directory_at t n h in subst (λ o. IsSome (entries_of o)) (sym (entries_entered t n name k d.0 d.1)) refl

-- a new name that is entered and taken out again
pub undone : (t : Table) (n : ℕ) (name : List ℕ) (k : ℕ) → IsSome (entries_at t n) → ((entries : Entries) → entries_at t n ≡ Some entries → get entries name ≡ None) → left (entered t n name k) n name ≡ t
undone t n name k h absent =
    let d = directory_at t n h in
    changed_directory (entered t n name k) n (Directory (insert d.0 name k)) (insert d.0 name k) (λ es. remove es name) (entries_entered t n name k d.0 d.1) refl
    ∙ ap (λ m. insert m n (Directory (remove (insert d.0 name k) name))) (entered_is t n name k d.0 d.1)
    ∙ insert_twice nat_cmp_total nat_cmp-IsAntisymmetric t n _ _
    ∙ ap (λ es. insert t n (Directory es)) (remove_inserted nat_list_cmp_total (slice_cmp-IsAntisymmetric nat_cmp-IsAntisymmetric) d.0 name k (absent d.0 (ap entries_of d.1)))
    ∙ insert_same nat_cmp_total nat_cmp-IsAntisymmetric t n (Directory d.0) d.1

-- what a change of an inode makes
pub changed_is : (t : Table) (n : ℕ) (x : Node) (f : Node → Node) → get t n ≡ Some x → changed_node t n (get t n) f ≡ insert t n (f x)
changed_is t n x f had = ap (λ o. changed_node t n o f) had

pub undone_copy : (t : Table) (n : ℕ) (name copy : List ℕ) (k : ℕ) → copy ≡ name → IsSome (entries_at t n) → ((entries : Entries) → entries_at t n ≡ Some entries → get entries name ≡ None) → left (entered t n copy k) n name ≡ t
undone_copy t n name copy k e h absent = ap (λ x. left (entered t n x k) n name) e ∙ undone t n name k h absent

-- an inode in which a name was looked up with success has entries
pub has_looked : (o : Option Entries) (name : List ℕ) (n : ℕ) → looked_up o name ≡ Ok n → IsSome o
has_looked (Some entries) name n e = refl
has_looked None name n e = absurd (cc)

either_way : (b : Bool) (x : Node) (o : Option Node) → IsSome (entries_of (Some x)) → IsSome (entries_of o) → IsSome (entries_of (cond b (Some x) o))
either_way true x o g h = g
either_way false x o g h = h

some_inserted : (t : Table) (dir n : ℕ) (entries : Entries) → IsSome (entries_at t n) → IsSome (entries_at (insert t dir (Directory entries)) n)
some_inserted t dir n entries h = subst (λ o. IsSome (entries_of o)) (sym (get-insert nat_cmp_total t dir (Directory entries) n)) (either_way (eq_by_cmp nat_cmp n dir) (Directory entries) (get t n) refl h)

-- each directory is one after a name is entered somewhere
pub directories_stay : (t : Table) (dir : ℕ) (name : List ℕ) (k n : ℕ) → IsSome (entries_at t dir) → IsSome (entries_at t n) → IsSome (entries_at (entered t dir name k) n)
directories_stay t dir name k n here h = let d = directory_at t dir here in subst (λ m. IsSome (entries_at m n)) (sym (entered_is t dir name k d.0 d.1)) (some_inserted t dir n (insert d.0 name k) h)
