-- The inodes of a file tree: their entries name no other numbers than those of its inodes.
use Rattle.std.specs.Prelude.{◌≡◌, ◌≢◌, ℕ, List, AllPairs, Contains, Some, Ok, IsSome, refl}
use Rattle.std.proofs.Common.{ap, sym, ◌∙◌, subst}
use Rattle.std.specs.declared.cmp.Ordering.{Ordering}
use Rattle.std.specs.Cmp.{IsTotalOrder, nat_cmp_total}
use Rattle.std.specs.FinMap.{IsAntisymmetric, nat_cmp-IsAntisymmetric, get, from_entries}
use Rattle.h2_ref.specs.declared.reference.Ref.{Ref}
use Rattle.h2_inode.specs.declared.kind.InodeKind.{InodeKind}
use Rattle.h2_inode.specs.declared.kind.InodeKind.TheVariants.{Directory as Directory_kind, File as File_kind, Pfs as Pfs_kind}
use Rattle.h2_inode.specs.declared.inode.Body.{Body}
use Rattle.h2_inode.specs.declared.inode.Body.TheVariants.{Refs, Bytes}
use Rattle.h2_inode.specs.declared.inode.Inode.{Inode}
use Rattle.h2_inode.specs.Access.{Access}
use Rattle.h2_inode.specs.Directory.{Entries, IsEntry, IsDirectory}
use Rattle.h2_inode.specs.FoundLaws.{held_in, names_total, exact_names}
use Rattle.h2_inode.specs.ListLaws.{all_beside}
use Rattle.h2_forest.specs.declared.table.Node.{Node}
use Rattle.h2_forest.specs.declared.table.Node.TheVariants.{File, Directory}
use Rattle.h2_forest.specs.Table.{Table, entries_of, looked_up, found}
use Rattle.h2_consistent.specs.FileTree.{IsFileTree}
use Rattle.h2_meaning.specs.Node.{IsNodeBy, IsMember}
use Rattle.h2_meaning.specs.FoundLaws.{numbers_differ}
use Rattle.h2_meaning.specs.Replaced.{HoldsNodes}
use Rattle.h2_meaning.specs.ReplacedForestLaws.{wholes}

-- where the keys differ, what is in the list is in its map
in_map : {K V : Type 0} {R : K → K → Ordering} → IsTotalOrder R → IsAntisymmetric R → (es : List (K × V)) → AllPairs (λ (x y : K × V). x.0 ≢ y.0) es → (m : K × V) → Contains es m → get (from_entries {R = R} es) m.0 ≡ Some m.1
in_map {K} {V} {R} o same es differ m has =
    let g = held_in o same (λ (x y : K × V). x ≡ y) es es (all_beside (λ (x y : K × V). x ≡ y) es (λ x at. refl)) differ m has in
    subst (λ (e : K × V). get (from_entries {R = R} es) e.0 ≡ Some e.1) (sym g.1) g.2

module _ (a : Access) (S T : ℕ → ℕ → Type 0) (table : Table) (next : ℕ) (whole : IsFileTree next table) (narrow : (target number : ℕ) → S target number → IsSome (get table number) → T target number) where
  entry_on : (t : a.Tree) (dir : ℕ) (es : Entries) → get table dir ≡ Some (Directory es) → (r : Ref) (y : List ℕ × ℕ) → get es y.0 ≡ Some y.1 → IsEntry a S t r y → IsEntry a T t r y
  entry_on t dir es here r y has e =
      let named : looked_up (entries_of (get table dir)) y.0 ≡ Ok y.1 = ap (λ n. looked_up (entries_of n) y.0) here ∙ ap found has in
      record {
        kind_is = e.kind_is;
        entry = e.entry;
        entry_is = e.entry_is;
        number_is = e.number_is;
        name_is = e.name_is;
        length_is = e.length_is;
        under = e.under;
        target_fits = let d = e.entry in narrow d.target d.number e.target_fits (subst (λ n. IsSome (get table n)) e.number_is (whole.named dir y.1 y.0 named));
      }

  directory_on : (t : a.Tree) (dir size : ℕ) (es : Entries) → get table dir ≡ Some (Directory es) → IsDirectory a S t size es → IsDirectory a T t size es
  directory_on t dir size es here h = record {
    leaves = h.leaves;
    has = h.has;
    named = h.named;
    each = wholes (IsEntry a S t) (IsEntry a T t) h.leaves h.named
        (λ r y at. entry_on t dir es here r y (ap (λ m. get m y.0) h.entries_are ∙ in_map names_total exact_names h.named h.differ y at)) h.each;
    differ = h.differ;
    counted = h.counted;
    entries_are = h.entries_are;
  }

  node_on : (t : a.Tree) (i : Inode) (k : InodeKind) (x : Body) (number : ℕ) (node : Node) → get table number ≡ Some node → IsNodeBy a S t i k x node → IsNodeBy a T t i k x node
  node_on t i Directory_kind (Refs x) number (Directory es) here h = directory_on t number i.size es here h
  node_on t i Directory_kind (Refs x) number (File bytes n) here h = absurd h
  node_on t i Directory_kind (Bytes x) number node here h = absurd h
  node_on t i File_kind x number (Directory es) here h = absurd h
  node_on t i File_kind x number (File bytes n) here h = h
  node_on t i Pfs_kind x number node here h = absurd h

  member_on : (t : a.Tree) (r : Ref) (m : ℕ × Node) → get table m.0 ≡ Some m.1 → IsMember a S t r m → IsMember a T t r m
  member_on t r m here h = record {
    kind_is = h.kind_is;
    inode = h.inode;
    tree = h.tree;
    read = h.read;
    number_is = h.number_is;
    numbered = h.numbered;
    node_is = let i = h.inode in node_on h.tree i i.kind i.body m.0 m.1 here h.node_is;
  }

  pub nodes_narrowed : (t : a.Tree) → HoldsNodes a S t table → HoldsNodes a T t table
  nodes_narrowed t h =
      let has = h.has in
      record {
        members = h.members;
        has = record {
          leaves = has.leaves;
          has = has.has;
          each = wholes (IsMember a S t) (IsMember a T t) has.leaves h.members
              (λ r m at. member_on t r m (ap (λ x. get x m.0) h.table_is ∙ in_map nat_cmp_total nat_cmp-IsAntisymmetric h.members (numbers_differ a S t h.members has) m at)) has.each;
        };
        table_is = h.table_is;
      }
