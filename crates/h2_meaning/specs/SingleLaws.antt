-- By a reading that gives one answer at most, a tree stands for one thing at most.
use Rattle.std.specs.Prelude.{◌≡◌, ℕ, List}
use Rattle.std.proofs.Common.{ap, sym, ◌∙◌, subst}
use Rattle.std.specs.FinMap.{from_entries}
use Rattle.h2_ref.specs.declared.reference.Ref.{Ref}
use Rattle.h2_inode.specs.declared.kind.InodeKind.{InodeKind}
use Rattle.h2_inode.specs.declared.kind.InodeKind.TheVariants.{Directory as Directory_kind, File as File_kind, Pfs as Pfs_kind}
use Rattle.h2_inode.specs.declared.inode.Body.{Body}
use Rattle.h2_inode.specs.declared.inode.Body.TheVariants.{Refs, Bytes}
use Rattle.h2_inode.specs.declared.inode.Inode.{Inode}
use Rattle.h2_forest.specs.declared.table.Node.{Node}
use Rattle.h2_forest.specs.declared.table.Node.TheVariants.{File, Directory}
use Rattle.h2_forest.specs.Table.{Table}
use Rattle.h2_forest.specs.declared.pfs.Pfs.{Pfs}
use Rattle.h2_forest.specs.Forest.{PlainForest}
use Rattle.h2_inode.specs.Access.{Access, OneByOne}
use Rattle.h2_meaning.specs.Node.{IsNodeBy, IsNode, IsMember, HasMembers}
use Rattle.h2_meaning.specs.Forest.{InTable, listed_of, IsTable, IsWhole, IsForest}
use Rattle.h2_inode.specs.Single.{IsSingle}
use Rattle.h2_inode.specs.ListLaws.{one_list}
use Rattle.h2_inode.specs.SingleLaws.{leaves_one, directory_one, pfs_one}
use Rattle.h2_inode.specs.EmbeddedLaws.{bytes_one}

module _ (a : Access) (one : IsSingle a) where
  -- Inodes: also for two ideas of which numbers an entry may name

  module _ (S T : ℕ → ℕ → Type 0) where
    node_one : (t : a.Tree) (i : Inode) (k : InodeKind) (x : Body) (node other : Node) → IsNodeBy a S t i k x node → IsNodeBy a T t i k x other → other ≡ node
    node_one t i Directory_kind (Refs s) (Directory d) (Directory e) p q = ap Directory (directory_one a one S T t i.size i.size d e p q)
    node_one t i Directory_kind (Refs s) (Directory d) (File b n) p q = absurd q
    node_one t i Directory_kind (Refs s) (File b n) other p q = absurd p
    node_one t i Directory_kind (Bytes x) node other p q = absurd p
    node_one t i File_kind x (Directory d) other p q = absurd p
    node_one t i File_kind x (File b n) (Directory e) p q = absurd q
    node_one t i File_kind x (File b n) (File c m) p q =
        let bytes : c ≡ b = bytes_one a one t i.size x b c p.0 q.0 in
        let links : m ≡ n = q.1 ∙ sym p.1 in
        λ z. File (bytes z) (links z)
    node_one t i Pfs_kind x node other p q = absurd p

    member_one : (t : a.Tree) (r : Ref) (x y : ℕ × Node) → IsMember a S t r x → IsMember a T t r y → y ≡ x
    member_one t r x y p q =
        let same = one.inode t r p.inode q.inode p.tree q.tree p.read q.read in
        let moved : IsNode a T p.tree p.inode y.1 = subst (λ v. IsNode a T v p.inode y.1) same.1 (subst (λ v. IsNode a T q.tree v y.1) same.0 q.node_is) in
        let node : y.1 ≡ x.1 = node_one p.tree p.inode p.inode.kind p.inode.body x.1 y.1 p.node_is moved in
        let number : y.0 ≡ x.0 = q.number_is ∙ sym p.number_is in
        λ i. (number i, node i)

    pub members_one : (t : a.Tree) (x y : List (ℕ × Node)) → HasMembers a S t x → HasMembers a T t y → y ≡ x
    members_one t x y p q =
        let l : q.leaves ≡ p.leaves = leaves_one a one t p.leaves q.leaves p.has q.has in
        one_list (IsMember a S t) (IsMember a T t) (member_one t) p.leaves x y p.each (subst (λ v. OneByOne (IsMember a T t) v y) l q.each)

  -- Tables and forests

  pub table_one : (t : a.Tree) (m n : ℕ) (x y : Table) → IsTable a t m x → IsTable a t n y → y ≡ x
  table_one t m n x y p q = q.table_is ∙ ap from_entries (members_one (InTable x) (InTable y) t p.members q.members p.has q.has) ∙ sym p.table_is

  whole_one : (t : a.Tree) (r : Ref) (x y : Pfs) → IsWhole a t r x → IsWhole a t r y → y ≡ x
  whole_one t r x y p q =
      let same = one.inode t r p.named.inode q.named.inode p.named.tree q.named.tree p.named.read q.named.read in
      let listed : listed_of y ≡ listed_of x = pfs_one a one t r (listed_of x) (listed_of y) p.named q.named in
      let table : y.table ≡ x.table = table_one p.named.tree x.next y.next x.table y.table p.holds (subst (λ v. IsTable a v y.next y.table) same.1 q.holds) in
      λ i. record { id = (listed i).id; name = (listed i).name; next = (listed i).next; table = table i }

  pub forest_one : (t : a.Tree) (next : ℕ) (f g : PlainForest) → IsForest a t next f → IsForest a t next g → g ≡ f
  forest_one t next f g p q =
      let l : q.list.leaves ≡ p.list.leaves = leaves_one a one t p.list.leaves q.list.leaves p.list.has q.list.has in
      let pfss : g.pfss ≡ f.pfss = one_list (IsWhole a t) (IsWhole a t) (whole_one t) p.list.leaves f.pfss g.pfss p.each (subst (λ v. OneByOne (IsWhole a t) v g.pfss) l q.each) in
      let next_pfs : g.next_pfs ≡ f.next_pfs = q.next_is ∙ sym p.next_is in
      let handles : g.handles ≡ f.handles = q.no_handles ∙ sym p.no_handles in
      λ i. record { next_pfs = next_pfs i; pfss = pfss i; handles = handles i }
