-- What the trees of tables and forests stand for in one reading, they stand for in each that follows it.
use Rattle.std.specs.Prelude.{◌≡◌, ℕ, List, map}
use Rattle.std.proofs.Common.{sym, ◌∙◌, subst}
use Rattle.h2_ref.specs.declared.reference.Ref.{Ref}
use Rattle.h2_inode.specs.declared.kind.InodeKind.{InodeKind}
use Rattle.h2_inode.specs.declared.kind.InodeKind.TheVariants.{Directory as Directory_kind, File as File_kind, Pfs as Pfs_kind}
use Rattle.h2_inode.specs.declared.inode.Body.{Body}
use Rattle.h2_inode.specs.declared.inode.Body.TheVariants.{Refs, Bytes}
use Rattle.h2_inode.specs.declared.inode.Inode.{Inode}
use Rattle.h2_forest.specs.declared.table.Node.{Node}
use Rattle.h2_forest.specs.declared.table.Node.TheVariants.{File, Directory}
use Rattle.h2_forest.specs.Table.{Table}
use Rattle.h2_forest.specs.declared.pfs.Pfs.{Pfs}
use Rattle.h2_forest.specs.Forest.{PlainForest}
use Rattle.h2_inode.specs.Directory.{IsDirectory}
use Rattle.h2_meaning.specs.Node.{IsNodeBy, IsNode, IsMember, HasMembers}
use Rattle.h2_meaning.specs.Forest.{InTable, listed_of, IsTable, IsWhole, IsForest}
use Rattle.h2_inode.specs.Following.{SameBody, SameInode, Passage, Follows}
use Rattle.h2_inode.specs.ListLaws.{through}
use Rattle.h2_inode.specs.CarryLaws.{leaves_carried, directory_carried, pfs_carried, listed_beside}
use Rattle.h2_inode.specs.EmbeddedLaws.{bytes_carried}

module _ (p : Passage) (f : Follows p) where
  -- Inodes: what is asked of the targets of entries may become less

  module _ (S T : ℕ → ℕ → Type 0) (targets : (target number : ℕ) → S target number → T target number) where
    node_by : (t : p.from.Tree) (u : p.to.Tree) (i j : Inode) (k : InodeKind) (x y : Body) (node : Node) → p.Matches t u → j.size ≡ i.size → j.links ≡ i.links → SameBody x y
        → IsNodeBy p.from S t i k x node → IsNodeBy p.to T u j k y node
    node_by t u i j Directory_kind (Refs x) (Refs y) (Directory entries) sim size links same h = subst (λ n. IsDirectory p.to T u n entries) (sym size) (directory_carried p f S T targets t u i.size entries sim h)
    node_by t u i j Directory_kind (Refs x) (Refs y) (File bytes n) sim size links same h = absurd h
    node_by t u i j Directory_kind (Refs x) (Bytes y) node sim size links same h = absurd same
    node_by t u i j Directory_kind (Bytes x) y node sim size links same h = absurd h
    node_by t u i j File_kind x y (Directory entries) sim size links same h = absurd h
    node_by t u i j File_kind x y (File bytes n) sim size links same h = (bytes_carried p f t u i.size j.size x y bytes sim size same h.0, h.1 ∙ sym links)
    node_by t u i j Pfs_kind x y node sim size links same h = absurd h

    pub node_carried : (t : p.from.Tree) (u : p.to.Tree) (i j : Inode) (node : Node) → p.Matches t u → SameInode i j → IsNode p.from S t i node → IsNode p.to T u j node
    node_carried t u i j node sim same h =
        subst (λ k. IsNodeBy p.to T u j k j.body node) (sym same.kind) (node_by t u i j i.kind i.body j.body node sim same.size same.links same.body h)

    member_carried : (t : p.from.Tree) (u : p.to.Tree) (r s : Ref) (member : ℕ × Node) → p.Like t u r s → IsMember p.from S t r member → IsMember p.to T u s member
    member_carried t u r s member like h =
        let same = f.like t u r s like in
        let g = f.inode t u r s h.inode h.tree like h.read in
        let alike : SameInode h.inode g.0 = g.3 in
        record {
          kind_is = same.kind ∙ h.kind_is;
          inode = g.0;
          tree = g.1;
          read = g.2;
          number_is = h.number_is ∙ sym same.key;
          numbered = alike.number ∙ h.numbered ∙ sym same.key;
          node_is = node_carried h.tree g.1 h.inode g.0 member.1 g.4 alike h.node_is;
        }

    pub members_carried : (t : p.from.Tree) (u : p.to.Tree) (members : List (ℕ × Node)) → p.Matches t u → HasMembers p.from S t members → HasMembers p.to T u members
    members_carried t u members sim h =
        let g = leaves_carried p f t u h.leaves sim h.has in
        record {
          leaves = g.0;
          has = g.1;
          each = through (p.Like t u) (IsMember p.from S t) (IsMember p.to T u) (member_carried t u) h.leaves g.0 members g.2 h.each;
        }

  -- Tables and forests

  pub table_carried : (t : p.from.Tree) (u : p.to.Tree) (next : ℕ) (table : Table) → p.Matches t u → IsTable p.from t next table → IsTable p.to u next table
  table_carried t u next table sim h = record {
    members = h.members;
    has = members_carried (InTable table) (InTable table) (λ target number x. x) t u h.members sim h.has;
    table_is = h.table_is;
    whole = h.whole;
  }

  whole_carried : (t : p.from.Tree) (u : p.to.Tree) (r s : Ref) (pfs : Pfs) → p.Like t u r s → IsWhole p.from t r pfs → IsWhole p.to u s pfs
  whole_carried t u r s pfs like h =
      let g = pfs_carried p f t u r s (listed_of pfs) like h.named in
      record { named = g.0; holds = table_carried h.named.tree (g.0).tree pfs.next pfs.table g.1 h.holds }

  pub forest_carried : (t : p.from.Tree) (u : p.to.Tree) (next : ℕ) (forest : PlainForest) → p.Matches t u → IsForest p.from t next forest → IsForest p.to u next forest
  forest_carried t u next forest sim h =
      let g = listed_beside p f t u next (map listed_of forest.pfss) sim h.list in
      record {
        list = g.0;
        each = through (p.Like t u) (IsWhole p.from t) (IsWhole p.to u) (whole_carried t u) h.list.leaves (g.0).leaves forest.pfss g.1 h.each;
        next_is = h.next_is;
        no_handles = h.no_handles;
      }
