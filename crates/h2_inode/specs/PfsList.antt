-- What the super-root's tree stands for: the list of PFSs.
use Rattle.std.specs.Prelude.{◌≡◌, ◌≢◌, ◌<◌, ℕ, List, AllPairs, All}
use Rattle.h2_ref.specs.declared.reference.Kind.TheVariants.{Inode as Inode_kind}
use Rattle.h2_ref.specs.declared.reference.Ref.{Ref}
use Rattle.h2_dirkey.specs.PfsName.{IsPfsName}
use Rattle.h2_inode.specs.declared.kind.InodeKind.TheVariants.{Pfs as Pfs_kind}
use Rattle.h2_inode.specs.declared.inode.Inode.{Inode}
use Rattle.h2_inode.specs.Access.{Access, HasLeaves, OneByOne}

-- what the list of PFSs tells of one: its id, its name, and its next inode number
pub record ListedPfs : Type 0 where
  pub id : ℕ
  pub name : List ℕ
  pub next : ℕ

module _ (a : Access) where
  -- the leaf names this PFS, whatever its tree holds
  pub record IsPfs (t : a.Tree) (r : Ref) (p : ListedPfs) : Type 0 where
    pub kind_is : r.kind ≡ Inode_kind
    pub inode : Inode
    pub tree : a.Tree
    pub read : a.InodeOf t r inode tree
    pub pfs_is : inode.kind ≡ Pfs_kind
    pub numbered : inode.number ≡ r.key
    pub id_is : p.id ≡ r.key
    pub name_is : p.name ≡ inode.name
    pub next_is : p.next ≡ inode.next

  -- The super-root's tree holds these PFSs, in the order of their ids, which are the keys of its leaves. Their
  -- names are those of PFSs and differ, and each id is below the next PFS id.
  pub record IsPfsList (t : a.Tree) (next : ℕ) (pfss : List ListedPfs) : Type 0 where
    pub leaves : List Ref
    pub has : HasLeaves a t leaves
    pub each : OneByOne (IsPfs t) leaves pfss
    pub good : All (λ (p : ListedPfs). IsPfsName p.name) pfss
    pub differ : AllPairs (λ (p q : ListedPfs). p.name ≢ q.name) pfss
    pub below : All (λ (p : ListedPfs). p.id < next) pfss
