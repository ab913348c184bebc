-- What the super-root and a PFS's tree stand for: a table, and the forest.
use Rattle.std.specs.Prelude.{◌≡◌, ℕ, List, map, Option, Some, None}
use Rattle.std.specs.FinMap.{from_entries, get, empty}
use Rattle.h2_ref.specs.declared.reference.Ref.{Ref}
use Rattle.h2_forest.specs.declared.table.Node.{Node}
use Rattle.h2_forest.specs.declared.table.Node.TheVariants.{File, Directory}
use Rattle.h2_forest.specs.declared.pfs.Pfs.{Pfs}
use Rattle.h2_forest.specs.Table.{Table}
use Rattle.h2_forest.specs.Forest.{PlainForest}
use Rattle.h2_inode.specs.Access.{Access, OneByOne}
use Rattle.h2_inode.specs.PfsList.{ListedPfs, IsPfs, IsPfsList}
use Rattle.h2_meaning.specs.Node.{HasMembers}
use Rattle.h2_consistent.specs.FileTree.{IsFileTree}

-- the inode is of the kind that an entry says: 1 is a directory, 2 a file
abbrev pub IsTarget : ℕ → Option Node → Type 0
IsTarget target None = ⊥
IsTarget target (Some (Directory es)) = target ≡ 1
IsTarget target (Some (File bytes links)) = target ≡ 2

-- an entry may name a number of a table where the inode there is of the kind that it says
abbrev pub InTable : Table → ℕ → ℕ → Type 0
InTable table target number = IsTarget target (get table number)

-- what the list of PFSs tells of a PFS
abbrev pub listed_of : Pfs → ListedPfs
listed_of p = record { id = p.id; name = p.name; next = p.next }

module _ (a : Access) where
  -- the tree holds the table of a PFS with this next inode number
  pub record IsTable (t : a.Tree) (next : ℕ) (table : Table) : Type 0 where
    pub members : List (ℕ × Node)
    pub has : HasMembers a (InTable table) t members
    pub table_is : table ≡ from_entries members
    pub whole : IsFileTree next table

  -- the leaf names the PFS, and the tree below it holds its table
  pub record IsWhole (t : a.Tree) (r : Ref) (p : Pfs) : Type 0 where
    pub named : IsPfs a t r (listed_of p)
    pub holds : IsTable named.tree p.next p.table

  -- The super-root's tree holds the list of the PFSs of a forest without handles, and each PFS's tree its table.
  pub record IsForest (t : a.Tree) (next : ℕ) (f : PlainForest) : Type 0 where
    pub list : IsPfsList a t next (map listed_of f.pfss)
    pub each : OneByOne (IsWhole t) list.leaves f.pfss
    pub next_is : f.next_pfs ≡ next
    pub no_handles : f.handles ≡ empty
