-- The laws of readings, as statements that a contract can name.
use Rattle.std.specs.Prelude.{◌≡◌, ◌<◌, ℕ, List, AllPairs, Contains, Some}
use Rattle.std.specs.FinMap.{get}
use Rattle.h2_ref.specs.declared.reference.Ref.{Ref}
use Rattle.h2_forest.specs.Node.{Entries}
use Rattle.h2_forest.specs.declared.table.Node.{Node}
use Rattle.h2_forest.specs.Table.{Table}
use Rattle.h2_forest.specs.declared.pfs.Pfs.{Pfs}
use Rattle.h2_forest.specs.Forest.{PlainForest}
use Rattle.h2_inode.specs.Access.{Access}
use Rattle.h2_inode.specs.Contents.{IsContents}
use Rattle.h2_inode.specs.Directory.{IsEntry, IsDirectory}
use Rattle.h2_meaning.specs.Node.{IsMember, HasMembers}
use Rattle.h2_inode.specs.PfsList.{ListedPfs, IsPfsList}
use Rattle.h2_meaning.specs.Forest.{InTable, IsTable, IsForest}
use Rattle.h2_inode.specs.Following.{Passage}

-- a tree stands for the bytes of one file of a size at most
abbrev pub OneContents : Access → Type 0
OneContents a = (t : a.Tree) (size : ℕ) (b c : List ℕ) → IsContents a t size b → IsContents a t size c → c ≡ b

-- a tree stands for one directory at most
abbrev pub OneDirectory : Access → Type 0
OneDirectory a = (s u : Table) (t : a.Tree) (m n : ℕ) (d e : Entries) → IsDirectory a (InTable s) t m d → IsDirectory a (InTable u) t n e → e ≡ d

-- a tree stands for one table of inodes at most
abbrev pub OneTable : Access → Type 0
OneTable a = (t : a.Tree) (m n : ℕ) (x y : Table) → IsTable a t m x → IsTable a t n y → y ≡ x

-- a tree stands for one list of PFSs at most
abbrev pub OnePfsList : Access → Type 0
OnePfsList a = (t : a.Tree) (m n : ℕ) (x y : List ListedPfs) → IsPfsList a t m x → IsPfsList a t n y → y ≡ x

-- a tree stands for one forest at most
abbrev pub OneForest : Access → Type 0
OneForest a = (t : a.Tree) (next : ℕ) (f g : PlainForest) → IsForest a t next f → IsForest a t next g → g ≡ f

-- a leaf of a directory's tree is an entry that the directory has
abbrev pub LeavesAreEntries : Access → Type 0
LeavesAreEntries a = (table : Table) (t : a.Tree) (size : ℕ) (entries : Entries) (h : IsDirectory a (InTable table) t size entries) (r : Ref) → Contains h.leaves r
    → (e : List ℕ × ℕ) × IsEntry a (InTable table) t r e × (get entries e.0 ≡ Some e.1)

-- each entry of a directory is that of a leaf of its tree
abbrev pub EntriesAreLeaves : Access → Type 0
EntriesAreLeaves a = (table : Table) (t : a.Tree) (size : ℕ) (entries : Entries) (h : IsDirectory a (InTable table) t size entries) (name : List ℕ) (number : ℕ) → get entries name ≡ Some number
    → (r : Ref) × Contains h.leaves r × IsEntry a (InTable table) t r (name, number)

-- a leaf of a PFS's tree names an inode that the table has
abbrev pub LeavesAreNodes : Access → Type 0
LeavesAreNodes a = (t : a.Tree) (next : ℕ) (table : Table) (h : IsTable a t next table) (r : Ref) → Contains h.has.leaves r
    → (m : ℕ × Node) × IsMember a (InTable table) t r m × (get table m.0 ≡ Some m.1)

-- each inode of a table is named by a leaf of the tree
abbrev pub NodesAreLeaves : Access → Type 0
NodesAreLeaves a = (t : a.Tree) (next : ℕ) (table : Table) (h : IsTable a t next table) (number : ℕ) (node : Node) → get table number ≡ Some node
    → (r : Ref) × Contains h.has.leaves r × IsMember a (InTable table) t r (number, node)

-- the inodes of a tree stand in the order of their numbers
abbrev pub NumbersAscend : Access → Type 0
NumbersAscend a = (table : Table) (t : a.Tree) (members : List (ℕ × Node)) → HasMembers a (InTable table) t members → AllPairs (λ (x y : ℕ × Node). x.0 < y.0) members

-- PFSs stand in a list in the order of their ids
abbrev pub ListedIdsAscend : Access → Type 0
ListedIdsAscend a = (t : a.Tree) (next : ℕ) (pfss : List ListedPfs) → IsPfsList a t next pfss → AllPairs (λ (p q : ListedPfs). p.id < q.id) pfss

-- the PFSs of a forest stand in the order of their ids
abbrev pub IdsAscend : Access → Type 0
IdsAscend a = (t : a.Tree) (next : ℕ) (f : PlainForest) → IsForest a t next f → AllPairs (λ (p q : Pfs). p.id < q.id) f.pfss

-- the bytes for which a tree stands in the first reading, each tree that matches it stands for in the second
abbrev pub CarriesContents : Passage → Type 0
CarriesContents p = (t : p.from.Tree) (u : p.to.Tree) (size : ℕ) (bytes : List ℕ) → p.Matches t u → IsContents p.from t size bytes → IsContents p.to u size bytes

-- the directory for which a tree stands in the first reading, each tree that matches it stands for in the second
abbrev pub CarriesDirectories : Passage → Type 0
CarriesDirectories p = (table : Table) (t : p.from.Tree) (u : p.to.Tree) (size : ℕ) (entries : Entries) → p.Matches t u
    → IsDirectory p.from (InTable table) t size entries → IsDirectory p.to (InTable table) u size entries

-- the table for which a tree stands in the first reading, each tree that matches it stands for in the second
abbrev pub CarriesTables : Passage → Type 0
CarriesTables p = (t : p.from.Tree) (u : p.to.Tree) (next : ℕ) (table : Table) → p.Matches t u → IsTable p.from t next table → IsTable p.to u next table

-- the list of PFSs for which a tree stands in the first reading, each tree that matches it stands for in the second
abbrev pub CarriesPfsLists : Passage → Type 0
CarriesPfsLists p = (t : p.from.Tree) (u : p.to.Tree) (next : ℕ) (pfss : List ListedPfs) → p.Matches t u → IsPfsList p.from t next pfss → IsPfsList p.to u next pfss

-- the forest for which a tree stands in the first reading, each tree that matches it stands for in the second
abbrev pub CarriesForests : Passage → Type 0
CarriesForests p = (t : p.from.Tree) (u : p.to.Tree) (next : ℕ) (f : PlainForest) → p.Matches t u → IsForest p.from t next f → IsForest p.to u next f
