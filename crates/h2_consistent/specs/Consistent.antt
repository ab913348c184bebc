-- A consistent forest: the table of each PFS is a file tree.
use Rattle.std.specs.Prelude.{All}
use Rattle.h2_forest.specs.declared.pfs.Pfs.{Pfs}
use Rattle.h2_forest.specs.Forest.{PlainForest}
use Rattle.h2_consistent.specs.FileTree.{IsFileTree}

-- the table of the PFS is a file tree
abbrev pub IsConsistent : Pfs → Type 0
IsConsistent p = IsFileTree p.next p.table

-- so is that of each PFS of the forest
abbrev pub AreConsistent : PlainForest → Type 0
AreConsistent f = All IsConsistent f.pfss
