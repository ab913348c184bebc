-- Small forests, by which the definitions of what holds of every forest are tried.
use Rattle.std.specs.Prelude.{ℕ, List, [], ◌∷◌}
use Rattle.std.specs.FinMap.{insert, empty}
use Rattle.h2_forest.specs.declared.pfs.Pfs.{Pfs}
use Rattle.h2_forest.specs.declared.table.Node.TheVariants.{File}
use Rattle.h2_forest.specs.Handles.{Handles}
use Rattle.h2_forest.specs.Table.{Table}
use Rattle.h2_forest.specs.Forest.{PlainForest}

-- a PFS with a name of one byte
abbrev pub pfs_of : ℕ → ℕ → ℕ → Table → Pfs
pfs_of id byte next table = record { id = id; name = byte ∷ []; next = next; table = table }

-- a forest with this PFS and these handles; the next id is 2
abbrev pub forest_of : Pfs → Handles → PlainForest
forest_of p handles = record { next_pfs = 2; pfss = p ∷ []; handles = handles }

-- a forest with these PFSs and this next id, without handles
abbrev pub two_pfss : List Pfs → ℕ → PlainForest
two_pfss pfss next = record { next_pfs = next; pfss = pfss; handles = empty }

-- inode 2 is a file of the bytes 5, 6 and 7 with this number of links
abbrev pub one_file : ℕ → Table
one_file links = insert empty 2 (File (5 ∷ 6 ∷ 7 ∷ []) links)

-- a forest whose PFS 1 has this file
abbrev pub file_forest : ℕ → Handles → PlainForest
file_forest links handles = forest_of (pfs_of 1 97 3 (one_file links)) handles

-- handle 0 of client 0 names the inode with a number in the PFS with an id
abbrev pub one_handle : ℕ → ℕ → Handles
one_handle id number = insert empty (0, 0) (id, number)
