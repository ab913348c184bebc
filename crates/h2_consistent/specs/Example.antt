-- A small table, by which the definition of a file tree is tried.
use Rattle.std.specs.Prelude.{ℕ, [], ◌∷◌}
use Rattle.std.specs.FinMap.{insert, empty}
use Rattle.h2_forest.specs.declared.table.Node.TheVariants.{File, Directory}
use Rattle.h2_forest.specs.Node.{Entries}
use Rattle.h2_forest.specs.Table.{Table}

-- the names a and b, both of number 2
abbrev pub two_entries : Entries
two_entries = insert (insert empty (97 ∷ []) 2) (98 ∷ []) 2

-- a root directory with these two entries, and the file that they name, with this number of links
abbrev pub two_names : ℕ → Table
two_names links = insert (insert empty 1 (Directory two_entries)) 2 (File [] links)

-- the name a of a number
abbrev pub one_entry : ℕ → Entries
one_entry number = insert empty (97 ∷ []) number

-- a root directory with these entries, and nothing else
abbrev pub only_root : Entries → Table
only_root es = insert empty 1 (Directory es)

-- a root directory whose entries name nothing that stands
abbrev pub names_nothing : Table
names_nothing = only_root two_entries

-- a root directory that names itself
abbrev pub names_root : Table
names_root = only_root (one_entry 1)

-- a root directory without entries, and beside it a directory that names itself
abbrev pub beside_root : Table
beside_root = insert (only_root empty) 2 (Directory (one_entry 2))
