-- What holds of the table of every PFS: it is a tree of directories and files.
use Rattle.std.specs.Prelude.{◌≡◌, ◌≢◌, ◌<◌, ℕ, List, map, sum, count_by, nat_eq, Some, Ok, IsSome}
use Rattle.std.specs.FinMap.{get, entries}
use Rattle.h2_forest.specs.Node.{Entries}
use Rattle.h2_forest.specs.declared.table.Node.{Node}
use Rattle.h2_forest.specs.declared.table.Node.TheVariants.{File, Directory}
use Rattle.h2_forest.specs.Table.{Table, entries_at, looked_up, walk}

-- how many entries of an inode name the number
abbrev pub names_in : ℕ → Node → ℕ
names_in number (File bytes links) = 0
names_in number (Directory es) = count_by (λ e. nat_eq e.1 number) (entries es)

-- how many entries of the table name the number
abbrev pub names_of : Table → ℕ → ℕ
names_of t number = sum (map (λ e. names_in number e.1) (entries t))

-- the directory with the first number has this name, for the second number
abbrev pub HasEntry : Table → ℕ → List ℕ → ℕ → Type 0
HasEntry t dir name number = looked_up (entries_at t dir) name ≡ Ok number

-- names lead to the number from the root directory, which is number 1
abbrev pub IsReached : Table → ℕ → Type 0
IsReached t number = (names : List (List ℕ)) × (walk t 1 names ≡ Ok number)

-- the table is a tree of directories below the root, with files that have as many links as names
pub record IsFileTree (next : ℕ) (t : Table) : Type 0 where
  -- number 1 is a directory that no entry names
  pub root : IsSome (entries_at t 1)
  pub root_unnamed : names_of t 1 ≡ 0
  -- each entry names an inode
  pub named : (dir number : ℕ) (name : List ℕ) → HasEntry t dir name number → IsSome (get t number)
  -- a file's links are the entries that name it
  pub links_are : (number links : ℕ) (bytes : List ℕ) → get t number ≡ Some (File bytes links)
      → names_of t number ≡ links
  -- each other directory has one entry, and names lead to it
  pub once : (number : ℕ) (es : Entries) → get t number ≡ Some (Directory es) → number ≢ 1 → names_of t number ≡ 1
  pub reached : (number : ℕ) (es : Entries) → get t number ≡ Some (Directory es) → IsReached t number
  -- each number is below the next one
  pub below : (number : ℕ) → IsSome (get t number) → number < next
