-- The inodes of one PFS, and the way that names lead through them.
use Rattle.std.specs.Prelude.{ℕ, Bool, false, not, ◌||◌, nat_eq, List, [], ◌∷◌, Option, Some, None, Result, Ok, Err}
use Rattle.std.specs.Ordering.{nat_cmp}
use Rattle.std.specs.FinMap.{FinMap, get, insert, remove, retain_keys}
use Rattle.h2_forest.specs.Node.{Entries}
use Rattle.h2_forest.specs.declared.table.Node.{Node}
use Rattle.h2_forest.specs.declared.table.Node.TheVariants.{File, Directory}
use Rattle.h2_command.specs.declared.reply.Reply.{Reply}
use Rattle.h2_command.specs.declared.reply.Reply.TheVariants.{NoEntry, NotDir}

-- a finite map from inode numbers to inodes
abbrev pub Table : Type 0
Table = FinMap nat_cmp Node

-- the entries of an inode that is a directory
abbrev pub entries_of : Option Node → Option Entries
entries_of (Some (Directory entries)) = Some entries
entries_of (Some (File bytes links)) = None
entries_of None = None

-- the entries of the directory with a number
abbrev pub entries_at : Table → ℕ → Option Entries
entries_at t n = entries_of (get t n)

-- the table with other entries in a directory; where there is no such directory, as it was
abbrev pub changed_entries : Table → ℕ → Option Entries → (Entries → Entries) → Table
changed_entries t n (Some entries) f = insert t n (Directory (f entries))
changed_entries t n None f = t

-- with a name entered in a directory
abbrev pub entered : Table → ℕ → List ℕ → ℕ → Table
entered t dir name number = changed_entries t dir (entries_at t dir) (λ entries. insert entries name number)

-- with a name taken out of a directory
abbrev pub left : Table → ℕ → List ℕ → Table
left t dir name = changed_entries t dir (entries_at t dir) (λ entries. remove entries name)

-- the links of a file
abbrev pub links_of : Option Node → ℕ
links_of (Some (File bytes links)) = links
links_of (Some (Directory entries)) = 0
links_of None = 0

-- the table with another inode in the place of one; where there is none, as it was
abbrev pub changed_node : Table → ℕ → Option Node → (Node → Node) → Table
changed_node t n (Some node) f = insert t n (f node)
changed_node t n None f = t

-- with another number of links of a file
abbrev pub with_links : ℕ → Node → Node
with_links links (File bytes old) = File bytes links
with_links links (Directory entries) = Directory entries

-- the table with another number of links of a file
abbrev pub relinked : Table → ℕ → ℕ → Table
relinked t n links = changed_node t n (get t n) (with_links links)

-- what a name is in a directory, by what its entry has; a name looked up in a file is refused
abbrev pub found : Option ℕ → Result ℕ Reply
found (Some number) = Ok number
found None = Err NoEntry

-- what a name is in the entries of an inode, if it is a directory
abbrev pub looked_up : Option Entries → List ℕ → Result ℕ Reply
looked_up (Some entries) name = found (get entries name)
looked_up None name = Err NotDir

-- where the names lead from an inode on, or the first refusal on the way
abbrev pub walk : Table → ℕ → List (List ℕ) → Result ℕ Reply
walk t n [] = Ok n
walk t n (name ∷ names) = elim (looked_up (entries_at t n) name) [ Ok next ↦ walk t next names | Err refusal ↦ Err refusal ]

-- whether an inode is passed on the way that the names lead, from the first inode to the last
abbrev pub passes : Table → ℕ → List (List ℕ) → ℕ → Bool
passes t n [] number = nat_eq n number
passes t n (name ∷ names) number = nat_eq n number || elim (looked_up (entries_at t n) name) [ Ok next ↦ passes t next names number | Err refusal ↦ false ]

-- the bytes of a file
abbrev pub bytes_of : Option Node → Option (List ℕ)
bytes_of (Some (File bytes links)) = Some bytes
bytes_of (Some (Directory entries)) = None
bytes_of None = None

-- with other bytes of a file
abbrev pub with_bytes : (List ℕ → List ℕ) → Node → Node
with_bytes change (File bytes links) = File (change bytes) links
with_bytes change (Directory entries) = Directory entries

-- the table with other bytes of a file
abbrev pub rewritten : Table → ℕ → (List ℕ → List ℕ) → Table
rewritten t n change = changed_node t n (get t n) (with_bytes change)

-- a file without a link
abbrev pub is_orphan : Option Node → Bool
is_orphan (Some (File bytes links)) = nat_eq links 0
is_orphan (Some (Directory entries)) = false
is_orphan None = false

-- the table without the files that have no link and aren't kept
abbrev pub without_orphans : Table → (ℕ → Bool) → Table
without_orphans t kept = retain_keys t (λ n. kept n || not (is_orphan (get t n)))
