-- What the commands on names do in one PFS.
use Rattle.std.specs.Prelude.{ℕ, ◌+◌, ◌-◌, List, [], length, take, slice_index_or, Bool, not, ◌&&◌, nat_le, nat_eq, is_some, Option, Some, None, Ok, Err}
use Rattle.std.specs.FinMap.{get, insert, remove, contains_key, len, keys}
use Rattle.h2_forest.specs.declared.pfs.Pfs.{Pfs}
use Rattle.h2_forest.specs.declared.table.Node.{Node}
use Rattle.h2_forest.specs.declared.table.Node.TheVariants.{File, Directory}
use Rattle.h2_command.specs.declared.reply.Reply.{Reply}
use Rattle.h2_command.specs.declared.reply.Reply.TheVariants.{Done, List as Listed, Dir, File as FileIs, NoEntry, Exists, NotDir, IsDir, NotEmpty, Full, LinksFull, Loop}
use Rattle.h2_forest.specs.Node.{Entries}
use Rattle.h2_forest.specs.Table.{entries_at, entered, left, walk, looked_up, links_of, relinked, passes}
use Rattle.h2_forest.specs.Steps.{on, given, refuse}

-- the names before the last one
abbrev pub front : List (List ℕ) → List (List ℕ)
front names = take (length names - 1) names

-- the last one of the names
abbrev pub last : List (List ℕ) → List ℕ
last names = slice_index_or names (length names - 1) []

-- a directory holds at most this many entries
abbrev pub is_full : Entries → Bool
is_full entries = nat_le 4096 (len entries)

-- mkdir and create: a new inode, entered under its name. It gets the PFS's next number
abbrev pub made : Pfs → List (List ℕ) → Node → Reply × Pfs
made pfs names node =
    on pfs (walk pfs.table 1 (front names)) (λ dir.
    given pfs (entries_at pfs.table dir) NotDir (λ entries.
    refuse pfs (contains_key entries (last names)) Exists (
    refuse pfs (is_full entries) Full
    (Done, record pfs { next = pfs.next + 1; table = insert (entered pfs.table dir (last names) pfs.next) pfs.next node }))))

-- link: one more name of a file
abbrev pub linked : Pfs → List (List ℕ) → List (List ℕ) → Reply × Pfs
linked pfs names new =
    on pfs (walk pfs.table 1 names) (λ number.
    refuse pfs (is_some (entries_at pfs.table number)) IsDir (
    on pfs (walk pfs.table 1 (front new)) (λ dir.
    given pfs (entries_at pfs.table dir) NotDir (λ entries.
    refuse pfs (contains_key entries (last new)) Exists (
    refuse pfs (is_full entries) Full (
    refuse pfs (nat_le 65535 (links_of (get pfs.table number))) LinksFull
    (Done, record pfs { table = relinked (entered pfs.table dir (last new) number) number (links_of (get pfs.table number) + 1) })))))))

-- rm: a file's entry goes. The file stays, for its other names and its handles
abbrev pub unlinked : Pfs → List (List ℕ) → Reply × Pfs
unlinked pfs names =
    on pfs (walk pfs.table 1 (front names)) (λ dir.
    on pfs (looked_up (entries_at pfs.table dir) (last names)) (λ number.
    refuse pfs (is_some (entries_at pfs.table number)) IsDir
    (Done, record pfs { table = relinked (left pfs.table dir (last names)) number (links_of (get pfs.table number) - 1) })))

-- rmdir: an empty directory goes, and its entry
abbrev pub removed : Pfs → List (List ℕ) → Reply × Pfs
removed pfs names =
    on pfs (walk pfs.table 1 (front names)) (λ dir.
    on pfs (looked_up (entries_at pfs.table dir) (last names)) (λ number.
    given pfs (entries_at pfs.table number) NotDir (λ entries.
    refuse pfs (not (nat_eq (len entries) 0)) NotEmpty
    (Done, record pfs { table = remove (left pfs.table dir (last names)) number }))))

-- mv: the entry of an inode goes, and another one comes. A directory doesn't go to itself or below itself
abbrev pub moved : Pfs → List (List ℕ) → List (List ℕ) → Reply × Pfs
moved pfs names new =
    on pfs (walk pfs.table 1 (front names)) (λ from.
    on pfs (looked_up (entries_at pfs.table from) (last names)) (λ number.
    on pfs (walk pfs.table 1 (front new)) (λ dir.
    given pfs (entries_at pfs.table dir) NotDir (λ entries.
    refuse pfs (contains_key entries (last new)) Exists (
    refuse pfs (is_some (entries_at pfs.table number) && passes pfs.table 1 (front new) number) Loop (
    refuse pfs (not (nat_eq from dir) && is_full entries) Full
    (Done, record pfs { table = left (entered pfs.table dir (last new) number) from (last names) })))))))

-- ls
abbrev pub listed_as : Option Entries → Reply
listed_as (Some entries) = Listed (keys entries)
listed_as None = NotDir

-- ls: the names in a directory
abbrev pub listed : Pfs → List (List ℕ) → Reply
listed pfs names = elim (walk pfs.table 1 names) [ Ok number ↦ listed_as (entries_at pfs.table number) | Err refusal ↦ refusal ]

-- stat
abbrev pub stated_as : ℕ → Option Node → Reply
stated_as number (Some (File bytes links)) = FileIs number links (length bytes)
stated_as number (Some (Directory entries)) = Dir number (len entries)
stated_as number None = NoEntry

-- stat: what is told of an inode
abbrev pub stated : Pfs → List (List ℕ) → Reply
stated pfs names = elim (walk pfs.table 1 names) [ Ok number ↦ stated_as number (get pfs.table number) | Err refusal ↦ refusal ]
