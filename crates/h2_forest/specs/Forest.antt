-- The plain forest, and what each command does to it.
use Rattle.std.specs.Prelude.{ℕ, ◌+◌, ◌^◌, List, [], ◌∷◌, ◌++◌, length, map, Bool, not, cond, ◌&&◌, nat_le, nat_lt, nat_eq, is_some, Option, Some, None, slice_set, false}
use Rattle.std.specs.List.{remove}
use Rattle.h2_forest.specs.Handles.{Handles, least_free, handles_in}
use Rattle.std.specs.List.{list_any}
use Rattle.std.specs.Cmp.Lexicographic.{pointwise}
use Rattle.std.specs.FinMap as map
use Rattle.std.specs.FinMap.{get, contains_key, values}
use Rattle.h2_forest.specs.declared.pfs.Pfs.{Pfs}
use Rattle.h2_forest.specs.declared.table.Node.TheVariants.{File, Directory}
use Rattle.h2_command.specs.declared.command.Command.{Command}
use Rattle.h2_command.specs.declared.command.Command.TheVariants.{Mkdir, Create, Link, Rm, Rmdir, Mv, Ls, Stat, Attach, Close, ReadAt, WriteAt, Cut, Sync, Bulkfree, Snapshot, PfsCreate, PfsDelete, PfsList}
use Rattle.h2_command.specs.declared.reply.Reply.{Reply}
use Rattle.h2_command.specs.declared.reply.Reply.TheVariants.{Done, Handle, Got, Wrote, Pfs as Named, NoPfs, Exists, IsDir, Full, InUse, NoHandle, HandlesFull, Long}
use Rattle.h2_contents.specs.Bytes.{read_at, written_at, cut_to}
use Rattle.h2_contents.specs.Payload.{payload_bytes}
use Rattle.h2_forest.specs.Table.{Table, entries_at, walk, bytes_of, rewritten, without_orphans}
use Rattle.h2_forest.specs.Steps.{on, given, refuse}
use Rattle.h2_forest.specs.Pfs.{made, linked, unlinked, removed, moved, listed, stated}

-- the forest with the open handles; the PFSs stand in the order of their ids
pub record PlainForest : Type 0 where
  pub next_pfs : ℕ
  pub pfss : List Pfs
  pub handles : Handles

-- the first PFS that passes a test, with its place in the list; i is the place of the list's first one
abbrev pub first_from : (Pfs → Bool) → ℕ → List Pfs → Option (ℕ × Pfs)
first_from test i [] = None
first_from test i (p ∷ ps) = cond (test p) (Some (i, p)) (first_from test (i + 1) ps)

-- the first PFS with a name, with its place in the list
abbrev pub pfs_named : List ℕ → List Pfs → Option (ℕ × Pfs)
pfs_named name pfss = first_from (λ p. pointwise nat_eq p.name name) 0 pfss

-- the first PFS with an id, with its place in the list
abbrev pub pfs_with_id : ℕ → List Pfs → Option (ℕ × Pfs)
pfs_with_id id pfss = first_from (λ p. nat_eq p.id id) 0 pfss

-- a command on names in one PFS
abbrev pub in_pfs : PlainForest → List ℕ → (Pfs → Reply × Pfs) → Reply × PlainForest
in_pfs f name command =
    given f (pfs_named name f.pfss) NoPfs (λ found.
    ((command found.1).0, record f { pfss = slice_set f.pfss found.0 (command found.1).1 }))

-- a question about names in one PFS
abbrev pub ask_pfs : PlainForest → List ℕ → (Pfs → Reply) → Reply × PlainForest
ask_pfs f name question = given f (pfs_named name f.pfss) NoPfs (λ found. (question found.1, f))

-- the file behind a handle: the place of its PFS in the list, the PFS, and the inode number
abbrev pub opened_in : PlainForest → Option (ℕ × ℕ) → Option (ℕ × (Pfs × ℕ))
opened_in f (Some (id, inode)) = elim (pfs_with_id id f.pfss) [ Some found ↦ Some (found.0, (found.1, inode)) | None ↦ None ]
opened_in f None = None

-- the file behind a client's handle with a number
abbrev pub opened : PlainForest → ℕ → ℕ → Option (ℕ × (Pfs × ℕ))
opened f client number = opened_in f (get f.handles (client, number))

-- open: the client's least free number of 0 to 15
abbrev pub attached : PlainForest → ℕ → ℕ → List (List ℕ) → Pfs → Reply × PlainForest
attached f client place names pfs =
    on f (walk pfs.table 1 names) (λ inode.
    refuse f (is_some (entries_at pfs.table inode)) IsDir (
    given f (least_free f.handles client 0 16) HandlesFull (λ number.
    (Handle number, record f { handles = map.insert f.handles (client, number) (pfs.id, inode) }))))

-- read
abbrev pub read_reply : PlainForest → Option (List ℕ) → ℕ → ℕ → Reply × PlainForest
read_reply f bytes off len = given f bytes NoHandle (λ all. (Got (read_at all off len), f))

-- the forest with other bytes of an open file
abbrev pub with_file : PlainForest → ℕ × (Pfs × ℕ) → (List ℕ → List ℕ) → PlainForest
with_file f file change = record f { pfss = slice_set f.pfss file.0 (record file.1.0 { table = rewritten file.1.0.table file.1.1 change }) }

-- write: no bytes change nothing
abbrev pub write_reply : PlainForest → Option (ℕ × (Pfs × ℕ)) → ℕ → List ℕ → Reply × PlainForest
write_reply f file off new =
    given f file NoHandle (λ here.
    refuse f (nat_lt (2 ^ 40) (off + length new)) Long (
    refuse f (nat_eq (length new) 0) (Wrote 0)
    (Wrote (length new), with_file f here (λ bytes. written_at bytes off new))))

-- cut: the file has exactly this many bytes
abbrev pub cut_reply : PlainForest → Option (ℕ × (Pfs × ℕ)) → ℕ → Reply × PlainForest
cut_reply f file size =
    given f file NoHandle (λ here.
    refuse f (nat_lt (2 ^ 40) size) Long
    (Done, with_file f here (λ bytes. cut_to bytes size)))

-- one more PFS, with the next id
abbrev pub with_pfs : PlainForest → List ℕ → ℕ → Table → PlainForest
with_pfs f name next table = record f { next_pfs = f.next_pfs + 1; pfss = f.pfss ++ (record { id = f.next_pfs; name = name; next = next; table = table }) ∷ [] }

-- a root directory without entries
abbrev pub bare_table : Table
bare_table = map.insert map.empty 1 (Directory map.empty)

-- whether there are 64 PFSs or more
abbrev pub is_crowded : PlainForest → Bool
is_crowded f = nat_le 64 (length f.pfss)

-- snapshot: one more PFS with the table of another, but for the files that have no link
abbrev pub snapshot_reply : PlainForest → List ℕ → List ℕ → Reply × PlainForest
snapshot_reply f source name =
    given f (pfs_named source f.pfss) NoPfs (λ found.
    refuse f (is_some (pfs_named name f.pfss)) Exists (
    refuse f (is_crowded f) Full
    (Done, with_pfs f name found.1.next (without_orphans found.1.table (λ n. false)))))

-- create a PFS: one more, with an empty root directory
abbrev pub create_reply : PlainForest → List ℕ → Reply × PlainForest
create_reply f name =
    refuse f (is_some (pfs_named name f.pfss)) Exists (
    refuse f (is_crowded f) Full
    (Done, with_pfs f name 2 bare_table))

-- delete a PFS, in which no handle is open
abbrev pub delete_reply : PlainForest → List ℕ → Reply × PlainForest
delete_reply f name =
    given f (pfs_named name f.pfss) NoPfs (λ found.
    refuse f (nat_lt 0 (handles_in f.handles found.1.id)) (InUse (handles_in f.handles found.1.id))
    (Done, record f { pfss = remove f.pfss found.0 }))

-- the reply to a client's command, and the forest after it
abbrev pub answer : PlainForest → ℕ → Command → Reply × PlainForest
answer f client (Mkdir p) = in_pfs f p.pfs (λ pfs. made pfs p.names (Directory map.empty))
answer f client (Create p) = in_pfs f p.pfs (λ pfs. made pfs p.names (File [] 1))
answer f client (Link p q) = in_pfs f p.pfs (λ pfs. linked pfs p.names q.names)
answer f client (Rm p) = in_pfs f p.pfs (λ pfs. unlinked pfs p.names)
answer f client (Rmdir p) = in_pfs f p.pfs (λ pfs. removed pfs p.names)
answer f client (Mv p q) = in_pfs f p.pfs (λ pfs. moved pfs p.names q.names)
answer f client (Ls p) = ask_pfs f p.pfs (λ pfs. listed pfs p.names)
answer f client (Stat p) = ask_pfs f p.pfs (λ pfs. stated pfs p.names)
answer f client (Attach p) = given f (pfs_named p.pfs f.pfss) NoPfs (λ found. attached f client found.0 p.names found.1)
answer f client (Close number) = refuse f (not (contains_key f.handles (client, number))) NoHandle (Done, record f { handles = map.remove f.handles (client, number) })
answer f client (ReadAt number off len) = given f (opened f client number) NoHandle (λ file. read_reply f (bytes_of (get file.1.0.table file.1.1)) off len)
answer f client (WriteAt number off payload) = write_reply f (opened f client number) off (payload_bytes payload)
answer f client (Cut number size) = cut_reply f (opened f client number) size
answer f client Sync = (Done, f)
answer f client Bulkfree = (Done, f)
answer f client (Snapshot source name) = snapshot_reply f source name
answer f client (PfsCreate name) = create_reply f name
answer f client (PfsDelete name) = delete_reply f name
answer f client PfsList = (Named (map (λ p. p.name) f.pfss), f)

-- whether a handle names an inode
abbrev pub is_named : Handles → ℕ → ℕ → Bool
is_named handles id inode = list_any (λ at. nat_eq at.0 id && nat_eq at.1 inode) (values handles)

-- without the files that have no link and that no handle names
abbrev pub trimmed : Handles → Pfs → Pfs
trimmed handles p = record p { table = without_orphans p.table (is_named handles p.id) }

-- each PFS without the files that have no link and that no handle names
abbrev pub trim : PlainForest → PlainForest
trim f = record f { pfss = map {A = Pfs} {B = Pfs} (trimmed f.handles) f.pfss }

-- without handles
abbrev pub closed : PlainForest → PlainForest
closed f = record f { handles = map.empty }

-- without handles, and without the files that have no link
abbrev pub clean : PlainForest → PlainForest
clean f = trim (closed f)

-- a volume as it is formatted
abbrev pub fresh : PlainForest
fresh = with_pfs (record { next_pfs = 1; pfss = []; handles = map.empty }) (82 ∷ 79 ∷ 79 ∷ 84 ∷ []) 2 bare_table
