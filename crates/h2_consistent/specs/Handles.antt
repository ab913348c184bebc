-- The open handles of a forest, and the files that they name.
use Rattle.std.specs.Prelude.{◌≡◌, ℕ, List, true, false, Some, IsSome}
use Rattle.std.specs.List.{Contains}
use Rattle.std.specs.FinMap.{get}
use Rattle.h2_forest.specs.declared.pfs.Pfs.{Pfs}
use Rattle.h2_forest.specs.Table.{bytes_of, is_orphan}
use Rattle.h2_forest.specs.Forest.{PlainForest, answer}
use Rattle.h2_command.specs.declared.command.Command.TheVariants.{ReadAt}
use Rattle.h2_command.specs.declared.reply.Reply.TheVariants.{Got}
use Rattle.h2_contents.specs.Bytes.{read_at}

-- a PFS of the forest has the id, and the inode with the number is a file of its table
pub record HasFile (f : PlainForest) (id number : ℕ) : Type 0 where
  pub pfs : Pfs
  pub listed : Contains f.pfss pfs
  pub id_is : pfs.id ≡ id
  pub file : IsSome (bytes_of (get pfs.table number))

-- each open handle names a file that stands
abbrev pub HandlesStand : PlainForest → Type 0
HandlesStand f =
    (client handle id number : ℕ) → get f.handles (client, handle) ≡ Some (id, number) → HasFile f id number

-- an open handle names the file with a number in the PFS with an id
abbrev pub IsOpen : PlainForest → ℕ → ℕ → Type 0
IsOpen f id number = (client : ℕ) × ((handle : ℕ) × (get f.handles (client, handle) ≡ Some (id, number)))

-- each file without a link has an open handle
abbrev pub OrphansAreOpen : PlainForest → Type 0
OrphansAreOpen f =
    (p : Pfs) (number : ℕ) → Contains f.pfss p → is_orphan (get p.table number) ≡ true → IsOpen f p.id number

-- each file has a link
abbrev pub HasNoOrphans : PlainForest → Type 0
HasNoOrphans f = (p : Pfs) (number : ℕ) → Contains f.pfss p → is_orphan (get p.table number) ≡ false

-- a read by a client's handle is answered with the bytes of the file that it names
pub record IsRead (f : PlainForest) (client handle off len : ℕ) : Type 0 where
  pub id : ℕ
  pub number : ℕ
  pub held : get f.handles (client, handle) ≡ Some (id, number)
  pub file : HasFile f id number
  pub bytes : List ℕ
  pub bytes_are : bytes_of (get file.pfs.table number) ≡ Some bytes
  pub reply_is : (answer f client (ReadAt handle off len)).0 ≡ Got (read_at bytes off len)
