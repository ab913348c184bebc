-- Commands that a script can hold.
use Rattle.std.specs.Prelude.{◌≡◌, ◌<◌, ◌≤◌, length, All}
use Rattle.h2_dirkey.specs.Name.{IsName}
use Rattle.h2_dirkey.specs.PfsName.{IsPfsName}
use Rattle.h2_command.specs.declared.path.Path.{Path}
use Rattle.h2_command.specs.declared.command.Command.{Command}
use Rattle.h2_command.specs.declared.command.Command.TheVariants.{Mkdir, Create, Link, Rm, Rmdir, Mv, Ls, Stat, Attach, Close, ReadAt, WriteAt, Cut, Sync, Bulkfree, Snapshot, PfsCreate, PfsDelete, PfsList}
use Rattle.h2_command.specs.declared.history.Item.{Item}
use Rattle.h2_command.specs.declared.history.Item.TheVariants.{Call, Mark as Marked}
use Rattle.h2_contents.specs.Payload.{payload_bytes}

-- a path names a PFS, and goes on by names that a directory may have
pub record IsPath (p : Path) : Type 0 where
  pub pfs : IsPfsName p.pfs
  pub names : All IsName p.names

-- a path with at least one name: it leads to an entry of a directory
pub record IsEntryPath (p : Path) : Type 0 where
  pub path : IsPath p
  pub named : 1 ≤ length p.names

-- two such paths in one PFS
pub record AreInOnePfs (p q : Path) : Type 0 where
  pub first : IsEntryPath p
  pub second : IsEntryPath q
  pub same : q.pfs ≡ p.pfs

-- a script can hold the command
abbrev pub Lawful : Command → Type 0
Lawful (Mkdir p) = IsEntryPath p
Lawful (Create p) = IsEntryPath p
Lawful (Link p q) = AreInOnePfs p q
Lawful (Rm p) = IsEntryPath p
Lawful (Rmdir p) = IsEntryPath p
Lawful (Mv p q) = AreInOnePfs p q
Lawful (Ls p) = IsPath p
Lawful (Stat p) = IsPath p
Lawful (Attach p) = IsPath p
Lawful (Close handle) = Unit {0}
Lawful (ReadAt handle off len) = len ≤ 1048576
Lawful (WriteAt handle off payload) = length (payload_bytes payload) ≤ 1048576
Lawful (Cut handle size) = Unit {0}
Lawful Sync = Unit {0}
Lawful Bulkfree = Unit {0}
Lawful (Snapshot source name) = IsPfsName source × IsPfsName name
Lawful (PfsCreate name) = IsPfsName name
Lawful (PfsDelete name) = IsPfsName name
Lawful PfsList = Unit {0}

-- an item of a run of scripts: an entry has one of 8 clients, and a command that a script can hold
abbrev pub IsLawfulItem : Item → Type 0
IsLawfulItem (Call e) = (e.client < 8) × Lawful e.command
IsLawfulItem (Marked m) = Unit {0}
