-- What is known of a PFS, as far as names need it, and where the names lead by that.
use Rattle.std.specs.Prelude.{◌≡◌, ℕ, Bool, true, List, [], ◌∷◌, ⊤, Contains, Some, None, Result, Ok, Err}
use Rattle.std.specs.FinMap.{get}
use Rattle.h2_ref.specs.declared.reference.Ref.{Ref}
use Rattle.h2_inode.specs.declared.inode.Inode.{Inode}
use Rattle.h2_inode.specs.declared.kind.InodeKind.TheVariants.{Directory}
use Rattle.h2_inode.specs.Directory.{Entries, IsDirectory}
use Rattle.h2_inode.specs.Loaded.{Tree, at_root, NamesInode, View, reading, no_content}
use Rattle.h2_dir.specs.declared.fault.DirFault.{DirFault}
use Rattle.h2_dir.specs.declared.fault.DirFault.TheVariants as fault

-- A tree that is known to be a directory's: of the number that the name has there, `On` holds.
pub record KnowsEntries (v : View) (may : ℕ → ℕ → Bool) (tree : Tree) (name : List ℕ) (On : ℕ → Type 0) : Type 0 where
  pub size : ℕ
  pub entries : Entries
  pub directory : IsDirectory (reading v no_content) (λ target number. may target number ≡ true) tree size entries
  pub on : (next : ℕ) → get entries name ≡ Some next → On next

-- It is known which inode the leaf of a PFS names, loaded or not, and where that is a directory, what entries it has.
pub record KnowsInode (v : View) (may : ℕ → ℕ → Bool) (pfs : ℕ) (leaf : Ref) (name : List ℕ) (On : ℕ → Type 0) : Type 0 where
  pub inode : Inode
  pub tree : Tree
  pub named : NamesInode v.forest v.holds v.tells (at_root pfs) leaf inode tree
  pub entries : inode.kind ≡ Directory → KnowsEntries v may tree name On

-- All is known that the names need from an inode on, in a PFS with these leaves: the inode with the number, if there is
-- one, and where it is a directory, its entries, and so on from the number that the first name has there.
abbrev pub KnowsWay : View → (ℕ → ℕ → Bool) → ℕ → List Ref → ℕ → List (List ℕ) → Type 0
KnowsWay v may pfs leaves number [] = ⊤
KnowsWay v may pfs leaves number (name ∷ names) = (leaf : Ref) → Contains leaves leaf → leaf.key ≡ number → KnowsInode v may pfs leaf name (λ next. KnowsWay v may pfs leaves next names)

-- One of these leaves has the number, and is known to name this inode, with this tree.
pub record KnownAs (v : View) (pfs : ℕ) (leaves : List Ref) (number : ℕ) (inode : Inode) (tree : Tree) : Type 0 where
  pub leaf : Ref
  pub among : Contains leaves leaf
  pub key_is : leaf.key ≡ number
  pub named : NamesInode v.forest v.holds v.tells (at_root pfs) leaf inode tree

-- The same where the inode is a directory's: with these entries.
pub record KnownEntries (v : View) (may : ℕ → ℕ → Bool) (pfs : ℕ) (leaves : List Ref) (number : ℕ) (entries : Entries) : Type 0 where
  pub inode : Inode
  pub tree : Tree
  pub size : ℕ
  pub known : KnownAs v pfs leaves number inode tree
  pub kind : inode.kind ≡ Directory
  pub directory : IsDirectory (reading v no_content) (λ target number. may target number ≡ true) tree size entries

-- Where the names lead from an inode on, by the entries that are known, in a PFS with these leaves: each name but the
-- first is looked up among the entries of what the one before it names. A name that these lack is missing, and nothing
-- has a name in what is no directory: in a file, or in a number that no leaf has.
pub data LeadsBy (v : View) (may : ℕ → ℕ → Bool) (pfs : ℕ) (leaves : List Ref) : ℕ → List (List ℕ) → Result ℕ DirFault → Type 0 where
  ended : {number : ℕ} → LeadsBy v may pfs leaves number [] (Ok number)
  entered : {number : ℕ} {name : List ℕ} {names : List (List ℕ)} {result : Result ℕ DirFault} → (entries : Entries) (next : ℕ) → KnownEntries v may pfs leaves number entries → get entries name ≡ Some next
      → LeadsBy v may pfs leaves next names result → LeadsBy v may pfs leaves number (name ∷ names) result
  unknown : {number : ℕ} {name : List ℕ} {names : List (List ℕ)} → (entries : Entries) → KnownEntries v may pfs leaves number entries → get entries name ≡ None → LeadsBy v may pfs leaves number (name ∷ names) (Err fault.NoEntry)
  no_directory : {number : ℕ} {name : List ℕ} {names : List (List ℕ)} → (inode : Inode) (tree : Tree) → KnownAs v pfs leaves number inode tree → (inode.kind ≡ Directory → ⊥) → LeadsBy v may pfs leaves number (name ∷ names) (Err fault.NotDir)
  no_inode : {number : ℕ} {name : List ℕ} {names : List (List ℕ)} → ((leaf : Ref) → Contains leaves leaf → leaf.key ≡ number → ⊥) → LeadsBy v may pfs leaves number (name ∷ names) (Err fault.NotDir)

-- an answer to the names agrees with what is known
abbrev pub WalkAgrees : View → (ℕ → ℕ → Bool) → ℕ → List Ref → ℕ → List (List ℕ) → Result ℕ DirFault → Type 0
WalkAgrees v may pfs leaves number names (Ok found) = LeadsBy v may pfs leaves number names (Ok found)
WalkAgrees v may pfs leaves number names (Err fault.NoEntry) = LeadsBy v may pfs leaves number names (Err fault.NoEntry)
WalkAgrees v may pfs leaves number names (Err fault.Exists) = ⊤
WalkAgrees v may pfs leaves number names (Err fault.NotDir) = LeadsBy v may pfs leaves number names (Err fault.NotDir)
WalkAgrees v may pfs leaves number names (Err (fault.Trouble e)) = ⊤

-- the first step does: whatever the other names lead to, all lead to, and what these need is known
abbrev pub StepAgrees : View → (ℕ → ℕ → Bool) → ℕ → List Ref → ℕ → List ℕ → List (List ℕ) → Result ℕ DirFault → Type 0
StepAgrees v may pfs leaves number name names (Ok next) = KnowsWay v may pfs leaves next names × ((result : Result ℕ DirFault) → LeadsBy v may pfs leaves next names result → LeadsBy v may pfs leaves number (name ∷ names) result)
StepAgrees v may pfs leaves number name names (Err why) = WalkAgrees v may pfs leaves number (name ∷ names) (Err why)
