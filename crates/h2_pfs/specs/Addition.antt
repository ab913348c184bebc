-- How a PFS is added.
use Rattle.std.specs.Prelude.{◌≡◌, ◌⊎◌, ◌<◌, ◌≤◌, ◌+◌, ℕ, List, length, Option, Some, None}
use Rattle.h2_ref.specs.declared.reference.Ref.{Ref}
use Rattle.h2_set.specs.Ranges.{find}
use Rattle.h2_set.specs.Forest.{Forest, LeavesOf, Reaches}
use Rattle.h2_set.specs.Calls.{ReadiesOnly, KeepsBeside}
use Rattle.h2_tree.specs.Changes.{Inserts, KeepsPaths}
use Rattle.h2_inode.specs.declared.inode.Inode.{Inode}
use Rattle.h2_inode.specs.Nodes.{Fields, Told, HasInode, Visits, Plants}
use Rattle.h2_inode.specs.PfsList.{ListedPfs}
use Rattle.h2_inode.specs.Loaded.{StandsAlike}
use Rattle.h2_pfs.specs.Listing.{id_of, put_pfs, HasPfss}
use Rattle.h2_pfs.specs.Meets.{Meets, LoadsPfss}
use Rattle.h2_pfs.specs.Others.{KeepsOtherTrees}

-- No leaf has the id as its key: the path of the key is loaded and leads to none, or the leaves are known.
abbrev pub IsFreeId : Forest → ℕ → ℕ → Type 0
IsFreeId f top id = Reaches f id top None ⊎ ((l : List Ref) × LeavesOf f top l × (find id l ≡ None))

-- what a PFS's inode tells of it
abbrev pub pfs_of : Inode → ListedPfs
pfs_of i = record { id = i.number; name = i.name; next = i.next }

-- all leaves and the inodes that they name are loaded, and one more PFS may have the name
pub record HasSpace (f : Forest) (holds : ℕ → Option Fields) (top : ℕ) (name : List ℕ) : Type 0 where
  pub pfss : List ListedPfs
  pub meets : Meets f holds top pfss
  pub absent : id_of name pfss ≡ None
  pub few : length pfss < 64

-- The leaf went in where there was none, once nodes were made ready, and the root of the new inode was planted.
pub record Founds (f g : Forest) (new : ℕ → Option Fields) (top : ℕ) (leaf : Ref) (inode : Inode) : Type 0 where
  pub ready : Forest
  pub readies : ReadiesOnly f ready
  -- there are two spare nodes then, and where there were two before, none was made
  pub enough : 2 ≤ ready.spare
  pub made : 2 ≤ f.spare → ready.spare ≡ f.spare
  pub put : Forest
  pub inserts : Inserts ready put top leaf None
  pub paths : KeepsPaths ready put top leaf
  pub node : ℕ
  pub plants : Plants put g top leaf.key node
  -- spare nodes fall by the new root, and by the block that a split makes
  pub spent : g.spare + 1 + inserts.goes.blocks ≡ ready.spare
  pub has : HasInode g new node inode
  pub path : Reaches g leaf.key top (Some leaf)

-- Once all leaves and the inodes that they name were loaded, while all trees stand for what they stood for, the PFS was
-- added. Other trees stay, whatever is told then.
pub record AddsPfs (f g : Forest) (old new : ℕ → Option Fields) (was : Ref → Option Told) (top : ℕ) (leaf : Ref) (inode : Inode) : Type 0 where
  pub then : Forest
  pub holds : ℕ → Option Fields
  pub tells : Ref → Option Told
  pub visits : Visits f then
  pub alike : StandsAlike (record { forest = f; holds = old; tells = was }) (record { forest = then; holds = holds; tells = tells })
  pub loads : LoadsPfss f then top
  pub before : KeepsBeside f then old holds
  pub after : KeepsBeside then g holds new
  pub space : HasSpace then holds top inode.name
  pub founds : Founds then g new top leaf inode
  pub others : (now : Ref → Option Told) → KeepsOtherTrees (record { forest = then; holds = holds; tells = tells }) (record { forest = g; holds = new; tells = now }) top (λ c. ⊥)

-- where the tree stood for a list of PFSs, it stands for it with one more now; the next PFS id may have risen
abbrev pub PutsPfs : (f g : Forest) (old new : ℕ → Option Fields) (was now : Ref → Option Told) → ℕ → ListedPfs → Type 0
PutsPfs f g old new was now top p = (next after : ℕ) (known : List ListedPfs) → HasPfss f old was top next known → next ≤ after → p.id < after → HasPfss g new now top after (put_pfs p known)
