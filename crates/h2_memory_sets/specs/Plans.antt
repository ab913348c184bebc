-- What one call of the traits does to what is planned, and to the blocks of all nodes, loaded or not.
use Rattle.std.specs.Prelude.{◌≡◌, ◌<◌, ◌≤◌, ◌+◌, ◌-◌, ◌^◌, ℕ, true, false, List, length, Some, None, Result, Ok, Err, slice_get}
use Rattle.h2_num.specs.Causes.{one_more}
use Rattle.h2_ref.specs.declared.faults.Trouble.{Trouble}
use Rattle.h2_ref.specs.declared.faults.Trouble.TheVariants.{Failed, Bad, NoMemory}
use Rattle.h2_ref.specs.declared.reference.Ref.{Ref}
use Rattle.h2_set.specs.declared.set.Split.{Split}
use Rattle.h2_set.specs.RefSet.{RefSet}
use Rattle.h2_set.specs.Forest.{Forest, refs, loaded}
use Rattle.h2_set.specs.Calls.{IsBad, Loses, GoesBelow}
use Rattle.h2_inode.specs.declared.inode.Inode.{Inode}
use Rattle.h2_inode.specs.Inode.{keys_from}
use Rattle.h2_inode.specs.Nodes.{set_of as set_of_body}
use Rattle.h2_memory_sets.specs.declared.memory.MemorySets.{MemorySets}
use Rattle.h2_memory_sets.specs.declared.node.Node.{Node}
use Rattle.h2_memory_sets.specs.Inodes.{IsRootNode}
use Rattle.h2_memory_sets.specs.Owners.{refit}
use Rattle.h2_memory_sets.specs.Seen.{forest_of, beside_seen, blocks_of, failing_load, spoiled_load, refused_spare, KeepsNames, KeepsPlans}
use Rattle.h2_memory_sets.specs.View.{Block, AllFitBelow}

-- nothing has changed that can be seen
pub record StaysAll (p q : MemorySets) : Type 0 where
  pub forest : forest_of q ≡ forest_of p
  pub beside : beside_seen q ≡ beside_seen p
  pub blocks : blocks_of q ≡ blocks_of p
  pub names : KeepsNames p q
  pub plans : KeepsPlans p q

-- node c is loaded, and the reference at place i of node at leads there
pub record LeadsTo (f : Forest) (at i c : ℕ) : Type 0 where
  pub ref : Ref
  pub read : slice_get (refs f at) i ≡ Some ref
  pub link : f.link at ref.key ≡ loaded c

-- what the reference leads to must be loaded first
abbrev pub NeedsLoad : Forest → ℕ → ℕ → Type 0
NeedsLoad f at i = (c : ℕ) → LeadsTo f at i c → ⊥

-- node c isn't loaded, its block lies below node at, at the key of the reference r, and it may be a node of this tree
pub record FitsThere (p : MemorySets) (at : ℕ) (r : Ref) (c : ℕ) : Type 0 where
  pub held : Block
  pub read : slice_get (blocks_of p) c ≡ Some held
  pub away : (let f = forest_of p in f.stands c) ≡ false
  pub up : held.up ≡ Some at
  pub low : held.low ≡ r.key
  pub fits : AllFitBelow r (slice_get p.nodes.items (let f = forest_of p in f.root at)) held.set

-- there is no such node for the reference at place i of node at
abbrev pub NoneFits : MemorySets → ℕ → ℕ → Type 0
NoneFits p at i = (r : Ref) (c : ℕ) → slice_get (refs (forest_of p) at) i ≡ Some r → FitsThere p at r c → ⊥

-- node c isn't loaded, the leaf with the key in the tree of the root names it, and it is the root of the inode with this
-- number
pub record FitsLeaf (p : MemorySets) (root key c : ℕ) : Type 0 where
  pub node : Node
  pub read : slice_get p.nodes.items c ≡ Some node
  pub away : node.loaded ≡ false
  pub owner : node.owner ≡ Some (record { root = root; key = key })
  pub item : Inode
  pub holds : node.inode ≡ Some item
  pub fits : IsRootNode node item key

-- there is no such node
abbrev pub NoneNamed : MemorySets → ℕ → ℕ → Type 0
NoneNamed p root key = (c : ℕ) → FitsLeaf p root key c → ⊥

-- One load was counted: a failure of the disk that is planned is one load nearer, or it came and was counted. A load that
-- the disk fails meets no block; with each other one a bad block that is planned is nearer too.
pub record LoadsOne (p q : MemorySets) : Type 0 where
  pub failing : failing_load q ≡ failing_load p - 1
  pub failed : failing_load p ≡ 1 → q.failed ≡ one_more p.failed
  pub unmet : failing_load p ≡ 1 → spoiled_load q ≡ spoiled_load p
  pub none_failed : (failing_load p ≡ 1 → ⊥) → q.failed ≡ p.failed
  pub met : (failing_load p ≡ 1 → ⊥) → spoiled_load q ≡ spoiled_load p - 1
  pub refused : refused_spare q ≡ refused_spare p

-- the call failed exactly where it was to
abbrev pub FailsExactlyIf : {T : Type 0} → Type 0 → Result T Trouble → Type 0
FailsExactlyIf planned (Ok done) = planned → ⊥
FailsExactlyIf planned (Err Failed) = planned
FailsExactlyIf planned (Err (Bad place why)) = planned → ⊥
FailsExactlyIf planned (Err NoMemory) = planned → ⊥

-- the answer tells a bad block
abbrev pub TellsBad : {T : Type 0} → Result T Trouble → Type 0
TellsBad (Ok done) = ⊥
TellsBad (Err trouble) = IsBad trouble

-- Which nodes go, loaded or not, where node at is given the set s: those of its tree below a reference that s lacks, and
-- those of trees that belong to a leaf below one.
pub data Goes (f : Forest) (m at : ℕ) (s : RefSet) : Type 0 where
  below : GoesBelow f m at s → Goes f m at s
  owned : (key : ℕ) → Loses f at s key → f.belongs m (f.root at) key ≡ true → Goes f m at s

-- a block to which nothing leads any more
abbrev pub lost_block : Block → Block
lost_block b = record { set = b.set; inode = None; low = b.low; up = None; owner = b.owner }

-- a block with another set, which is that of its inode too
abbrev pub refit_block : RefSet → Block → Block
refit_block s b = record { set = s; inode = refit b.inode s; low = b.low; up = b.up; owner = b.owner }

-- a block with another inode
abbrev pub block_with : Inode → Block → Block
block_with i b = record { set = set_of_body i.body; inode = Some i; low = b.low; up = b.up; owner = b.owner }

-- a block that lies below node c now
abbrev pub block_below : ℕ → Block → Block
block_below c b = record { set = b.set; inode = b.inode; low = b.low; up = Some c; owner = b.owner }

-- The set s was given to node at of the forest f, and the blocks of its nodes, which were old, are new now: that of the
-- node is what `given` makes of the one before, those that go are lost, and all others stay.
pub record GivesBlock (f : Forest) (old new : List Block) (at : ℕ) (s : RefSet) (given : Block → Block) : Type 0 where
  pub count : length new ≡ length old
  pub own : (b : Block) → slice_get old at ≡ Some b → slice_get new at ≡ Some (given b)
  pub gone : (m : ℕ) (b : Block) → slice_get old m ≡ Some b → Goes f m at s → slice_get new m ≡ Some (lost_block b)
  pub others : (m : ℕ) (b : Block) → (m ≡ at → ⊥) → slice_get old m ≡ Some b → (Goes f m at s → ⊥) → slice_get new m ≡ Some b

-- a block lies below node at, at a key in the range of the split
pub record LiesIn (b : Block) (at : ℕ) (s : Split) : Type 0 where
  pub up : b.up ≡ Some at
  pub from : s.key ≤ b.low
  pub before : b.low < s.key + 2 ^ s.keybits

-- Node c is new, and has what a split of node at moved; the blocks, which were old, are new now. What lay below that part
-- lies below c, node at has the set that was kept, and all else stays.
pub record MakesBlock (old new : List Block) (at c : ℕ) (kept : RefSet) (s : Split) : Type 0 where
  pub fresh : c ≡ length old
  pub count : length new ≡ length old + 1
  pub made : slice_get new c ≡ Some (record { set = s.moved; inode = None; low = s.key; up = Some at; owner = None })
  pub own : (b : Block) → slice_get old at ≡ Some b → slice_get new at ≡ Some (refit_block kept b)
  pub moved : (m : ℕ) (b : Block) → (m ≡ at → ⊥) → slice_get old m ≡ Some b → LiesIn b at s → slice_get new m ≡ Some (block_below c b)
  pub others : (m : ℕ) (b : Block) → (m ≡ at → ⊥) → slice_get old m ≡ Some b → (LiesIn b at s → ⊥) → slice_get new m ≡ Some b

-- the block of the root of a new inode, which the leaf with the key in the tree of the root names
abbrev pub inode_block : ℕ → ℕ → Inode → Block
inode_block root key i = record { set = set_of_body i.body; inode = Some i; low = keys_from i.kind; up = None; owner = Some (record { root = root; key = key }) }
