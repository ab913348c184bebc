-- What the calls of the traits keep of a value: the names, the blocks but for those that they write or lose, and which
-- loads and calls are still to fail.
use Rattle.std.specs.Prelude.{◌≡◌, ◌≤◌, ◌<◌, ℕ, Bool, false, ◌&&◌, List, length, Option, Some, None, slice_get}
use Rattle.h2_num.specs.Causes.{Rose, one_more}
use Rattle.h2_memory_sets.specs.declared.node.Node.{Node}
use Rattle.h2_memory_sets.specs.declared.memory.MemorySets.{MemorySets}
use Rattle.h2_memory_sets.specs.Seen.{KeepsNames, failing_load, spoiled_load, refused_spare}

-- nothing leads to a node any more: it isn't loaded, nor can it be
pub record IsLost (x : Node) : Type 0 where
  pub away : x.loaded ≡ false
  pub bare : x.up ≡ None
  pub unknown : x.inode ≡ None

-- whether a node is loaded and writable
abbrev pub is_open : Node → Bool
is_open x = x.loaded && x.dirty

-- what is above a node is the same, or a node that is new where there were n
pub data StaysBelow (n : ℕ) : Option ℕ → Option ℕ → Type 0 where
  same : {u : Option ℕ} → StaysBelow n u u
  moved : {u c : ℕ} → n ≤ c → StaysBelow n (Some u) (Some c)

-- A node once calls went on, of n that there were. Its block holds what it held, unless it is writable now or lost.
pub record KeepsNode (n : ℕ) (x y : Node) : Type 0 where
  pub low : y.low ≡ x.low
  pub owner : y.owner ≡ x.owner
  -- what is lost stays so
  pub lost : IsLost x → IsLost y
  pub below : (IsLost y → ⊥) → StaysBelow n x.up y.up
  pub holds : (IsLost y → ⊥) → is_open y ≡ false → (is_open x ≡ false) × ((y.set ≡ x.set) × (y.inode ≡ x.inode))

-- each node is there still, loaded or not
pub record KeepsBlocks (xs ys : List Node) : Type 0 where
  pub longer : length xs ≤ length ys
  pub each : (i : ℕ) (x : Node) → slice_get xs i ≡ Some x → (y : Node) × ((slice_get ys i ≡ Some y) × KeepsNode (length xs) x y)

-- A failure of the disk that is planned for the a-th load from now on, and later for the b-th: it is no further off,
-- and no load failed, or it is gone, one load failed, and that was counted. Where none is planned, 0, no load fails.
pub data FailsAsPlanned (a b before now : ℕ) : Type 0 where
  waits : b ≤ a → (b ≡ 0 → a ≡ 0) → now ≡ before → FailsAsPlanned a b before now
  came : 0 < a → b ≡ 0 → now ≡ one_more before → FailsAsPlanned a b before now

-- The same of a load that is to meet a bad block: where its turn came, one was counted. Others may be bad too.
pub record SpoilsAsPlanned (a b before now : ℕ) : Type 0 where
  pub nearer : b ≤ a
  pub more : before ≤ now
  pub came : 0 < a → b ≡ 0 → Rose before now

-- a later value, after calls of the traits
pub record GoesOn (p q : MemorySets) : Type 0 where
  pub names : KeepsNames p q
  pub blocks : KeepsBlocks p.nodes.items q.nodes.items
  pub fails : FailsAsPlanned (failing_load p) (failing_load q) p.failed q.failed
  pub spoils : SpoilsAsPlanned (spoiled_load p) (spoiled_load q) p.bad q.bad
  pub refuses : refused_spare q ≤ refused_spare p
