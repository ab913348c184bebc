-- What putting blocks into a file does to the references of its contents.
use Rattle.std.specs.Prelude.{◌≡◌, ◌⊎◌, ◌<◌, ◌≤◌, ◌+◌, ◌*◌, ◌^◌, ℕ, true, List, [], ◌∷◌, Option, Some, length, slice_get}
use Rattle.h2_ref.specs.declared.reference.Ref.{Ref}
use Rattle.h2_ref.specs.declared.reference.Kind.TheVariants.{Content}
use Rattle.h2_set.specs.Ranges.{NoneHolds, IsAligned, put}
use Rattle.h2_set.specs.RefSet.{RefSet}
use Rattle.h2_set.specs.SetBytes.{IsHeld}
use Rattle.h2_set.specs.Forest.{Forest, IsSound, LeavesOf, Reaches}
use Rattle.h2_set.specs.Calls.{InPlace, Keeps, Renews, Alters}
use Rattle.h2_tree.specs.Changes.{Inserts, KeepsPaths, Prepares, PathUnloaded}
use Rattle.h2_inode.specs.Nodes.{Replaces}
use Rattle.h2_file.specs.Sizing.{Sizes}

-- a reference of a block of a file, with a key that a file's tree may have
pub record IsBlock (r : Ref) : Type 0 where
  pub kind : r.kind ≡ Content
  pub held : IsHeld r
  pub keybits : r.keybits ≡ 14
  pub aligned : IsAligned r
  pub class : r.key < 2 ^ 62

-- the keys are those of consecutive blocks, from this one on
abbrev pub FollowFrom : ℕ → List Ref → Type 0
FollowFrom key [] = Unit {0}
FollowFrom key (r ∷ rs) = (r.key ≡ key) × FollowFrom (key + 16384) rs

-- the keys of at most 65 consecutive blocks, before which block 0 may stand
pub data IsRun : List Ref → Type 0 where
  blocks : {rs : List Ref} → (first : ℕ) → FollowFrom first rs → length rs ≤ 65 → IsRun rs
  behind_zero : {r : Ref} {rs : List Ref} → (first : ℕ) → r.key ≡ 0 → 0 < first → FollowFrom first rs → length rs ≤ 65 → IsRun (r ∷ rs)

-- references that may be put into a file
pub record AreBlocks (rs : List Ref) : Type 0 where
  pub each : (i : ℕ) (r : Ref) → slice_get rs i ≡ Some r → IsBlock r
  pub run : IsRun rs

-- a list of references with all of these put into it, one after the other
abbrev pub put_each : List Ref → List Ref → List Ref
put_each [] l = l
put_each (r ∷ rs) l = put_each rs (put r l)

-- The loads

-- the path of the key of each reference is loaded
abbrev pub PathsLoaded : Forest → ℕ → List Ref → Type 0
PathsLoaded f at rs = (i : ℕ) (r : Ref) → slice_get rs i ≡ Some r → (o : Option Ref) × Reaches f r.key at o

-- node m has the key of one of the references in its range
pub record IsOnPath (f : Forest) (m : ℕ) (rs : List Ref) : Type 0 where
  pub place : ℕ
  pub ref : Ref
  pub read : slice_get rs place ≡ Some ref
  pub low : f.low m ≤ ref.key
  pub high : ref.key < f.low m + 2 ^ f.bits m

-- each node that was loaded has the key of one of the references in its range, and is in the tree of node at
pub record LoadsEach (f g : Forest) (at : ℕ) (rs : List Ref) : Type 0 where
  pub only : (m : ℕ) → g.stands m ≡ true → (f.stands m ≡ true) ⊎ (IsOnPath g m rs × (g.root m ≡ f.root at))

-- the nodes of other trees than that of node at are as before, with the same nodes and blocks below them
abbrev pub KeepsOthers : Forest → Forest → ℕ → Type 0
KeepsOthers f g at = (m : ℕ) → f.stands m ≡ true → (f.root m ≡ f.root at → ⊥) → Keeps f g m

-- a node on the path of the key of one of the references isn't loaded
pub record PathMissing (f : Forest) (at : ℕ) (rs : List Ref) : Type 0 where
  pub place : ℕ
  pub ref : Ref
  pub read : slice_get rs place ≡ Some ref
  pub unloaded : PathUnloaded f at ref.key

-- The changes

-- the set of an inode's body with no reference in it
abbrev pub empty_set : RefSet
empty_set = record { refs = []; capacity = 4 }

-- the root of a file is made writable, and where the file's body was bytes, it is an empty set then
pub data Opens (f : Forest) (at : ℕ) : Forest → Type 0 where
  body_of_refs : {h : Forest} → Alters f h at → Opens f at h
  body_of_bytes : {h g : Forest} → Alters f h at → (let s = h.set at in s ≡ empty_set) → Replaces h g at empty_set → Opens f at g

-- the reference has gone into the tree of root at: its path leads to it, and paths of keys out of its range stay
pub record Puts (f g : Forest) (at : ℕ) (r : Ref) : Type 0 where
  pub old : Option Ref
  pub inserts : Inserts f g at r old
  pub path : Reaches g r.key at (Some r)
  pub paths : KeepsPaths f g at r

-- the references have gone in one after the other, in their order
pub data PutsEach (at : ℕ) : Forest → List Ref → Forest → Type 0 where
  none : {f : Forest} → PutsEach at f [] f
  first : {f h g : Forest} {r : Ref} {rs : List Ref} → Puts f h at r → PutsEach at h rs g → PutsEach at f (r ∷ rs) g

-- how many blocks were made for them, one by each split
abbrev pub new_blocks : {at : ℕ} {f g : Forest} {rs : List Ref} → PutsEach at f rs g → ℕ
new_blocks none = 0
new_blocks (first step rest) = step.inserts.goes.blocks + new_blocks rest

-- The steps: all loads come first, then the root is made writable, each reference goes in, and the size is set.
pub record LinksNodes (f g : Forest) (at : ℕ) (rs : List Ref) : Type 0 where
  -- after the loads
  pub walked : Forest
  pub prepares : Prepares f walked
  -- no node off the paths of the keys was loaded, and none of another tree
  pub touched : LoadsEach f walked at rs
  pub apart : KeepsOthers f walked at
  pub loaded : PathsLoaded walked at rs
  -- a node is spare for each reference by then
  pub enough : length rs ≤ walked.spare
  -- and where so many were spare before, no node was made spare
  pub made : length rs ≤ f.spare → walked.spare ≡ f.spare
  -- once the root was made writable
  pub opened : Forest
  pub opens : Opens walked at opened
  -- once the references were in
  pub linked : Forest
  pub puts : PutsEach at opened rs linked
  -- spare nodes don't rise after the loads
  pub grown : linked.spare ≤ walked.spare
  -- they fall by the blocks that are made, and by no more
  pub spent : linked.spare + new_blocks puts ≡ walked.spare
  pub sizes : Sizes linked g at

-- The references are in the file's list, each in place of the one with its key. What stands stands where it stood; in
-- other trees references on the way to what changed, and no others, name other blocks.
pub record LinksFile (f g : Forest) (at : ℕ) (rs : List Ref) : Type 0 where
  pub sound : IsSound g
  pub leaves : (l : List Ref) → LeavesOf f at l → LeavesOf g at (put_each rs l)
  -- the loaded path of each of the keys leads to its reference
  pub put : (i : ℕ) (r : Ref) → slice_get rs i ≡ Some r → Reaches g r.key at (Some r)
  -- and loaded paths of other keys to what they led to
  pub paths : (key : ℕ) (o : Option Ref) → NoneHolds key rs → Reaches f key at o → Reaches g key at o
  pub place : InPlace f g at
  -- what was loaded, and which nodes and references change after that
  pub nodes : LinksNodes f g at rs
  pub others : (m : ℕ) → f.stands m ≡ true → (f.root m ≡ at → ⊥) → Renews f g m
  pub still : (m : ℕ) → f.stands m ≡ true → InPlace f g m
  -- no root is new
  pub roots : (m : ℕ) → g.stands m ≡ true → g.root m ≡ m → f.stands m ≡ true
  pub leaf_bits : (m : ℕ) → f.stands m ≡ true → g.leaf_bits m ≡ f.leaf_bits m
  pub allows : (m : ℕ) (r : Ref) → f.stands m ≡ true → (m ≡ at → ⊥) → g.allows m r ≡ f.allows m r
  pub held : (m : ℕ) → g.held m ≡ f.held m
  pub name : (r : Ref) → g.name r ≡ f.name r
  pub epoch : g.epoch ≡ f.epoch
  pub failed : f.failed ≤ g.failed
  pub bad : f.bad ≤ g.bad
  pub writable : g.writable at ≡ true
  pub room : f.room ≤ g.room + 7 * length rs + 129
  pub room_each : f.room ≤ g.room + 63 * length rs
  pub room_falls : g.room ≤ f.room
  pub spare : f.spare ≤ g.spare + length rs
  -- spare nodes don't rise where there was one for each reference
  pub spare_falls : length rs ≤ f.spare → g.spare ≤ f.spare
