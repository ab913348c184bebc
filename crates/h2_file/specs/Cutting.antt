-- What cutting a file to a size does to the references of its contents.
use Rattle.std.specs.Prelude.{◌≡◌, ◌⊎◌, ◌<◌, ◌≤◌, ◌+◌, ◌-◌, ◌*◌, ◌/◌, ◌^◌, ◌==◌, nat_lt, ℕ, true, false, List, [], Option, Some, None, filter, map, take, length, slice_get, slice_set, if◌then◌else◌}
use Rattle.h2_ref.specs.declared.reference.Ref.{Ref}
use Rattle.h2_ref.specs.declared.reference.Kind.TheVariants.{Content}
use Rattle.h2_set.specs.Ranges.{limit, holds, NoneHolds, IsAligned, is_indirect}
use Rattle.h2_set.specs.SetBytes.{IsHeld}
use Rattle.h2_set.specs.Forest.{Forest, refs, loaded, IsSound, HasLeaves, LeavesOf, Reaches, IsRootOf}
use Rattle.h2_set.specs.Calls.{Alike, Fixed, InPlace, Keeps, Renews, Walks, OnWay, IsAbove}
use Rattle.h2_tree.specs.Changes.{Under, LoadsIn, WalksUnder, Descends}
use Rattle.h2_file.specs.declared.cutting.Left.{Left}
use Rattle.h2_file.specs.declared.cutting.Left.TheVariants.{Nothing, All, Something}

-- where the block begins in which a cut to the size ends
abbrev pub cut_block : ℕ → ℕ
cut_block size = 16384 * (size / 16384)

-- a reference that is to stand in place of that of the block in which the cut ends
pub record IsCutBlock (size : ℕ) (r : Ref) : Type 0 where
  pub kind : r.kind ≡ Content
  pub held : IsHeld r
  pub keybits : r.keybits ≡ 14
  pub aligned : IsAligned r
  pub low : r.key < size
  pub high : size < limit r

-- Up to this place a cut leaves what paths lead to: up to the size, or, where a last one is put, up to its block.
abbrev pub kept_to : ℕ → Option Ref → ℕ
kept_to size None = size
kept_to size (Some q) = cut_block size

-- the reference, or the one that is put in its place
abbrev pub in_place : Option Ref → Ref → Ref
in_place None r = r
in_place (Some q) r = if r.key == q.key then q else r

-- the references below the size, with the last one in place of the one with its key
abbrev pub cut_to : ℕ → Option Ref → List Ref → List Ref
cut_to size last l = map (in_place last) (filter (λ r. nat_lt r.key size) l)

-- the first references, with the last one in place of the last of them
abbrev pub front : ℕ → Option Ref → List Ref → List Ref
front count None rs = take count rs
front count (Some q) rs = slice_set (take count rs) (count - 1) q

-- a reference that may stand in place of the last of the first references
pub record FitsLast (rs : List Ref) (count : ℕ) (q : Ref) : Type 0 where
  pub some : 0 < count
  pub ref : Ref
  pub read : slice_get rs (count - 1) ≡ Some ref
  pub leaf_was : is_indirect ref ≡ false
  pub key : ref.key ≡ q.key
  pub keybits : ref.keybits ≡ q.keybits
  pub kind : q.kind ≡ Content
  pub held : IsHeld q

-- by these references of node at, and then by loaded nodes, the key's path leads to this leaf, or to none
pub data ReachesBy (f : Forest) (key at : ℕ) (rs : List Ref) : Option Ref → Type 0 where
  misses : NoneHolds key rs → ReachesBy f key at rs None
  arrives : {r : Ref} → (i : ℕ) → slice_get rs i ≡ Some r → holds key r ≡ true → is_indirect r ≡ false → ReachesBy f key at rs (Some r)
  leads : {c : ℕ} {r : Ref} {o : Option Ref} → (i : ℕ) → slice_get rs i ≡ Some r → holds key r ≡ true → is_indirect r ≡ true → f.link at r.key ≡ loaded c → Reaches f key c o → ReachesBy f key at rs o

-- what a path leads to after a cut: nothing at or past the size, and where a last one was given, no other
pub record IsLeft (size : ℕ) (last : Option Ref) (found : Option Ref) : Type 0 where
  pub low : (r : Ref) → found ≡ Some r → r.key < size
  pub put : (r q : Ref) → found ≡ Some r → last ≡ Some q → r ≡ q

-- the path of the key is loaded, and leads to nothing but what the cut leaves
pub record LeadsLeft (f : Forest) (at size : ℕ) (last : Option Ref) (key : ℕ) : Type 0 where
  pub found : Option Ref
  pub path : Reaches f key at found
  pub left : IsLeft size last found

-- not all of the references are left as they are: some go, or one is put in place of another
abbrev pub IsChanged : List Ref → ℕ → Option Ref → Type 0
IsChanged rs count put = (count < length rs) ⊎ ((q : Ref) × (put ≡ Some q))

-- node m stands below a reference of node n, at this place or behind it
pub record GoesBehind (f : Forest) (n count m : ℕ) : Type 0 where
  pub place : ℕ
  pub ref : Ref
  pub read : slice_get (refs f n) place ≡ Some ref
  pub behind : count ≤ place
  pub tree : f.root m ≡ f.root n
  pub fewer : f.bits m < f.bits n
  pub held : holds (f.low m) ref ≡ true

-- node m goes in a cut: it stands below a reference of a node which loses that, and is left those before it
pub record GoesPast (h g : Forest) (m : ℕ) : Type 0 where
  pub node : ℕ
  pub stood : h.stands node ≡ true
  pub stays : g.stands node ≡ true
  pub behind : GoesBehind h node (length (refs g node)) m

-- Node at has its first references alone, and the last one; other nodes of its tree keep theirs, but for what is below
-- those that it lost.
pub record KeepsFront (f g : Forest) (at count : ℕ) (last : Option Ref) : Type 0 where
  pub sound : IsSound g
  pub fixed : Fixed f g
  pub place : InPlace f g at
  pub leaves : (l : List Ref) → HasLeaves f at (front count last (refs f at)) l → LeavesOf g at l
  pub paths : (key : ℕ) (o : Option Ref) → ReachesBy f key at (front count last (refs f at)) o → Reaches g key at o
  pub tree : (m : ℕ) → f.stands m ≡ true → f.root m ≡ f.root at → (Under f m at → ⊥) → Keeps f g m
  pub above : (m : ℕ) → f.stands m ≡ true → (f.root m ≡ f.root at → ⊥) → Renews f g m
  pub none_new : (m : ℕ) → g.stands m ≡ true → f.stands m ≡ true
  pub still : (m : ℕ) → g.stands m ≡ true → InPlace f g m
  pub set : let s = f.set at in g.set at ≡ record { refs = front count last s.refs; capacity = s.capacity }
  -- what is below the references that are left stands
  pub below : (m i : ℕ) (r : Ref) → f.stands m ≡ true → f.root m ≡ f.root at → f.bits m < f.bits at → slice_get (front count last (refs f at)) i ≡ Some r → is_indirect r ≡ true → r.key ≤ f.low m → f.low m + 2 ^ f.bits m ≤ limit r → g.stands m ≡ true
  -- a reference of another node that doesn't lead to the node is the same
  pub exact : (m i : ℕ) (r : Ref) → f.stands m ≡ true → g.stands m ≡ true → (m ≡ at → ⊥) → slice_get (refs f m) i ≡ Some r → (OnWay f m r at → ⊥) → slice_get (refs g m) i ≡ Some r
  pub lengths : (m : ℕ) → f.stands m ≡ true → g.stands m ≡ true → (m ≡ at → ⊥) → length (refs g m) ≡ length (refs f m)
  -- what isn't above the node has its set, and is as writable as before
  pub others : (m : ℕ) → f.stands m ≡ true → g.stands m ≡ true → (IsAbove f m at → ⊥) → (g.set m ≡ f.set m) × (g.writable m ≡ f.writable m)
  pub made : (m : ℕ) → f.stands m ≡ true → g.stands m ≡ true → IsAbove f m at → g.writable m ≡ true
  -- what is loaded or told below the references that are left is so still, and below those of all other nodes
  pub link : (i : ℕ) (r : Ref) → slice_get (refs g at) i ≡ Some r → is_indirect r ≡ true → g.link at r.key ≡ f.link at r.key
  pub links : (m k : ℕ) → f.stands m ≡ true → g.stands m ≡ true → (m ≡ at → ⊥) → g.link m k ≡ f.link m k
  pub alike : (m : ℕ) → f.stands m ≡ true → g.stands m ≡ true → f.root m ≡ f.root at → (m ≡ at → ⊥) → Alike (refs f m) (refs g m)
  -- no node goes but below a reference that is lost, and each of those goes
  pub stand : (m : ℕ) → f.stands m ≡ true → (GoesBehind f at count m → ⊥) → g.stands m ≡ true
  pub gone : (m : ℕ) → f.stands m ≡ true → GoesBehind f at count m → g.stands m ≡ false
  -- no reference of another node changes that names a node which was writable, be it a leaf that names a root, and one
  -- that changes has the epoch as its id
  pub kept : (m i c : ℕ) (r : Ref) → f.stands m ≡ true → g.stands m ≡ true → (m ≡ at → ⊥) → slice_get (refs f m) i ≡ Some r → f.link m r.key ≡ loaded c → f.writable c ≡ true → slice_get (refs g m) i ≡ Some r
  pub kept_leaf : (m i c : ℕ) (r : Ref) → f.stands m ≡ true → g.stands m ≡ true → (m ≡ at → ⊥) → slice_get (refs f m) i ≡ Some r → is_indirect r ≡ false → IsRootOf f (f.root m) r.key c → f.writable c ≡ true → slice_get (refs g m) i ≡ Some r
  pub dated : (m i : ℕ) (r q : Ref) → f.stands m ≡ true → g.stands m ≡ true → (m ≡ at → ⊥) → slice_get (refs f m) i ≡ Some r → slice_get (refs g m) i ≡ Some q → (q ≡ r) ⊎ (q.id ≡ f.epoch)
  pub writable : g.writable at ≡ true
  pub copies : g.copies at ≡ 0
  pub room : g.room + f.copies at ≡ f.room
  pub spare : g.spare ≡ f.spare

-- what leaving node at its first references comes to: where that are all, nothing has changed
abbrev pub Shortens : Forest → Forest → ℕ → ℕ → Option Ref → Left → Type 0
Shortens f g at count last Nothing = ⊥
Shortens f g at count last All = (g ≡ f) × (count ≡ length (refs f at)) × (last ≡ None)
Shortens f g at count last Something = KeepsFront f g at count last × IsChanged (refs f at) count last

-- The references at or past the size are out of the list of node at, the last one is in it in place of the one with its
-- key, and other nodes keep theirs.
pub record Cuts (f g : Forest) (at size : ℕ) (last : Option Ref) : Type 0 where
  pub sound : IsSound g
  pub fixed : Fixed f g
  pub place : InPlace f g at
  pub leaves : (l : List Ref) → LeavesOf f at l → LeavesOf g at (cut_to size last l)
  -- loaded paths to what is left stay, and lead to what they led to
  pub before : (key : ℕ) (o : Option Ref) → key < kept_to size last → Reaches f key at o → Reaches g key at o
  -- all paths from the size on are loaded now
  pub past : (key : ℕ) → size ≤ key → LeadsLeft g at size last key
  pub tree : (m : ℕ) → f.stands m ≡ true → f.root m ≡ f.root at → (Under f m at → ⊥) → Keeps f g m
  pub above : (m : ℕ) → f.stands m ≡ true → (f.root m ≡ f.root at → ⊥) → Renews f g m
  -- what stands before and after stands where it stood
  pub still : (m : ℕ) → f.stands m ≡ true → g.stands m ≡ true → InPlace f g m
  -- no node off the path of the size was loaded, and none of another tree
  pub touched : LoadsIn f g at size size
  pub room : f.room ≤ g.room + 62
  pub room_falls : g.room ≤ f.room
  pub spare : g.spare ≡ f.spare

-- Which nodes a cut changes: once the path of the size was loaded, the set of one node on it, and nodes above that one.
-- It is a node of which something goes or is replaced, or the root, which is written for the size in any case. The room
-- is lowered by the nodes from it up to below the root that weren't writable.
pub record CutsNodes (f g : Forest) (at size : ℕ) (last : Option Ref) : Type 0 where
  -- after the loads
  pub walked : Forest
  pub walks : Walks f walked
  -- no node off the path of the size was loaded, and none of another tree
  pub touched : LoadsIn f walked at size size
  pub node : ℕ
  pub stands : walked.stands node ≡ true
  pub way : Descends walked size at node
  pub stays : g.stands node ≡ true
  pub count : ℕ
  pub put : Option Ref
  pub given : (q : Ref) → put ≡ Some q → last ≡ Some q
  pub set : let s = walked.set node in g.set node ≡ record { refs = front count put s.refs; capacity = s.capacity }
  pub changes : (walked.root node ≡ node) ⊎ IsChanged (refs walked node) count put
  pub none_new : (m : ℕ) → g.stands m ≡ true → walked.stands m ≡ true
  -- each reference that ends by the size is left
  pub left : (m i : ℕ) (r : Ref) → walked.stands m ≡ true → g.stands m ≡ true → slice_get (refs walked m) i ≡ Some r → limit r ≤ size → i < length (refs g m)
  pub still : (m : ℕ) → walked.stands m ≡ true → g.stands m ≡ true → InPlace walked g m
  -- no node goes but below a reference that goes, and each of those goes
  pub stand : (m : ℕ) → walked.stands m ≡ true → (GoesPast walked g m → ⊥) → g.stands m ≡ true
  pub gone : (m : ℕ) → walked.stands m ≡ true → GoesPast walked g m → g.stands m ≡ false
  -- what is loaded or told below a reference that is left is so still
  pub link : (m i : ℕ) (r : Ref) → walked.stands m ≡ true → g.stands m ≡ true → slice_get (refs g m) i ≡ Some r → is_indirect r ≡ true → g.link m r.key ≡ walked.link m r.key
  -- of the other nodes of the tree the first references are left, but for where blocks of indirect ones lie
  pub alike : (m : ℕ) → walked.stands m ≡ true → g.stands m ≡ true → walked.root m ≡ walked.root at → (m ≡ node → ⊥) → Alike (take (length (refs g m)) (refs walked m)) (refs g m)
  -- and of those of other trees all, but for where blocks of inodes and indirect ones lie
  pub renewed : (m : ℕ) → walked.stands m ≡ true → (walked.root m ≡ walked.root at → ⊥) → Renews walked g m
  -- no reference changes but on the way to the node
  pub exact : (m i : ℕ) (r : Ref) → walked.stands m ≡ true → g.stands m ≡ true → (m ≡ node → ⊥) → slice_get (refs walked m) i ≡ Some r → i < length (refs g m) → (OnWay walked m r node → ⊥) → slice_get (refs g m) i ≡ Some r
  -- nor does one that names a node which was writable
  pub kept : (m i c : ℕ) (r : Ref) → walked.stands m ≡ true → g.stands m ≡ true → (m ≡ node → ⊥) → slice_get (refs walked m) i ≡ Some r → i < length (refs g m) → walked.link m r.key ≡ loaded c → walked.writable c ≡ true → slice_get (refs g m) i ≡ Some r
  -- nor does a leaf that names a root which was writable
  pub kept_leaf : (m i c : ℕ) (r : Ref) → walked.stands m ≡ true → g.stands m ≡ true → (m ≡ node → ⊥) → slice_get (refs walked m) i ≡ Some r → i < length (refs g m) → is_indirect r ≡ false → IsRootOf walked (walked.root m) r.key c → walked.writable c ≡ true → slice_get (refs g m) i ≡ Some r
  -- one that changes has the epoch as its id
  pub dated : (m i : ℕ) (r q : Ref) → walked.stands m ≡ true → g.stands m ≡ true → (m ≡ node → ⊥) → slice_get (refs walked m) i ≡ Some r → slice_get (refs g m) i ≡ Some q → (q ≡ r) ⊎ (q.id ≡ walked.epoch)
  pub epoch : g.epoch ≡ walked.epoch
  -- what isn't above the node has its set, and is as writable as before
  pub others : (m : ℕ) → walked.stands m ≡ true → g.stands m ≡ true → (IsAbove walked m node → ⊥) → (g.set m ≡ walked.set m) × (g.writable m ≡ walked.writable m)
  pub made : (m : ℕ) → walked.stands m ≡ true → g.stands m ≡ true → IsAbove walked m node → g.writable m ≡ true
  pub writable : g.writable at ≡ true
  pub copies : g.copies at ≡ 0
  pub room : g.room + walked.copies node ≡ f.room

-- What a cut leaves of the tree below a node: the references below the size, which may be all, or, where there is none,
-- all as it was. Only where some go or one is replaced has anything changed.
abbrev pub Remains : Forest → Forest → ℕ → ℕ → Option Ref → Left → Type 0
Remains f g at size last Nothing = WalksUnder f g at × LoadsIn f g at size size × ((l : List Ref) → LeavesOf f at l → cut_to size last l ≡ []) × ((key : ℕ) (o : Option Ref) → key < size → Reaches f key at o → o ≡ None) × ((i : ℕ) (r : Ref) → slice_get (refs f at) i ≡ Some r → limit r ≤ size → ⊥)
Remains f g at size last All = Cuts f g at size last × WalksUnder f g at
Remains f g at size last Something = Cuts f g at size last × CutsNodes f g at size last

-- The references at or past the size are out of the file's list, and the last one is in it in place of the one with its
-- key. What stands before and after stands where it stood; in other trees references on the way to what changed, and no
-- others, name other blocks.
pub record CutsFile (f g : Forest) (at size : ℕ) (last : Option Ref) : Type 0 where
  pub sound : IsSound g
  pub leaves : (l : List Ref) → LeavesOf f at l → LeavesOf g at (cut_to size last l)
  -- loaded paths to what is left stay, and lead to what they led to
  pub before : (key : ℕ) (o : Option Ref) → key < kept_to size last → Reaches f key at o → Reaches g key at o
  -- all paths from the size on are loaded now
  pub past : (key : ℕ) → size ≤ key → LeadsLeft g at size last key
  pub place : InPlace f g at
  -- which nodes change, and which references of others
  pub nodes : CutsNodes f g at size last
  pub others : (m : ℕ) → f.stands m ≡ true → (f.root m ≡ at → ⊥) → Renews f g m
  pub still : (m : ℕ) → f.stands m ≡ true → g.stands m ≡ true → InPlace f g m
  -- no root is new
  pub roots : (m : ℕ) → g.stands m ≡ true → g.root m ≡ m → f.stands m ≡ true
  -- no node off the path of the size was loaded, and none of another tree
  pub touched : LoadsIn f g at size size
  pub leaf_bits : (m : ℕ) → f.stands m ≡ true → g.stands m ≡ true → g.leaf_bits m ≡ f.leaf_bits m
  pub allows : (m : ℕ) (r : Ref) → f.stands m ≡ true → g.stands m ≡ true → g.allows m r ≡ f.allows m r
  pub held : (m : ℕ) → g.held m ≡ f.held m
  pub name : (r : Ref) → g.name r ≡ f.name r
  pub epoch : g.epoch ≡ f.epoch
  pub failed : f.failed ≤ g.failed
  pub bad : f.bad ≤ g.bad
  pub writable : g.writable at ≡ true
  pub room : f.room ≤ g.room + 62
  pub room_falls : g.room ≤ f.room
  pub spare : g.spare ≡ f.spare
