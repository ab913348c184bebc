-- What is known of a PFS stays so over loads, and the load of an inode brings what was known of it.
use Rattle.std.specs.Prelude.{◌≡◌, ℕ, Bool, true, false, List, [], ◌∷◌, Contains, Some, IsErrAnd, IfErr, Result, Ok, Err, refl}
use Rattle.std.specs.FinMap.{get}
use Rattle.std.proofs.Common.{sym, ◌∙◌, subst, inl, inr}
use Rattle.h2_ref.specs.declared.faults.Trouble.{Trouble}
use Rattle.h2_ref.specs.declared.reference.Ref.{Ref}
use Rattle.h2_set.specs.Forest.{Forest, LeavesOf, Reaches}
use Rattle.h2_set.specs.Calls.{IsBad}
use Rattle.h2_inode.specs.declared.inode.Inode.{Inode}
use Rattle.h2_inode.specs.declared.kind.InodeKind.TheVariants.{Directory}
use Rattle.h2_inode.specs.Nodes.{Told, HasInode, IsUnloaded, Seeks}
use Rattle.h2_inode.specs.Directory.{Entries, IsDirectory}
use Rattle.h2_inode.specs.CarryLaws.{directory_carried}
use Rattle.h2_inode.specs.Loaded.{Tree, at_root, of_leaves, NamesInode, View, reading, no_content, IsSameTree, Rereads, StandsAlike, as_before, by_load, over_loads}
use Rattle.h2_inode.specs.LoadedLaws.{rereads_follow}
use Rattle.h2_dir.specs.declared.fault.DirFault.{DirFault}
use Rattle.h2_dir.specs.declared.fault.DirFault.TheVariants as fault
use Rattle.h2_dir.specs.Finding.{FindFails, IsBadBlock}
use Rattle.h2_dir.proofs.FoundLaws.{reached_in}
use Rattle.h2_dir.proofs.Members.{at_place}
use Rattle.h2_dir.specs.Knowing.{KnowsEntries, KnowsInode, KnowsWay}

module _ (u v : View) (h : Rereads u v) (may : ℕ → ℕ → Bool) where
  entries_on : (t w : Tree) (name : List ℕ) (On Then : ℕ → Type 0) → ((next : ℕ) → On next → Then next) → IsSameTree u v t w → KnowsEntries u may t name On → KnowsEntries v may w name Then
  entries_on t w name On Then more same k = record {
    size = k.size;
    entries = k.entries;
    directory = directory_carried (over_loads u v no_content) (rereads_follow u v h no_content) (λ target number. may target number ≡ true) (λ target number. may target number ≡ true) (λ target number x. x) t w k.size k.entries same k.directory;
    on = λ next is. more next (k.on next is);
  }

  inode_on : (pfs : ℕ) (l : List Ref) (leaf : Ref) (name : List ℕ) (On Then : ℕ → Type 0) → u.forest.stands pfs ≡ true → LeavesOf u.forest pfs l → Contains l leaf → ((next : ℕ) → On next → Then next) → KnowsInode u may pfs leaf name On → KnowsInode v may pfs leaf name Then
  inode_on pfs l leaf name On Then stands has at more k =
      let g = h.inode pfs leaf k.inode k.tree stands (l, has, at) k.named in
      record { inode = k.inode; tree = g.0; named = g.1; entries = λ kind. entries_on k.tree g.0 name On Then more g.2 (k.entries kind) }

  way_on : (pfs : ℕ) (l : List Ref) (names : List (List ℕ)) (number : ℕ) → u.forest.stands pfs ≡ true → LeavesOf u.forest pfs l → KnowsWay u may pfs l number names → KnowsWay v may pfs l number names
  way_on pfs l [] number stands has k = tt
  way_on pfs l (name ∷ names) number stands has k = λ leaf at key.
      inode_on pfs l leaf name (λ next. KnowsWay u may pfs l next names) (λ next. KnowsWay v may pfs l next names) stands has at (λ next. way_on pfs l names next stands has) (k leaf at key)

-- over any loads
pub way_alike : {u v : View} → StandsAlike u v → (may : ℕ → ℕ → Bool) (pfs : ℕ) (l : List Ref) (names : List (List ℕ)) (number : ℕ) → u.forest.stands pfs ≡ true → LeavesOf u.forest pfs l → KnowsWay u may pfs l number names → KnowsWay v may pfs l number names
way_alike as_before may pfs l names number stands has k = k
way_alike {u} (by_load {v = w} h a) may pfs l names number stands has k = way_alike a may pfs l names number (h.stands pfs stands) (h.leaves pfs stands l has) (way_on u w h may pfs l names number stands has k)

-- root c is that of an inode that is known
pub record KnowsRoot (v : View) (may : ℕ → ℕ → Bool) (c : ℕ) (name : List ℕ) (On : ℕ → Type 0) : Type 0 where
  pub inode : Inode
  pub has : HasInode v.forest v.holds c inode
  pub entries : inode.kind ≡ Directory → KnowsEntries v may (at_root c) name On

-- the root that was sought is the one that the leaf names in the reading
module _ (u v : View) (pfs c : ℕ) (leaf : Ref) (seeks : Seeks u.forest v.forest pfs leaf.key c) where
  pub same_root : (t : Tree) (i : Inode) (d : ℕ) → NamesInode u.forest u.holds u.tells (at_root pfs) leaf i t → IsSameTree u v t (at_root d) → v.forest.stands d ≡ true → d ≡ c
  same_root (at_root m) i d (inl (e, named, has, is)) same stands =
      let tree : at_root m ≡ at_root e = is in
      let at : m ≡ e = (cc) in
      same.0 ∙ at ∙ sym (seeks.loaded e named)
  same_root (at_root m) i d (inr (none, x)) same stands = let clash : at_root m ≡ of_leaves (x.0).leaves = x.3 in absurd (cc)
  same_root (of_leaves l) i d names same stands = elim (seeks.brings.new d stands) as (λ _. d ≡ c) [
    | inl e ↦ e
    | inr stood ↦ let clash : true ≡ false = sym stood ∙ same.0 in absurd (cc)
  ]

  module _ (h : Rereads u v) (may : ℕ → ℕ → Bool) (l : List Ref) (name : List ℕ) (On : ℕ → Type 0) (stands : u.forest.stands pfs ≡ true) (has : LeavesOf u.forest pfs l) (at : Contains l leaf) where
    by_name : (k : KnowsInode u may pfs leaf name On) (w : Tree) → IsSameTree u v k.tree w → NamesInode v.forest v.holds v.tells (at_root pfs) leaf k.inode w → KnowsRoot v may c name On
    by_name k w same (inl (d, named, is, tree)) =
        let there : IsSameTree u v k.tree (at_root d) = subst (IsSameTree u v k.tree) tree same in
        let root : d ≡ c = same_root k.tree k.inode d k.named there named.stands in
        record {
          inode = k.inode;
          has = subst (λ m. HasInode v.forest v.holds m k.inode) root is;
          entries = λ kind. subst (λ m. KnowsEntries v may (at_root m) name On) root (entries_on u v h may k.tree (at_root d) name On On (λ next x. x) there (k.entries kind));
        }
    by_name k w same (inr (none, told)) = absurd (none c seeks.named)

    pub sought_root : KnowsInode u may pfs leaf name On → KnowsRoot v may c name On
    sought_root k = let g = h.inode pfs leaf k.inode k.tree stands (l, has, at) k.named in by_name k g.0 g.2 g.1

-- the block of an inode that isn't loaded is told
told_block : (v : View) (pfs : ℕ) (leaf : Ref) (i : Inode) (t : Tree) → IsUnloaded v.forest pfs leaf.key → NamesInode v.forest v.holds v.tells (at_root pfs) leaf i t → (x : Told) × (v.tells leaf ≡ Some x)
told_block v pfs leaf i t none (inl (d, named, is, tree)) = absurd (none d named)
told_block v pfs leaf i t none (inr (gone, x)) = (x.0, x.1)

pub known_block : (v : View) (may : ℕ → ℕ → Bool) (pfs : ℕ) (leaf : Ref) (name : List ℕ) (On : ℕ → Type 0) → KnowsInode v may pfs leaf name On → IsUnloaded v.forest pfs leaf.key → (x : Told) × (v.tells leaf ≡ Some x)
known_block v may pfs leaf name On k none = told_block v pfs leaf k.inode k.tree none k.named

-- a trouble that is handed on
pub good_trouble : (e : Trouble) (result : Result ℕ DirFault) → IsErrAnd result (λ why. why ≡ fault.Trouble e) → (IsBad e → ⊥) → IfErr result (λ why. IsBadBlock why → ⊥)
good_trouble e (Ok found) is h = absurd is
good_trouble e (Err why) is h = subst (λ w. IsBadBlock w → ⊥) (sym is) h

-- The first steps of a walk

module _ (u w : View) (r : Rereads u w) (may : ℕ → ℕ → Bool) (pfs : ℕ) (l : List Ref) (leaf : Ref) (name : List ℕ) (names : List (List ℕ)) (stands : u.forest.stands pfs ≡ true) (has : LeavesOf u.forest pfs l) (path : Reaches w.forest leaf.key pfs (Some leaf)) where
  -- the leaf to which the path of its key leads is one of those that are known
  pub way_leaf : Contains l leaf
  way_leaf = let it = reached_in path leaf refl l (r.leaves pfs stands l has) in at_place l it.0 leaf it.1

  pub way_inode : KnowsWay u may pfs l leaf.key (name ∷ names) → KnowsInode w may pfs leaf name (λ next. KnowsWay u may pfs l next names)
  way_inode k = inode_on u w r may pfs l leaf name (λ next. KnowsWay u may pfs l next names) (λ next. KnowsWay u may pfs l next names) stands has way_leaf (λ next x. x) (k leaf way_leaf refl)

  -- the load of its inode meets no bad block
  pub way_block : (e : Trouble) → KnowsWay u may pfs l leaf.key (name ∷ names) → IsUnloaded w.forest pfs leaf.key → ((x : Told) → w.tells leaf ≡ Some x → IsBad e → ⊥) → IsBad e → ⊥
  way_block e k none good = let block = known_block w may pfs leaf name _ (way_inode k) none in good block.0 block.1

  module _ (v : View) (s : Rereads w v) (c : ℕ) (seeks : Seeks w.forest v.forest pfs leaf.key c) where
    pub way_root : KnowsWay u may pfs l leaf.key (name ∷ names) → KnowsRoot v may c name (λ next. KnowsWay u may pfs l next names)
    way_root k = sought_root w v pfs c leaf seeks s may l name _ (r.stands pfs stands) (r.leaves pfs stands l has) way_leaf (way_inode k)

    -- what its entry names is known as well
    pub way_next : (next : ℕ) → ((i : Inode) → HasInode v.forest v.holds c i → i.kind ≡ Directory)
        → ((size : ℕ) (entries : Entries) → IsDirectory (reading v no_content) (λ target number. may target number ≡ true) (at_root c) size entries → get entries name ≡ Some next)
        → KnowsWay u may pfs l leaf.key (name ∷ names) → KnowsWay u may pfs l next names
    way_next next kind agrees k =
        let root = way_root k in
        let e = root.entries (kind root.inode root.has) in
        e.on next (agrees e.size e.entries e.directory)

    -- nor does the search for the name
    pub way_found : (g : Forest) (why : DirFault) → ((i : Inode) → HasInode v.forest v.holds c i → FindFails v.forest g i.kind c name why)
        → ((size : ℕ) (entries : Entries) → IsDirectory (reading v no_content) (λ target number. may target number ≡ true) (at_root c) size entries → IsBadBlock why → ⊥)
        → KnowsWay u may pfs l leaf.key (name ∷ names) → IsBadBlock why → ⊥
    way_found g fault.NoEntry fails good k bad = bad
    way_found g fault.Exists fails good k bad = bad
    way_found g fault.NotDir fails good k bad = bad
    way_found g (fault.Trouble e) fails good k bad =
        let root = way_root k in
        let known = root.entries (fails root.inode root.has).0 in
        good known.size known.entries known.directory bad
