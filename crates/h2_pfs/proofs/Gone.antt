-- What the removal of a PFS's leaf leaves.
use Rattle.std.proofs.Common.{◌≡◌, ℕ, ◌<◌, ◌≤◌, ◌+◌, ◌-◌, ◌^◌, true, false, arith, sym, ◌∙◌, ap, subst, List, [], ◌∷◌, Option, Some, None}
use Rattle.std.specs.Prelude.{IfSome, IfNone}
use Rattle.h2_ref.specs.declared.reference.Ref.{Ref}
use Rattle.h2_set.specs.Ranges.{Rising, without}
use Rattle.h2_set.specs.Forest.{Forest, IsSound, LeavesOf, Reaches}
use Rattle.h2_set.specs.Calls.{Walks, KeepsBeside}
use Rattle.h2_set.specs.LeafLaws.{leaves_rising}
use Rattle.h2_set.specs.StayLaws.{Reaches-walks}
use Rattle.h2_set.specs.PathLaws.{reaches_one}
use Rattle.h2_tree.specs.Changes.{Removes, KeepsPaths, LacksLeaf}
use Rattle.h2_tree.specs.TreeLaws.{lists_agree}
use Rattle.h2_dirkey.specs.PfsName.{IsPfsName}
use Rattle.h2_inode.specs.Nodes.{Fields, Told, held_by, Visits}
use Rattle.h2_inode.specs.Access.{OneByOne}
use Rattle.h2_inode.specs.Loaded.{loaded_nodes, at_root, no_content, StandsAlike, view_of}
use Rattle.h2_inode.specs.PfsList.{ListedPfs, IsPfs}
use Rattle.h2_pfs.specs.Listing.{HasPfss, without_id}
use Rattle.h2_pfs.specs.Meets.{IsMet, Meets, HasId, LoadsPfss}
use Rattle.h2_pfs.specs.Others.{KeepsOtherTrees}
use Rattle.h2_pfs.specs.Removal.{RemovesPfs}
use Rattle.h2_pfs.proofs.Scanned.{whole_range}
use Rattle.h2_pfs.proofs.Renewed.{IsLoadedPfs, all_loaded, listed_pfs, renewed_pfs, fixed_rules, other_tree, other_leaf}
use Rattle.h2_pfs.proofs.Dropped.{each_without, all_without, pairs_without}

-- the leaf with the key that went out
pub record Gone (f g : Forest) (top key : ℕ) : Type 0 where
  pub leaf : Ref
  pub key_is : leaf.key ≡ key
  pub removes : Removes f g top leaf
  pub paths : KeepsPaths f g top leaf
  pub path : Reaches g leaf.key top None

-- the key of the leaf that went out
abbrev pub key_of : {f g : Forest} {top key : ℕ} → Gone f g top key → ℕ
key_of it = let leaf = it.leaf in leaf.key

-- a leaf that a loaded path leads to is removed
pub gone : (f g : Forest) (top key : ℕ) (r : Ref) (o : Option Ref) → IsSound f → f.stands top ≡ true → Reaches f key top (Some r) → r.key ≡ key → IfSome o (Removes f g top) → IfSome o (λ leaf. leaf.key ≡ key) → IfSome o (KeepsPaths f g top) → IfSome o (λ leaf. Reaches g leaf.key top None) → IfNone o (Walks f g) → IfNone o (LacksLeaf g top key) → Gone f g top key
gone f g top key r (Some leaf) sound stands way is removes key_is paths path walks lacks = record { leaf = leaf; key_is = key_is; removes = removes; paths = paths; path = path }
gone f g top key r None sound stands way is removes key_is paths path walks lacks =
    let still = Reaches-walks sound walks stands way in
    let same = reaches_one walks.sound (walks.stays top stands).place.stands lacks.path still in
    absurd (lacks.other r same is)

rising_wide : (low high wide : ℕ) (l : List Ref) → high ≤ wide → Rising low high l → Rising low wide l
rising_wide low high wide [] le rising = omega (arith, le, rising)
rising_wide low high wide (r ∷ l) le rising = (rising.0, rising_wide (r.key + 2 ^ r.keybits) high wide l le rising.1)

rising_from : (low high start : ℕ) (l : List Ref) → start ≤ low → Rising low high l → Rising start high l
rising_from low high start [] le rising = omega (arith, le, rising)
rising_from low high start (r ∷ l) le rising = (omega (arith, le, rising.0), rising.1)

-- the leaves of a tree rise
pub tree_rising : (f : Forest) (at : ℕ) (l : List Ref) → IsSound f → f.stands at ≡ true → LeavesOf f at l → Rising 0 (2 ^ 64) l
tree_rising f at l sound stands leaves =
    let node = sound.node at stands in
    rising_from (f.low at) (2 ^ 64) 0 l (omega arith) (rising_wide (f.low at) (f.low at + 2 ^ f.bits at) (2 ^ 64) l node.ends (leaves_rising leaves (f.low at) (f.low at + 2 ^ f.bits at) node.inside))

-- all that stands in the list is loaded, where all was met
pub met_loaded : (f : Forest) (holds : ℕ → Option Fields) (tells : Ref → Option Told) (top next : ℕ) (known met : List ListedPfs) → IsSound f → f.stands top ≡ true → Meets f holds top met → (has : HasPfss f holds tells top next known) → OneByOne (IsLoadedPfs f holds top) has.leaves known
met_loaded f holds tells top next known met sound stands meets has =
    let l = has.leaves in
    let same : meets.leaves ≡ l = lists_agree f top 0 (2 ^ 64 - 1) meets.leaves l sound stands meets.lists has.has.read ∙ whole_range 0 l has.has.ordered in
    let at_l = subst (λ z. OneByOne (IsMet f holds top) z met) same meets.each in
    all_loaded f holds tells top l known met has.each at_l

-- the tree stands for the list without the PFS whose leaf went out
pub dropped : {B : Type 0} (fields : B → Option Fields) (f g : Forest) (old new : ℕ → B) (was now : Ref → Option Told) (top next id : ℕ) (known met : List ListedPfs) → IsSound f → f.stands top ≡ true → f.root top ≡ top → KeepsBeside f g old new → Meets f (held_by fields old) top met → Gone f g top id → HasPfss f (held_by fields old) was top next known → HasPfss g (held_by fields new) now top next (without_id id known)
dropped fields f g old new was now top next id known met sound stands root beside meets gone has =
    let l = has.leaves in
    let rem = gone.removes in
    let place = rem.place in
    let loaded = met_loaded f (held_by fields old) was top next known met sound stands meets has in
    let leaves : LeavesOf g top (without id l) = subst (λ k. LeavesOf g top (without k l)) gone.key_is (rem.leaves l has.has.read) in
    let carry = λ (r : Ref) (p : ListedPfs) (differs : r.key ≡ id → ⊥) (is : IsLoadedPfs f (held_by fields old) top r p).
    let renews = rem.above is.node is.named.stands (other_tree f (held_by fields old) top r p sound stands root is) (other_leaf f (held_by fields old) top gone.leaf.key r p sound stands root (λ e. differs (e ∙ gone.key_is)) is) in
    listed_pfs g (held_by fields new) now top r p (renewed_pfs fields f g old new top r p rem.sound beside place is (fixed_rules f g is.node is.named.stands renews.place.stands rem.fixed) renews) in
    let each = each_without (IsLoadedPfs f (held_by fields old) top) (IsPfs (loaded_nodes g (held_by fields new) now no_content) (at_root top)) id 0 (2 ^ 64) l known has.has.ordered (λ r p is. is.id_is) carry loaded in
    record {
      leaves = without id l;
      has = record { read = leaves; ordered = tree_rising g top (without id l) rem.sound place.stands leaves };
      each = each;
      good = all_without (λ (p : ListedPfs). IsPfsName p.name) id known has.good;
      differ = pairs_without id known has.differ;
      below = all_without (λ (p : ListedPfs). p.id < next) id known has.below;
    }

-- what is kept beside sets is what roots hold
pub held_beside : {B : Type 0} (fields : B → Option Fields) (f g : Forest) (old new : ℕ → B) → KeepsBeside f g old new → KeepsBeside f g (held_by fields old) (held_by fields new)
held_beside fields f g old new beside = record { same = λ m st st'. ap fields (beside.same m st st') }

-- the PFS with the name went
pub removes_pfs : {B : Type 0} (fields : B → Option Fields) (f h g : Forest) (old mid new : ℕ → B) (was tells : Ref → Option Told) (top id : ℕ) (name : List ℕ) → Visits f h → StandsAlike (view_of fields f old was) (view_of fields h mid tells) → LoadsPfss f h top → KeepsBeside f h old mid → KeepsBeside h g mid new → HasId h (held_by fields mid) top name (Some id) → (it : Gone h g top id) → ((m : ℕ) → h.stands m ≡ true → h.belongs m top (key_of it) ≡ true → g.stands m ≡ false) → ((now : Ref → Option Told) → KeepsOtherTrees (view_of fields h mid tells) (view_of fields g new now) top (λ c. h.belongs c top (key_of it) ≡ true)) → RemovesPfs f g (held_by fields old) (held_by fields new) was top name
removes_pfs fields f h g old mid new was tells top id name visits alike loads before after found it all_gone others = record {
  then = h;
  holds = held_by fields mid;
  tells = tells;
  visits = visits;
  alike = alike;
  loads = loads;
  before = held_beside fields f h old mid before;
  after = held_beside fields h g mid new after;
  leaf = it.leaf;
  found = subst (λ k. HasId h (held_by fields mid) top name (Some k)) (sym it.key_is) found;
  removes = it.removes;
  paths = it.paths;
  path = it.path;
  gone = all_gone;
  others = others;
}
