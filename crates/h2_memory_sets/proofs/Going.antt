-- What each change of the nodes leaves of their blocks.
use Rattle.std.proofs.Common.{◌≡◌, ◌≤◌, ◌<◌, ◌+◌, ℕ, Bool, true, false, ◌&&◌, ◌||◌, cond, arith, refl, sym, ◌∙◌, ap, subst, inl, inr, List, [], ◌∷◌, ◌++◌, length, Option, Some, None, slice_get, slice_set, zero, suc}
use Rattle.std.specs.Prelude.{map, nat_eq, ◌-◌, ◌↔◌, IsTrue}
use Rattle.h2_num.specs.Causes.{Rose, one_more}
use Rattle.std.proofs.Math.ListN.{length-set}
use Rattle.std.proofs.lemmas.List.{length-map, length-append}
use Rattle.std.proofs.lemmas.Option.{slice_get_within, none-some}
use Rattle.h2_ref.specs.declared.reference.Ref.{Ref}
use Rattle.h2_set.specs.Ranges.{holds}
use Rattle.h2_set.specs.RefSet.{RefSet}
use Rattle.h2_set.specs.ChangeLaws.{same_or_not}
use Rattle.h2_inode.specs.declared.inode.Inode.{Inode}
use Rattle.h2_memory_sets.specs.declared.node.Node.{Node}
use Rattle.h2_memory_sets.specs.declared.node.Place.{Place}
use Rattle.h2_memory_sets.specs.Inodes.{sought, with_inode, IsSought}
use Rattle.h2_memory_sets.specs.Kept.{AreKept}
use Rattle.h2_memory_sets.specs.Later.{IsLost, is_open, StaysBelow, same, moved as moved_below, KeepsNode, KeepsBlocks, FailsAsPlanned, waits, came, SpoilsAsPlanned}
use Rattle.h2_memory_sets.specs.LaterLaws.{node_refl, blocks_trans}
use Rattle.h2_memory_sets.specs.Owners.{refit}
use Rattle.h2_memory_sets.specs.View.{is_up, is_away, IsLoadable, stands_of, writable_of, with_set, with_dirty, with_copies, marked_all, recounted_all, count_copied, place_of, is_above, is_over, lost, goes, goes_with, dropped, dropped_all, brought, moved, moved_up, moved_all, new_node, parted}
use Rattle.h2_memory_sets.proofs.Bringing.{away_parts}
use Rattle.h2_memory_sets.proofs.Drops.{own_stays}
use Rattle.h2_memory_sets.proofs.Nodes.{get_set, get_set_other}
use Rattle.h2_memory_sets.proofs.Parting.{get_append, get_map, one_of, alike}

-- Lists of nodes

pub keeps_map : (h : Node → Node) (xs : List Node) → ((i : ℕ) (x : Node) → slice_get xs i ≡ Some x → KeepsNode (length xs) x (h x)) → KeepsBlocks xs (map h xs)
keeps_map h xs each = record {
  longer = (let n : length (map h xs) ≡ length xs = length-map _ _ in omega (arith, n));
  each = λ i x read. (h x, (get_map h xs i x read, each i x read));
}

pub keeps_set : (xs : List Node) (at : ℕ) (x z : Node) → slice_get xs at ≡ Some x → KeepsNode (length xs) x z → KeepsBlocks xs (slice_set xs at z)
keeps_set xs at x z read keeps = record {
  longer = (let n : length (slice_set xs at z) ≡ length xs = length-set xs at z in omega (arith, n));
  each = λ i y got. elim (same_or_not i at) as (λ _. (w : Node) × ((slice_get (slice_set xs at z) i ≡ Some w) × KeepsNode (length xs) y w)) [
    | inl e ↦
        let own : x ≡ y = one_of x y (sym read ∙ ap (slice_get xs) (sym e) ∙ got) in
        (z, (ap (slice_get (slice_set xs at z)) e ∙ get_set xs at z (slice_get_within xs at x read), subst (λ (w : Node). KeepsNode (length xs) w z) own keeps))
    | inr ne ↦ (y, (get_set_other xs at i z ne ∙ got, node_refl (length xs) y))
  ];
}

pub keeps_push : (xs : List Node) (z : Node) → KeepsBlocks xs (xs ++ z ∷ [])
keeps_push xs z = record {
  longer = (let n : length (xs ++ z ∷ []) ≡ length xs + 1 = length-append xs (z ∷ []) in omega (arith, n));
  each = λ i x read. (x, (get_append xs z i (slice_get_within xs i x read) ∙ read, node_refl (length xs) x));
}

-- Loads

up_not : (m : ℕ) (u : Option ℕ) → is_up m u ≡ true → u ≡ None → ⊥
up_not m None e none = cc
up_not m (Some v) e none = cc

and_false : (a b : Bool) → a ≡ false → (a && b) ≡ false
and_false false b e = refl
and_false true b e = absurd (cc)

-- a node that is loaded
pub node_brought : (n root copies bits : ℕ) (x : Node) → x.loaded ≡ false → (x.up ≡ None → ⊥) → KeepsNode n x (brought root copies bits x)
node_brought n root copies bits x away up = record {
  low = refl;
  owner = refl;
  lost = λ l. absurd (up l.bare);
  below = λ there. same;
  holds = λ there clean. (and_false x.loaded x.dirty away, (refl, refl));
}

-- an inode that is loaded
pub node_sought : (n : ℕ) (x : Node) → x.loaded ≡ false → (x.inode ≡ None → ⊥) → KeepsNode n x (sought x)
node_sought n x away known = record {
  low = refl;
  owner = refl;
  lost = λ l. absurd (known l.unknown);
  below = λ there. same;
  holds = λ there clean. (and_false x.loaded x.dirty away, (refl, refl));
}

-- the node to which a reference leads
pub keeps_brought : (xs : List Node) (at k root copies bits : ℕ) (r : Ref) (y z : Node) → IsLoadable xs at r k → slice_get xs k ≡ Some y → z ≡ brought root copies bits y → KeepsBlocks xs (slice_set xs k z)
keeps_brought xs at k root copies bits r y z l read is =
    let own : l.node ≡ y = one_of l.node y (sym l.read ∙ read) in
    let away : is_away at r.key y ≡ true = ap (is_away at r.key) (sym own) ∙ l.away in
    let parts = away_parts y.loaded (is_up at y.up) (nat_eq y.low r.key) away in
    keeps_set xs k y z read (subst (KeepsNode (length xs) y) (sym is) (node_brought (length xs) root copies bits y parts.0 (up_not at y.up parts.1)))

-- the root that a leaf names
pub keeps_sought : (xs : List Node) (root key k : ℕ) (y z : Node) → IsSought xs root key k → slice_get xs k ≡ Some y → z ≡ sought y → KeepsBlocks xs (slice_set xs k z)
keeps_sought xs root key k y z l read is =
    let own : l.node ≡ y = one_of l.node y (sym l.read ∙ read) in
    let away : y.loaded ≡ false = ap (λ (w : Node). w.loaded) (sym own) ∙ l.away in
    let known : y.inode ≡ Some l.item = ap (λ (w : Node). w.inode) (sym own) ∙ l.holds in
    keeps_set xs k y z read (subst (KeepsNode (length xs) y) (sym is) (node_sought (length xs) y away (λ none. none-some l.item (sym none ∙ known))))

-- Nodes that become writable

still_clean : (l d b : Bool) → (l && (d || b)) ≡ false → (l && d) ≡ false
still_clean true true b e = e
still_clean true false b e = refl
still_clean false d b e = refl

node_marked : (n : ℕ) (b : Bool) (x : Node) → KeepsNode n x (with_dirty (x.dirty || b) x)
node_marked n b x = record {
  low = refl;
  owner = refl;
  lost = λ l. record { away = l.away; bare = l.bare; unknown = l.unknown };
  below = λ there. same;
  holds = λ there clean. (still_clean x.loaded x.dirty b clean, (refl, refl));
}

node_counted : (n copies : ℕ) (x : Node) → KeepsNode n x (with_copies copies x)
node_counted n copies x = record {
  low = refl;
  owner = refl;
  lost = λ l. record { away = l.away; bare = l.bare; unknown = l.unknown };
  below = λ there. same;
  holds = λ there clean. (clean, (refl, refl));
}

pub keeps_altered : (at : Place) (xs : List Node) → KeepsBlocks xs (recounted_all (marked_all at xs))
keeps_altered at xs =
    let ys = marked_all at xs in
    let first : KeepsBlocks xs ys = keeps_map (λ (x : Node). with_dirty (x.dirty || (is_above at x || is_over xs at.root x)) x) xs (λ i x read. node_marked (length xs) (is_above at x || is_over xs at.root x) x) in
    blocks_trans first (keeps_map (λ (x : Node). with_copies (count_copied (place_of x) ys) x) ys (λ i x read. node_counted (length ys) (count_copied (place_of x) ys) x))

-- Nodes that are lost

lost_is : (x : Node) → IsLost (lost x)
lost_is x = record { away = refl; bare = refl; unknown = refl }

node_lost : (n : ℕ) (x : Node) → KeepsNode n x (lost x)
node_lost n x = record {
  low = refl;
  owner = refl;
  lost = λ l. lost_is x;
  below = λ there. absurd (there (lost_is x));
  holds = λ there clean. absurd (there (lost_is x));
}

node_dropped : (n : ℕ) (b : Bool) (x : Node) → KeepsNode n x (cond b (lost x) x)
node_dropped n true x = node_lost n x
node_dropped n false x = node_refl n x

keeps_dropped : (root bits : ℕ) (old new : List Ref) (xs : List Node) → KeepsBlocks xs (dropped_all root bits old new xs)
keeps_dropped root bits old new xs = keeps_map (dropped xs root bits old new) xs (λ i x read. node_dropped (length xs) (goes root bits old new x || goes_with xs root old new x.root) x)

-- Sets that are written

open_not : (x : Node) → is_open x ≡ true → is_open x ≡ false → ⊥
open_not x e f = let clash : true ≡ false = sym e ∙ f in cc

refit_none : (i : Option Inode) (s : RefSet) → i ≡ None → refit i s ≡ None
refit_none None s e = refl
refit_none (Some v) s e = absurd (none-some v (sym e))

-- a writable node with another set
node_written : (n : ℕ) (x : Node) (s : RefSet) → is_open x ≡ true → KeepsNode n x (with_set x s)
node_written n x s is_written = record {
  low = refl;
  owner = refl;
  lost = λ l. record { away = l.away; bare = l.bare; unknown = refit_none x.inode s l.unknown };
  below = λ there. same;
  holds = λ there clean. absurd (open_not x is_written clean);
}

-- a writable root with another inode
node_given : (n : ℕ) (x : Node) (i : Inode) → is_open x ≡ true → KeepsNode n x (with_inode i x)
node_given n x i is_written = record {
  low = refl;
  owner = refl;
  lost = λ l. absurd (open_not x is_written (and_false x.loaded x.dirty l.away));
  below = λ there. same;
  holds = λ there clean. absurd (open_not x is_written clean);
}

both_true : (a b : Bool) → a ≡ true → b ≡ true → (a && b) ≡ true
both_true true b e f = f
both_true false b e f = absurd (cc)

-- a node that stands and is writable
pub is_open_at : (xs : List Node) (at : ℕ) (x : Node) → slice_get xs at ≡ Some x → stands_of (slice_get xs at) ≡ true → writable_of (slice_get xs at) ≡ true → is_open x ≡ true
is_open_at xs at x read stands writable = both_true x.loaded x.dirty (sym (ap stands_of read) ∙ stands) (sym (ap writable_of read) ∙ writable)

-- where others were dropped, the node itself is as it was
module _ (xs items : List Node) (at : ℕ) (x y : Node) (s : RefSet) (old : List Ref) (are : AreKept xs) (is : items ≡ dropped_all x.root x.bits old s.refs xs) (old_is : old ≡ (let t = x.set in t.refs)) (read : slice_get xs at ≡ Some x) (read_y : slice_get items at ≡ Some y) (is_written : is_open x ≡ true) where
  own : y ≡ x
  own =
      let all : items ≡ dropped_all x.root x.bits (let t = x.set in t.refs) s.refs xs = is ∙ ap (λ (o : List Ref). dropped_all x.root x.bits o s.refs xs) old_is in
      one_of y x (sym read_y ∙ ap (λ (l : List Node). slice_get l at) all ∙ get_map (dropped xs x.root x.bits (let t = x.set in t.refs) s.refs) xs at x read ∙ ap Some (own_stays xs at x s are read))

  still_open : is_open y ≡ true
  still_open = ap is_open own ∙ is_written

  others_kept : KeepsBlocks xs items
  others_kept = subst (KeepsBlocks xs) (sym is) (keeps_dropped x.root x.bits old s.refs xs)

  -- a set is stored
  pub keeps_stored : (z : Node) → z ≡ with_set y s → KeepsBlocks xs (slice_set items at z)
  keeps_stored z z_is = blocks_trans others_kept (keeps_set items at y z read_y (subst (KeepsNode (length items) y) (sym z_is) (node_written (length items) y s still_open)))

  -- a root has another inode
  pub keeps_given : (z : Node) (i : Inode) → z ≡ with_inode i y → KeepsBlocks xs (slice_set items at z)
  keeps_given z i z_is = blocks_trans others_kept (keeps_set items at y z read_y (subst (KeepsNode (length items) y) (sym z_is) (node_given (length items) y i still_open)))

-- A node that is made

up_moved : (n at c : ℕ) (r : Ref) (low : ℕ) (u : Option ℕ) → n ≤ c → ((v : ℕ) → u ≡ Some v → v < c) → StaysBelow n u (moved_up at c r low u)
up_moved n at c r low None le lower = same
up_moved n at c r low (Some u) le lower = by_first (nat_eq u c) refl
  where
    by_third : (a : Bool) → StaysBelow n (Some u) (cond a (Some c) (Some u))
    by_third true = moved_below le
    by_third false = same

    by_second : (a : Bool) → StaysBelow n (Some u) (cond a (cond (holds low r) (Some c) (Some u)) (Some u))
    by_second true = by_third (holds low r)
    by_second false = same

    by_first : (a : Bool) → nat_eq u c ≡ a → StaysBelow n (Some u) (cond a None (cond (nat_eq u at) (cond (holds low r) (Some c) (Some u)) (Some u)))
    by_first true e = let own = alike u c e in let lt = lower u refl in absurd (omega (arith, own, lt))
    by_first false e = by_second (nat_eq u at)

bare_moved : (at c : ℕ) (r : Ref) (low : ℕ) (u : Option ℕ) → u ≡ None → moved_up at c r low u ≡ None
bare_moved at c r low None e = refl
bare_moved at c r low (Some u) e = absurd (none-some u (sym e))

node_moved : (n at c : ℕ) (r : Ref) (x : Node) → n ≤ c → ((v : ℕ) → x.up ≡ Some v → v < c) → KeepsNode n x (moved at c r x)
node_moved n at c r x le lower = record {
  low = refl;
  owner = refl;
  lost = λ l. record { away = l.away; bare = bare_moved at c r x.low x.up l.bare; unknown = l.unknown };
  below = λ there. up_moved n at c r x.low x.up le lower;
  holds = λ there clean. (clean, (refl, refl));
}

pub keeps_parted : (xs : List Node) (at : ℕ) (x : Node) (kept part : RefSet) (r : Ref) → AreKept xs → slice_get xs at ≡ Some x → is_open x ≡ true → KeepsBlocks xs (parted xs at x kept part r)
keeps_parted xs at x kept part r are read is_written =
    let ys = slice_set xs at (with_set x kept) in
    let n : length ys ≡ length xs = length-set xs at (with_set x kept) in
    let first : KeepsBlocks xs ys = keeps_set xs at x (with_set x kept) read (node_written (length xs) x kept is_written) in
    let lower : (i : ℕ) (y : Node) → slice_get ys i ≡ Some y → (v : ℕ) → y.up ≡ Some v → v < length xs = λ i y got v up. elim (same_or_not i at) as (λ _. v < length xs) [
      | inl e ↦
          let own : with_set x kept ≡ y = one_of (with_set x kept) y (sym (get_set xs at (with_set x kept) (slice_get_within xs at x read)) ∙ ap (slice_get ys) (sym e) ∙ got) in
          are.above at x v read (ap (λ (z : Node). z.up) own ∙ up)
      | inr ne ↦ are.above i y v (sym (get_set_other xs at i (with_set x kept) ne) ∙ got) up
    ] in
    let second : KeepsBlocks ys (moved_all at (length xs) r ys) = keeps_map (moved at (length xs) r) ys (λ i y got. node_moved (length ys) at (length xs) r y (omega (arith, n)) (lower i y got)) in
    blocks_trans (blocks_trans first second) (keeps_push (moved_all at (length xs) r ys) (new_node at x part r))

-- What is planned

-- no load was the one that is to fail
pub fails_later : (a b n : ℕ) → b ≡ a - 1 → ((a ≡ 1) → ⊥) → FailsAsPlanned a b n n
fails_later zero b n counts other = waits (omega (arith, counts)) (λ e. refl) refl
fails_later (suc zero) b n counts other = absurd (other refl)
fails_later (suc (suc a)) b n counts other = waits (omega (arith, counts)) (λ e. absurd (omega (arith, counts, e))) refl

-- it was
pub fails_now : (a b n m : ℕ) → b ≡ a - 1 → a ≡ 1 → m ≡ one_more n → FailsAsPlanned a b n m
fails_now a b n m counts due more = came (omega (arith, due)) (omega (arith, counts, due)) more

-- no load was the one that is to meet a bad block
pub spoils_later : (a b n : ℕ) → b ≡ a - 1 → ((a ≡ 1) → ⊥) → SpoilsAsPlanned a b n n
spoils_later zero b n counts other = record { nearer = omega (arith, counts); more = omega arith; came = λ some done. absurd (omega (arith, some)) }
spoils_later (suc zero) b n counts other = absurd (other refl)
spoils_later (suc (suc a)) b n counts other = record { nearer = omega (arith, counts); more = omega arith; came = λ some done. absurd (omega (arith, counts, done)) }

-- a load met a bad block
pub spoils_now : (a b n m : ℕ) → b ≡ a - 1 → n ≤ m → Rose n m → SpoilsAsPlanned a b n m
spoils_now a b n m counts more rose = record { nearer = omega (arith, counts); more = more; came = λ some done. rose }

-- a test that is met where a number is 1
pub not_due : (due : Bool) (a : ℕ) → IsTrue due ↔ (a ≡ 1) → due ≡ false → a ≡ 1 → ⊥
not_due due a test out one = let met : due ≡ true = test.1 one in let clash : true ≡ false = sym met ∙ out in cc
