-- Which blocks are lost once a node has another set, and which stay.
use Rattle.std.proofs.Common.{◌≡◌, ℕ, ◌<◌, Bool, true, ◌||◌, arith, refl, cond, sym, ◌∙◌, ap, List, ◌∷◌, [], Option, Some, subst, inl, inr, slice_get, slice_set, suc, zero, nat_eq, nat_lt, map}
use Rattle.std.proofs.Math.ListN.{length-set}
use Rattle.std.proofs.lemmas.Bool.{or_cases, or_left, or_right}
use Rattle.std.proofs.lemmas.Bool.Decides.{nat_tests}
use Rattle.std.proofs.lemmas.List.{length-map}
use Rattle.h2_ref.specs.declared.faults.Why.{Why}
use Rattle.h2_ref.specs.declared.reference.Ref.{Ref}
use Rattle.h2_set.specs.RefSet.{RefSet}
use Rattle.h2_set.specs.Forest.{Forest}
use Rattle.h2_set.specs.Calls.{Loses, GoesBelow}
use Rattle.h2_inode.specs.declared.inode.Inode.{Inode}
use Rattle.h2_memory_sets.specs.declared.node.Node.{Node}
use Rattle.h2_memory_sets.specs.Kept.{AreKept}
use Rattle.h2_memory_sets.specs.Owners.{is_owner, belongs_to}
use Rattle.h2_memory_sets.specs.Plans.{Goes, below, owned, GivesBlock, lost_block}
use Rattle.h2_memory_sets.specs.View.{Block, block, root_of, low_of, forest_with, loses, goes, is_lost, goes_with, lost, dropped_all}
use Rattle.h2_memory_sets.proofs.Drops.{given, goes_of, dropped_with, going, at_here, read_other, not_at, stays_read, loses_is, is_losing, own_stays}
use Rattle.h2_memory_sets.proofs.Owned.{chain_found, owner_is}
use Rattle.h2_memory_sets.proofs.Parting.{alike, one_of, get_map}
use Rattle.h2_memory_sets.proofs.Passing.{and_parts}
use Rattle.h2_memory_sets.proofs.Storing.{tested}

same_eq : (a b : ℕ) → a ≡ b → nat_eq a b ≡ true
same_eq a b e = grind (arith, nat_tests)

-- the node whose block it is
pub node_at : (xs : List Node) (m : ℕ) (b : Block) → slice_get (map block xs) m ≡ Some b → (z : Node) × (slice_get xs m ≡ Some z) × (block z ≡ b)
node_at [] m b e = absurd (cc)
node_at (z ∷ zs) zero b e = (z, refl, one_of (block z) b e)
node_at (z ∷ zs) (suc m) b e = node_at zs m b e

module _ (xs : List Node) (at : ℕ) (x y : Node) (s : RefSet) (inode : Option Inode) (kept : AreKept xs) (read : slice_get xs at ≡ Some x) (same : y ≡ x) (spare epoch room failed bad : ℕ) (met : Option (ℕ × Why)) where
  abbrev f : Forest
  f = forest_with xs spare epoch room failed bad met

  abbrev goes_at : ℕ → Bool
  goes_at m = going xs at x y s inode kept read same m

  -- below a reference that is missing
  is_below : (m : ℕ) (z : Node) → slice_get xs m ≡ Some z → goes x.root x.bits (let t = x.set in t.refs) s.refs z ≡ true → Goes f m at s
  is_below m z got e =
      let parts = and_parts (nat_eq z.root x.root) _ e in
      let more = and_parts (nat_lt z.bits x.bits) _ parts.1 in
      let low : low_of (slice_get xs m) ≡ z.low = ap low_of got in
      below (record {
        tree = ap root_of got ∙ alike _ _ parts.0 ∙ ap root_of (sym read);
        fewer = rw (got, read) (let lt = more.0 in grind (arith, nat_tests));
        loses = subst (Loses f at s) (sym low) (loses_is xs at x y s inode kept read same spare epoch room failed bad met z.low more.1);
      })

  -- of a tree that belongs to a leaf below one
  is_owned : (m : ℕ) (z : Node) → slice_get xs m ≡ Some z → goes_with xs x.root (let t = x.set in t.refs) s.refs z.root ≡ true → Goes f m at s
  is_owned m z got e =
      let it = chain_found (is_lost x.root (let t = x.set in t.refs) s.refs) xs (suc z.root) z.root e in
      let o = it.owner in
      let parts = and_parts (nat_eq o.root x.root) _ it.passes in
      let on = it.on (is_owner x.root o.key) (rw (parts.0, same_eq o.key o.key refl) refl) in
      let top : f.root at ≡ x.root = ap root_of read in
      owned o.key (loses_is xs at x y s inode kept read same spare epoch room failed bad met o.key parts.1) (ap (λ t. belongs_to xs (root_of (slice_get xs m)) t o.key) top ∙ ap (λ u. belongs_to xs (root_of u) x.root o.key) got ∙ on)

  goes_is : (m : ℕ) (z : Node) → slice_get xs m ≡ Some z → goes_at m ≡ true → Goes f m at s
  goes_is m z got e = elim (or_cases (goes x.root x.bits (let t = x.set in t.refs) s.refs z) (goes_with xs x.root (let t = x.set in t.refs) s.refs z.root) (sym (ap (goes_of xs x.root x.bits (let t = x.set in t.refs) s.refs) got) ∙ e)) as (λ _. Goes f m at s) [
    | inl low ↦ is_below m z got low
    | inr own ↦ is_owned m z got own
  ]

  all_below : (m : ℕ) (z : Node) → slice_get xs m ≡ Some z → GoesBelow f m at s → goes x.root x.bits (let t = x.set in t.refs) s.refs z ≡ true
  all_below m z got h =
      let root : z.root ≡ x.root = sym (ap root_of got) ∙ h.tree ∙ ap root_of read in
      let less : z.bits < x.bits = (let less = h.fewer in rw (got, read) at less) in
      let a : nat_eq z.root x.root ≡ true = grind (arith, nat_tests) in
      let b : nat_lt z.bits x.bits ≡ true = grind (arith, nat_tests) in
      let c : loses (let t = x.set in t.refs) s.refs z.low ≡ true = is_losing xs at x y s inode kept read same spare epoch room failed bad met z.low (subst (Loses f at s) (ap low_of got) h.loses) in
      rw (a, b, c) refl

  all_owned : (m : ℕ) (z : Node) → slice_get xs m ≡ Some z → (key : ℕ) → Loses f at s key → f.belongs m (f.root at) key ≡ true → goes_with xs x.root (let t = x.set in t.refs) s.refs z.root ≡ true
  all_owned m z got key l bel =
      let it = chain_found (is_owner (f.root at) key) xs (suc z.root) z.root (sym (ap (λ u. belongs_to xs (root_of u) (f.root at) key) got) ∙ bel) in
      let o = it.owner in
      let is = owner_is (f.root at) key o it.passes in
      let root : nat_eq o.root x.root ≡ true = same_eq o.root x.root (is.0 ∙ ap root_of read) in
      let lost' : loses (let t = x.set in t.refs) s.refs o.key ≡ true = ap (loses (let t = x.set in t.refs) s.refs) is.1 ∙ is_losing xs at x y s inode kept read same spare epoch room failed bad met key l in
      it.on (is_lost x.root (let t = x.set in t.refs) s.refs) (rw (root, lost') refl)

  goes_all : (m : ℕ) (z : Node) → slice_get xs m ≡ Some z → Goes f m at s → goes_at m ≡ true
  goes_all m z got (below h) = ap (goes_of xs x.root x.bits (let t = x.set in t.refs) s.refs) got ∙ or_left _ _ (all_below m z got h)
  goes_all m z got (owned key l bel) = ap (goes_of xs x.root x.bits (let t = x.set in t.refs) s.refs) got ∙ or_right _ _ (all_owned m z got key l bel)

  -- what becomes of the blocks
  pub gives_block : (h : Block → Block) → block (given y s inode) ≡ h (block y) → GivesBlock f (map block xs) (map block (dropped_with xs at x y s inode kept read same)) at s h
  gives_block h is = record {
    count = length-map _ _ ∙ length-set _ at (given y s inode) ∙ length-map _ _ ∙ sym (length-map _ _);
    own = λ b e.
        let it = node_at xs at b e in
        let mine : block y ≡ b = ap block same ∙ ap block (one_of x it.0 (sym read ∙ it.1)) ∙ it.2 in
        get_map block _ at _ (at_here xs at x y s inode kept read same) ∙ ap Some (is ∙ ap h mine);
    gone = λ m b e goes'.
        let it = node_at xs m b e in
        let z = it.0 in
        let miss = goes_all m z it.1 goes' in
        let went : (goes x.root x.bits (let t = x.set in t.refs) s.refs z || goes_with xs x.root (let t = x.set in t.refs) s.refs z.root) ≡ true = sym (ap (goes_of xs x.root x.bits (let t = x.set in t.refs) s.refs) it.1) ∙ miss in
        get_map block _ m _ (read_other xs at x y s inode kept read same m z (not_at xs at x y s inode kept read same m miss) it.1) ∙ ap (λ c. Some (block (cond c (lost z) z))) went ∙ ap (λ c. Some (lost_block c)) it.2;
    others = λ m b ne e stays.
        let it = node_at xs m b e in
        elim (tested (goes_at m)) as (λ _. slice_get (map block (dropped_with xs at x y s inode kept read same)) m ≡ Some b) [
          | inl went ↦ absurd (stays (goes_is m it.0 it.1 went))
          | inr miss ↦ get_map block _ m _ (stays_read xs at x y s inode kept read same m it.0 ne it.1 miss) ∙ ap Some it.2
        ];
  }

-- where others were dropped, and the node was written
pub block_given : (xs items : List Node) (at : ℕ) (x y z : Node) (s : RefSet) (inode : Option Inode) (old : List Ref) (spare epoch room failed bad : ℕ) (met : Option (ℕ × Why)) → AreKept xs → items ≡ dropped_all x.root x.bits old s.refs xs → old ≡ (let t = x.set in t.refs) → slice_get xs at ≡ Some x → slice_get items at ≡ Some y → z ≡ given y s inode → (h : Block → Block) → block (given y s inode) ≡ h (block y) → GivesBlock (forest_with xs spare epoch room failed bad met) (map block xs) (map block (slice_set items at z)) at s h
block_given xs items at x y z s inode old spare epoch room failed bad met kept is old_is read read_y z_is h gives =
    let all : items ≡ dropped_all x.root x.bits (let t = x.set in t.refs) s.refs xs = is ∙ ap (λ (o : List Ref). dropped_all x.root x.bits o s.refs xs) old_is in
    let same : y ≡ x = one_of y x (sym read_y ∙ ap (λ (l : List Node). slice_get l at) all ∙ get_map _ xs at x read ∙ ap Some (own_stays xs at x s kept read)) in
    let now : slice_set items at z ≡ dropped_with xs at x y s inode kept read same = ap (λ (l : List Node). slice_set l at z) all ∙ ap (slice_set (dropped_all x.root x.bits (let t = x.set in t.refs) s.refs xs) at) z_is in
    subst (λ (l : List Node). GivesBlock (forest_with xs spare epoch room failed bad met) (map block xs) (map block l) at s h) (sym now) (gives_block xs at x y s inode kept read same spare epoch room failed bad met h gives)
