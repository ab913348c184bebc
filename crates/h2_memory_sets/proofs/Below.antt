-- Which blocks lie below a node that is made.
use Rattle.std.proofs.Common.{◌≡◌, ℕ, ◌+◌, ◌<◌, ◌≤◌, ◌^◌, Bool, true, false, ◌&&◌, arith, refl, cond, sym, ◌∙◌, ap, List, length, Option, Some, None, slice_get, nat_lt, nat_le, nat_eq, map}
use Rattle.std.proofs.lemmas.Bool.Decides.{nat_tests}
use Rattle.std.proofs.lemmas.List.{length-map, length-append}
use Rattle.h2_ref.specs.declared.faults.Why.{Why}
use Rattle.h2_ref.specs.declared.reference.Ref.{Ref}
use Rattle.h2_set.specs.declared.set.Split.{Split}
use Rattle.h2_set.specs.Ranges.{holds}
use Rattle.h2_set.specs.RefSet.{RefSet}
use Rattle.h2_set.specs.Forest.{IsSound}
use Rattle.h2_memory_sets.specs.declared.node.Node.{Node}
use Rattle.h2_memory_sets.specs.Kept.{AreKept}
use Rattle.h2_memory_sets.specs.Plans.{MakesBlock, refit_block, block_below}
use Rattle.h2_memory_sets.specs.View.{Block, block, stands_of, forest_with, moved_up, parted, with_set, AllRooted}
use Rattle.h2_memory_sets.proofs.Gone.{node_at}
use Rattle.h2_memory_sets.proofs.Hinted.{above_is}
use Rattle.h2_memory_sets.proofs.Parting.{alike, one_of, get_map, at_new, at_here, at_other, front_length}
use Rattle.h2_memory_sets.proofs.Passing.{and_parts}

-- what is above a node that lies elsewhere stays
up_stays : (at c : ℕ) (r : Ref) (low : ℕ) (u : Option ℕ) → ((v : ℕ) → u ≡ Some v → v < c) → (u ≡ Some at → holds low r ≡ true → ⊥) → moved_up at c r low u ≡ u
up_stays at c r low None lower out = refl
up_stays at c r low (Some u) lower out = first (nat_eq u c) refl
  where
    third : nat_eq u at ≡ true → (h : Bool) → holds low r ≡ h → cond h (Some c) (Some u) ≡ Some u
    third e true eh = absurd (out (ap Some (alike u at e)) eh)
    third e false eh = refl

    second : (b : Bool) → nat_eq u at ≡ b → cond b (cond (holds low r) (Some c) (Some u)) (Some u) ≡ Some u
    second true e = third e (holds low r) refl
    second false e = refl

    first : (a : Bool) → nat_eq u c ≡ a → cond a None (cond (nat_eq u at) (cond (holds low r) (Some c) (Some u)) (Some u)) ≡ Some u
    first true e = let own = alike u c e in let lt = lower u refl in absurd (omega (arith, own, lt))
    first false e = second (nat_eq u at) refl

-- what is above one that lies in the range is the new node
up_moves : (at c : ℕ) (r : Ref) (low : ℕ) → at < c → holds low r ≡ true → moved_up at c r low (Some at) ≡ Some c
up_moves at c r low lt in_it =
    let off : nat_eq at c ≡ false = grind (arith, nat_tests) in
    let here : nat_eq at at ≡ true = grind (arith, nat_tests) in
    rw (off, here, in_it) refl

in_range : (low key bits : ℕ) → key ≤ low → low < key + 2 ^ bits → (nat_le key low && nat_lt low (key + 2 ^ bits)) ≡ true
in_range low key bits a b =
    let p : nat_le key low ≡ true = grind (arith, nat_tests) in
    let q : nat_lt low (key + 2 ^ bits) ≡ true = grind (arith, nat_tests) in
    rw (p, q) refl

from_range : (low key bits : ℕ) → (nat_le key low && nat_lt low (key + 2 ^ bits)) ≡ true → (key ≤ low) × (low < key + 2 ^ bits)
from_range low key bits e =
    let parts = and_parts (nat_le key low) _ e in
    let a = parts.0 in
    let b = parts.1 in
    (grind (arith, nat_tests), grind (arith, nat_tests))

module _ (xs : List Node) (at : ℕ) (x : Node) (whole : RefSet) (s : Split) (r : Ref) (kept : AreKept xs) (read : slice_get xs at ≡ Some x) (lt : at < length xs) (key : r.key ≡ s.key) (bits : r.keybits ≡ s.keybits) (apart : x.up ≡ Some at → ⊥) where
  range : (low : ℕ) → holds low r ≡ (nat_le s.key low && nat_lt low (s.key + 2 ^ s.keybits))
  range low = ap (λ k. nat_le k low && nat_lt low (k + 2 ^ r.keybits)) key ∙ ap (λ b. nat_le s.key low && nat_lt low (s.key + 2 ^ b)) bits

  lower : (i : ℕ) (z : Node) → slice_get xs i ≡ Some z → (v : ℕ) → z.up ≡ Some v → v < length xs
  lower i z got v up = kept.above i z v got up

  -- what becomes of the blocks
  pub makes_block : MakesBlock (map block xs) (map block (parted xs at x whole s.moved r)) at (length xs) whole s
  makes_block = record {
    fresh = sym (length-map _ _);
    count = length-map _ _ ∙ length-append _ _ ∙ ap (λ n. n + 1) (front_length xs at x whole s.moved r read) ∙ ap (λ n. n + 1) (sym (length-map _ _));
    made = get_map block _ (length xs) _ (at_new xs at x whole s.moved r read) ∙ ap (λ (k : ℕ). Some (record { set = s.moved; inode = None; low = k; up = Some at; owner = None })) key;
    own = λ b e.
        let it = node_at xs at b e in
        let mine : x ≡ it.0 = one_of x it.0 (sym read ∙ it.1) in
        let up : moved_up at (length xs) r x.low x.up ≡ x.up = up_stays at (length xs) r x.low x.up (lower at x read) (λ is _. apart is) in
        get_map block _ at _ (at_here xs at x whole s.moved r read) ∙ ap (λ (u : Option ℕ). Some (block (record { set = whole; loaded = x.loaded; up = u; root = x.root; low = x.low; bits = x.bits; dirty = x.dirty; copies = x.copies; leaf_bits = x.leaf_bits; inode = (with_set x whole).inode; owner = x.owner; held = x.held; leaves = x.leaves }))) up ∙ ap (λ (z : Node). Some (block (with_set z whole))) mine ∙ ap (λ (c : Block). Some (refit_block whole c)) it.2;
    moved = λ m b ne e lies.
        let it = node_at xs m b e in
        let z = it.0 in
        let low : z.low ≡ b.low = ap (λ (c : Block). c.low) it.2 in
        let in_it : holds z.low r ≡ true = range z.low ∙ ap (λ l. nat_le s.key l && nat_lt l (s.key + 2 ^ s.keybits)) low ∙ in_range b.low s.key s.keybits lies.from lies.before in
        let up : moved_up at (length xs) r z.low z.up ≡ Some (length xs) = ap (moved_up at (length xs) r z.low) (ap (λ (c : Block). c.up) it.2 ∙ lies.up) ∙ up_moves at (length xs) r z.low lt in_it in
        get_map block _ m _ (at_other xs at x whole s.moved r read m z ne it.1) ∙ ap (λ (u : Option ℕ). Some (record { set = z.set; inode = z.inode; low = z.low; up = u; owner = z.owner })) up ∙ ap (λ (c : Block). Some (block_below (length xs) c)) it.2;
    others = λ m b ne e out.
        let it = node_at xs m b e in
        let z = it.0 in
        let low : z.low ≡ b.low = ap (λ (c : Block). c.low) it.2 in
        let up : moved_up at (length xs) r z.low z.up ≡ z.up = up_stays at (length xs) r z.low z.up (lower m z it.1) (λ is in_it.
        let ends = from_range b.low s.key s.keybits (sym (range z.low ∙ ap (λ l. nat_le s.key l && nat_lt l (s.key + 2 ^ s.keybits)) low) ∙ in_it) in
        out (record { up = sym (ap (λ (c : Block). c.up) it.2) ∙ is; from = ends.0; before = ends.1 })) in
        get_map block _ m _ (at_other xs at x whole s.moved r read m z ne it.1) ∙ ap (λ (u : Option ℕ). Some (record { set = z.set; inode = z.inode; low = z.low; up = u; owner = z.owner })) up ∙ ap Some it.2;
  }

-- a node that stands isn't above itself
pub up_apart : (xs : List Node) (spare epoch room failed bad : ℕ) (met : Option (ℕ × Why)) → AllRooted xs → IsSound (forest_with xs spare epoch room failed bad met) → (at : ℕ) (x : Node) → slice_get xs at ≡ Some x → stands_of (slice_get xs at) ≡ true → x.up ≡ Some at → ⊥
up_apart xs spare epoch room failed bad met rooted sound at x read st up =
    let it = above_is xs spare epoch room failed bad met rooted sound at at x read st up in
    let less = ((sound.node at st).child x.low at it).fewer in
    omega (arith, less)
