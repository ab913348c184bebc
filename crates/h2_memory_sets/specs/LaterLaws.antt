-- A value goes on as itself, and what goes on from a later value does so from an earlier one.
use Rattle.std.proofs.Common.{◌≤◌, ℕ, List, length, Option, arith, refl, ◌∙◌, ap, zero, suc}
use Rattle.h2_num.specs.Causes.{Rose, one_more}
use Rattle.h2_memory_sets.specs.declared.node.Node.{Node}
use Rattle.h2_memory_sets.specs.declared.memory.MemorySets.{MemorySets}
use Rattle.h2_memory_sets.specs.Later.{StaysBelow, same, moved, KeepsNode, KeepsBlocks, FailsAsPlanned, waits, came, SpoilsAsPlanned, GoesOn}

-- Nodes and blocks

pub node_refl : (n : ℕ) (x : Node) → KeepsNode n x x
node_refl n x = record { low = refl; owner = refl; lost = λ l. l; below = λ there. same; holds = λ there clean. (clean, (refl, refl)) }

below_trans : {n m : ℕ} {u v w : Option ℕ} → n ≤ m → StaysBelow n u v → StaysBelow m v w → StaysBelow n u w
below_trans le a same = a
below_trans le same (moved high) = moved (omega (arith, le, high))
below_trans le (moved low) (moved high) = moved (omega (arith, le, high))

pub node_trans : {n m : ℕ} {x y z : Node} → n ≤ m → KeepsNode n x y → KeepsNode m y z → KeepsNode n x z
node_trans le a b = record {
  low = b.low ∙ a.low;
  owner = b.owner ∙ a.owner;
  lost = λ l. b.lost (a.lost l);
  below = λ there. below_trans le (a.below (λ l. there (b.lost l))) (b.below there);
  holds = λ there clean.
      let second = b.holds there clean in
      let first = a.holds (λ l. there (b.lost l)) second.0 in
      (first.0, (second.1.0 ∙ first.1.0, second.1.1 ∙ first.1.1));
}

pub blocks_refl : (xs : List Node) → KeepsBlocks xs xs
blocks_refl xs = record { longer = omega arith; each = λ i x read. (x, (read, node_refl (length xs) x)) }

pub blocks_trans : {xs ys zs : List Node} → KeepsBlocks xs ys → KeepsBlocks ys zs → KeepsBlocks xs zs
blocks_trans a b = record {
  longer = omega (arith, a.longer, b.longer);
  each = λ i x read.
      let first = a.each i x read in
      let second = b.each i first.0 first.1.0 in
      (second.0, (second.1.0, node_trans a.longer first.1.1 second.1.1));
}

-- What is planned

pub fails_still : (a n : ℕ) → FailsAsPlanned a a n n
fails_still a n = waits (omega arith) (λ e. e) refl

fails_trans : {a b c l m n : ℕ} → FailsAsPlanned a b l m → FailsAsPlanned b c m n → FailsAsPlanned a c l n
fails_trans (waits near none kept) (waits near' none' kept') = waits (omega (arith, near, near')) (λ e. none (none' e)) (kept' ∙ kept)
fails_trans (waits near none kept) (came some' done' counted') = came (omega (arith, near, some')) done' (counted' ∙ ap (λ k. one_more k) kept)
fails_trans (came some done counted) (waits near' none' kept') = came some (omega (arith, near', done)) (kept' ∙ counted)
fails_trans (came some done counted) (came some' done' counted') = absurd (omega (arith, some', done))

pub spoils_still : (a n : ℕ) → SpoilsAsPlanned a a n n
spoils_still a n = record { nearer = omega arith; more = omega arith; came = λ some done. absurd (omega (arith, some, done)) }

rose_on : (l m n : ℕ) → Rose l m → m ≤ n → Rose l n
rose_on l m n h le = omega (arith, h, le)

rose_from : (l m n : ℕ) → l ≤ m → Rose m n → Rose l n
rose_from l m n le h = omega (arith, le, h)

spoils_trans : (a b c l m n : ℕ) → SpoilsAsPlanned a b l m → SpoilsAsPlanned b c m n → SpoilsAsPlanned a c l n
spoils_trans a zero c l m n first second = record {
  nearer = omega (arith, first.nearer, second.nearer);
  more = omega (arith, first.more, second.more);
  came = λ some done. rose_on l m n (first.came some refl) second.more;
}
spoils_trans a (suc b) c l m n first second = record {
  nearer = omega (arith, first.nearer, second.nearer);
  more = omega (arith, first.more, second.more);
  came = λ some done. rose_from l m n first.more (second.came (omega arith) done);
}

-- All of it

pub goes_on_refl : (p : MemorySets) → GoesOn p p
goes_on_refl p = record {
  names = λ place len. refl;
  blocks = blocks_refl p.nodes.items;
  fails = fails_still p.fault p.failed;
  spoils = spoils_still p.spoiled p.bad;
  refuses = omega arith;
}

pub goes_on_trans : (p q r : MemorySets) → GoesOn p q → GoesOn q r → GoesOn p r
goes_on_trans p q r a b = record {
  names = λ place len. b.names place len ∙ a.names place len;
  blocks = blocks_trans a.blocks b.blocks;
  fails = fails_trans a.fails b.fails;
  spoils = spoils_trans p.spoiled q.spoiled r.spoiled p.bad q.bad r.bad a.spoils b.spoils;
  refuses = omega (arith, a.refuses, b.refuses);
}
