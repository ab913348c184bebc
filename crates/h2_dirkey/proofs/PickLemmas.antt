-- Used keys by their marks.
use Rattle.std.specs.Prelude.{◌≡◌, ◌↔◌, ◌<◌, ◌≤◌, ℕ, ◌+◌, ◌-◌, ◌/◌, ◌*◌, ◌^◌, List, Contains, bit_or}
use Rattle.std.proofs.Common.{subst, arith}
use Rattle.std.proofs.lemmas.Nat.{or_lt}
use Rattle.h2_dirkey.specs.Key.{IsPicked}
use Rattle.h2_dirkey.specs.Marks.{IsMarked}

-- each key with the upper bits of this one is marked where it is used
abbrev pub MarkUsed : ℕ → List ℕ → List ℕ → Type 0
MarkUsed key used words = (k : ℕ) → k < 32768 → IsMarked words k ↔ Contains used (key + k)

-- the first n keys are used where they are marked
pub used_below : (key n : ℕ) (used words : List ℕ) → MarkUsed key used words → n ≤ 32768 → ((k : ℕ) → k < n → IsMarked words k)
    → (k : ℕ) → key ≤ k → k < key + n → Contains used k
used_below key n used words marks most marked k ge lt =
    let at : key + (k - key) ≡ k = omega arith in
    subst (Contains used) at ((marks (k - key) (omega arith)).0 (marked (k - key) (omega arith)))

-- the first one that isn't marked is picked
pub picked_at : (key n : ℕ) (used words : List ℕ) → MarkUsed key used words → n < 32768 → ((k : ℕ) → k < n → IsMarked words k)
    → (IsMarked words n → ⊥) → IsPicked key used (key + n)
picked_at key n used words marks few marked unmarked = record {
  from_key = omega arith;
  same_upper = omega arith;
  unused = λ used. unmarked ((marks n few).1 used);
  least = used_below key n used words marks (omega arith) marked;
}

-- the key of a number of 64 bits has 64 bits
pub key_fits : (h : ℕ) → h < 2 ^ 64 → bit_or h (2 ^ 63) / 32768 * 32768 < 2 ^ 64
key_fits h fits =
    let whole : bit_or h (2 ^ 63) < 2 ^ 64 = or_lt 64 h (2 ^ 63) fits (omega arith) in
    omega arith
