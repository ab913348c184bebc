-- Forests of which the second has one node more.
use Rattle.std.proofs.Common.{◌≡◌, ℕ, ◌+◌, ◌<◌, ◌≤◌, ◌^◌, true, false, cond, ◌⊎◌}
use Rattle.h2_ref.specs.declared.reference.Ref.{Ref}
use Rattle.h2_set.specs.declared.set.Split.{Split}
use Rattle.h2_set.specs.Ranges.{put}
use Rattle.h2_set.specs.RefSet.{RefSet, with_rest}
use Rattle.h2_set.specs.Forest.{Forest, refs, Link, loaded, untold}
use Rattle.h2_memory_sets.specs.View.{names}
use Rattle.h2_memory_sets.proofs.Settled.{Settled}

-- Two forests of which the second has one node more, with what lay in the range of a split below node at.
pub record DiffersByMake (f g : Forest) (at c : ℕ) (set : RefSet) (s : Split) (ref : Ref) : Type 0 where
  pub settled : Settled f g
  pub fresh : f.stands c ≡ false
  pub under : f.root at ≡ c → ⊥
  pub new : g.stands c ≡ true
  pub stands : (m : ℕ) → (m ≡ c → ⊥) → g.stands m ≡ true → f.stands m ≡ true
  pub root : g.root c ≡ f.root at
  pub low : g.low c ≡ s.key
  pub bits : g.bits c ≡ s.keybits
  pub new_writable : g.writable c ≡ true
  pub new_copies : g.copies c ≡ f.copies at
  pub moved : g.set c ≡ s.moved
  pub belongs : (t k : ℕ) → g.belongs c t k ≡ f.belongs at t k
  pub now : g.set at ≡ record { refs = put ref (with_rest s.rest set.refs); capacity = set.capacity }
  pub there : (m : ℕ) → f.stands m ≡ true → (m ≡ at → ⊥) → g.set m ≡ f.set m
  pub link : (m k : ℕ) → f.stands m ≡ true → (m ≡ at → ⊥) → g.link m k ≡ f.link m k
  -- what is below a key of node at, where its set names the key
  pub before : ℕ → Link
  pub before_is : (k : ℕ) → f.link at k ≡ cond (names (refs f at) k) (before k) untold
  pub after_here : (k : ℕ) → (k < s.key) ⊎ (s.key + 2 ^ s.keybits ≤ k) → g.link at k ≡ cond (names (refs g at) k) (before k) untold
  pub after_start : g.link at s.key ≡ cond (names (refs g at) s.key) (loaded c) untold
  pub after_new : (k : ℕ) → s.key ≤ k → k < s.key + 2 ^ s.keybits → g.link c k ≡ cond (names (refs g c) k) (before k) untold
  -- nothing else is loaded below the two
  pub only : (k d : ℕ) → (k ≡ s.key → ⊥) → s.key ≤ k → k < s.key + 2 ^ s.keybits → g.link at k ≡ loaded d → ⊥
  pub only_below : (k d : ℕ) → (k < s.key) ⊎ (s.key + 2 ^ s.keybits ≤ k) → g.link c k ≡ loaded d → ⊥
  pub spare : g.spare + 1 ≡ f.spare
  pub room : g.room + 1 ≡ f.room
  pub failed : g.failed ≡ f.failed
  pub bad : g.bad ≡ f.bad
  pub met : g.met ≡ f.met
