-- What adding a root, giving room and unloading do to a forest.
use Rattle.std.specs.Prelude.{◌≡◌, ℕ, ◌+◌, ◌≤◌, ◌<◌, ◌⊎◌, ◌↔◌, Bool, true, false, []}
use Rattle.h2_ref.specs.declared.reference.Kind.TheVariants.{Empty, Inode}
use Rattle.h2_ref.specs.declared.reference.Ref.{Ref}
use Rattle.h2_set.specs.Forest.{Forest, loaded, untold, IsSound}
use Rattle.h2_set.specs.Calls.{Fixed, InPlace, Same}
use Rattle.h2_set.specs.SetBytes.{IsHeld}
use Rattle.h2_memory_sets.specs.declared.node.KeyClass.{KeyClass}
use Rattle.h2_memory_sets.specs.declared.node.KeyClass.TheVariants.{Low}
use Rattle.h2_memory_sets.specs.View.{first_key}

-- c is the root of a tree with these keys, and with leaves of these keybits
pub record IsTreeRoot (f : Forest) (c : ℕ) (keys : KeyClass) (grain : ℕ) : Type 0 where
  pub sound : IsSound f
  pub stands : f.stands c ≡ true
  pub root : f.root c ≡ c
  pub low : f.low c ≡ first_key keys
  pub bits : f.bits c ≡ 63
  pub leaf_bits : f.leaf_bits c ≡ grain

-- nothing has changed but that the root c is new, with an empty set of capacity 4
pub record AddsRoot (f g : Forest) (c : ℕ) (keys : KeyClass) (leaf_bits : ℕ) : Type 0 where
  pub top : IsTreeRoot g c keys leaf_bits
  pub fresh : f.stands c ≡ false
  pub set : g.set c ≡ record { refs = []; capacity = 4 }
  pub writable : g.writable c ≡ true
  pub link : (k : ℕ) → g.link c k ≡ untold
  pub allows : (r : Ref) → (r.kind ≡ Inode → ⊥) → (r.kind ≡ Empty → ⊥) → g.allows c r ≡ true
  pub refuses : (r : Ref) → (r.kind ≡ Inode) ⊎ (r.kind ≡ Empty) → g.allows c r ≡ false
  pub belongs : (t k : ℕ) → g.belongs c t k ≡ false
  pub held : g.held c ≡ false
  pub others : (m : ℕ) → f.stands m ≡ true → Same f g m
  pub others_leaf_bits : (m : ℕ) → (m ≡ c → ⊥) → g.leaf_bits m ≡ f.leaf_bits m
  pub others_allow : (m : ℕ) (r : Ref) → (m ≡ c → ⊥) → g.allows m r ≡ f.allows m r
  pub others_held : (m : ℕ) → g.held m ≡ f.held m
  pub none_new : (m : ℕ) → (m ≡ c → ⊥) → g.stands m ≡ f.stands m
  pub name : (r : Ref) → g.name r ≡ f.name r
  pub epoch : g.epoch ≡ f.epoch
  pub spare : g.spare ≡ f.spare
  pub room : g.room ≡ f.room
  pub failed : g.failed ≡ f.failed
  pub bad : g.bad ≡ f.bad
  pub met : g.met ≡ f.met

-- nothing has changed but that the super-root c is new, with an empty set of capacity 4
pub record AddsSuperRoot (f g : Forest) (c : ℕ) : Type 0 where
  pub top : IsTreeRoot g c Low 0
  pub fresh : f.stands c ≡ false
  pub set : g.set c ≡ record { refs = []; capacity = 4 }
  pub writable : g.writable c ≡ true
  pub link : (k : ℕ) → g.link c k ≡ untold
  pub allows : (r : Ref) → (g.allows c r ≡ true) ↔ ((r.kind ≡ Inode) × IsHeld r)
  pub belongs : (t k : ℕ) → g.belongs c t k ≡ false
  pub held : g.held c ≡ false
  pub others : (m : ℕ) → f.stands m ≡ true → Same f g m
  pub others_leaf_bits : (m : ℕ) → (m ≡ c → ⊥) → g.leaf_bits m ≡ f.leaf_bits m
  pub others_allow : (m : ℕ) (r : Ref) → (m ≡ c → ⊥) → g.allows m r ≡ f.allows m r
  pub others_held : (m : ℕ) → g.held m ≡ f.held m
  pub none_new : (m : ℕ) → (m ≡ c → ⊥) → g.stands m ≡ f.stands m
  pub name : (r : Ref) → g.name r ≡ f.name r
  pub epoch : g.epoch ≡ f.epoch
  pub spare : g.spare ≡ f.spare
  pub room : g.room ≡ f.room
  pub failed : g.failed ≡ f.failed
  pub bad : g.bad ≡ f.bad
  pub met : g.met ≡ f.met

-- nothing has changed but whether root at is held
pub record HoldsRoot (f g : Forest) (at : ℕ) (held : Bool) : Type 0 where
  pub sound : IsSound g
  pub now : g.held at ≡ held
  pub others_held : (m : ℕ) → (m ≡ at → ⊥) → g.held m ≡ f.held m
  pub same : (m : ℕ) → f.stands m ≡ true → Same f g m
  pub stands : (m : ℕ) → g.stands m ≡ f.stands m
  pub leaf_bits : (m : ℕ) → g.leaf_bits m ≡ f.leaf_bits m
  pub allows : (m : ℕ) (r : Ref) → g.allows m r ≡ f.allows m r
  pub name : (r : Ref) → g.name r ≡ f.name r
  pub epoch : g.epoch ≡ f.epoch
  pub spare : g.spare ≡ f.spare
  pub room : g.room ≡ f.room
  pub failed : g.failed ≡ f.failed
  pub bad : g.bad ≡ f.bad
  pub met : g.met ≡ f.met

-- the next epoch has begun, in which no node is writable, and nothing else has changed
pub record BeginsEpoch (f g : Forest) : Type 0 where
  pub sound : IsSound g
  pub epoch : g.epoch ≡ f.epoch + 1
  pub clean : (m : ℕ) → g.writable m ≡ false
  pub stands : (m : ℕ) → g.stands m ≡ f.stands m
  pub root : (m : ℕ) → g.root m ≡ f.root m
  pub low : (m : ℕ) → g.low m ≡ f.low m
  pub bits : (m : ℕ) → g.bits m ≡ f.bits m
  pub set : (m : ℕ) → g.set m ≡ f.set m
  pub link : (m k : ℕ) → g.link m k ≡ f.link m k
  pub belongs : (m t k : ℕ) → g.belongs m t k ≡ f.belongs m t k
  pub leaf_bits : (m : ℕ) → g.leaf_bits m ≡ f.leaf_bits m
  pub allows : (m : ℕ) (r : Ref) → g.allows m r ≡ f.allows m r
  pub held : (m : ℕ) → g.held m ≡ f.held m
  pub name : (r : Ref) → g.name r ≡ f.name r
  pub spare : g.spare ≡ f.spare
  pub room : g.room ≡ f.room
  pub failed : g.failed ≡ f.failed
  pub bad : g.bad ≡ f.bad
  pub met : g.met ≡ f.met

-- no node that stands belongs to a leaf
abbrev pub NoneBelongs : Forest → Type 0
NoneBelongs f = (m t k : ℕ) → f.stands m ≡ true → f.belongs m t k ≡ false

-- nothing has changed but that, where no inode is loaded, no node is to which a reference with a key of `from` or more
-- leads; where one is, no node has changed
pub record Unloads (f g : Forest) (from : ℕ) : Type 0 where
  pub sound : IsSound g
  pub fixed : Fixed f g
  pub stays : (m : ℕ) → f.stands m ≡ true → (f.low m < from) ⊎ (f.root m ≡ m) → InPlace f g m
  pub goes : (m k c : ℕ) → NoneBelongs f → from ≤ k → f.link m k ≡ loaded c → g.stands c ≡ false
  pub same : (m t k n : ℕ) → f.stands m ≡ true → f.belongs m t k ≡ true → f.stands n ≡ true → Same f g n
  pub none_new : (m : ℕ) → g.stands m ≡ true → f.stands m ≡ true
  pub set : (m : ℕ) → g.set m ≡ f.set m
  pub writable : (m : ℕ) → g.writable m ≡ f.writable m
  pub copies : (m : ℕ) → g.copies m ≡ f.copies m
  pub link_before : (m k : ℕ) → k < from → g.link m k ≡ f.link m k
  pub link_from : (m k : ℕ) → NoneBelongs f → from ≤ k → g.link m k ≡ untold
  pub spare : g.spare ≡ f.spare
  pub room : g.room ≡ f.room
  pub failed : g.failed ≡ f.failed
  pub bad : g.bad ≡ f.bad
  pub met : g.met ≡ f.met

-- nothing has changed but that no node is loaded which belongs to a leaf
pub record UnloadsInodes (f g : Forest) : Type 0 where
  pub sound : IsSound g
  pub fixed : Fixed f g
  pub stays : (m : ℕ) → f.stands m ≡ true → ((t k : ℕ) → f.belongs m t k ≡ false) → Same f g m
  pub goes : (m t k : ℕ) → f.belongs m t k ≡ true → g.stands m ≡ false
  pub none_new : (m : ℕ) → g.stands m ≡ true → f.stands m ≡ true
  pub spare : g.spare ≡ f.spare
  pub room : g.room ≡ f.room
  pub failed : g.failed ≡ f.failed
  pub bad : g.bad ≡ f.bad
  pub met : g.met ≡ f.met
