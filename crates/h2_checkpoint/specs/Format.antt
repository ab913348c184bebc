-- A format of volumes: blocks that lead to blocks, from a header that stands in one of four slots.
use Rattle.std.specs.Prelude.{◌≡◌, ◌≤◌, ℕ, List}
use Rattle.std.specs.List.{Contains}
use Rattle.h2_num.specs.Places.{Places, from_place, InRange, SameBelow}
use Rattle.h2_geom.specs.Places.{header_bytes, turn_of}
use Rattle.h2_checkpoint.specs.Slots.{IsSlot, slot_bytes}

-- what a volume is made of
pub record Format : Type 1 where
  -- what names a block
  pub Ref : Type 0
  pub Header : Type 0
  -- what a volume stands for
  pub Forest : Type 0
  -- where the block of a reference lies, and its bytes
  pub place : Ref → ℕ
  pub size : Ref → ℕ
  -- the bytes of the block pass the reference's check, and hold this child
  pub Child : Ref → Places → Ref → Type 0
  -- the header that the bytes spell for a slot
  pub HeaderAt : ℕ → Places → Header → Type 0
  pub number : Header → ℕ
  -- all references in the header
  pub roots : Header → List Ref
  -- the image has a sound volume under the header, and this is its forest
  pub Stands : Places → Header → Forest → Type 0

module _ (v : Format) where
  -- the references that a path of children leads to
  pub data Reach (image : Places) (roots : List v.Ref) : v.Ref → Type 0 where
    by_root : (r : v.Ref) → Contains roots r → Reach image roots r
    by_child : (r s : v.Ref) → Reach image roots r → v.Child r (from_place image (v.place r)) s → Reach image roots s

  -- the byte belongs to a block that is reached
  abbrev pub ReachesByte : Places → List v.Ref → ℕ → Type 0
  ReachesByte image roots k = (r : v.Ref) × Reach image roots r × InRange (v.place r) (v.size r) k

  -- the images agree on all blocks that the first one reaches
  abbrev pub SameReached : Places → List v.Ref → Places → Type 0
  SameReached image roots other = (k : ℕ) → ReachesByte image roots k → other k ≡ image k

  -- Each relation depends on its own bytes alone, and a slot's bytes spell headers of one number, which is at least 1.
  pub record IsLawful : Type 0 where
    pub child_local : (r s : v.Ref) (a b : Places) → SameBelow (v.size r) a b → v.Child r a s → v.Child r b s
    pub header_local : (s : ℕ) (h : v.Header) (a b : Places) → SameBelow header_bytes a b → v.HeaderAt s a h → v.HeaderAt s b h
    pub one_number : (s : ℕ) (g h : v.Header) (b : Places) → v.HeaderAt s b g → v.HeaderAt s b h → v.number g ≡ v.number h
    pub header_counts : (s : ℕ) (h : v.Header) (b : Places) → v.HeaderAt s b h → 1 ≤ v.number h
    pub stands_local : (h : v.Header) (forest : v.Forest) (a b : Places) → SameReached a (v.roots h) b → v.Stands a h forest → v.Stands b h forest

  -- a header of the image with the greatest number
  pub record IsNewest (image : Places) (h : v.Header) : Type 0 where
    pub here : v.HeaderAt (turn_of (v.number h)) (slot_bytes image (turn_of (v.number h))) h
    pub greatest : (s : ℕ) (other : v.Header) → IsSlot s → v.HeaderAt s (slot_bytes image s) other → v.number other ≤ v.number h

  -- no slot has a header
  abbrev pub HasNoHeader : Places → Type 0
  HasNoHeader image = (s : ℕ) (h : v.Header) → IsSlot s → v.HeaderAt s (slot_bytes image s) h → ⊥
