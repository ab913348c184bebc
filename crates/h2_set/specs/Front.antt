-- The front of references that are a set.
use Rattle.std.specs.Prelude.{◌≡◌, ◌≢◌, ◌<◌, ◌≤◌, ℕ, List, length, slice_index_or, All}
use Rattle.h2_num.specs.Places.{Places}
use Rattle.h2_ref.specs.declared.reference.Kind.TheVariants.{Empty}
use Rattle.h2_ref.specs.declared.reference.Ref.{Ref}
use Rattle.h2_ref.specs.Ref.{RefBytes, IsValid, empty_ref}
use Rattle.h2_set.specs.declared.set_decoding.SetFault.{SetFault}
use Rattle.h2_set.specs.declared.set_decoding.SetFault.TheVariants.{Reference, Shape}
use Rattle.h2_set.specs.Ranges.{Rising}
use Rattle.h2_set.specs.SetBytes.{slot, IsHeld, AreRefs, IsRefused}

-- the reference may stand behind those of a set
abbrev pub Extends : Ref → List Ref → Type 0
Extends r refs = (r.kind ≡ Empty → ⊥) × Rising 0 r.key refs

-- the references stand in the bytes one after the other
pub record FrontAt (refs : List Ref) (b : Places) : Type 0 where
  pub held : All IsHeld refs
  pub each : (i : ℕ) (d : Ref) → i < length refs → RefBytes (slice_index_or refs i d) (slot b i)
  pub decoded : AreRefs (length refs) b

-- the reference behind them can't stand there
abbrev pub StopsAt : ℕ → List Ref → Places → Type 0
StopsAt m refs b = (r : Ref) × IsValid r × RefBytes r (slot b m) × (Extends r refs → ⊥)

-- the longest front of n references that is a set
pub record IsFront (n : ℕ) (refs : List Ref) (b : Places) : Type 0 where
  pub fits : length refs ≤ n
  pub front : FrontAt refs b
  pub stop : length refs < n → StopsAt (length refs) refs b

-- empty references stand from a place on
abbrev pub EmptyFrom : ℕ → ℕ → Places → Type 0
EmptyFrom from n b = (i : ℕ) → from ≤ i → i < n → RefBytes empty_ref (slot b i)

-- a reference from a place on names something
abbrev pub SomeFrom : ℕ → ℕ → Places → Type 0
SomeFrom from n b = (k : ℕ) × (from ≤ k) × (k < n) × (r : Ref) × IsHeld r × RefBytes r (slot b k)

-- what is at fault first behind the front
abbrev pub IsRestFault : ℕ → ℕ → Places → SetFault → Type 0
IsRestFault from n b (Reference at fault) = IsRefused n b (Reference at fault)
IsRestFault from n b Shape = AreRefs n b × SomeFrom from n b

-- after a reference is written to a place: it stands there, and all other places are the same
pub record WritesSlot (r : Ref) (i : ℕ) (old new : Places) : Type 0 where
  pub here : RefBytes r (slot new i)
  pub others : (j : ℕ) → j ≢ i → slot new j ≡ slot old j

-- the first n references of a list, and empty ones behind its end
abbrev pub AreWritten : ℕ → List Ref → Places → Type 0
AreWritten n refs b = (i : ℕ) → i < n → RefBytes (slice_index_or refs i empty_ref) (slot b i)
