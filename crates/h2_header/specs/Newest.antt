-- The newest of the headers in the slots.
use Rattle.std.specs.Prelude.{◌≡◌, ◌<◌, ◌≤◌, ℕ, List, Option, Some, None, slice_index_or}
use Rattle.h2_header.specs.declared.header.Header.{Header}

-- the slot holds the header
abbrev pub HasHeader : List (Option Header) → ℕ → Header → Type 0
HasHeader slots i h = slice_index_or slots i None ≡ Some h

-- the slot's header has the greatest number of the first n slots, and no slot before it has the same
pub record IsNewestOf (n : ℕ) (slots : List (Option Header)) (s : ℕ) : Type 0 where
  pub header : Header
  pub below : s < n
  pub here : HasHeader slots s header
  pub greatest : (i : ℕ) (other : Header) → i < n → HasHeader slots i other → other.number ≤ header.number
  pub first : (i : ℕ) (other : Header) → i < s → HasHeader slots i other → other.number < header.number

-- none of the first n slots holds a header
abbrev pub NoneOf : ℕ → List (Option Header) → Type 0
NoneOf n slots = (i : ℕ) (h : Header) → i < n → HasHeader slots i h → ⊥
