-- What listing a range of keys gathers, reference by reference.
use Rattle.std.specs.Prelude.{filter, ◌≡◌, ℕ, true, false, List, [], ◌∷◌, ◌++◌}
use Rattle.h2_ref.specs.declared.reference.Ref.{Ref}
use Rattle.h2_set.specs.Ranges.{is_indirect}
use Rattle.h2_set.specs.Forest.{Forest, refs, loaded}
use Rattle.h2_tree.specs.Changes.{is_between, touches}

-- the loaded leaves of references rs of node at with keys from `from` to `to`, where each reference that is touched
-- leads to a loaded node
pub data Gathers (f : Forest) (from to : ℕ) : ℕ → List Ref → List Ref → Type 0 where
  done : {at : ℕ} → Gathers f from to at [] []
  skipped : {at : ℕ} {r : Ref} {rs l : List Ref} → touches from to r ≡ false → Gathers f from to at rs l → Gathers f from to at (r ∷ rs) l
  taken : {at : ℕ} {r : Ref} {rs l : List Ref} → is_indirect r ≡ false → Gathers f from to at rs l → Gathers f from to at (r ∷ rs) (filter (is_between from to) (r ∷ []) ++ l)
  entered : {at c : ℕ} {r : Ref} {rs below l : List Ref} → is_indirect r ≡ true → f.link at r.key ≡ loaded c → Gathers f from to c (refs f c) below → Gathers f from to at rs l → Gathers f from to at (r ∷ rs) (below ++ l)

-- what was gathered below node at stands behind what was there before
pub record Adds (f : Forest) (from to at : ℕ) (rs start out : List Ref) : Type 0 where
  pub more : List Ref
  pub gathers : Gathers f from to at rs more
  pub all : out ≡ start ++ more
