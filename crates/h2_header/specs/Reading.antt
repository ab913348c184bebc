-- What the parts of a header's block are found to be.
use Rattle.std.specs.Prelude.{◌≡◌, ◌≢◌, ◌<◌, ◌≤◌, ℕ, ◌+◌, ◌*◌}
use Rattle.h2_num.specs.Places.{Places, ZeroIn}
use Rattle.h2_ref.specs.declared.reference.Ref.{Ref}
use Rattle.h2_ref.specs.Ref.{IsValid, RefBytes}
use Rattle.h2_header.specs.declared.header.Header.{Header}
use Rattle.h2_geom.specs.Places.{turn_of}
use Rattle.h2_header.specs.Header.{IsHeader, ValueBytes}
use Rattle.h2_header.specs.Fault.{ref_bytes, IsRootAt, IsMapAt}

-- the place of the first byte of a range that isn't zero
pub record IsFirstNonzero (from to : ℕ) (b : Places) (at : ℕ) : Type 0 where
  pub low : from ≤ at
  pub high : at < to
  pub here : b at ≢ 0
  pub zeros : ZeroIn from at b

-- the reference that stands before reference i of the super-root
pub record IsBefore (b : Places) (i : ℕ) (r : Ref) : Type 0 where
  pub index : ℕ
  pub next : index + 1 ≡ i
  pub valid : IsValid r
  pub spelled : RefBytes r (ref_bytes 512 index b)

-- the place of the first wrong reference of the super-root
pub record IsFirstRoot (b : Places) (at : ℕ) : Type 0 where
  pub index : ℕ
  pub below : index < 4
  pub place : at ≡ 512 + 128 * index
  pub wrong : IsRootAt b index → ⊥
  pub right : (i : ℕ) → i < index → IsRootAt b i

-- the place of the first wrong reference of the map
pub record IsFirstMap (b : Places) (at : ℕ) : Type 0 where
  pub index : ℕ
  pub below : index < 8
  pub place : at ≡ 1024 + 128 * index
  pub wrong : IsMapAt b index → ⊥
  pub right : (i : ℕ) → i < index → IsMapAt b i

-- the fields of the block are those of a header of the slot
pub record HasFields (slot : ℕ) (b : Places) (h : Header) : Type 0 where
  pub valid : IsHeader h
  pub values : ValueBytes h b
  pub gap : ZeroIn 40 512 b
  pub tail : ZeroIn 2048 65532 b
  pub in_turn : turn_of h.number ≡ slot
