-- Bytes laid over an image.
use Rattle.std.specs.Prelude.{◌≡◌, ℕ, ◌+◌, ◌-◌, List, length, slice_index, nat_lt, if◌then◌else◌, true, false, refl}
use Rattle.std.proofs.Common.{arith}
use Rattle.std.proofs.lemmas.Bool.{lt-ltb, le-ltb}
use Rattle.h2_num.specs.Places.{Places, SameOutside, Holds}

-- an image with bytes laid over it at a place
abbrev pub laid : ℕ → List ℕ → Places → Places
laid at bytes below = λ k. if nat_lt k at then below k else if nat_lt (k - at) (length bytes) then slice_index bytes (k - at) else below k

-- the bytes stand there
pub laid_inside : (at : ℕ) (bytes : List ℕ) (below : Places) → Holds at bytes (laid at bytes below)
laid_inside at bytes below k lt =
    let e : at + k - at ≡ k = omega arith in
    let a : nat_lt (at + k) at ≡ false = le-ltb (at + k) at (omega arith) in
    let b : nat_lt k (length bytes) ≡ true = lt-ltb k (length bytes) lt in
    rw (a, e, b) refl

-- all else stays
pub laid_elsewhere : (at : ℕ) (bytes : List ℕ) (below : Places) → SameOutside at (length bytes) below (laid at bytes below)
laid_elsewhere at bytes below = record {
  before = λ k lt. let a : nat_lt k at ≡ true = lt-ltb k at lt in rw a refl;
  after = λ k le.
      let a : nat_lt k at ≡ false = le-ltb k at (omega arith) in
      let b : nat_lt (k - at) (length bytes) ≡ false = le-ltb (k - at) (length bytes) (omega arith) in
      rw (a, b) refl;
}
