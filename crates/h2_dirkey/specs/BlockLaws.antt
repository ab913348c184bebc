-- A long name has one block, and a block is that of one name at most.
use Rattle.std.specs.Prelude.{◌≡◌, ◌≤◌, ℕ, List, length, slice_index, Contains}
use Rattle.std.proofs.Common.{sym, ◌∙◌, arith, inl, inr}
use Rattle.std.proofs.lemmas.Bool.{cases_lt}
use Rattle.std.proofs.lemmas.List.{ext_get_or, get_or_past}
use Rattle.h2_num.specs.Places.{Places, SameBelow}
use Rattle.h2_dirkey.specs.Block.{NameBytes}

-- a name has one block
pub name_spelling : (name : List ℕ) (a b : Places) → NameBytes name a → NameBytes name b → SameBelow 1024 a b
name_spelling name a b p q k lt = q.bytes k lt ∙ sym (p.bytes k lt)

-- which name it is that of is seen by its 1024 bytes alone
pub NameBytes-same : (name : List ℕ) (a b : Places) → SameBelow 1024 a b → NameBytes name a → NameBytes name b
NameBytes-same name a b same p = record { long = p.long; few = p.few; bytes = λ k lt. same k lt ∙ p.bytes k lt }

-- a name without a zero byte isn't longer than another with this block
not_longer : (m n : List ℕ) (b : Places) → (Contains n 0 → ⊥) → NameBytes m b → NameBytes n b → length n ≤ length m
not_longer m n b no_zero p q = elim (cases_lt (length m) (length n)) [
  | inl longer ↦
      let few = q.few in
      let past : slice_index n (length m) ≡ 0 = sym (q.bytes (length m) (omega arith)) ∙ p.bytes (length m) (omega arith) ∙ get_or_past m (length m) 0 (omega arith) in
      absurd (no_zero (length m, longer, past))
  | inr le ↦ le
]

-- a block is that of one name without a zero byte at most
pub name_one : (m n : List ℕ) (b : Places) → (Contains m 0 → ⊥) → (Contains n 0 → ⊥) → NameBytes m b → NameBytes n b → n ≡ m
name_one m n b no_m no_n p q =
    let few = q.few in
    let le = not_longer m n b no_n p q in
    let ge = not_longer n m b no_m q p in
    let same : length n ≡ length m = omega arith in
    ext_get_or 0 n m same (λ k lt. sym (q.bytes k (omega arith)) ∙ p.bytes k (omega arith))
