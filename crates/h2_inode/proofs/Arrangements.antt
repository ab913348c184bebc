-- When the range of a reference lies in another's.
use Rattle.std.specs.Prelude.{◌≡◌, ◌<◌, ◌≤◌, ℕ, ◌+◌, ◌-◌, ◌*◌, ◌%◌, ◌^◌, false, ◌&&◌, nat_le}
use Rattle.std.proofs.Common.{arith}
use Rattle.std.proofs.lemmas.Bool.Decides.{nat_tests}
use Rattle.std.proofs.lemmas.Nat.{pow_below}
use Rattle.std.proofs.Math.Nat.{mod-eq_of_lt}

-- a shift of one
pub shift_is : (k : ℕ) → k < 64 → 1 * 2 ^ k % 18446744073709551616 ≡ 2 ^ k
shift_is k lt =
    let small : 2 ^ k < 2 ^ 64 = pow_below k 64 lt in
    let e : 1 * 2 ^ k ≡ 2 ^ k = omega arith in
    rw e (mod-eq_of_lt small)

-- a range of q keys from `low` on lies in one of p keys from `key` on where it begins at most p - q behind
pub lies_by_size : (key low p q : ℕ) → key ≤ low → q ≤ p → (nat_le (low - key) (p - q)) ≡ (nat_le key low && nat_le (low + q) (key + p))
lies_by_size key low p q le fits = grind (arith, nat_tests)

-- a longer one doesn't
pub lies_longer : (key low p q : ℕ) → key ≤ low → p < q → false ≡ (nat_le key low && nat_le (low + q) (key + p))
lies_longer key low p q le longer = grind (arith, nat_tests)
