-- The keys of a name have 64 bits, of which the first is set, and the upper bits of the least one.
use Rattle.std.specs.Prelude.{◌≡◌, ◌<◌, ◌≤◌, ℕ, ◌/◌, ◌^◌, List, length, bit_or}
use Rattle.std.proofs.Common.{arith}
use Rattle.std.proofs.lemmas.Nat.{or_lt, le_or_r}
use Rattle.h2_num.specs.Places.{places}
use Rattle.h2_check.specs.Xxh.{xxh64_of}
use Rattle.h2_check.specs.XxhLaws.{xxh64_of-lt}
use Rattle.h2_dirkey.specs.Key.{upper_bits, least_key, IsPicked}

-- the upper bits have bit 63 of the key
pub upper_bits-low : (name : List ℕ) → 2 ^ 48 ≤ upper_bits name
unfolding upper_bits
upper_bits-low name =
    let set : 2 ^ 63 ≤ bit_or (xxh64_of (places name) (length name)) (2 ^ 63) = le_or_r (xxh64_of (places name) (length name)) (2 ^ 63) in
    omega arith

-- there are 49 of them
pub upper_bits-high : (name : List ℕ) → upper_bits name < 2 ^ 49
unfolding upper_bits
upper_bits-high name =
    let fits : bit_or (xxh64_of (places name) (length name)) (2 ^ 63) < 2 ^ 64 = or_lt 64 (xxh64_of (places name) (length name)) (2 ^ 63) (xxh64_of-lt (places name) (length name)) (omega arith) in
    omega arith

-- a picked key has the upper bits of the one that it was picked from
pub picked_upper : (name used : List ℕ) (key : ℕ) → IsPicked (least_key name) used key → key / 2 ^ 15 ≡ upper_bits name
picked_upper name used key picked =
    let low = picked.from_key in
    let high = picked.same_upper in
    omega arith
