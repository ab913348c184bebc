-- What is known of a reference that is one of a few.
use Rattle.std.proofs.Common.{◌≡◌, ◌<◌, ◌≤◌, ◌+◌, ℕ, Bool, true, false, nat_lt, nat_le, List, length, arith, ap, sym, refl, get_or, cond}
use Rattle.std.specs.Prelude.{Option, Some, None}
use Rattle.std.proofs.lemmas.Bool.Decides.{nat_tests}
use Rattle.std.proofs.lemmas.List.{get_or_past}
use Rattle.h2_num.specs.Places.{Places}
use Rattle.h2_ref.specs.declared.reference.Ref.{Ref}
use Rattle.h2_set.specs.Ranges.{holds}
use Rattle.h2_write_rows.specs.Writes.{block_at}

key_in : Option Ref → ℕ
key_in (Some r) = r.key
key_in None = 0

pub key_is : (key : ℕ) (r : Ref) → Some (block_at key) ≡ Some r → r.key ≡ key
unfolding key_in
key_is key r e = sym (ap key_in e)

holds_in : ℕ → Option Ref → Bool
holds_in key (Some r) = holds key r
holds_in key None = false

pub holds_same : (key : ℕ) (q r : Ref) → Some q ≡ Some r → holds key r ≡ holds key q
unfolding holds_in
holds_same key q r e = sym (ap (holds_in key) e)

pub no_ref : (A : Type 0) (r : Ref) → ◌≡◌ {A = Option Ref} None (Some r) → A
no_ref A r e = cc

pub no_none : (A : Type 0) (r : Ref) → ◌≡◌ {A = Option Ref} (Some r) None → A
no_none A r e = cc

pub not_true : false ≡ true → ⊥
not_true e = absurd (let n : ◌≡◌ {A = ℕ} 0 1 = ap (λ (b : Bool). cond {A = ℕ} b 1 0) e in omega arith)

pub in_first : (k : ℕ) → k < 16384 → holds k (block_at 0) ≡ true
in_first k lt =
    let a : nat_le 0 k ≡ true = grind (arith, nat_tests) in
    let b : nat_lt k 16384 ≡ true = grind (arith, nat_tests) in
    rw (a, b) refl

-- a byte past the end is read as zero
pub past : (bytes : List ℕ) (k : ℕ) → length bytes ≤ k → ◌≡◌ {A = ℕ} (get_or bytes k 0) 0
past bytes k le = get_or_past {X = ℕ} bytes k 0 le

-- the bytes of what a reference is said to name
bytes_in : Option Places → ℕ → ℕ
bytes_in (Some b) k = b k
bytes_in None k = 0

pub same_bytes : (a b : Places) → Some a ≡ Some b → (k : ℕ) → a k ≡ b k
unfolding bytes_in
same_bytes a b e k = ap (λ (o : Option Places). bytes_in o k) e

pub from_key : (key k : ℕ) → key ≡ 0 → key + k ≡ k
from_key key k e = omega arith
