-- Ranges of keys.
use Rattle.std.proofs.Common.{◌≡◌, ℕ, ◌+◌, ◌-◌, ◌*◌, ◌<◌, ◌≤◌, ◌/◌, ◌%◌, ◌^◌, Bool, true, false, nat_eq, nat_lt, nat_le, ◌&&◌, arith, refl, cond, sym, ◌∙◌, List, [], ◌∷◌, length, Option, Some, None, subst, inl, inr, pow_mono, zero, suc, slice_get}
use Rattle.std.specs.List.{position, position_or_len}
use mathlib.Core.Bool.{not}
use Rattle.std.proofs.lemmas.Option.{none-some}
use Rattle.std.proofs.lemmas.Bool.{cases_lt}
use Rattle.std.proofs.lemmas.Option.{get_or_from_slice_get}
use Rattle.std.proofs.lemmas.List.Quantifiers.{position-Some}
use Rattle.std.specs.Prelude.{IfSome, IfNone}
use Rattle.std.proofs.lemmas.Bool.Decides.{nat_tests}
use Rattle.std.proofs.lemmas.Nat.{div-add-mod', div_below, pow_pos, pow_below}
use Rattle.h2_ref.specs.declared.reference.Ref.{Ref}
use Rattle.h2_ref.specs.declared.reference.Kind.TheVariants.{Empty}
use Rattle.h2_ref.specs.declared.reference.Check.TheVariants.{Nothing}
use Rattle.h2_set.specs.Ranges.{holds, NoneHolds, IsPlaceOf}

-- a shift tells whether a key lies less than 2 ^ bits above low
pub holds_by_shift : (key low p : ℕ) → 0 < p → low ≤ key → nat_eq ((key - low) / p) 0 ≡ (nat_le low key && nat_lt key (low + p))
holds_by_shift key low p pos le =
    let whole = div-add-mod' (key - low) p in
    grind (arith, nat_tests, div_below (key - low) p 1 pos, whole)

-- from 64 bits on the range of a key holds all above it
pub holds_all : (key low bits : ℕ) → key < 2 ^ 64 → low ≤ key → 64 ≤ bits → true ≡ (nat_le low key && nat_lt key (low + 2 ^ bits))
holds_all key low bits fits le big =
    let more : 2 ^ 64 ≤ 2 ^ bits = pow_mono big in
    grind (arith, nat_tests)

-- the head of a list in which no place passes
none_head : {X : Type 0} (p : X → Bool) (x : X) (b : Bool) (n len : ℕ) → p x ≡ b → cond (nat_lt (cond (not b) (1 + n) 0) (suc len)) (Some (cond (not b) (1 + n) 0)) None ≡ None → (p x ≡ false) × (cond (nat_lt n len) (Some n) None ≡ None)
none_head p x true n len e h = absurd (none-some {A = ℕ} 0 (grind (arith, nat_tests)))
none_head p x false n len e h = elim (cases_lt n len) [
  | inl lt ↦ absurd (none-some {A = ℕ} (1 + n) (grind (arith, nat_tests)))
  | inr le ↦ (e, grind (arith, nat_tests))
]

-- where no place passes, no element does
pub position-None : {X : Type 0} (p : X → Bool) (xs : List X) → position p xs ≡ None → (i : ℕ) (x : X) → slice_get xs i ≡ Some x → p x ≡ false
position-None p [] e i x read = absurd (none-some x read)
position-None p (y ∷ ys) e zero x read =
    let head = none_head p y (p y) (position_or_len p ys) (length ys) refl e in
    let same : y ≡ x = (cc) in
    rw (← same) head.0
position-None p (y ∷ ys) e (suc i) x read =
    let head = none_head p y (p y) (position_or_len p ys) (length ys) refl e in
    position-None p ys head.1 i x read

default : Ref
default = record { kind = Empty; key = 0; keybits = 0; place = 0; radix = 0; id = 0; check = Nothing; dirent = None }

-- what `position` finds
pub position_finds : (key : ℕ) (rs : List Ref) (o : Option ℕ) → o ≡ position (holds key) rs → IfSome o (IsPlaceOf key rs) × IfNone o (NoneHolds key rs)
position_finds key rs None e = (tt, λ i r read. position-None (holds key) rs (sym e) i r read)
position_finds key rs (Some i) e = (
  record {
    within = (position-Some (holds key) rs i default (sym e)).0;
    holds = λ r read. rw (get_or_from_slice_get rs i r r read) at (position-Some (holds key) rs i r (sym e)).1;
  },
  tt,
)

remainder : (q m key p : ℕ) → q ≡ 0 → q * p + m ≡ key → m ≡ key
remainder q m key p zero_is whole = let e : 0 * p + m ≡ key = subst (λ z. z * p + m ≡ key) zero_is whole in omega (arith, e)

-- of a key below 2^64, a length from 2^64 on divides 0 alone
pub aligned_all : (key bits : ℕ) → key < 2 ^ 64 → 64 ≤ bits → (nat_eq key 0 ≡ true → key % 2 ^ bits ≡ 0) × (key % 2 ^ bits ≡ 0 → nat_eq key 0 ≡ true)
aligned_all key bits fits big =
    let more : 2 ^ 64 ≤ 2 ^ bits = pow_mono big in
    let whole = div-add-mod' key (2 ^ bits) in
    let none : key / 2 ^ bits < 1 = div_below key (2 ^ bits) 1 (pow_pos bits) (omega (arith, fits, more)) in
    let zero_is : key / 2 ^ bits ≡ 0 = omega (arith, none) in
    let same : key % 2 ^ bits ≡ key = remainder (key / 2 ^ bits) (key % 2 ^ bits) key (2 ^ bits) zero_is whole in
    (λ e. (let z : key ≡ 0 = grind (arith, nat_tests) in same ∙ z), λ e. (let z : key ≡ 0 = sym same ∙ e in grind (arith, nat_tests)))

-- a range with more than 64 bits ends above 2^64
pub ends_above : (key bits : ℕ) → 64 < bits → (false ≡ true → key + 2 ^ bits ≤ 2 ^ 64) × (key + 2 ^ bits ≤ 2 ^ 64 → false ≡ true)
ends_above key bits big =
    let more : 2 ^ 64 < 2 ^ bits = pow_below 64 bits big in
    (λ e. absurd (let clash : false ≡ true = e in cc), λ le. absurd (omega (arith, le, more)))
