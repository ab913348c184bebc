-- Edits of a set.
use Rattle.std.proofs.Common.{◌≡◌, ℕ, ◌<◌, ◌≤◌, ◌^◌, true, false, arith, refl, sym, ◌∙◌, ap, List, [], ◌∷◌, length, Some, inl, inr, slice_get, slice_set, suc, zero, nat_lt, slice_index_or}
use Rattle.std.specs.List.{insert, remove, take_while, prefix_len}
use Rattle.std.proofs.Math.Numerals.{one-add}
use Rattle.std.proofs.lemmas.Bool.Decides.{nat_tests}
use Rattle.std.proofs.lemmas.Nat.{pow_pos}
use Rattle.std.proofs.lemmas.Option.{none-some, slice_get_read}
use Rattle.std.proofs.lemmas.List.Folds.{length-prefix_len}
use Rattle.h2_set.specs.RefSet.{RefSet, IsRefSet}
use Rattle.h2_ref.specs.declared.reference.Ref.{Ref}
use Rattle.h2_set.specs.Ranges.{Rising, limit, put, IsApart}

-- which way a reference goes that is apart from q
pub before_apart : (r q : Ref) → limit r ≤ q.key → nat_lt r.key q.key ≡ true
before_apart r q h = let pos = pow_pos r.keybits in grind (arith, nat_tests)

pub behind_apart : (r q : Ref) → limit q ≤ r.key → (nat_lt r.key q.key ≡ false) × (nat_lt q.key r.key ≡ true)
behind_apart r q h = let pos = pow_pos q.keybits in (grind (arith, nat_tests), grind (arith, nat_tests))

pub apart_tail : (r q : Ref) (qs : List Ref) → IsApart r (q ∷ qs) → IsApart r qs
apart_tail r q qs h = λ i x read. h (suc i) x read

-- a reference that is apart from all goes where the smaller keys end
pub put_inserts : (r : Ref) (rs : List Ref) → IsApart r rs → put r rs ≡ insert rs (prefix_len (λ q. nat_lt q.key r.key) rs) r
put_inserts r [] h = refl
put_inserts r (q ∷ qs) h = elim (h 0 q refl) as (λ _. put r (q ∷ qs) ≡ insert (q ∷ qs) (prefix_len (λ q. nat_lt q.key r.key) (q ∷ qs)) r) [
  | inl lower ↦
      let e = before_apart r q lower in
      let f : nat_lt q.key r.key ≡ false = grind (arith, nat_tests) in
      rw (e, f) refl
  | inr upper ↦
      let e = behind_apart r q upper in
      rw (e.0, e.1, one-add) (ap (λ (l : List Ref). q ∷ l) (put_inserts r qs (apart_tail r q qs h)))
]

pub Rising-put : (low high : ℕ) (rs : List Ref) (r : Ref) → Rising low high rs → IsApart r rs → low ≤ r.key → limit r ≤ high → Rising low high (put r rs)
Rising-put low high [] r h a le fits = (le, fits)
Rising-put low high (q ∷ qs) r h a le fits = elim (a 0 q refl) as (λ _. Rising low high (put r (q ∷ qs))) [
  | inl lower ↦ rw (before_apart r q lower) (le, (lower, h.1))
  | inr upper ↦ let e = behind_apart r q upper in rw (e.0, e.1) (h.0, Rising-put (limit q) high qs r h.1 (apart_tail r q qs a) upper fits)
]

pub length-put : (r : Ref) (rs : List Ref) → IsApart r rs → length (put r rs) ≡ suc (length rs)
length-put r [] a = refl
length-put r (q ∷ qs) a = elim (a 0 q refl) as (λ _. length (put r (q ∷ qs)) ≡ suc (suc (length qs))) [
  | inl lower ↦ rw (before_apart r q lower) refl
  | inr upper ↦ let e = behind_apart r q upper in rw (e.0, e.1) (ap suc (length-put r qs (apart_tail r q qs a)))
]

pub Rising-set : (low high : ℕ) (rs : List Ref) (i : ℕ) (r q : Ref) → Rising low high rs → slice_get rs i ≡ Some q → q.key ≡ r.key → q.keybits ≡ r.keybits → Rising low high (slice_set rs i r)
Rising-set low high [] i r q h read key bits = h
Rising-set low high (x ∷ xs) zero r q h read key bits =
    let same : x ≡ q = (cc) in
    let k : r.key ≡ x.key = sym key ∙ ap (λ (y : Ref). y.key) (sym same) in
    let b : r.keybits ≡ x.keybits = sym bits ∙ ap (λ (y : Ref). y.keybits) (sym same) in
    rw (k, b) h
Rising-set low high (x ∷ xs) (suc i) r q h read key bits = (h.0, Rising-set (limit x) high xs i r q h.1 read key bits)

Rising-lower : (low low' high : ℕ) (l : List Ref) → low' ≤ low → Rising low high l → Rising low' high l
Rising-lower low low' high [] le h = omega arith
Rising-lower low low' high (r ∷ l) le h = (omega arith, h.1)

pub Rising-remove : (low high : ℕ) (rs : List Ref) (i : ℕ) → i < length rs → Rising low high rs → Rising low high (remove rs i)
Rising-remove low high [] i lt h = absurd (omega (arith, lt))
Rising-remove low high (x ∷ xs) zero lt h = let pos = pow_pos x.keybits in Rising-lower (limit x) low high xs (omega (arith, h.0)) h.1
Rising-remove low high (x ∷ xs) (suc i) lt h = (h.0, Rising-remove (limit x) high xs i (omega arith) h.1)

pub length-remove_set : (rs : List Ref) (i : ℕ) → i < length rs → suc (length (remove rs i)) ≡ length rs
length-remove_set [] i lt = absurd (omega (arith, lt))
length-remove_set (x ∷ xs) zero lt = refl
length-remove_set (x ∷ xs) (suc i) lt = ap suc (length-remove_set xs i (omega arith))

-- out and in again at the same place
pub insert-remove : (rs : List Ref) (i : ℕ) (r : Ref) → i < length rs → insert (remove rs i) i r ≡ slice_set rs i r
insert-remove [] i r lt = absurd (omega (arith, lt))
insert-remove (x ∷ xs) zero r lt = refl
insert-remove (x ∷ xs) (suc i) r lt = ap (λ (l : List Ref). x ∷ l) (insert-remove xs i r (omega arith))

pub length-slice_set : (rs : List Ref) (i : ℕ) (r : Ref) → length (slice_set rs i r) ≡ length rs
length-slice_set [] i r = refl
length-slice_set (x ∷ xs) zero r = refl
length-slice_set (x ∷ xs) (suc i) r = ap suc (length-slice_set xs i r)

pub items_put : (r : Ref) (rs new : List Ref) (n : ℕ) → IsApart r rs → n ≡ length (take_while (λ q. nat_lt q.key r.key) rs) → new ≡ insert rs n r → new ≡ put r rs
items_put r rs new n a e new_is = new_is ∙ ap (λ k. insert rs k r) (e ∙ length-prefix_len (λ (q : Ref). nat_lt q.key r.key) rs) ∙ sym (put_inserts r rs a)

pub set_put : (s : RefSet) (r : Ref) → IsRefSet s → IsApart r s.refs → limit r ≤ 2 ^ 64 → length s.refs < s.capacity → IsRefSet (record { refs = put r s.refs; capacity = s.capacity })
set_put s r h a fits room = record { rising = Rising-put 0 (2 ^ 64) s.refs r h.rising a (omega arith) fits; fits = rw (length-put r s.refs a) (omega (arith, room)); known = h.known }

pub set_swap : (s : RefSet) (i : ℕ) (r q : Ref) → IsRefSet s → slice_get s.refs i ≡ Some q → q.key ≡ r.key → q.keybits ≡ r.keybits → IsRefSet (record { refs = slice_set s.refs i r; capacity = s.capacity })
set_swap s i r q h read key bits = record { rising = Rising-set 0 (2 ^ 64) s.refs i r q h.rising read key bits; fits = rw (length-slice_set s.refs i r) h.fits; known = h.known }

pub set_cut : (s : RefSet) (i : ℕ) → IsRefSet s → i < length s.refs → IsRefSet (record { refs = remove s.refs i; capacity = s.capacity })
set_cut s i h lt = record { rising = Rising-remove 0 (2 ^ 64) s.refs i lt h.rising; fits = let e = length-remove_set s.refs i lt in omega (arith, h.fits); known = h.known }

-- an element that was read by its place
pub read_at : (rs : List Ref) (i : ℕ) (x : Ref) → i < length rs → x ≡ slice_index_or rs i x → slice_get rs i ≡ Some x
read_at rs i x lt e = slice_get_read rs (length rs) i x refl lt e

-- references in order have keys from the low end on
key_above : (low high : ℕ) (rs : List Ref) (i : ℕ) (q : Ref) → Rising low high rs → slice_get rs i ≡ Some q → low ≤ q.key
key_above low high [] i q h read = absurd (none-some q read)
key_above low high (r ∷ rs) zero q h read = let same : r ≡ q = (cc) in rw (← same) h.0
key_above low high (r ∷ rs) (suc i) q h read = let rest = key_above (limit r) high rs i q h.1 read in let pos = pow_pos r.keybits in omega arith

-- what is left after one is taken out stood there before
pub remove_from : (rs : List Ref) (i j : ℕ) (r : Ref) → slice_get (remove rs i) j ≡ Some r → (k : ℕ) × (slice_get rs k ≡ Some r)
remove_from [] zero j r read = absurd (none-some r read)
remove_from [] (suc i) j r read = absurd (none-some r read)
remove_from (x ∷ xs) zero j r read = (suc j, read)
remove_from (x ∷ xs) (suc i) zero r read = (0, read)
remove_from (x ∷ xs) (suc i) (suc j) r read = let it = remove_from xs i j r read in (suc it.0, it.1)

-- and all others are left
pub remove_keeps : (rs : List Ref) (i j : ℕ) (r : Ref) → slice_get rs j ≡ Some r → (j ≡ i → ⊥) → (k : ℕ) × (slice_get (remove rs i) k ≡ Some r)
remove_keeps [] i j r read ne = absurd (none-some r read)
remove_keeps (x ∷ xs) zero zero r read ne = absurd (ne refl)
remove_keeps (x ∷ xs) zero (suc j) r read ne = (j, read)
remove_keeps (x ∷ xs) (suc i) zero r read ne = (0, read)
remove_keeps (x ∷ xs) (suc i) (suc j) r read ne = let it = remove_keeps xs i j r read (λ e. ne (ap suc e)) in (suc it.0, it.1)

-- none is left with the key of the one that was taken out
pub remove_lacks : (low high : ℕ) (rs : List Ref) (i j : ℕ) (q r : Ref) → Rising low high rs → slice_get rs i ≡ Some q → slice_get (remove rs i) j ≡ Some r → r.key ≡ q.key → ⊥
remove_lacks low high [] i j q r h read read' e = none-some q read
remove_lacks low high (x ∷ xs) zero j q r h read read' e =
    let same : x ≡ q = (cc) in
    let above = key_above (limit x) high xs j r h.1 read' in
    let pos = pow_pos x.keybits in
    omega (arith, above, pos, e, ap (λ (y : Ref). y.key) same)
remove_lacks low high (x ∷ xs) (suc i) zero q r h read read' e =
    let same : x ≡ r = (cc) in
    let above = key_above (limit x) high xs i q h.1 read in
    let pos = pow_pos x.keybits in
    omega (arith, above, pos, e, ap (λ (y : Ref). y.key) same)
remove_lacks low high (x ∷ xs) (suc i) (suc j) q r h read read' e = remove_lacks (limit x) high xs i j q r h.1 read read' e
