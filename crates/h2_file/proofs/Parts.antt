-- References cut to a size, and their leaves.
use Rattle.std.proofs.Common.{◌≡◌, ℕ, ◌+◌, ◌*◌, ◌/◌, ◌%◌, ◌<◌, ◌≤◌, ◌^◌, nat_lt, nat_eq, true, false, arith, refl, sym, ◌∙◌, ap, List, [], ◌∷◌, ◌++◌, Option, Some, None, subst, ◌⊎◌, inl, inr, slice_get, slice_set, take, drop, suc, zero}
use Rattle.std.specs.Prelude.{filter, map, IfSome}
use Rattle.std.proofs.lemmas.Bool.Decides.{nat_tests}
use Rattle.std.proofs.lemmas.Nat.{pow_pos}
use Rattle.std.proofs.lemmas.Option.{none-some}
use Rattle.std.proofs.lemmas.List.{append-nil, append_assoc, map-append}
use Rattle.std.proofs.lemmas.List.Elements.{filter-append}
use Rattle.h2_ref.specs.declared.reference.Ref.{Ref}
use Rattle.h2_set.specs.Ranges.{Rising, limit, IsAligned}
use Rattle.h2_set.specs.Forest.{Forest, HasLeaves, done, one, near, far}
use Rattle.h2_set.specs.Calls.{Alike}
use Rattle.h2_set.specs.LeafLaws.{Rising-le, place_above}
use Rattle.h2_set.specs.ChangeLaws.{multiple_add, lower_power, same_or_not}
use Rattle.h2_set.specs.RefSet.{RefSet, IsRefSet}
use Rattle.std.proofs.Math.Nat.{mod_self}
use Rattle.h2_file.specs.Cutting.{cut_block, IsCutBlock, in_place, cut_to}

-- Lists of references that are cut

pub cut_append : (size : ℕ) (last : Option Ref) (xs ys : List Ref) → cut_to size last (xs ++ ys) ≡ cut_to size last xs ++ cut_to size last ys
cut_append size last xs ys =
    let p = λ (r : Ref). nat_lt r.key size in
    ap (map (in_place last)) (filter-append p xs ys) ∙ map-append (in_place last) (filter p xs) (filter p ys)

pub cut_one : (size : ℕ) (last : Option Ref) (r : Ref) (l : List Ref) → r.key < size → cut_to size last (r ∷ l) ≡ in_place last r ∷ cut_to size last l
cut_one size last r l lt = let e : nat_lt r.key size ≡ true = grind (arith, nat_tests) in rw e refl

pub cut_gone : (size : ℕ) (last : Option Ref) (r : Ref) (l : List Ref) → size ≤ r.key → cut_to size last (r ∷ l) ≡ cut_to size last l
cut_gone size last r l le = let e : nat_lt r.key size ≡ false = grind (arith, nat_tests) in rw e refl

-- references from the size on are gone
pub cut_none : (size : ℕ) (last : Option Ref) (low high : ℕ) (ys : List Ref) → Rising low high ys → size ≤ low → cut_to size last ys ≡ []
cut_none size last low high [] h le = refl
cut_none size last low high (r ∷ ys) h le =
    let pos = pow_pos r.keybits in
    cut_gone size last r ys (omega (arith, h.0, le)) ∙ cut_none size last (limit r) high ys h.1 (omega (arith, h.0, le, pos))

block_key : (key bits size : ℕ) → bits ≡ 14 → key % 2 ^ bits ≡ 0 → key < size → size < key + 2 ^ bits → key ≡ 16384 * (size / 16384)
block_key key bits size e aligned low high = let a : key % 16384 ≡ 0 = rw e at aligned in let h : size < key + 16384 = rw e at high in omega (arith, a, h, low)

-- the block in which the cut ends
pub cut_key : (size : ℕ) (q : Ref) → IsCutBlock size q → q.key ≡ cut_block size
cut_key size q is = block_key q.key q.keybits size is.keybits is.aligned is.low is.high

other_place : (size : ℕ) (last : Option Ref) (r : Ref) → IfSome last (IsCutBlock size) → r.key < cut_block size → in_place last r ≡ r
other_place size None r is lt = refl
other_place size (Some q) r is lt = let e = cut_key size q is in let ne : nat_eq r.key q.key ≡ false = (let lt' : r.key < q.key = omega (arith, e, lt) in grind (arith, nat_tests)) in rw ne refl

block_low : (size : ℕ) → cut_block size ≤ size
block_low size = omega arith

-- references up to the block in which the cut ends stay
pub cut_all : (size : ℕ) (last : Option Ref) (low mid : ℕ) (xs : List Ref) → IfSome last (IsCutBlock size) → Rising low mid xs → mid ≤ cut_block size → cut_to size last xs ≡ xs
cut_all size last low mid [] is h le = refl
cut_all size last low mid (r ∷ xs) is h le =
    let pos = pow_pos r.keybits in
    let top = Rising-le (limit r) mid xs h.1 in
    let b = block_low size in
    let rest : cut_to size last xs ≡ xs = cut_all size last (limit r) mid xs is h.1 le in
    let kept : in_place last r ≡ r = other_place size last r is (omega (arith, pos, top, le)) in
    cut_one size last r xs (omega (arith, pos, top, le, b)) ∙ (ap (λ (y : Ref). y ∷ cut_to size last xs) kept ∙ ap (λ (l : List Ref). r ∷ l) rest)

-- a range of whole blocks that ends by the size ends by that block
end_low : (n size : ℕ) → n % 16384 ≡ 0 → n ≤ size → n ≤ 16384 * (size / 16384)
end_low n size e le = omega (arith, e, le)

pub end_block : (size : ℕ) (r : Ref) → IsAligned r → 14 ≤ r.keybits → limit r ≤ size → limit r ≤ cut_block size
end_block size r aligned wide le =
    let key = lower_power r.key 14 r.keybits wide aligned in
    let len = lower_power (2 ^ r.keybits) 14 r.keybits wide (mod_self (2 ^ r.keybits)) in
    let sum : limit r % 2 ^ 14 ≡ 0 = multiple_add r.key (2 ^ r.keybits) (2 ^ 14) key len in
    end_low (limit r) size sum le

-- Parts of a node's references, with their leaves

pub record Parted (f : Forest) (at i : ℕ) (rs : List Ref) (r : Ref) (l : List Ref) : Type 0 where
  pub before : List Ref
  pub own : List Ref
  pub behind : List Ref
  pub has_before : HasLeaves f at (take i rs) before
  pub has_own : HasLeaves f at (r ∷ []) own
  pub has_behind : HasLeaves f at (drop (suc i) rs) behind
  pub whole : l ≡ before ++ (own ++ behind)

pub leaves_parted : {f : Forest} {at : ℕ} {rs l : List Ref} → HasLeaves f at rs l → (i : ℕ) (r : Ref) → slice_get rs i ≡ Some r → Parted f at i rs r l
leaves_parted done i r read = absurd (none-some r read)
leaves_parted {f} {at} (one {r = x} {rs = rs} {l = l} leaf rest) zero r read =
    let same : x ≡ r = (cc) in
    subst (λ (y : Ref). Parted f at 0 (x ∷ rs) y (x ∷ l)) same (record { before = []; own = x ∷ []; behind = l; has_before = done; has_own = one leaf done; has_behind = rest; whole = refl })
leaves_parted {f} {at} (near {c = c} {r = x} {rs = rs} {below = b} {l = l} ind link kids inside rest) zero r read =
    let same : x ≡ r = (cc) in
    subst (λ (y : Ref). Parted f at 0 (x ∷ rs) y (b ++ l)) same (record { before = []; own = b ++ []; behind = l; has_before = done; has_own = near ind link kids inside done; has_behind = rest; whole = ap (λ (z : List Ref). z ++ l) (sym (append-nil b)) })
leaves_parted {f} {at} (far {r = x} {rs = rs} {below = b} {l = l} ind link inside rest) zero r read =
    let same : x ≡ r = (cc) in
    subst (λ (y : Ref). Parted f at 0 (x ∷ rs) y (b ++ l)) same (record { before = []; own = b ++ []; behind = l; has_before = done; has_own = far ind link inside done; has_behind = rest; whole = ap (λ (z : List Ref). z ++ l) (sym (append-nil b)) })
leaves_parted (one {r = x} {l = l} leaf rest) (suc i) r read =
    let it = leaves_parted rest i r read in
    record { before = x ∷ it.before; own = it.own; behind = it.behind; has_before = one leaf it.has_before; has_own = it.has_own; has_behind = it.has_behind; whole = ap (λ (z : List Ref). x ∷ z) it.whole }
leaves_parted (near {r = x} {below = b} {l = l} ind link kids inside rest) (suc i) r read =
    let it = leaves_parted rest i r read in
    record { before = b ++ it.before; own = it.own; behind = it.behind; has_before = near ind link kids inside it.has_before; has_own = it.has_own; has_behind = it.has_behind; whole = ap (λ (z : List Ref). b ++ z) it.whole ∙ sym (append_assoc b it.before (it.own ++ it.behind)) }
leaves_parted (far {r = x} {below = b} {l = l} ind link inside rest) (suc i) r read =
    let it = leaves_parted rest i r read in
    record { before = b ++ it.before; own = it.own; behind = it.behind; has_before = far ind link inside it.has_before; has_own = it.has_own; has_behind = it.has_behind; whole = ap (λ (z : List Ref). b ++ z) it.whole ∙ sym (append_assoc b it.before (it.own ++ it.behind)) }

pub leaves_join : {f : Forest} {at : ℕ} {xs ys l k : List Ref} → HasLeaves f at xs l → HasLeaves f at ys k → HasLeaves f at (xs ++ ys) (l ++ k)
leaves_join done h = h
leaves_join (one leaf rest) h = one leaf (leaves_join rest h)
leaves_join {f} {at} {ys = ys} {k = k} (near {r = r} {rs = rs} {below = b} {l = l} ind link kids inside rest) h =
    let it : HasLeaves f at (r ∷ (rs ++ ys)) (b ++ (l ++ k)) = near ind link kids inside (leaves_join rest h) in
    subst (λ z. HasLeaves f at (r ∷ (rs ++ ys)) z) (sym (append_assoc b l k)) it
leaves_join {f} {at} {ys = ys} {k = k} (far {r = r} {rs = rs} {below = b} {l = l} ind link inside rest) h =
    let it : HasLeaves f at (r ∷ (rs ++ ys)) (b ++ (l ++ k)) = far ind link inside (leaves_join rest h) in
    subst (λ z. HasLeaves f at (r ∷ (rs ++ ys)) z) (sym (append_assoc b l k)) it

-- leaves of references from the size on are gone
pub behind_gone : {f : Forest} {at : ℕ} {ys l : List Ref} (size : ℕ) (last : Option Ref) → HasLeaves f at ys l → ((i : ℕ) (r : Ref) → slice_get ys i ≡ Some r → size ≤ r.key) → cut_to size last l ≡ []
behind_gone size last done past = refl
behind_gone size last (one {r = r} {l = l} leaf rest) past = cut_gone size last r l (past 0 r refl) ∙ behind_gone size last rest (λ i q read. past (suc i) q read)
behind_gone size last (near {r = r} {below = b} {l = l} ind link kids inside rest) past =
    cut_append size last b l ∙ (ap (λ (z : List Ref). z ++ cut_to size last l) (cut_none size last r.key (limit r) b inside (past 0 r refl)) ∙ behind_gone size last rest (λ i q read. past (suc i) q read))
behind_gone size last (far {r = r} {below = b} {l = l} ind link inside rest) past =
    cut_append size last b l ∙ (ap (λ (z : List Ref). z ++ cut_to size last l) (cut_none size last r.key (limit r) b inside (past 0 r refl)) ∙ behind_gone size last rest (λ i q read. past (suc i) q read))

-- leaves of references that end by the block in which the cut ends stay
pub before_stays : {f : Forest} {at : ℕ} {xs l : List Ref} (size : ℕ) (last : Option Ref) → IfSome last (IsCutBlock size) → HasLeaves f at xs l → ((i : ℕ) (r : Ref) → slice_get xs i ≡ Some r → limit r ≤ cut_block size) → cut_to size last l ≡ l
before_stays size last is done ends = refl
before_stays size last is (one {r = r} {l = l} leaf rest) ends =
    let first : cut_to size last (r ∷ []) ≡ r ∷ [] = cut_all size last r.key (limit r) (r ∷ []) is (omega arith, omega arith) (ends 0 r refl) in
    cut_append size last (r ∷ []) l ∙ (ap (λ (z : List Ref). z ++ cut_to size last l) first ∙ ap (λ (z : List Ref). r ∷ z) (before_stays size last is rest (λ i q read. ends (suc i) q read)))
before_stays size last is (near {r = r} {below = b} {l = l} ind link kids inside rest) ends =
    cut_append size last b l ∙ (ap (λ (z : List Ref). z ++ cut_to size last l) (cut_all size last r.key (limit r) b is inside (ends 0 r refl)) ∙ ap (λ (z : List Ref). b ++ z) (before_stays size last is rest (λ i q read. ends (suc i) q read)))
before_stays size last is (far {r = r} {below = b} {l = l} ind link inside rest) ends =
    cut_append size last b l ∙ (ap (λ (z : List Ref). z ++ cut_to size last l) (cut_all size last r.key (limit r) b is inside (ends 0 r refl)) ∙ ap (λ (z : List Ref). b ++ z) (before_stays size last is rest (λ i q read. ends (suc i) q read)))

-- Places

pub take_from : (n : ℕ) (rs : List Ref) (i : ℕ) (r : Ref) → slice_get (take n rs) i ≡ Some r → (i < n) × (slice_get rs i ≡ Some r)
take_from zero rs i r read = absurd (none-some r read)
take_from (suc n) [] i r read = absurd (none-some r read)
take_from (suc n) (x ∷ rs) zero r read = (omega arith, read)
take_from (suc n) (x ∷ rs) (suc i) r read = let it = take_from n rs i r read in (omega (arith, it.0), it.1)

pub drop_from : (n : ℕ) (rs : List Ref) (i : ℕ) (r : Ref) → slice_get (drop n rs) i ≡ Some r → (j : ℕ) × (n ≤ j) × (slice_get rs j ≡ Some r)
drop_from zero rs i r read = (i, omega arith, read)
drop_from (suc n) [] i r read = absurd (none-some r read)
drop_from (suc n) (x ∷ rs) i r read = let it = drop_from n rs i r read in (suc it.0, omega (arith, it.1), it.2)

pub set_from : (xs : List Ref) (n : ℕ) (q : Ref) (i : ℕ) (r : Ref) → slice_get (slice_set xs n q) i ≡ Some r → (r ≡ q) ⊎ (slice_get xs i ≡ Some r)
set_from [] n q i r read = inr read
set_from (x ∷ xs) zero q zero r read = inl (cc)
set_from (x ∷ xs) zero q (suc i) r read = inr read
set_from (x ∷ xs) (suc n) q zero r read = inr read
set_from (x ∷ xs) (suc n) q (suc i) r read = set_from xs n q i r read

pub taken_at : (n : ℕ) (rs : List Ref) (i : ℕ) (r : Ref) → slice_get rs i ≡ Some r → i < n → slice_get (take n rs) i ≡ Some r
taken_at n [] i r read lt = absurd (none-some r read)
taken_at zero (x ∷ rs) i r read lt = absurd (omega (arith, lt))
taken_at (suc n) (x ∷ rs) zero r read lt = read
taken_at (suc n) (x ∷ rs) (suc i) r read lt = taken_at n rs i r read (omega (arith, lt))

pub take_next : (rs : List Ref) (i : ℕ) (r : Ref) → slice_get rs i ≡ Some r → take (suc i) rs ≡ take i rs ++ (r ∷ [])
take_next [] i r read = absurd (none-some r read)
take_next (x ∷ rs) zero r read = let same : x ≡ r = (cc) in rw same refl
take_next (x ∷ rs) (suc i) r read = ap (λ (z : List Ref). x ∷ z) (take_next rs i r read)

pub set_next : (rs : List Ref) (i : ℕ) (r q : Ref) → slice_get rs i ≡ Some r → slice_set (take (suc i) rs) i q ≡ take i rs ++ (q ∷ [])
set_next [] i r q read = absurd (none-some r read)
set_next (x ∷ rs) zero r q read = refl
set_next (x ∷ rs) (suc i) r q read = ap (λ (z : List Ref). x ∷ z) (set_next rs i r q read)

pub Rising-take : (low high n : ℕ) (rs : List Ref) → Rising low high rs → Rising low high (take n rs)
Rising-take low high zero rs h = Rising-le low high rs h
Rising-take low high (suc n) [] h = h
Rising-take low high (suc n) (x ∷ rs) h = (h.0, Rising-take (limit x) high n rs h.1)

pub Alike-take : (n : ℕ) (rs qs : List Ref) → Alike rs qs → Alike (take n rs) (take n qs)
Alike-take zero rs qs a = tt
Alike-take (suc n) [] [] a = tt
Alike-take (suc n) [] (q ∷ qs) a = absurd a
Alike-take (suc n) (r ∷ rs) [] a = absurd a
Alike-take (suc n) (r ∷ rs) (q ∷ qs) a = (a.0, Alike-take n rs qs a.1)

-- one that stands before another ends before it
pub in_order : (low high : ℕ) (rs : List Ref) (i j : ℕ) (x y : Ref) → Rising low high rs → slice_get rs i ≡ Some x → slice_get rs j ≡ Some y → i < j → limit x ≤ y.key
in_order low high [] i j x y h read read' lt = absurd (none-some x read)
in_order low high (z ∷ rs) i zero x y h read read' lt = absurd (omega (arith, lt))
in_order low high (z ∷ rs) zero (suc j) x y h read read' lt = let same : z ≡ x = (cc) in subst (λ (w : Ref). limit w ≤ y.key) same (place_above (limit z) high rs j y h.1 read')
in_order low high (z ∷ rs) (suc i) (suc j) x y h read read' lt = in_order (limit z) high rs i j x y h.1 read read' (omega (arith, lt))

-- what stands behind a reference at or past the size is past it too
pub past_place : (s : RefSet) (i j : ℕ) (x r : Ref) (size : ℕ) → IsRefSet s → slice_get s.refs i ≡ Some x → slice_get s.refs j ≡ Some r → i ≤ j → size ≤ x.key → size ≤ r.key
past_place s i j x r size set read read' le past = elim (same_or_not i j) as (λ _. size ≤ r.key) [
  | inl same ↦ let there : slice_get s.refs j ≡ Some x = subst (λ z. slice_get s.refs z ≡ Some x) same read in let is : x ≡ r = (cc) in subst (λ (y : Ref). size ≤ y.key) is past
  | inr ne ↦ let order = in_order 0 (2 ^ 64) s.refs i j x r set.rising read read' (omega (arith, le, ne)) in let pos = pow_pos x.keybits in omega (arith, order, past, pos)
]

-- where no reference is below the size, no leaf is
pub all_past : {f : Forest} {at : ℕ} {rs l : List Ref} (size : ℕ) (last : Option Ref) → HasLeaves f at rs l → ((i : ℕ) (r : Ref) → slice_get rs i ≡ Some r → size ≤ r.key) → cut_to size last l ≡ []
all_past size last h past = behind_gone size last h past
