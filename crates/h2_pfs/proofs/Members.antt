-- Lists one by one: a longer front, and other relations.
use Rattle.std.proofs.Common.{◌≡◌, ℕ, ◌<◌, ◌≤◌, ◌+◌, suc, zero, arith, refl, ap, subst, List, [], ◌∷◌, ◌++◌, Some, length, take, slice_get, slice_index_or}
use Rattle.std.specs.Prelude.{map}
use Rattle.std.proofs.lemmas.Nat.{pow_pos}
use Rattle.std.proofs.lemmas.Option.{none-some}
use Rattle.h2_ref.specs.declared.reference.Ref.{Ref}
use Rattle.h2_set.specs.Ranges.{Rising, limit}
use Rattle.h2_set.specs.LeafLaws.{place_above}
use Rattle.h2_inode.specs.Access.{OneByOne}

-- one more at the end of a front
pub front_more : {X Y : Type 0} (R : X → Y → Type 0) (xs : List X) (i : ℕ) (x : X) (ys : List Y) (y : Y) → slice_get xs i ≡ Some x → OneByOne R (take i xs) ys → R x y → OneByOne R (take (suc i) xs) (ys ++ y ∷ [])
front_more R [] i x ys y read all here = absurd (none-some x read)
front_more R (z ∷ xs) zero x [] y read all here = let same : z ≡ x = (cc) in rw same (here, tt)
front_more R (z ∷ xs) zero x (w ∷ ys) y read all here = absurd all
front_more R (z ∷ xs) (suc i) x [] y read all here = absurd all
front_more R (z ∷ xs) (suc i) x (w ∷ ys) y read all here = (all.0, front_more R xs i x ys y read all.1 here)

pub front_grows : {X Y : Type 0} (R : X → Y → Type 0) (xs : List X) (i j : ℕ) (x : X) (ys : List Y) (y : Y) → j ≡ i + 1 → slice_get xs i ≡ Some x → OneByOne R (take i xs) ys → R x y → OneByOne R (take j xs) (ys ++ y ∷ [])
front_grows R xs i j x ys y next read all here =
    let e : suc i ≡ j = omega (arith, next) in
    subst (λ k. OneByOne R (take k xs) (ys ++ y ∷ [])) e (front_more R xs i x ys y read all here)

-- the whole list is its front
pub whole_front : {X Y : Type 0} (R : X → Y → Type 0) (xs : List X) (ys : List Y) → OneByOne R (take (length xs) xs) ys → OneByOne R xs ys
whole_front R [] [] all = tt
whole_front R [] (y ∷ ys) all = all
whole_front R (x ∷ xs) [] all = all
whole_front R (x ∷ xs) (y ∷ ys) all = (all.0, whole_front R xs ys all.1)

-- what stands at a place
pub at_place : {X : Type 0} (xs : List X) (i : ℕ) (d : X) → i < length xs → slice_get xs i ≡ Some (slice_index_or xs i d)
at_place [] i d within = absurd (omega (arith, within))
at_place (x ∷ xs) zero d within = refl
at_place (x ∷ xs) (suc i) d within = at_place xs i d (omega (arith, within))

pub map_more : {X Y : Type 0} (f : X → Y) (xs : List X) (x : X) → map f (xs ++ x ∷ []) ≡ map f xs ++ f x ∷ []
map_more f [] x = refl
map_more f (y ∷ xs) x = ap (λ z. f y ∷ z) (map_more f xs x)

-- what holds of the references before one with a higher key
pub front_carried : {Y : Type 0} (P Q : Ref → Y → Type 0) (low high : ℕ) (rs : List Ref) (i : ℕ) (q : Ref) (ys : List Y) → Rising low high rs → slice_get rs i ≡ Some q → ((r : Ref) (y : Y) → r.key < q.key → P r y → Q r y) → OneByOne P (take i rs) ys → OneByOne Q (take i rs) ys
front_carried P Q low high [] i q ys rising read step all = absurd (none-some q read)
front_carried P Q low high (r ∷ rs) zero q [] rising read step all = tt
front_carried P Q low high (r ∷ rs) zero q (y ∷ ys) rising read step all = all
front_carried P Q low high (r ∷ rs) (suc i) q [] rising read step all = all
front_carried P Q low high (r ∷ rs) (suc i) q (y ∷ ys) rising read step all =
    let above : limit r ≤ q.key = place_above (limit r) high rs i q rising.1 read in
    let pos = pow_pos r.keybits in
    (step r y (omega arith) all.0, front_carried P Q (limit r) high rs i q ys rising.1 read step all.1)

pub all_carried : {X Y : Type 0} (P Q : X → Y → Type 0) (xs : List X) (ys : List Y) → ((x : X) (y : Y) → P x y → Q x y) → OneByOne P xs ys → OneByOne Q xs ys
all_carried P Q [] [] step all = tt
all_carried P Q [] (y ∷ ys) step all = all
all_carried P Q (x ∷ xs) [] step all = all
all_carried P Q (x ∷ xs) (y ∷ ys) step all = (step x y all.0, all_carried P Q xs ys step all.1)

-- keys rise, so that of a later place is another one
pub later_key : (low high : ℕ) (rs : List Ref) (i j : ℕ) (q r : Ref) → Rising low high rs → i < j → slice_get rs i ≡ Some q → slice_get rs j ≡ Some r → q.key < r.key
later_key low high [] i j q r rising lt read there = absurd (none-some q read)
later_key low high (z ∷ rs) i zero q r rising lt read there = absurd (omega (arith, lt))
later_key low high (z ∷ rs) zero (suc j) q r rising lt read there =
    let same : z ≡ q = (cc) in
    let above : limit z ≤ r.key = place_above (limit z) high rs j r rising.1 there in
    let pos = pow_pos z.keybits in
    let key : z.key ≡ q.key = ap (λ (x : Ref). x.key) same in
    omega arith
later_key low high (z ∷ rs) (suc i) (suc j) q r rising lt read there = later_key (limit z) high rs i j q r rising.1 (omega (arith, lt)) read there
