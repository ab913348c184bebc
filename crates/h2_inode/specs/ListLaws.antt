-- Lists one by one, all of a list, and the leaf whose range holds a key.
use Rattle.std.specs.Prelude.{◌≡◌, ◌<◌, ◌≤◌, ℕ, zero, suc, ◌+◌, ◌^◌, Bool, true, false, List, [], ◌∷◌, ◌++◌, length, slice_index_or, All, Contains, AllPairs, Some, None, if◌then◌else◌, refl}
use Rattle.std.proofs.Common.{ap, sym, ◌∙◌, arith, subst}
use Rattle.std.proofs.lemmas.Option.{none-some, same_Some}
use Rattle.std.proofs.lemmas.Nat.{pow_pos}
use Rattle.h2_ref.specs.declared.reference.Ref.{Ref}
use Rattle.h2_set.specs.Ranges.{find, holds, limit, Rising}
use Rattle.h2_inode.specs.Access.{OneByOne}
use Rattle.h2_inode.specs.Following.{SameLeaf}

-- what a list has, a longer one has
pub behind : {X : Type 0} (x : X) (xs : List X) (y : X) → Contains xs y → Contains (x ∷ xs) y
behind x xs y h = let lt : h.0 < length xs = h.1 in (suc h.0, omega (arith, lt), h.2)

-- Lists one by one

pub through : {X Y Z : Type 0} (R : X → Y → Type 0) (P : X → Z → Type 0) (Q : Y → Z → Type 0) → ((x : X) (y : Y) (z : Z) → R x y → P x z → Q y z)
    → (xs : List X) (ys : List Y) (zs : List Z) → OneByOne R xs ys → OneByOne P xs zs → OneByOne Q ys zs
through R P Q f [] [] [] p q = tt
through R P Q f [] [] (z ∷ zs) p q = absurd q
through R P Q f [] (y ∷ ys) zs p q = absurd p
through R P Q f (x ∷ xs) [] zs p q = absurd p
through R P Q f (x ∷ xs) (y ∷ ys) [] p q = absurd q
through R P Q f (x ∷ xs) (y ∷ ys) (z ∷ zs) p q = (f x y z p.0 q.0, through R P Q f xs ys zs p.1 q.1)

pub each_mapped : {X Y : Type 0} (P Q : X → Y → Type 0) → ((x : X) (y : Y) → P x y → Q x y) → (xs : List X) (ys : List Y) → OneByOne P xs ys → OneByOne Q xs ys
each_mapped P Q f [] [] p = tt
each_mapped P Q f [] (y ∷ ys) p = absurd p
each_mapped P Q f (x ∷ xs) [] p = absurd p
each_mapped P Q f (x ∷ xs) (y ∷ ys) p = (f x y p.0, each_mapped P Q f xs ys p.1)

-- where each member has one partner at most, a list has one partner list at most
pub one_list : {X Y : Type 0} (P Q : X → Y → Type 0) → ((x : X) (y z : Y) → P x y → Q x z → z ≡ y) → (xs : List X) (ys zs : List Y) → OneByOne P xs ys → OneByOne Q xs zs → zs ≡ ys
one_list P Q f [] [] [] p q = refl
one_list P Q f [] [] (z ∷ zs) p q = absurd q
one_list P Q f [] (y ∷ ys) zs p q = absurd p
one_list P Q f (x ∷ xs) [] zs p q = absurd p
one_list P Q f (x ∷ xs) (y ∷ ys) [] p q = absurd q
one_list P Q f (x ∷ xs) (y ∷ ys) (z ∷ zs) p q = λ i. f x y z p.0 q.0 i ∷ one_list P Q f xs ys zs p.1 q.1 i

-- a list beside itself
pub all_beside : {X : Type 0} (R : X → X → Type 0) (xs : List X) → ((x : X) → Contains xs x → R x x) → OneByOne R xs xs
all_beside R [] f = tt
all_beside R (x ∷ xs) f = (f x (0, omega arith, refl), all_beside R xs (λ y h. f y (behind x xs y h)))

-- All of a list

pub all_head : {X : Type 0} (P : X → Type 0) (x : X) (xs : List X) → All P (x ∷ xs) → P x
all_head P x xs h = h 0 x (omega arith)

pub all_tail : {X : Type 0} (P : X → Type 0) (x : X) (xs : List X) → All P (x ∷ xs) → All P xs
all_tail P x xs h = λ k d lt. h (suc k) d (omega (arith, lt))

pub all_cons : {X : Type 0} (P : X → Type 0) (x : X) (xs : List X) → P x → All P xs → (k : ℕ) (d : X) → k < length (x ∷ xs) → P (slice_index_or (x ∷ xs) k d)
all_cons P x xs p h zero d lt = p
all_cons P x xs p h (suc k) d lt = h k d (omega (arith, lt))

pub all_none : {X : Type 0} (P : X → Type 0) → All P []
all_none P = λ k d lt. absurd (omega (arith, lt))

pub all_through : {X Y : Type 0} (R : X → Y → Type 0) (P : X → Type 0) (Q : Y → Type 0) → ((x : X) (y : Y) → R x y → P x → Q y) → (xs : List X) (ys : List Y) → OneByOne R xs ys → All P xs → All Q ys
all_through R P Q f [] [] p h = all_none Q
all_through R P Q f [] (y ∷ ys) p h = absurd p
all_through R P Q f (x ∷ xs) [] p h = absurd p
all_through R P Q f (x ∷ xs) (y ∷ ys) p h = all_cons Q y ys (f x y p.0 (all_head P x xs h)) (all_through R P Q f xs ys p.1 (all_tail P x xs h))

pub all_mapped : {X : Type 0} (P Q : X → Type 0) → ((x : X) → P x → Q x) → (xs : List X) → All P xs → All Q xs
all_mapped P Q f xs h = λ k d lt. f (slice_index_or xs k d) (h k d lt)

pub all_append : {X : Type 0} (P : X → Type 0) (xs ys : List X) → All P xs → All P ys → All P (xs ++ ys)
all_append P [] ys h g = g
all_append P (x ∷ xs) ys h g = all_cons P x (xs ++ ys) (all_head P x xs h) (all_append P xs ys (all_tail P x xs h) g)

pub pairs_none : {X : Type 0} (R : X → X → Type 0) → AllPairs R []
pairs_none R = λ i j d lt len. absurd (omega (arith, len))

pub pairs_cons : {X : Type 0} (R : X → X → Type 0) (x : X) (xs : List X) → All (R x) xs → AllPairs R xs
    → (i j : ℕ) (d : X) → i < j → j < length (x ∷ xs) → R (slice_index_or (x ∷ xs) i d) (slice_index_or (x ∷ xs) j d)
pairs_cons R x xs h t i zero d lt len = absurd (omega (arith, lt))
pairs_cons R x xs h t zero (suc j) d lt len = h j d (omega (arith, len))
pairs_cons R x xs h t (suc i) (suc j) d lt len = t i j d (omega (arith, lt)) (omega (arith, len))

-- The leaf whose range holds a key

found_first : (P : Ref → Type 0) (k : ℕ) (x : Ref) (l : List Ref) (r : Ref) → P x → (find k l ≡ Some r → P r × (holds k r ≡ true)) → (b : Bool) → holds k x ≡ b
    → (if b then Some x else find k l) ≡ Some r → P r × (holds k r ≡ true)
found_first P k x l r here later true h e = let same = same_Some x r e in (subst P same here, subst (λ v. holds k v ≡ true) same h)
found_first P k x l r here later false h e = later e

-- what holds of all holds of the leaf that is found, and its range holds the key
pub found_in : (P : Ref → Type 0) (k : ℕ) (l : List Ref) (r : Ref) → All P l → find k l ≡ Some r → P r × (holds k r ≡ true)
found_in P k [] r h e = absurd (none-some r e)
found_in P k (x ∷ l) r h e = found_first P k x l r (all_head P x l h) (found_in P k l r (all_tail P x l h)) (holds k x) refl e

-- Leaves that stand for the same

module _ (R : Ref → Ref → Type 0) (like : (r s : Ref) → R r s → SameLeaf r s) where
  pub same_limit : (r s : Ref) → R r s → limit s ≡ limit r
  same_limit r s p = let same = like r s p in rw (same.key, same.keybits) refl

  same_holds : (k : ℕ) (r s : Ref) → R r s → holds k s ≡ holds k r
  same_holds k r s p = let same = like r s p in rw (same.key, same.keybits) refl

  none_first : (k : ℕ) (x : Ref) (xs : List Ref) (y : Ref) (ys : List Ref) → holds k y ≡ holds k x → (find k ys ≡ None → find k xs ≡ None) → (b : Bool) → holds k x ≡ b
      → find k (y ∷ ys) ≡ None → find k (x ∷ xs) ≡ None
  none_first k x xs y ys same later true h e = absurd (none-some y (sym e ∙ ap (λ (c : Bool). if c then Some y else find k ys) (same ∙ h)))
  none_first k x xs y ys same later false h e =
      ap (λ (c : Bool). if c then Some x else find k xs) h
      ∙ later (sym (ap (λ (c : Bool). if c then Some y else find k ys) (same ∙ h)) ∙ e)

  -- a hole is a hole
  pub hole_carried : (k : ℕ) (l m : List Ref) → OneByOne R l m → find k m ≡ None → find k l ≡ None
  hole_carried k [] [] p e = refl
  hole_carried k [] (y ∷ ys) p e = absurd p
  hole_carried k (x ∷ xs) [] p e = absurd p
  hole_carried k (x ∷ xs) (y ∷ ys) p e = none_first k x xs y ys (same_holds k x y p.0) (hole_carried k xs ys p.1) (holds k x) refl e

  -- order stays
  pub rising_carried : (l m : List Ref) → OneByOne R l m → (low high : ℕ) → Rising low high l → Rising low high m
  rising_carried [] [] p low high h = h
  rising_carried [] (y ∷ ys) p low high h = absurd p
  rising_carried (x ∷ xs) [] p low high h = absurd p
  rising_carried (x ∷ xs) (y ∷ ys) p low high h =
      let same = like x y p.0 in
      (subst (λ n. low ≤ n) (sym same.key) h.0, subst (λ n. Rising n high ys) (sym (same_limit x y p.0)) (rising_carried xs ys p.1 (limit x) high h.1))

-- What stands beside the leaves of a tree stands in the order of their keys

module _ {Y : Type 0} (key : Y → ℕ) (R : Ref → Y → Type 0) (keyed : (r : Ref) (y : Y) → R r y → key y ≡ r.key) where
  keys_from : (l : List Ref) (ys : List Y) → OneByOne R l ys → (least low high : ℕ) → least ≤ low → Rising low high l → All (λ y. least ≤ key y) ys
  keys_from [] [] p least low high le h = all_none (λ y. least ≤ key y)
  keys_from [] (y ∷ ys) p least low high le h = absurd p
  keys_from (r ∷ l) [] p least low high le h = absurd p
  keys_from (r ∷ l) (y ∷ ys) p least low high le h =
      let first : low ≤ r.key = h.0 in
      let is : key y ≡ r.key = keyed r y p.0 in
      let past : least ≤ r.key + 2 ^ r.keybits = omega arith in
      let here : least ≤ key y = omega arith in
      all_cons (λ y. least ≤ key y) y ys here (keys_from l ys p.1 least (limit r) high past h.1)

  pub keys_ascend : (l : List Ref) (ys : List Y) → OneByOne R l ys → (low high : ℕ) → Rising low high l → AllPairs (λ x y. key x < key y) ys
  keys_ascend [] [] p low high h = pairs_none (λ x y. key x < key y)
  keys_ascend [] (y ∷ ys) p low high h = absurd p
  keys_ascend (r ∷ l) [] p low high h = absurd p
  keys_ascend (r ∷ l) (y ∷ ys) p low high h =
      let is : key y ≡ r.key = keyed r y p.0 in
      let some = pow_pos r.keybits in
      let past : key y + 1 ≤ r.key + 2 ^ r.keybits = omega (arith, some) in
      let later : All (λ z. key y + 1 ≤ key z) ys = keys_from l ys p.1 (key y + 1) (limit r) high past h.1 in
      pairs_cons (λ x y. key x < key y) y ys (λ k d lt. let after : key y + 1 ≤ key (slice_index_or ys k d) = later k d lt in omega arith) (keys_ascend l ys p.1 (limit r) high h.1)
