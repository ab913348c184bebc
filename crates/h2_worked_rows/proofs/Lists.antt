-- What holds of the elements of lists of none, one and two.
use Rattle.std.proofs.Common.{◌≡◌, ◌<◌, zero, suc, [], ◌∷◌, arith, refl}
use Rattle.std.specs.List.{All, AllPairs, Contains}

pub all_none : {X : Type 0} (P : X → Type 0) → All P []
all_none P k d lt = absurd (let high : k < 0 = lt in omega arith)

pub all_one : {X : Type 0} (P : X → Type 0) (x : X) → P x → All P (x ∷ [])
all_one P x p zero d lt = p
all_one P x p (suc k) d lt = absurd (let high : suc k < 1 = lt in omega arith)

pub all_two : {X : Type 0} (P : X → Type 0) (x y : X) → P x → P y → All P (x ∷ y ∷ [])
all_two P x y p q zero d lt = p
all_two P x y p q (suc zero) d lt = q
all_two P x y p q (suc (suc k)) d lt = absurd (let high : suc (suc k) < 2 = lt in omega arith)

pub pair_of_two : {X : Type 0} (R : X → X → Type 0) (x y : X) → R x y → AllPairs R (x ∷ y ∷ [])
pair_of_two R x y r zero zero d less lt = absurd (let no : 0 < 0 = less in omega arith)
pair_of_two R x y r zero (suc zero) d less lt = r
pair_of_two R x y r zero (suc (suc j)) d less lt = absurd (let high : suc (suc j) < 2 = lt in omega arith)
pair_of_two R x y r (suc i) zero d less lt = absurd (let no : suc i < 0 = less in omega arith)
pair_of_two R x y r (suc i) (suc zero) d less lt = absurd (let no : suc i < 1 = less in omega arith)
pair_of_two R x y r (suc i) (suc (suc j)) d less lt = absurd (let high : suc (suc j) < 2 = lt in omega arith)

pub only_one : {X : Type 0} (x y : X) → Contains (x ∷ []) y → x ≡ y
only_one x y (zero, lt, e) = e
only_one x y (suc k, lt, e) = absurd (let high : suc k < 1 = lt in omega arith)

pub the_one : {X : Type 0} (x : X) → Contains (x ∷ []) x
the_one x = let lt : 0 < 1 = omega arith in (0, lt, refl)
