-- Loops that look at each element of a list.
use Rattle.std.proofs.Common.{◌≡◌, ℕ, ◌+◌, ◌<◌, ◌≤◌, List, [], ◌∷◌, ◌++◌, length, map, take, get_or, subst, sym, ap, ◌∙◌, All, arith}
use Rattle.std.proofs.lemmas.List.{take_all, map_more, length-map, get_or-map}
use Rattle.std.proofs.lemmas.List.Elements.{All-nil, All-cons, All-append}

pub all_seen : {X : Type 0} (P : X → Type 0) (xs : List X) (i : ℕ) → length xs ≤ i → All P (take i xs) → All P xs
all_seen P xs i ge all = subst (All P) (take_all i xs ge) all

-- what an element lacks, the mapped list lacks too
pub mapped_lacks : {X Y : Type 0} (f : X → Y) (P : Y → Type 0) (xs : List X) (i : ℕ) (d : X) → i < length xs → (P (f (get_or xs i d)) → ⊥) → All P (map f xs) → ⊥
mapped_lacks f P xs i d lt lacks all =
    let long : i < length (map f xs) = omega (arith, length-map xs f, lt) in
    lacks (subst P (get_or-map f xs i d (f d) lt) (all i (f d) long))

-- one more element was taken over
pub mapped_more : {X Y : Type 0} (f : X → Y) (P : Y → Type 0) (new ys : List Y) (y : Y) (xs : List X) (i : ℕ) (d : X) → i < length xs → new ≡ ys ++ y ∷ [] → y ≡ f (get_or xs i d) → ys ≡ map f (take i xs) → All P ys → P (f (get_or xs i d)) → (new ≡ map f (take (i + 1) xs)) × All P new
mapped_more f P new ys y xs i d lt is one so_far all good =
    let ends : new ≡ map f (take (i + 1) xs) = is ∙ ap (λ e. ys ++ e ∷ []) one ∙ ap (λ zs. zs ++ f (get_or xs i d) ∷ []) so_far ∙ sym (map_more f xs i d lt) in
    let last : All P (y ∷ []) = All-cons P y [] (subst P (sym one) good) (All-nil P) in
    (ends, subst (All P) (sym is) (All-append P ys (y ∷ []) all last))
