-- What a stable sort of references says of the values.
use Rattle.std.proofs.Common.{◌≡◌, refl, ◌+◌, ◌<◌, Bool, true, false, cond, List, [], ◌∷◌, length, map, get_or, sym, ap, ◌∙◌, subst, arith}
use Rattle.std.specs.List.{filter}
use Rattle.std.specs.List.Sorted.{IsSortedBy, IsStableBy, ties}
use Rattle.std.proofs.lemmas.List.{length-map, get_or-map}

cond_mapped : {X Y : Type 0} (f : X → Y) (b : Bool) (xs ys : List X) → cond b (map f xs) (map f ys) ≡ map f (cond b xs ys)
cond_mapped f true xs ys = refl
cond_mapped f false xs ys = refl

filter_mapped : {X Y : Type 0} (f : X → Y) (p : Y → Bool) (xs : List X) → filter p (map f xs) ≡ map f (filter (λ x. p (f x)) xs)
filter_mapped f p [] = refl
filter_mapped f p (x ∷ xs) =
    ap (λ zs. cond (p (f x)) (f x ∷ zs) zs) (filter_mapped f p xs) ∙ cond_mapped f (p (f x)) (x ∷ filter (λ y. p (f y)) xs) (filter (λ y. p (f y)) xs)

-- a sort by what the elements show
pub sorted_mapped : {X Y : Type 0} (f : X → Y) (back : Y → X) (lt : Y → Y → Bool) (xs : List X) → IsSortedBy (λ a b. lt (f a) (f b)) xs → IsSortedBy lt (map f xs)
sorted_mapped f back lt xs up k d low high =
    let next : k + 1 < length xs = omega (arith, length-map xs f, high) in
    let here : k < length xs = omega (arith, next) in
    ap (λ z. lt z (get_or (map f xs) k d)) (get_or-map f xs (k + 1) (back d) d next)
    ∙ ap (lt (f (get_or xs (k + 1) (back d)))) (get_or-map f xs k (back d) d here)
    ∙ up k (back d) low next

pub stable_mapped : {X Y : Type 0} (f : X → Y) (back : Y → X) (shows : (y : Y) → f (back y) ≡ y) (lt : Y → Y → Bool) (xs ys : List X) → IsStableBy (λ a b. lt (f a) (f b)) xs ys → IsStableBy lt (map f xs) (map f ys)
stable_mapped f back shows lt xs ys stays y =
    let same : filter (λ x. ties lt (f (back y)) (f x)) ys ≡ filter (λ x. ties lt (f (back y)) (f x)) xs = stays (back y) in
    let here : filter (λ x. ties lt y (f x)) ys ≡ filter (λ x. ties lt y (f x)) xs = subst (λ z. filter (λ x. ties lt z (f x)) ys ≡ filter (λ x. ties lt z (f x)) xs) (shows y) same in
    filter_mapped f (ties lt y) ys ∙ ap (map f) here ∙ sym (filter_mapped f (ties lt y) xs)
