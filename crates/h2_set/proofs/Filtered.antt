-- Loops that push what passes.
use Rattle.std.proofs.Common.{◌≡◌, ℕ, ◌+◌, ◌<◌, ◌≤◌, Bool, true, arith, refl, sym, ◌∙◌, ap, List, ◌∷◌, ◌++◌, length, take, drop, get_or}
use Rattle.std.specs.Prelude.{filter, count_by}
use Rattle.std.proofs.lemmas.List.{drop_more, length-append, take-append-drop}
use Rattle.std.proofs.lemmas.List.Elements.{filter-append}
use Rattle.std.proofs.lemmas.List.Sums.{length-filter}

-- what is still to come has room beside what passed so far
pub room_left : {X : Type 0} (p : X → Bool) (xs : List X) (i n : ℕ) (d : X) → i < length xs → count_by p xs ≤ n → p (get_or xs i d) ≡ true → length (filter p (take i xs)) < n
room_left p xs i n d within few passes =
    let whole : filter p xs ≡ filter p (take i xs) ++ filter p (drop i xs) = ap (filter p) (sym (take-append-drop i xs)) ∙ filter-append p (take i xs) (drop i xs) in
    let rest : filter p (drop i xs) ≡ get_or xs i d ∷ filter p (drop (i + 1) xs) = ap (filter p) (drop_more xs i d within) ∙ rw passes refl in
    let sum = ap length whole ∙ length-append (filter p (take i xs)) (filter p (drop i xs)) in
    let count = length-filter p xs in
    let tail = ap length rest in
    omega (arith, sum, count, tail, few)

pub front_fits : {X : Type 0} (p : X → Bool) (xs : List X) (i n : ℕ) → count_by p xs ≤ n → length (filter p (take i xs)) ≤ n
front_fits p xs i n few =
    let whole : filter p xs ≡ filter p (take i xs) ++ filter p (drop i xs) = ap (filter p) (sym (take-append-drop i xs)) ∙ filter-append p (take i xs) (drop i xs) in
    let sum = ap length whole ∙ length-append (filter p (take i xs)) (filter p (drop i xs)) in
    let count = length-filter p xs in
    omega (arith, sum, count, few)
