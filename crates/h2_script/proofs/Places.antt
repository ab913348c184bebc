-- A command is taken out of its place.
use Rattle.std.proofs.Common.{◌≡◌, ◌<◌, ◌∙◌, ℕ, zero, suc, List, [], ◌∷◌, length, map, get_or, set, All, Vec, Global, refl, sym, ap, arith}
use Rattle.std.proofs.lemmas.List.{get_or-map, length-map}
use Rattle.std.proofs.lemmas.List.Elements.{All-set}
use Rattle.h2_command.specs.declared.command.Command.{Command}
use Rattle.h2_command.specs.declared.command.Command.TheVariants.{PfsList}
use Rattle.h2_script.specs.LawfulScripts.{IsLawfulCall, IsLawfulScript}

mapped_set : {X Y : Type 0} (f : X → Y) (xs : List X) (i : ℕ) (x : X) → map f (set xs i x) ≡ set (map f xs) i (f x)
mapped_set f [] i x = refl
mapped_set f (y ∷ xs) zero x = refl
mapped_set f (y ∷ xs) (suc i) x = ap (λ ys. f y ∷ ys) (mapped_set f xs i x)

same_place : {X : Type 0} (xs : List X) (i : ℕ) (d e : X) → i < length xs → get_or xs i d ≡ get_or xs i e
same_place [] i d e lt = absurd (omega arith)
same_place (x ∷ xs) zero d e lt = refl
same_place (x ∷ xs) (suc i) d e lt = same_place xs i d e (omega arith)

pub one_taken : (phases : List (Vec (ℕ × Command) Global)) (view : List (List (ℕ × Command))) (p i : ℕ) (inner left : Vec (ℕ × Command) Global) (place : ℕ × Command) (put r : Command)
    → map (λ phase. phase.items) phases ≡ view → p < length view → i < length (get_or view p [])
    → inner ≡ get_or phases p inner → place ≡ get_or inner.items i place → put ≡ PfsList → left.items ≡ set inner.items i (place.0, put)
    → map (λ phase. phase.items) (set phases p left) ≡ set view p (set (get_or view p []) i ((get_or (get_or view p []) i (0, r)).0, PfsList))
one_taken phases view p i inner left place put r is inside there at_p at_i gone set_is =
    let many = length-map phases (λ phase. phase.items) in
    let same : length (map (λ phase. phase.items) phases) ≡ length view = ap length is in
    let here : p < length phases = omega arith in
    let found : inner.items ≡ get_or view p [] = ap (λ v. v.items) at_p ∙ sym (get_or-map (λ phase. phase.items) phases p inner [] here) ∙ ap (λ v. get_or v p []) is in
    let named : place.0 ≡ (get_or (get_or view p []) i (0, r)).0 = ap (λ q. q.0) (at_i ∙ ap (λ xs. get_or xs i place) found ∙ same_place (get_or view p []) i place (0, r) there) in
    mapped_set (λ phase. phase.items) phases p left
    ∙ ap (λ xs. set xs p left.items) is
    ∙ ap (λ ys. set view p ys) (set_is ∙ ap (λ xs. set xs i (place.0, put)) found ∙ ap (λ c. set (get_or view p []) i (c, put)) named ∙ ap (λ m. set (get_or view p []) i ((get_or (get_or view p []) i (0, r)).0, m)) gone)

-- the command that is taken
pub command_taken : (phases : List (Vec (ℕ × Command) Global)) (view : List (List (ℕ × Command))) (p i : ℕ) (inner : Vec (ℕ × Command) Global) (place : ℕ × Command) (r : Command)
    → map (λ phase. phase.items) phases ≡ view → p < length view → i < length (get_or view p [])
    → inner ≡ get_or phases p inner → place ≡ get_or inner.items i place → r ≡ place.1 → r ≡ (get_or (get_or view p []) i (0, r)).1
command_taken phases view p i inner place r is inside there at_p at_i moved =
    let many = length-map phases (λ phase. phase.items) in
    let same : length (map (λ phase. phase.items) phases) ≡ length view = ap length is in
    let here : p < length phases = omega arith in
    let found : inner.items ≡ get_or view p [] = ap (λ v. v.items) at_p ∙ sym (get_or-map (λ phase. phase.items) phases p inner [] here) ∙ ap (λ v. get_or v p []) is in
    moved ∙ ap (λ q. q.1) (at_i ∙ ap (λ xs. get_or xs i place) found ∙ same_place (get_or view p []) i place (0, r) there)

pub lawful_place : (view : List (List (ℕ × Command))) (p i : ℕ) (d : ℕ × Command) → IsLawfulScript view → p < length view → i < length (get_or view p []) → IsLawfulCall (get_or (get_or view p []) i d)
lawful_place view p i d all inside there = all p [] inside i d there

-- a script without that command is lawful
pub lawful_left : (view : List (List (ℕ × Command))) (p i : ℕ) (d : ℕ × Command) → IsLawfulScript view → p < length view → i < length (get_or view p [])
    → IsLawfulScript (set view p (set (get_or view p []) i ((get_or (get_or view p []) i d).0, PfsList)))
lawful_left view p i d all inside there =
    All-set (λ phase. All IsLawfulCall phase) view p (set (get_or view p []) i ((get_or (get_or view p []) i d).0, PfsList))
    (All-set IsLawfulCall (get_or view p []) i ((get_or (get_or view p []) i d).0, PfsList) ((lawful_place view p i d all inside there).0, tt) (all p [] inside)) all
