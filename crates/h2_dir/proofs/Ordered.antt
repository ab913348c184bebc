-- A list of entries whose names differ, in byte order, is that of the map that is made of them.
use Rattle.std.specs.Prelude.{◌≡◌, ◌≢◌, ◌<◌, ℕ, suc, ◌+◌, Bool, true, false, T, ◌&&◌, List, [], ◌∷◌, length, AllPairs, Contains, Option, None, Some, IsPermutation, IsSorted, refl}
use Rattle.std.specs.List.{IsDistinct}
use Rattle.std.proofs.Common.{ap, sym, ◌∙◌, arith, subst, get_or}
use Rattle.std.proofs.lemmas.List.Sorted.{Contains-permutation, IsPermutation-sym}
use Rattle.std.proofs.lemmas.Map.Keys.{IsDistinct-IsPermutation, IsDistinct-from_apart, apart_from_distinct}
use Rattle.std.specs.declared.cmp.Ordering.{Ordering}
use Rattle.std.specs.declared.cmp.Ordering.TheVariants.{Less, Equal, Greater}
use Rattle.std.specs.Ordering.{eq_by_cmp, is_eq, is_lt, nat_cmp, ordering_then, ordering_reverse}
use Rattle.std.specs.Cmp.{eq_by_cmp_equiv}
use Rattle.std.specs.Cmp.Lexicographic.{slice_cmp}
use Rattle.std.specs.FinMap.{get, entries, from_entries, from_sorted, get-from_entries, get-from_sorted, entries-from_sorted, same_map, is_sorted}
use Rattle.std.specs.FinMap.Entries.{below_all}
use Rattle.h2_inode.specs.ListLaws.{all_beside}
use Rattle.h2_dir.specs.Listing.{by_name}
use Rattle.h2_inode.specs.FoundLaws.{held_in, held_by, exact_names, names_total}

abbrev pub Name : Type 0
Name = List ℕ

abbrev pub Pair : Type 0
Pair = List ℕ × ℕ

abbrev pub order : Name → Name → Ordering
order = slice_cmp nat_cmp

abbrev alike : Pair → Pair → Bool
alike x y = eq_by_cmp order x.0 y.0

abbrev pub Differ : List Pair → Type 0
Differ = AllPairs (λ (x y : Pair). x.0 ≢ y.0)

pub equal_is : (r : Ordering) → is_eq r ≡ true → r ≡ Equal
equal_is Less e = absurd (cc)
equal_is Equal e = refl
equal_is Greater e = absurd (cc)

not_alike : (b : Bool) → (b ≡ true → ⊥) → b ≡ false
not_alike true differs = absurd (differs refl)
not_alike false _ = refl

same_of_alike : (x y : Pair) → alike x y ≡ true → x.0 ≡ y.0
same_of_alike x y e = exact_names x.0 y.0 (equal_is (order x.0 y.0) e)

alike_of_same : (x y : Pair) → x.0 ≡ y.0 → alike x y ≡ true
alike_of_same x y e = subst (λ n. eq_by_cmp order x.0 n ≡ true) e ((eq_by_cmp_equiv names_total).refl x.0)

-- names that differ do so in any order
pub differ_still : (xs ys : List Pair) → IsPermutation xs ys → Differ xs → Differ ys
differ_still xs ys p differ =
    let before : IsDistinct alike xs = IsDistinct-from_apart alike xs (λ i j d lt len. not_alike _ (λ e. differ i j d lt len (same_of_alike (get_or xs i d) (get_or xs j d) e))) in
    let after = IsDistinct-IsPermutation alike (λ x y. (eq_by_cmp_equiv names_total).symm x.0 y.0) xs ys p before in
    λ i j d lt len e. let clash : true ≡ false = sym (alike_of_same (get_or ys i d) (get_or ys j d) e) ∙ apart_from_distinct alike ys i j d after lt len in absurd (cc)

-- the member with the key is what the map has
pub member_of : (xs : List Pair) (q : Name) (v : ℕ) → get (from_entries {R = order} xs) q ≡ Some v → Contains xs (q, v)
member_of xs q v e =
    let g = held_by names_total exact_names (λ (x y : Pair). x ≡ y) xs xs (all_beside (λ (x y : Pair). x ≡ y) xs (λ x h. refl)) q v e in
    subst (λ (x : Pair). Contains xs x) g.2 g.1

pub has_member : (xs : List Pair) → Differ xs → (q : Name) (v : ℕ) → Contains xs (q, v) → get (from_entries {R = order} xs) q ≡ Some v
has_member xs differ q v at =
    let g = held_in names_total exact_names (λ (x y : Pair). x ≡ y) xs xs (all_beside (λ (x y : Pair). x ≡ y) xs (λ x h. refl)) differ (q, v) at in
    subst (λ (x : Pair). get (from_entries {R = order} xs) x.0 ≡ Some x.1) (sym g.1) g.2

agrees : (xs ys : List Pair) → IsPermutation xs ys → Differ xs → Differ ys → (q : Name) (o u : Option ℕ) → get (from_entries {R = order} xs) q ≡ o → get (from_entries {R = order} ys) q ≡ u → o ≡ u
agrees xs ys p dx dy q None None e h = refl
agrees xs ys p dx dy q None (Some v) e h = sym e ∙ has_member xs dx q v (Contains-permutation ys xs (q, v) (IsPermutation-sym xs ys p) (member_of ys q v h))
agrees xs ys p dx dy q (Some v) u e h = sym (has_member ys dy q v (Contains-permutation xs ys (q, v) p (member_of xs q v e))) ∙ h

pub same_of : (xs ys : List Pair) → IsPermutation xs ys → Differ xs → Differ ys → from_entries {R = order} xs ≡ from_entries ys
same_of xs ys p dx dy = same_map names_total exact_names _ _ (λ q. agrees xs ys p dx dy q _ _ refl refl)

-- Strictly rising names

both : (a b : Bool) → T a → T b → T (a && b)
both true b p q = q
both false b p q = p

first : (a b : Bool) → T (a && b) → T a
first true b p = tt
first false b p = p

second : (a b : Bool) → T (a && b) → T b
second true b p = p
second false b p = absurd p

is_less : (r : Ordering) → T (is_lt r) → r ≡ Less
is_less Less p = refl
is_less Equal p = absurd p
is_less Greater p = absurd p

less_is : (r : Ordering) → r ≡ Less → T (is_lt r)
less_is r e = subst (λ s. T (is_lt s)) (sym e) tt

below_later : (x y : Name) (es : List Pair) → order x y ≡ Less → T (below_all order y es) → T (below_all order x es)
below_later x y [] lt h = tt
below_later x y (e ∷ es) lt h =
    both _ _ (less_is _ (names_total.trans x y e.0 lt (is_less _ (first _ _ h)))) (below_later x y es lt (second _ _ h))

rises_step : (x : Pair) (ys : List Pair) → ((y : Pair) (zs : List Pair) → ys ≡ y ∷ zs → order x.0 y.0 ≡ Less) → T (is_sorted order ys) → T (is_sorted order (x ∷ ys))
rises_step x [] _ h = tt
rises_step x (y ∷ ys) less h =
    let lt = less y ys refl in
    both _ _ (both _ _ (less_is _ lt) (below_later x.0 y.0 ys lt (first _ _ h))) h

turn : (r s : Ordering) (t : Ordering) → s ≡ ordering_reverse r → is_lt (ordering_then s t) ≡ false → is_eq r ≡ false → r ≡ Less
turn Less s t e h ne = refl
turn Equal s t e h ne = absurd (cc)
turn Greater s t e h ne = let no : is_lt (ordering_then Less t) ≡ false = subst (λ w. is_lt (ordering_then w t) ≡ false) e h in absurd (cc)

rises : (ys : List Pair) → IsSorted by_name ys → Differ ys → T (is_sorted order ys)
rises [] sorted differ = tt
rises (x ∷ ys) sorted differ = rises_step x ys next (rises ys (λ k d le lt. later k d (sorted (suc k) d (omega arith) (omega (arith, lt)))) (λ i j d lt len. differ (suc i) (suc j) d (omega (arith, lt)) (omega (arith, len))))
  where
    later : (k : ℕ) (d : Pair) → is_lt (by_name (get_or (x ∷ ys) (suc k + 1) d) (get_or (x ∷ ys) (suc k) d)) ≡ false → is_lt (by_name (get_or ys (k + 1) d) (get_or ys k d)) ≡ false
    later k d h = let one : suc k + 1 ≡ suc (k + 1) = omega arith in subst (λ m. is_lt (by_name (get_or (x ∷ ys) m d) (get_or ys k d)) ≡ false) one h

    next : (y : Pair) (zs : List Pair) → ys ≡ y ∷ zs → order x.0 y.0 ≡ Less
    next y zs e =
        let more : 0 + 1 < length (x ∷ ys) = subst (λ (l : List Pair). 0 + 1 < length (x ∷ l)) (sym e) (omega arith) in
        let is : get_or (x ∷ ys) 1 x ≡ y = ap (λ (l : List Pair). get_or (x ∷ l) 1 x) e in
        let after : is_lt (by_name y x) ≡ false = subst (λ (z : Pair). is_lt (by_name z x) ≡ false) is (sorted 0 x (omega arith) more) in
        let other : x.0 ≢ y.0 = subst (λ (z : Pair). x.0 ≢ z.0) is (differ 0 1 x (omega arith) more) in
        turn (order x.0 y.0) (order y.0 x.0) (nat_cmp y.1 x.1) (names_total.antisymm y.0 x.0) after (not_alike _ (λ e. other (same_of_alike x y e)))

pub in_order : (xs ys : List Pair) → IsPermutation xs ys → Differ xs → IsSorted by_name ys → ys ≡ entries (from_entries {R = order} xs)
in_order xs ys p differ sorted =
    let apart = differ_still xs ys p differ in
    let h = rises ys sorted apart in
    let made : from_sorted {R = order} ys ≡ from_entries ys = same_map names_total exact_names _ _ (λ q. get-from_sorted order ys q h ∙ sym (get-from_entries names_total ys q)) in
    sym (entries-from_sorted order ys h) ∙ ap entries (made ∙ sym (same_of xs ys p differ apart))
