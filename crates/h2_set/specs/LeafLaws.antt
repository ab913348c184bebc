-- The leaves of a tree, by their keys.
use Rattle.std.proofs.Common.{◌≡◌, ℕ, ◌<◌, ◌≤◌, Bool, true, false, arith, refl, cond, sym, ◌∙◌, ap, List, [], ◌∷◌, ◌++◌, Option, Some, None, ◌⊎◌, inl, inr, slice_get, suc, zero}
use Rattle.std.proofs.lemmas.Bool.Decides.{nat_tests}
use Rattle.std.proofs.lemmas.Nat.{pow_pos}
use Rattle.std.proofs.lemmas.Option.{none-some}
use Rattle.h2_ref.specs.declared.reference.Ref.{Ref}
use Rattle.h2_set.specs.Ranges.{Rising, limit, holds, find, NoneHolds, is_indirect}
use Rattle.h2_set.specs.Forest.{loaded, told, Forest, HasLeaves, done, one, near, far, LeavesOf, IsSound, Reaches, nowhere, here, below}

-- a key outside from low to high
abbrev pub Outside : ℕ → ℕ → ℕ → Type 0
Outside low high key = (key < low) ⊎ (high ≤ key)

pub Rising-le : (low high : ℕ) (l : List Ref) → Rising low high l → low ≤ high
Rising-le low high [] h = h
Rising-le low high (r ∷ l) h = let rest = Rising-le (limit r) high l h.1 in let pos = pow_pos r.keybits in omega arith

pub Rising-low : (low low' high : ℕ) (l : List Ref) → low' ≤ low → Rising low high l → Rising low' high l
Rising-low low low' high [] le h = omega arith
Rising-low low low' high (r ∷ l) le h = (omega arith, h.1)

pub Rising-append : (low mid high : ℕ) (xs ys : List Ref) → Rising low mid xs → Rising mid high ys → Rising low high (xs ++ ys)
Rising-append low mid high [] ys a b = Rising-low mid low high ys a b
Rising-append low mid high (r ∷ xs) ys a b = (a.0, Rising-append (limit r) mid high xs ys a.1 b)

-- the leaves lie where the references lie
pub leaves_rising : {f : Forest} {at : ℕ} {rs l : List Ref} → HasLeaves f at rs l → (low high : ℕ) → Rising low high rs → Rising low high l
leaves_rising done low high h = h
leaves_rising (one {r = r} leaf rest) low high h = (h.0, leaves_rising rest (limit r) high h.1)
leaves_rising (near {r = r} {below = b} {l = l} ind link kids inside rest) low high h =
    Rising-append low (limit r) high b l (Rising-low r.key low (limit r) b h.0 inside) (leaves_rising rest (limit r) high h.1)
leaves_rising (far {r = r} {below = b} {l = l} ind link inside rest) low high h =
    Rising-append low (limit r) high b l (Rising-low r.key low (limit r) b h.0 inside) (leaves_rising rest (limit r) high h.1)

pub holds_inside : (key : ℕ) (r : Ref) → holds key r ≡ true → (r.key ≤ key) × (key < limit r)
holds_inside key r h = (grind (arith, nat_tests), grind (arith, nat_tests))

pub holds_outside : (key : ℕ) (r : Ref) → holds key r ≡ false → Outside r.key (limit r) key
holds_outside key r h = grind (arith, nat_tests)

pub outside_holds : (key : ℕ) (r : Ref) → Outside r.key (limit r) key → holds key r ≡ false
outside_holds key r (inl lt) = grind (arith, nat_tests)
outside_holds key r (inr le) = grind (arith, nat_tests)

-- miss reference between low and high has a key outside
pub find_outside : (key low high : ℕ) (l : List Ref) → Rising low high l → Outside low high key → find key l ≡ None
find_outside key low high [] h out = refl
find_outside key low high (r ∷ l) h (inl lt) =
    let pos = pow_pos r.keybits in
    let miss = outside_holds key r (inl (omega arith)) in
    rw miss (find_outside key (limit r) high l h.1 (inl (omega arith)))
find_outside key low high (r ∷ l) h (inr le) =
    let top = Rising-le (limit r) high l h.1 in
    let miss = outside_holds key r (inr (omega arith)) in
    rw miss (find_outside key (limit r) high l h.1 (inr le))

pub find-append_none : (key : ℕ) (xs ys : List Ref) → find key xs ≡ None → find key (xs ++ ys) ≡ find key ys
find-append_none key [] ys e = refl
find-append_none key (r ∷ xs) ys e = step (holds key r) e (find-append_none key xs ys)
  where
    step : (b : Bool) → cond b (Some r) (find key xs) ≡ None → (find key xs ≡ None → find key (xs ++ ys) ≡ find key ys) → cond b (Some r) (find key (xs ++ ys)) ≡ find key ys
    step true e ih = absurd (none-some r (sym e))
    step false e ih = ih e

pub find-append_left : (key : ℕ) (xs ys : List Ref) → find key ys ≡ None → find key (xs ++ ys) ≡ find key xs
find-append_left key [] ys e = e
find-append_left key (r ∷ xs) ys e = ap (cond (holds key r) (Some r)) (find-append_left key xs ys e)

-- a key that miss range holds has miss leaf
pub find_none : {f : Forest} {at : ℕ} {rs l : List Ref} (key : ℕ) → HasLeaves f at rs l → NoneHolds key rs → find key l ≡ None
find_none key done miss = refl
find_none key (one {r = r} leaf rest) miss = rw (miss 0 r refl) (find_none key rest (λ i q read. miss (suc i) q read))
find_none key (near {r = r} {below = b} {l = l} ind link kids inside rest) miss =
    find-append_none key b l (find_outside key r.key (limit r) b inside (holds_outside key r (miss 0 r refl))) ∙ find_none key rest (λ i q read. miss (suc i) q read)
find_none key (far {r = r} {below = b} {l = l} ind link inside rest) miss =
    find-append_none key b l (find_outside key r.key (limit r) b inside (holds_outside key r (miss 0 r refl))) ∙ find_none key rest (λ i q read. miss (suc i) q read)

-- the references from place i on lie above those before it
pub place_above : (low high : ℕ) (rs : List Ref) (i : ℕ) (q : Ref) → Rising low high rs → slice_get rs i ≡ Some q → low ≤ q.key
place_above low high [] i q h read = absurd (none-some q read)
place_above low high (r ∷ rs) zero q h read = let same : r ≡ q = (cc) in rw (← same) h.0
place_above low high (r ∷ rs) (suc i) q h read = let rest = place_above (limit r) high rs i q h.1 read in let pos = pow_pos r.keybits in omega arith

-- where a later range holds the key, this one doesn't
later_holds : (key low high : ℕ) (r : Ref) (rs : List Ref) (i : ℕ) (q : Ref) → Rising low high (r ∷ rs) → slice_get rs i ≡ Some q → holds key q ≡ true → Outside r.key (limit r) key
later_holds key low high r rs i q h read holds =
    let above = place_above (limit r) high rs i q h.1 read in
    let inside = holds_inside key q holds in
    inr (omega (arith, inside.0))

-- a leaf reference whose range holds the key is the leaf
pub find_here : {f : Forest} {at : ℕ} {rs l : List Ref} (key low high i : ℕ) (q : Ref) → HasLeaves f at rs l → Rising low high rs → slice_get rs i ≡ Some q → holds key q ≡ true → is_indirect q ≡ false → find key l ≡ Some q
find_here key low high i q done h read holds leaf = absurd (none-some q read)
find_here key low high zero q (one {r = r} {l = l} leaf' rest) h read holds leaf =
    let same : r ≡ q = (cc) in rw (same, holds) refl
find_here key low high (suc i) q (one {r = r} {rs = rs} leaf' rest) h read holds leaf =
    rw (outside_holds key r (later_holds key low high r rs i q h read holds)) (find_here key (limit r) high i q rest h.1 read holds leaf)
find_here key low high zero q (near {r = r} ind link kids inside rest) h read holds leaf = let same : r ≡ q = (cc) in let miss : true ≡ false = sym ind ∙ ap (λ (x : Ref). is_indirect x) same ∙ leaf in cc
find_here key low high (suc i) q (near {r = r} {rs = rs} {below = b} {l = l} ind link kids inside rest) h read holds leaf =
    find-append_none key b l (find_outside key r.key (limit r) b inside (later_holds key low high r rs i q h read holds)) ∙ find_here key (limit r) high i q rest h.1 read holds leaf
find_here key low high zero q (far {r = r} ind link inside rest) h read holds leaf = let same : r ≡ q = (cc) in let miss : true ≡ false = sym ind ∙ ap (λ (x : Ref). is_indirect x) same ∙ leaf in cc
find_here key low high (suc i) q (far {r = r} {rs = rs} {below = b} {l = l} ind link inside rest) h read holds leaf =
    find-append_none key b l (find_outside key r.key (limit r) b inside (later_holds key low high r rs i q h read holds)) ∙ find_here key (limit r) high i q rest h.1 read holds leaf

-- below a loaded reference whose range holds the key, the leaf is found among those of its node
pub record FindsBelow (f : Forest) (key c : ℕ) (l : List Ref) : Type 0 where
  pub kids : List Ref
  pub leaves : LeavesOf f c kids
  pub same : find key l ≡ find key kids

none_after : {f : Forest} {at : ℕ} {rs l : List Ref} (key low high : ℕ) → HasLeaves f at rs l → Rising low high rs → key < low → find key l ≡ None
none_after {l = l} key low high h rising lt = find_outside key low high l (leaves_rising h low high rising) (inl lt)

pub find_below : {f : Forest} {at : ℕ} {rs l : List Ref} (key low high i c : ℕ) (q : Ref) → HasLeaves f at rs l → Rising low high rs → slice_get rs i ≡ Some q → holds key q ≡ true → is_indirect q ≡ true → f.link at q.key ≡ loaded c → FindsBelow f key c l
find_below key low high i c q done h read holds ind link = absurd (none-some q read)
find_below key low high zero c q (one {r = r} leaf rest) h read holds ind link = let same : r ≡ q = (cc) in let miss : false ≡ true = sym leaf ∙ ap (λ (x : Ref). is_indirect x) same ∙ ind in cc
find_below {f} key low high (suc i) c q (one {r = r} {rs = rs} {l = l} leaf rest) h read holds ind link =
    let it = find_below key (limit r) high i c q rest h.1 read holds ind link in
    record { kids = it.kids; leaves = it.leaves; same = rw (outside_holds key r (later_holds key low high r rs i q h read holds)) it.same }
find_below {f} {at} key low high zero c q (near {c = d} {r = r} {below = b} {l = l} ind' link' kids inside rest) h read holds ind link =
    let same : r ≡ q = (cc) in
    let cd : c ≡ d = grind (arith, link, link', ap (λ (x : Ref). f.link at x.key) same) in
    let in_r = holds_inside key q holds in
    let above : find key l ≡ None = none_after key (limit r) high rest h.1 (rw same in_r.1) in
    record { kids = b; leaves = rw cd kids; same = find-append_left key b l above }
find_below {f} key low high (suc i) c q (near {r = r} {rs = rs} {below = b} {l = l} ind' link' kids inside rest) h read holds ind link =
    let it = find_below key (limit r) high i c q rest h.1 read holds ind link in
    record { kids = it.kids; leaves = it.leaves; same = find-append_none key b l (find_outside key r.key (limit r) b inside (later_holds key low high r rs i q h read holds)) ∙ it.same }
find_below {f} {at} key low high zero c q (far {r = r} {below = b} ind' link' inside rest) h read holds ind link =
    let same : r ≡ q = (cc) in
    let clash : told b ≡ loaded c = sym link' ∙ ap (λ (x : Ref). f.link at x.key) same ∙ link in
    cc
find_below {f} key low high (suc i) c q (far {r = r} {rs = rs} {below = b} {l = l} ind' link' inside rest) h read holds ind link =
    let it = find_below key (limit r) high i c q rest h.1 read holds ind link in
    record { kids = it.kids; leaves = it.leaves; same = find-append_none key b l (find_outside key r.key (limit r) b inside (later_holds key low high r rs i q h read holds)) ∙ it.same }

-- what the key's path leads to is the leaf in the list
pub reaches_find : {f : Forest} {key at : ℕ} {o : Option Ref} → IsSound f → Reaches f key at o → f.stands at ≡ true → (l : List Ref) → LeavesOf f at l → o ≡ find key l
reaches_find {f} {key} sound (nowhere miss) stands l h = sym (find_none key h miss)
reaches_find {f} {key} sound (here {at = at} {r = r} i read holds leaf) stands l h = sym (find_here key _ _ i r h (sound.node at stands).inside read holds leaf)
reaches_find {f} {key} sound (below {at = at} {c = c} {r = r} i read holds ind link rest) stands l h =
    let node = sound.node at stands in
    let it = find_below key _ _ i c r h node.inside read holds ind link in
    reaches_find sound rest ((node.child r.key c link).stands) it.kids it.leaves ∙ sym it.same
