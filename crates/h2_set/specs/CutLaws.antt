-- The leaves of a tree after a reference was cut out.
use Rattle.std.proofs.Common.{◌≡◌, ℕ, ◌<◌, ◌≤◌, Bool, true, false, nat_eq, arith, refl, cond, sym, ◌∙◌, ap, List, [], ◌∷◌, ◌++◌, Some, subst, slice_get, suc, zero}
use Rattle.std.specs.List.{remove}
use Rattle.std.proofs.lemmas.Bool.Decides.{nat_tests}
use Rattle.std.proofs.lemmas.Nat.{pow_pos}
use Rattle.std.proofs.lemmas.Option.{none-some}
use Rattle.h2_ref.specs.declared.reference.Ref.{Ref}
use Rattle.h2_set.specs.Ranges.{Rising, limit, without, is_indirect}
use Rattle.h2_set.specs.Forest.{loaded, told, Forest, HasLeaves, done, one, near, far, LeavesOf}
use Rattle.h2_set.specs.LeafLaws.{Rising-le, place_above}

apart_keys : (a b : ℕ) → a < b → nat_eq a b ≡ false
apart_keys a b lt = grind (arith, nat_tests)

same_keys : (a b : ℕ) → a ≡ b → nat_eq a b ≡ true
same_keys a b e = grind (arith, nat_tests)

pub without-append : (key low mid : ℕ) (xs ys : List Ref) → Rising low mid xs → mid ≤ key → without key (xs ++ ys) ≡ xs ++ without key ys
without-append key low mid [] ys h le = refl
without-append key low mid (x ∷ xs) ys h le =
    let top = Rising-le (limit x) mid xs h.1 in
    let pos = pow_pos x.keybits in
    rw (apart_keys x.key key (omega (arith, top, pos, le))) (ap (λ (l : List Ref). x ∷ l) (without-append key (limit x) mid xs ys h.1 le))

-- leaves above a key don't lose it
without_above : (key low high : ℕ) (ys : List Ref) → Rising low high ys → key < low → without key ys ≡ ys
without_above key low high [] h lt = refl
without_above key low high (y ∷ ys) h lt =
    let pos = pow_pos y.keybits in
    let other : nat_eq y.key key ≡ false = (let above = h.0 in grind (arith, nat_tests)) in
    rw other (ap (λ (l : List Ref). y ∷ l) (without_above key (limit y) high ys h.1 (omega (arith, h.0, lt, pos))))

pub without-append_left : (key low high : ℕ) (xs ys : List Ref) → Rising low high ys → key < low → without key (xs ++ ys) ≡ without key xs ++ ys
without-append_left key low high [] ys h lt = without_above key low high ys h lt
without-append_left key low high (x ∷ xs) ys h lt = step (nat_eq x.key key) (without-append_left key low high xs ys h lt)
  where
    step : (b : Bool) → without key (xs ++ ys) ≡ without key xs ++ ys → cond b (xs ++ ys) (x ∷ without key (xs ++ ys)) ≡ cond b xs (x ∷ without key xs) ++ ys
    step true ih = refl
    step false ih = ap (λ (l : List Ref). x ∷ l) ih

below_key : (r : Ref) (low high : ℕ) (rs : List Ref) (i : ℕ) (q : Ref) (key : ℕ) → Rising low high (r ∷ rs) → slice_get rs i ≡ Some q → q.key ≤ key → limit r ≤ key
below_key r low high rs i q key h read le = let above = place_above (limit r) high rs i q h.1 read in omega (arith, above, le)

before_key : (r : Ref) (key : ℕ) → limit r ≤ key → r.key < key
before_key r key le = let pos = pow_pos r.keybits in omega arith

-- a leaf that is cut out of the references is out of the leaves
pub leaves_cut : {f : Forest} {at : ℕ} {rs l : List Ref} (i : ℕ) (q : Ref) → HasLeaves f at rs l → (low high : ℕ) → Rising low high rs → slice_get rs i ≡ Some q → is_indirect q ≡ false → HasLeaves f at (remove rs i) (without q.key l)
leaves_cut i q done low high h read k = absurd (none-some q read)
leaves_cut zero q (one {r = r} leaf rest) low high h read k =
    let same : r ≡ q = (cc) in
    rw (same_keys r.key q.key (ap (λ (x : Ref). x.key) same)) rest
leaves_cut (suc i) q (one {r = r} {rs = rs} leaf rest) low high h read k =
    rw (apart_keys r.key q.key (before_key r q.key (below_key r low high rs i q q.key h read (omega arith)))) (one leaf (leaves_cut i q rest (limit r) high h.1 read k))
leaves_cut zero q (near {r = r} ind link kids inside rest) low high h read k = let same : r ≡ q = (cc) in let clash : true ≡ false = sym ind ∙ ap (λ (x : Ref). is_indirect x) same ∙ k in cc
leaves_cut (suc i) q (near {r = r} {rs = rs} {below = b} {l = l} ind link kids inside rest) low high h read k =
    rw (without-append q.key r.key (limit r) b l inside (below_key r low high rs i q q.key h read (omega arith))) (near ind link kids inside (leaves_cut i q rest (limit r) high h.1 read k))
leaves_cut zero q (far {r = r} ind link inside rest) low high h read k = let same : r ≡ q = (cc) in let clash : true ≡ false = sym ind ∙ ap (λ (x : Ref). is_indirect x) same ∙ k in cc
leaves_cut (suc i) q (far {r = r} {rs = rs} {below = b} {l = l} ind link inside rest) low high h read k =
    rw (without-append q.key r.key (limit r) b l inside (below_key r low high rs i q q.key h read (omega arith))) (far ind link inside (leaves_cut i q rest (limit r) high h.1 read k))

-- an indirect reference with one leaf below it, cut out with all below
pub leaves_drop : {f : Forest} {at : ℕ} {rs l : List Ref} (i c : ℕ) (q leaf : Ref) → HasLeaves f at rs l → (low high : ℕ) → Rising low high rs → slice_get rs i ≡ Some q → is_indirect q ≡ true → f.link at q.key ≡ loaded c → ((b : List Ref) → LeavesOf f c b → b ≡ leaf ∷ []) → q.key ≤ leaf.key → HasLeaves f at (remove rs i) (without leaf.key l)
leaves_drop i c q leaf done low high h read k link' sole le = absurd (none-some q read)
leaves_drop zero c q leaf (one {r = r} lf rest) low high h read k link' sole le = let same : r ≡ q = (cc) in let clash : false ≡ true = sym lf ∙ ap (λ (x : Ref). is_indirect x) same ∙ k in cc
leaves_drop (suc i) c q leaf (one {r = r} {rs = rs} lf rest) low high h read k link' sole le =
    rw (apart_keys r.key leaf.key (before_key r leaf.key (below_key r low high rs i q leaf.key h read le))) (one lf (leaves_drop i c q leaf rest (limit r) high h.1 read k link' sole le))
leaves_drop {f} {at} zero c q leaf (near {c = d} {r = r} {rs = rs} {below = b} {l = l} ind link kids inside rest) low high h read k link' sole le =
    let same : r ≡ q = (cc) in
    let dc : d ≡ c = grind (arith, link, link', ap (λ (x : Ref). f.link at x.key) same) in
    let b_is = sole b (subst (λ z. LeavesOf f z b) dc kids) in
    rw (b_is, same_keys leaf.key leaf.key refl) rest
leaves_drop (suc i) c q leaf (near {r = r} {rs = rs} {below = b} {l = l} ind link kids inside rest) low high h read k link' sole le =
    rw (without-append leaf.key r.key (limit r) b l inside (below_key r low high rs i q leaf.key h read le)) (near ind link kids inside (leaves_drop i c q leaf rest (limit r) high h.1 read k link' sole le))
leaves_drop {f} {at} zero c q leaf (far {r = r} {below = b} ind link inside rest) low high h read k link' sole le =
    let same : r ≡ q = (cc) in
    let clash : told b ≡ loaded c = sym link ∙ ap (λ (x : Ref). f.link at x.key) same ∙ link' in
    cc
leaves_drop (suc i) c q leaf (far {r = r} {rs = rs} {below = b} {l = l} ind link inside rest) low high h read k link' sole le =
    rw (without-append leaf.key r.key (limit r) b l inside (below_key r low high rs i q leaf.key h read le)) (far ind link inside (leaves_drop i c q leaf rest (limit r) high h.1 read k link' sole le))
