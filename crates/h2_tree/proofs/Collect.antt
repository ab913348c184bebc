-- Leaves that are collected one reference after another.
use Rattle.std.proofs.Common.{◌≡◌, ℕ, ◌+◌, Bool, true, false, refl, sym, ◌∙◌, ap, List, [], ◌∷◌, ◌++◌, take, Some, subst, inl, inr, slice_get, append_assoc}
use Rattle.std.specs.Prelude.{filter}
use Rattle.std.proofs.lemmas.List.{append-nil, take_more}
use Rattle.std.proofs.lemmas.List.Elements.{filter-append}
use Rattle.std.proofs.lemmas.Option.{slice_get_within, get_or_from_slice_get}
use Rattle.h2_ref.specs.declared.reference.Ref.{Ref}
use Rattle.h2_set.specs.Ranges.{is_indirect}
use Rattle.h2_set.specs.Forest.{Forest, refs, loaded, told, HasLeaves, done, one, near, far, LeavesOf, IsSound}
use Rattle.h2_set.specs.Calls.{Below, Walks}
use Rattle.h2_set.specs.StayLaws.{Walks-leaves, stands_below}

-- the leaves of the last reference, after those before it
pub record Last (f : Forest) (at : ℕ) (xs : List Ref) (r : Ref) (l : List Ref) : Type 0 where
  pub front : List Ref
  pub last : List Ref
  pub whole : l ≡ front ++ last
  pub before : HasLeaves f at xs front
  pub here : HasLeaves f at (r ∷ []) last

pub split_last : {f : Forest} {at : ℕ} {rs l : List Ref} → HasLeaves f at rs l → (xs : List Ref) (r : Ref) → rs ≡ xs ++ (r ∷ []) → Last f at xs r l
split_last {f} {at} {rs} {l} h [] r e = record { front = []; last = l; whole = refl; before = done; here = subst (λ z. HasLeaves f at z l) e h }
split_last done (y ∷ ys) r e = cc
split_last {f} {at} (one {r = q} {rs = rs} leaf rest) (y ∷ ys) r e =
    let qy : q ≡ y = (cc) in
    let tail : rs ≡ ys ++ (r ∷ []) = (cc) in
    let it = split_last rest ys r tail in
    record { front = q ∷ it.front; last = it.last; whole = ap (λ (z : List Ref). q ∷ z) it.whole; before = subst (λ z. HasLeaves f at (z ∷ ys) (q ∷ it.front)) qy (one leaf it.before); here = it.here }
split_last {f} {at} (near {r = q} {rs = rs} {below = b} ind link kids inside rest) (y ∷ ys) r e =
    let qy : q ≡ y = (cc) in
    let tail : rs ≡ ys ++ (r ∷ []) = (cc) in
    let it = split_last rest ys r tail in
    record { front = b ++ it.front; last = it.last; whole = ap (λ (z : List Ref). b ++ z) it.whole ∙ sym (append_assoc b it.front it.last); before = subst (λ z. HasLeaves f at (z ∷ ys) (b ++ it.front)) qy (near ind link kids inside it.before); here = it.here }
split_last {f} {at} (far {r = q} {rs = rs} {below = b} ind link inside rest) (y ∷ ys) r e =
    let qy : q ≡ y = (cc) in
    let tail : rs ≡ ys ++ (r ∷ []) = (cc) in
    let it = split_last rest ys r tail in
    record { front = b ++ it.front; last = it.last; whole = ap (λ (z : List Ref). b ++ z) it.whole ∙ sym (append_assoc b it.front it.last); before = subst (λ z. HasLeaves f at (z ∷ ys) (b ++ it.front)) qy (far ind link inside it.before); here = it.here }

pub no_leaves : {f : Forest} {at : ℕ} {rs l : List Ref} → HasLeaves f at rs l → rs ≡ [] → l ≡ []
no_leaves done e = refl
no_leaves (one leaf rest) e = cc
no_leaves (near ind link kids inside rest) e = cc
no_leaves (far ind link inside rest) e = cc

pub last_leaf : {f : Forest} {at : ℕ} {rs l : List Ref} → HasLeaves f at rs l → (r : Ref) → rs ≡ r ∷ [] → is_indirect r ≡ false → l ≡ r ∷ []
last_leaf done r e k = cc
last_leaf (one {r = q} {rs = rs} leaf rest) r e k =
    let none : rs ≡ [] = (cc) in
    let same : q ≡ r = (cc) in
    let nil = no_leaves rest none in
    cc
last_leaf (near {r = q} ind link kids inside rest) r e k = let same : q ≡ r = (cc) in let clash : true ≡ false = sym ind ∙ ap (λ (x : Ref). is_indirect x) same ∙ k in cc
last_leaf (far {r = q} ind link inside rest) r e k = let same : q ≡ r = (cc) in let clash : true ≡ false = sym ind ∙ ap (λ (x : Ref). is_indirect x) same ∙ k in cc

pub last_below : {f : Forest} {at : ℕ} {rs l : List Ref} → HasLeaves f at rs l → (r : Ref) → rs ≡ r ∷ [] → is_indirect r ≡ true → Below f at r.key l
last_below done r e k = cc
last_below (one {r = q} leaf rest) r e k = let same : q ≡ r = (cc) in let clash : false ≡ true = sym leaf ∙ ap (λ (x : Ref). is_indirect x) same ∙ k in cc
last_below {f} {at} (near {c = c} {r = q} {rs = rs} {below = b} {l = l} ind link kids inside rest) r e k =
    let same : q ≡ r = (cc) in
    let none : rs ≡ [] = (cc) in
    let whole : b ≡ b ++ l = sym (ap (λ (z : List Ref). b ++ z) (no_leaves rest none) ∙ append-nil b) in
    inr (c, subst (λ (x : Ref). f.link at x.key ≡ loaded c) same link, subst (λ z. LeavesOf f c z) whole kids)
last_below {f} {at} (far {r = q} {rs = rs} {below = b} {l = l} ind link inside rest) r e k =
    let same : q ≡ r = (cc) in
    let none : rs ≡ [] = (cc) in
    let whole : b ≡ b ++ l = sym (ap (λ (z : List Ref). b ++ z) (no_leaves rest none) ∙ append-nil b) in
    inl (subst (λ z. f.link at r.key ≡ told z) whole (subst (λ (x : Ref). f.link at x.key ≡ told b) same link))

-- what a walk has loaded at a key has the leaves that were known there
pub child_leaves : (f h : Forest) (at k c : ℕ) (l : List Ref) → IsSound f → Walks f h → f.stands at ≡ true → Below f at k l → h.link at k ≡ loaded c → LeavesOf h c l
child_leaves f h at k c l sound walk stands (inl e) link = elim ((walk.stays at stands).far k l e) as (λ _. LeavesOf h c l) [
  | inl still ↦ let clash : told l ≡ loaded c = sym still ∙ link in cc
  | inr w ↦ let same : w.0 ≡ c = cc (w.1, link) in subst (λ z. LeavesOf h z l) same w.2
]
child_leaves f h at k c l sound walk stands (inr w) link =
    let there = (walk.stays at stands).near k w.0 w.1 in
    let same : w.0 ≡ c = cc (there, link) in
    subst (λ z. LeavesOf h z l) same (Walks-leaves f h sound walk w.0 (stands_below f sound at k w.0 stands w.1) l w.2)

-- the leaves so far are collected in out
abbrev pub IsCollected : Forest → ℕ → ℕ → (Ref → Bool) → List Ref → List Ref → Type 0
IsCollected f at i p start out = (front : List Ref) → HasLeaves f at (take i (refs f at)) front → out ≡ start ++ filter p front

pub collected_more : (f : Forest) (at i : ℕ) (p : Ref → Bool) (start out next : List Ref) (r : Ref) → IsCollected f at i p start out → slice_get (refs f at) i ≡ Some r → ((last : List Ref) → HasLeaves f at (r ∷ []) last → next ≡ out ++ filter p last) → IsCollected f at (i + 1) p start next
collected_more f at i p start out next r so_far read step front h =
    let within = slice_get_within (refs f at) i r read in
    let e : take (i + 1) (refs f at) ≡ take i (refs f at) ++ (r ∷ []) = take_more (refs f at) i r within ∙ ap (λ y. take i (refs f at) ++ (y ∷ [])) (get_or_from_slice_get (refs f at) i r r read) in
    let it = split_last h (take i (refs f at)) r e in
    let tail = step it.last it.here in
    let head = so_far it.front it.before in
    tail ∙ ap (λ (z : List Ref). z ++ filter p it.last) head ∙ append_assoc start (filter p it.front) (filter p it.last) ∙ ap (λ (z : List Ref). start ++ z) (sym (filter-append p it.front it.last)) ∙ ap (λ (z : List Ref). start ++ filter p z) (sym it.whole)

pub leaf_step : (f : Forest) (at : ℕ) (p : Ref → Bool) (out next : List Ref) (r : Ref) → is_indirect r ≡ false → next ≡ out ++ filter p (r ∷ []) → (last : List Ref) → HasLeaves f at (r ∷ []) last → next ≡ out ++ filter p last
leaf_step f at p out next r k e last h = e ∙ ap (λ (z : List Ref). out ++ filter p z) (sym (last_leaf h r refl k))

pub child_step : (f h : Forest) (at c : ℕ) (p : Ref → Bool) (out next : List Ref) (r : Ref) → IsSound f → Walks f h → f.stands at ≡ true → is_indirect r ≡ true → h.link at r.key ≡ loaded c → ((l : List Ref) → LeavesOf h c l → next ≡ out ++ filter p l) → (last : List Ref) → HasLeaves f at (r ∷ []) last → next ≡ out ++ filter p last
child_step f h at c p out next r sound walk stands k link below last hl = below last (child_leaves f h at r.key c last sound walk stands (last_below hl r refl k) link)
