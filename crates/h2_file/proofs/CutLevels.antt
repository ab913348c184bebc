-- A cut at a node, and what one below it is to the node.
use Rattle.std.proofs.lemmas.Bool.{cases_lt}
use Rattle.std.proofs.Common.{◌≡◌, ℕ, ◌+◌, ◌-◌, ◌%◌, ◌<◌, ◌≤◌, ◌^◌, true, false, arith, refl, sym, ◌∙◌, ap, List, [], ◌∷◌, ◌++◌, length, Option, Some, None, subst, ◌⊎◌, inl, inr, nat_eq, slice_get, slice_set, take, drop, suc, zero, Bool}
use Rattle.std.specs.Prelude.{IfSome}
use Rattle.std.proofs.lemmas.Bool.Decides.{nat_tests}
use Rattle.std.proofs.lemmas.Option.{none-some}
use Rattle.std.proofs.lemmas.List.{append-nil}
use Rattle.h2_ref.specs.declared.reference.Ref.{Ref}
use Rattle.h2_set.specs.Ranges.{Rising, limit, holds, NoneHolds, is_indirect, leads_on}
use Rattle.h2_set.specs.Forest.{Forest, refs, loaded, told, HasLeaves, done, one, near, far, LeavesOf, Fits, IsSoundNode, IsSound, Reaches, nowhere, here, below}
use Rattle.h2_set.specs.Calls.{InPlace, Keeps, Renews, Fixed}
use Rattle.h2_set.specs.StayLaws.{Fixed-refl, Fixed-trans, InPlace-refl, InPlace-trans, Walks-refl}
use Rattle.h2_set.specs.LeafLaws.{holds_inside, holds_outside, outside_holds}
use Rattle.h2_set.specs.ChangeLaws.{Keeps-refl, Keeps-trans, same_or_not}
use Rattle.h2_set.specs.RenewLaws.{Keeps-Renews, Renews-trans}
use Rattle.h2_tree.specs.Changes.{Under, LoadsIn, WalksUnder}
use Rattle.h2_file.specs.Blocks.{HasContents}
use Rattle.h2_file.specs.Cutting.{cut_block, kept_to, IsCutBlock, in_place, cut_to, front, FitsLast, ReachesBy, misses, arrives, IsLeft, KeepsFront, Cuts, leads}
use Rattle.h2_file.proofs.Answering.{In-refl, In-on, none_in}
use Rattle.h2_file.proofs.Parts.{cut_append, cut_one, cut_key, end_block, Parted, leaves_parted, leaves_join, behind_gone, before_stays, take_from, drop_from, take_next, set_next, in_order, taken_at}

-- each reference of a file's tree is a block long at least
pub wide : (f : Forest) (at : ℕ) (r : Ref) → HasContents f at → Fits f at r → 14 ≤ r.keybits
wide f at r holds fits = by (is_indirect r) refl
  where
    by : (b : Bool) → is_indirect r ≡ b → 14 ≤ r.keybits
    by true e = let it = fits.wide e in let n = holds.keybits in omega (arith, it, n)
    by false e = let it = fits.leaf e in let n = holds.keybits in omega (arith, it, n)

-- Before a node's set is cut: what was done below it

pub record Readied (f k : Forest) (at size : ℕ) : Type 0 where
  pub sound : IsSound k
  pub fixed : Fixed f k
  pub place : InPlace f k at
  pub tree : (m : ℕ) → f.stands m ≡ true → f.root m ≡ f.root at → (Under f m at → ⊥) → Keeps f k m
  pub above : (m : ℕ) → f.stands m ≡ true → (f.root m ≡ f.root at → ⊥) → Renews f k m
  pub still : (m : ℕ) → f.stands m ≡ true → k.stands m ≡ true → InPlace f k m
  pub touched : LoadsIn f k at size size
  pub room : f.room + k.copies at ≤ k.room + 62
  pub room_falls : k.room ≤ f.room
  pub spare : k.spare ≡ f.spare

pub readied_here : (f : Forest) (at size : ℕ) → IsSound f → f.stands at ≡ true → f.copies at ≤ 62 → Readied f f at size
readied_here f at size sound stands copies = record {
  sound = sound;
  fixed = Fixed-refl f;
  place = InPlace-refl f at stands;
  tree = λ m st root out. Keeps-refl f m st;
  above = λ m st root. Keeps-Renews f f m (Keeps-refl f m st);
  still = λ m st _. InPlace-refl f m st;
  touched = In-refl f at size size;
  room = omega (arith, copies);
  room_falls = omega arith;
  spare = refl;
}

-- the path of a key through the first references of a node leads to what the cut leaves
pub record FrontLeft (k : Forest) (at : ℕ) (rs : List Ref) (size : ℕ) (last : Option Ref) (key : ℕ) : Type 0 where
  pub found : Option Ref
  pub path : ReachesBy k key at rs found
  pub left : IsLeft size last found

pub nothing_left : (k : Forest) (at : ℕ) (rs : List Ref) (size : ℕ) (last : Option Ref) (key : ℕ) → NoneHolds key rs → FrontLeft k at rs size last key
nothing_left k at rs size last key miss = record { found = None; path = misses miss; left = record { low = λ r e. absurd (none-some r e); put = λ r q e e'. absurd (none-some r e) } }

-- no reference before one that is below the size holds a key past it
pub none_before : (low high : ℕ) (rs : List Ref) (n size key : ℕ) (r : Ref) → Rising low high rs → slice_get rs n ≡ Some r → r.key < size → size ≤ key → NoneHolds key (take n rs)
none_before low high rs n size key r rising read lt le i q read' =
    let it = take_from n rs i q read' in
    let order = in_order low high rs i n q r rising it.1 read it.0 in
    outside_holds key q (inr (omega (arith, order, lt, le)))

pub none_upto : (low high : ℕ) (rs : List Ref) (n count size key : ℕ) (r : Ref) → count ≡ suc n → Rising low high rs → slice_get rs n ≡ Some r → r.key < size → size ≤ key → holds key r ≡ false → NoneHolds key (take count rs)
none_upto low high rs n count size key r next rising read lt le out i q read' =
    let it = take_from count rs i q read' in
    elim (same_or_not i n) as (λ _. holds key q ≡ false) [
      | inl e ↦ let there : slice_get rs n ≡ Some q = subst (λ z. slice_get rs z ≡ Some q) e it.1 in let one : r ≡ q = (cc) in subst (λ (y : Ref). holds key y ≡ false) one out
      | inr ne ↦ let order = in_order low high rs i n q r rising it.1 read (let b = it.0 in omega (arith, b, next, ne)) in outside_holds key q (inr (omega (arith, order, lt, le)))
    ]

at_end : (xs : List Ref) (x : Ref) → slice_get (xs ++ (x ∷ [])) (length xs) ≡ Some x
at_end [] x = refl
at_end (y ∷ xs) x = at_end xs x

in_append : (xs : List Ref) (x : Ref) (i : ℕ) (y : Ref) → slice_get (xs ++ (x ∷ [])) i ≡ Some y → (slice_get xs i ≡ Some y) ⊎ (x ≡ y)
in_append [] x zero y e = inr (cc)
in_append [] x (suc i) y e = absurd (none-some y e)
in_append (z ∷ xs) x zero y e = inl e
in_append (z ∷ xs) x (suc i) y e = in_append xs x i y e

pub cuts_front : (f k g : Forest) (at size count : ℕ) (last last' : Option Ref) → Readied f k at size → KeepsFront k g at count last' → ((l : List Ref) → LeavesOf f at l → HasLeaves k at (front count last' (refs k at)) (cut_to size last l)) → ((key : ℕ) → size ≤ key → FrontLeft k at (front count last' (refs k at)) size last key) → ((key : ℕ) (o : Option Ref) → key < kept_to size last → Reaches f key at o → ReachesBy k key at (front count last' (refs k at)) o) → Cuts f g at size last
cuts_front f k g at size count last last' mid keeps leaves past before = record {
  sound = keeps.sound;
  fixed = Fixed-trans f k g (λ m st st'. keeps.none_new m st') mid.fixed keeps.fixed;
  place = InPlace-trans f k g at mid.place keeps.place;
  leaves = λ l hl. keeps.leaves (cut_to size last l) (leaves l hl);
  before = λ key o lt reached. keeps.paths key o (before key o lt reached);
  past = λ key le. let it = past key le in record { found = it.found; path = keeps.paths key it.found it.path; left = it.left };
  tree = λ m st root out.
      let first = mid.tree m st root out in
      Keeps-trans f k g m first (keeps.tree m first.place.stands (first.place.root ∙ root ∙ sym mid.place.root) (λ u. out (record {
        low = omega (arith, u.low, first.place.low, mid.place.low);
        high = omega (arith, u.high, first.place.low, ap (λ z. 2 ^ z) first.place.bits, mid.place.low, ap (λ z. 2 ^ z) mid.place.bits);
      })));
  above = λ m st root.
      let first = mid.above m st root in
      Renews-trans f k g m first (keeps.above m first.place.stands (λ e. root (sym first.place.root ∙ e ∙ mid.place.root)));
  still = λ m st st'. InPlace-trans f k g m (mid.still m st (keeps.none_new m st')) (keeps.still m st');
  touched = In-on f k g at at size size mid.place.root (λ m was st. keeps.still m st) mid.touched (none_in k g at size size keeps.none_new);
  room = omega (arith, mid.room, keeps.room);
  room_falls = omega (arith, mid.room_falls, keeps.room);
  spare = keeps.spare ∙ mid.spare;
}

pub none_of : {f : Forest} {at : ℕ} {rs l : List Ref} → HasLeaves f at rs l → rs ≡ [] → l ≡ []
none_of done e = refl
none_of (one {r = r} {rs = rs} leaf rest) e = absurd (let n = ap length e in omega (arith, n))
none_of (near {r = r} {rs = rs} ind link kids inside rest) e = absurd (let n = ap length e in omega (arith, n))
none_of (far {r = r} {rs = rs} ind link inside rest) e = absurd (let n = ap length e in omega (arith, n))

-- the leaves of a leaf alone
own_leaf : {f : Forest} {at : ℕ} {rs l : List Ref} (r : Ref) → HasLeaves f at rs l → rs ≡ r ∷ [] → is_indirect r ≡ false → l ≡ r ∷ []
own_leaf r done e k = absurd (let n = ap length e in omega (arith, n))
own_leaf r (one {r = x} {rs = rs} {l = l} leaf rest) e k =
    let first : slice_get (x ∷ rs) 0 ≡ slice_get (r ∷ []) 0 = ap (λ (z : List Ref). slice_get z 0) e in
    let same : x ≡ r = (cc) in
    let others : rs ≡ [] = ap (drop 1) e in
    let none = none_of rest others in
    rw (same, none) refl
own_leaf r (near {r = x} {rs = rs} ind link kids inside rest) e k =
    let first : slice_get (x ∷ rs) 0 ≡ slice_get (r ∷ []) 0 = ap (λ (z : List Ref). slice_get z 0) e in
    let same : x ≡ r = (cc) in
    absurd (let clash : true ≡ false = sym ind ∙ (ap (λ (y : Ref). is_indirect y) same ∙ k) in cc)
own_leaf r (far {r = x} {rs = rs} ind link inside rest) e k =
    let first : slice_get (x ∷ rs) 0 ≡ slice_get (r ∷ []) 0 = ap (λ (z : List Ref). slice_get z 0) e in
    let same : x ≡ r = (cc) in
    absurd (let clash : true ≡ false = sym ind ∙ (ap (λ (y : Ref). is_indirect y) same ∙ k) in cc)

-- those of a reference to a loaded node alone
pub record OwnBelow (f : Forest) (c : ℕ) (l : List Ref) : Type 0 where
  pub list : List Ref
  pub leaves : LeavesOf f c list
  pub same : l ≡ list ++ []

pub own_below : {f : Forest} {at : ℕ} {rs l : List Ref} (r : Ref) (c : ℕ) → HasLeaves f at rs l → rs ≡ r ∷ [] → is_indirect r ≡ true → f.link at r.key ≡ loaded c → OwnBelow f c l
own_below r c done e k link = absurd (let n = ap length e in omega (arith, n))
own_below r c (one {r = x} {rs = rs} leaf rest) e k link =
    let first : slice_get (x ∷ rs) 0 ≡ slice_get (r ∷ []) 0 = ap (λ (z : List Ref). slice_get z 0) e in
    let same : x ≡ r = (cc) in
    absurd (let clash : false ≡ true = sym leaf ∙ (ap (λ (y : Ref). is_indirect y) same ∙ k) in cc)
own_below {f} {at} r c (near {c = d} {r = x} {rs = rs} {below = b} {l = l} ind link' kids inside rest) e k link =
    let first : slice_get (x ∷ rs) 0 ≡ slice_get (r ∷ []) 0 = ap (λ (z : List Ref). slice_get z 0) e in
    let same : x ≡ r = (cc) in
    let dc : d ≡ c = grind (arith, link, link', ap (λ (y : Ref). f.link at y.key) same) in
    let others : rs ≡ [] = ap (drop 1) e in
    let none = none_of rest others in
    record { list = b; leaves = subst (λ z. LeavesOf f z b) dc kids; same = ap (λ (z : List Ref). b ++ z) none }
own_below {f} {at} r c (far {r = x} {rs = rs} {below = b} ind link' inside rest) e k link =
    let first : slice_get (x ∷ rs) 0 ≡ slice_get (r ∷ []) 0 = ap (λ (z : List Ref). slice_get z 0) e in
    let same : x ≡ r = (cc) in
    absurd (let clash : told b ≡ loaded c = sym link' ∙ ap (λ (y : Ref). f.link at y.key) same ∙ link in cc)

-- a loaded path of a key below the references from place n on goes by those before it
pub front_before : {f : Forest} {key at : ℕ} {o : Option Ref} → Reaches f key at o → (n : ℕ) → ((j : ℕ) (q : Ref) → slice_get (refs f at) j ≡ Some q → n ≤ j → key < q.key) → ReachesBy f key at (take n (refs f at)) o
front_before {f} (nowhere {at = at} miss) n above = misses (λ i r read. miss i r ((take_from n (refs f at) i r read).1))
front_before {f} {key} (here {at = at} {r = r} i read in_r k) n above = elim (cases_lt i n) as (λ _. ReachesBy f key at (take n (refs f at)) (Some r)) [
  | inl lt ↦ arrives {r = r} i (taken_at n (refs f at) i r read lt) in_r k
  | inr le ↦ absurd (let a = above i r read le in let b = (holds_inside key r in_r).0 in omega (arith, a, b))
]
front_before {f} {key} (below {at = at} {c = c} {r = r} {o = o} i read in_r ind link rest) n above = elim (cases_lt i n) as (λ _. ReachesBy f key at (take n (refs f at)) o) [
  | inl lt ↦ leads {c = c} {r = r} i (taken_at n (refs f at) i r read lt) in_r ind link rest
  | inr le ↦ absurd (let a = above i r read le in let b = (holds_inside key r in_r).0 in omega (arith, a, b))
]

append_at : (xs : List Ref) (x : Ref) (i : ℕ) (y : Ref) → slice_get xs i ≡ Some y → slice_get (xs ++ (x ∷ [])) i ≡ Some y
append_at [] x i y e = absurd (none-some y e)
append_at (z ∷ xs) x zero y e = e
append_at (z ∷ xs) x (suc i) y e = append_at xs x i y e

by_append : {f : Forest} {key at : ℕ} {xs : List Ref} {o : Option Ref} (x : Ref) → ReachesBy f key at xs o → holds key x ≡ false → ReachesBy f key at (xs ++ (x ∷ [])) o
by_append {key = key} {xs = xs} x (misses miss) out = misses (λ i q read. elim (in_append xs x i q read) as (λ _. holds key q ≡ false) [
  | inl there ↦ miss i q there
  | inr it ↦ subst (λ (z : Ref). holds key z ≡ false) it out
])
by_append {xs = xs} x (arrives {r = r} i read in_r k) out = arrives {r = r} i (append_at xs x i r read) in_r k
by_append {xs = xs} x (leads {c = c} {r = r} i read in_r ind link rest) out = leads {c = c} {r = r} i (append_at xs x i r read) in_r ind link rest

-- where no reference is below the size, no loaded path to a key below it leads to a leaf
pub clear_here : {f : Forest} {key at : ℕ} {o : Option Ref} (size : ℕ) → Reaches f key at o → ((i : ℕ) (r : Ref) → slice_get (refs f at) i ≡ Some r → size ≤ r.key) → key < size → o ≡ None
clear_here size (nowhere miss) past lt = refl
clear_here {key = key} size (here {r = r} i read in_r k) past lt = absurd (let a = past i r read in let b = (holds_inside key r in_r).0 in omega (arith, a, b, lt))
clear_here {key = key} size (below {r = r} i read in_r ind link rest) past lt = absurd (let a = past i r read in let b = (holds_inside key r in_r).0 in omega (arith, a, b, lt))

pub kept_le : (size : ℕ) (last : Option Ref) → kept_to size last ≤ size
kept_le size None = omega arith
kept_le size (Some q) = omega arith

-- A node of which the reference at place count - 1 is the last below the size
module _ (f : Forest) (at count size : ℕ) (last : Option Ref) (r : Ref) (sound : IsSound f) (stands : f.stands at ≡ true) (is : IfSome last (IsCutBlock size)) (holds_contents : HasContents f at) (pos : 0 < count) (read : slice_get (refs f at) (count - 1) ≡ Some r) (low : r.key < size) (past : (j : ℕ) (q : Ref) → slice_get (refs f at) j ≡ Some q → count ≤ j → size ≤ q.key) where
  node : IsSoundNode f at
  node = sound.node at stands

  next : count ≡ suc (count - 1)
  next = omega (arith, pos)

  before_ends : (j : ℕ) (q : Ref) → slice_get (take (count - 1) (refs f at)) j ≡ Some q → limit q ≤ cut_block size
  before_ends j q read' =
      let it = take_from (count - 1) (refs f at) j q read' in
      let order = in_order _ _ (refs f at) j (count - 1) q r node.inside it.1 read it.0 in
      let fits = node.fits j q it.1 in
      end_block size q fits.aligned (wide f at q holds_contents fits) (omega (arith, order, low))

  behind_past : (j : ℕ) (q : Ref) → slice_get (drop (suc (count - 1)) (refs f at)) j ≡ Some q → size ≤ q.key
  behind_past j q read' = let it = drop_from (suc (count - 1)) (refs f at) j q read' in let n = next in past it.0 q it.2 (omega (arith, it.1, n))

  -- what the cut makes of the node's leaves
  pub cut_parts : (l : List Ref) (p : Parted f at (count - 1) (refs f at) r l) → cut_to size last l ≡ p.before ++ cut_to size last p.own
  cut_parts l p =
      let F : List Ref → List Ref = cut_to size last in
      let first : F p.before ≡ p.before = before_stays size last is p.has_before before_ends in
      let behind : F p.behind ≡ [] = behind_gone size last p.has_behind behind_past in
      let rest : F (p.own ++ p.behind) ≡ F p.own = cut_append size last p.own p.behind ∙ (ap (λ (z : List Ref). F p.own ++ z) behind ∙ append-nil (F p.own)) in
      ap F p.whole ∙ (cut_append size last p.before (p.own ++ p.behind) ∙ (ap (λ (z : List Ref). z ++ F (p.own ++ p.behind)) first ∙ ap (λ (z : List Ref). p.before ++ z) rest))

  front_none : take count (refs f at) ≡ take (count - 1) (refs f at) ++ (r ∷ [])
  front_none = ap (λ n. take n (refs f at)) next ∙ take_next (refs f at) (count - 1) r read

  -- the reference ends by the size
  pub ends_here : holds size r ≡ false → (l : List Ref) → LeavesOf f at l → HasLeaves f at (front count None (refs f at)) (cut_to size last l)
  ends_here out l hl =
      let p = leaves_parted hl (count - 1) r read in
      let fits = node.fits (count - 1) r read in
      let high : limit r ≤ size = elim (holds_outside size r out) as (λ _. limit r ≤ size) [
        | inl lt ↦ absurd (omega (arith, lt, low))
        | inr le ↦ le
      ] in
      let ends = end_block size r fits.aligned (wide f at r holds_contents fits) high in
      let own : cut_to size last p.own ≡ p.own = before_stays size last is p.has_own (λ j q read'. let it = take_from 1 (r ∷ []) j q (only_first j q read') in subst (λ (y : Ref). limit y ≤ cut_block size) (first_is j q read') ends) in
      let all : HasLeaves f at (take (count - 1) (refs f at) ++ (r ∷ [])) (p.before ++ p.own) = leaves_join p.has_before p.has_own in
      let now : cut_to size last l ≡ p.before ++ p.own = cut_parts l p ∙ ap (λ (z : List Ref). p.before ++ z) own in
      subst (λ z. HasLeaves f at z (cut_to size last l)) (sym front_none) (subst (λ z. HasLeaves f at (take (count - 1) (refs f at) ++ (r ∷ [])) z) (sym now) all)
    where
      first_is : (j : ℕ) (q : Ref) → slice_get (r ∷ []) j ≡ Some q → r ≡ q
      first_is zero q e = (cc)
      first_is (suc j) q e = absurd (none-some q e)

      only_first : (j : ℕ) (q : Ref) → slice_get (r ∷ []) j ≡ Some q → slice_get (take 1 (r ∷ [])) j ≡ Some q
      only_first j q e = e

  pub past_here : holds size r ≡ false → (key : ℕ) → size ≤ key → FrontLeft f at (front count None (refs f at)) size last key
  past_here out key le =
      let high : limit r ≤ size = elim (holds_outside size r out) as (λ _. limit r ≤ size) [
        | inl lt ↦ absurd (omega (arith, lt, low))
        | inr ends ↦ ends
      ] in
      nothing_left f at (take count (refs f at)) size last key (none_upto _ _ (refs f at) (count - 1) count size key r next node.inside read low le (outside_holds key r (inr (omega (arith, high, le)))))

  pub before_here : (key : ℕ) (o : Option Ref) → key < kept_to size last → Reaches f key at o → ReachesBy f key at (front count None (refs f at)) o
  before_here key o lt reached = front_before reached count (λ j q read' le. let a = past j q read' le in let b = kept_le size last in omega (arith, a, b, lt))

  -- the reference is the leaf in which the cut ends
  module _ (leaf : is_indirect r ≡ false) (in_r : holds size r ≡ true) where
    fits_r : Fits f at r
    fits_r = node.fits (count - 1) r read

    bits_r : r.keybits ≡ 14
    bits_r = fits_r.leaf leaf ∙ holds_contents.keybits

    same_key : (q : Ref) → IsCutBlock size q → r.key ≡ q.key
    same_key q it =
        let inside = holds_inside size r in_r in
        let mine = block_start r.key r.keybits size bits_r fits_r.aligned low inside.1 in
        let other = cut_key size q it in
        omega (arith, mine, other)
      where
        block_start : (key bits size : ℕ) → bits ≡ 14 → key % 2 ^ bits ≡ 0 → key < size → size < key + 2 ^ bits → key ≡ cut_block size
        block_start key bits size e aligned lo hi = let a : key % 16384 ≡ 0 = rw e at aligned in let h : size < key + 16384 = rw e at hi in omega (arith, a, h, lo)

    fits_last : (last' : Option Ref) → IfSome last' (IsCutBlock size) → IfSome last' (FitsLast (refs f at) count)
    fits_last None it = tt
    fits_last (Some q) it = record {
      some = pos;
      ref = r;
      read = read;
      leaf_was = leaf;
      key = same_key q it;
      keybits = bits_r ∙ sym it.keybits;
      kind = it.kind;
      held = it.held;
    }

    pub last_fits : IfSome last (FitsLast (refs f at) count)
    last_fits = fits_last last is

    placed : (last' : Option Ref) → IfSome last' (IsCutBlock size) → front count last' (refs f at) ≡ take (count - 1) (refs f at) ++ (in_place last' r ∷ [])
    placed None it = front_none
    placed (Some q) it =
        let same : nat_eq r.key q.key ≡ true = (let e = same_key q it in grind (arith, nat_tests)) in
        let first : slice_set (take count (refs f at)) (count - 1) q ≡ slice_set (take (suc (count - 1)) (refs f at)) (count - 1) q = ap (λ n. slice_set (take n (refs f at)) (count - 1) q) next in
        let second : slice_set (take (suc (count - 1)) (refs f at)) (count - 1) q ≡ take (count - 1) (refs f at) ++ (q ∷ []) = set_next (refs f at) (count - 1) r q read in
        rw same (first ∙ second)

    in_place_leaf : (last' : Option Ref) → IfSome last' (IsCutBlock size) → is_indirect (in_place last' r) ≡ false
    in_place_leaf None it = leaf
    in_place_leaf (Some q) it =
        let same : nat_eq r.key q.key ≡ true = (let e = same_key q it in grind (arith, nat_tests)) in
        let q_leaf : is_indirect q ≡ false = ap leads_on it.kind in
        rw same q_leaf

    pub ends_in : (l : List Ref) → LeavesOf f at l → HasLeaves f at (front count last (refs f at)) (cut_to size last l)
    ends_in l hl =
        let p = leaves_parted hl (count - 1) r read in
        let own_is : p.own ≡ r ∷ [] = own_leaf r p.has_own refl leaf in
        let own : cut_to size last p.own ≡ in_place last r ∷ [] = ap (cut_to size last) own_is ∙ cut_one size last r [] low in
        let now : cut_to size last l ≡ p.before ++ (in_place last r ∷ []) = cut_parts l p ∙ ap (λ (z : List Ref). p.before ++ z) own in
        let single : HasLeaves f at (in_place last r ∷ []) (in_place last r ∷ []) = one (in_place_leaf last is) done in
        let all : HasLeaves f at (take (count - 1) (refs f at) ++ (in_place last r ∷ [])) (p.before ++ (in_place last r ∷ [])) = leaves_join p.has_before single in
        subst (λ z. HasLeaves f at z (cut_to size last l)) (sym (placed last is)) (subst (λ z. HasLeaves f at (take (count - 1) (refs f at) ++ (in_place last r ∷ [])) z) (sym now) all)

    in_place_low : (last' : Option Ref) → IfSome last' (IsCutBlock size) → (let x = in_place last' r in x.key) < size
    in_place_low None it = low
    in_place_low (Some q) it =
        let same : nat_eq r.key q.key ≡ true = (let e = same_key q it in grind (arith, nat_tests)) in
        let q_low = it.low in
        rw same q_low

    in_place_put : (last' : Option Ref) → IfSome last' (IsCutBlock size) → (q : Ref) → last' ≡ Some q → in_place last' r ≡ q
    in_place_put None it q e = absurd (none-some q e)
    in_place_put (Some p) it q e =
        let same : nat_eq r.key p.key ≡ true = (let e' = same_key p it in grind (arith, nat_tests)) in
        let one : p ≡ q = (cc) in
        rw same one

    start_r : r.key ≡ cut_block size
    start_r = by r.key r.keybits bits_r fits_r.aligned low ((holds_inside size r in_r).1)
      where
        by : (key bits : ℕ) → bits ≡ 14 → key % 2 ^ bits ≡ 0 → key < size → size < key + 2 ^ bits → key ≡ cut_block size
        by key bits e aligned lo hi = let a : key % 16384 ≡ 0 = rw e at aligned in let h : size < key + 16384 = rw e at hi in omega (arith, a, h, lo)

    in_place_key : (last' : Option Ref) → IfSome last' (IsCutBlock size) → (let x = in_place last' r in x.key) ≡ r.key
    in_place_key None it = refl
    in_place_key (Some q) it =
        let same : nat_eq r.key q.key ≡ true = (let e = same_key q it in grind (arith, nat_tests)) in
        let key : q.key ≡ r.key = sym (same_key q it) in
        rw same key

    before_by : (last' : Option Ref) → IfSome last' (IsCutBlock size) → (key : ℕ) (o : Option Ref) → key < kept_to size last' → Reaches f key at o → ReachesBy f key at (front count last' (refs f at)) o
    before_by None it key o lt reached = front_before reached count (λ j q read' le. let a = past j q read' le in omega (arith, a, lt))
    before_by (Some p) it key o lt reached =
        let start = start_r in
        let first : ReachesBy f key at (take (count - 1) (refs f at)) o = front_before reached (count - 1) (λ j q read' le. elim (same_or_not j (count - 1)) as (λ _. key < q.key) [
          | inl e ↦ let there : slice_get (refs f at) (count - 1) ≡ Some q = subst (λ z. slice_get (refs f at) z ≡ Some q) e read' in let same : r ≡ q = (cc) in subst (λ (y : Ref). key < y.key) same (omega (arith, start, lt))
          | inr ne ↦ let a = past j q read' (omega (arith, le, ne, pos)) in let b = kept_le size (Some p) in omega (arith, a, b, lt)
        ]) in
        let out : holds key (in_place (Some p) r) ≡ false = outside_holds key (in_place (Some p) r) (inl (let k = in_place_key (Some p) it in omega (arith, k, start, lt))) in
        subst (λ rs. ReachesBy f key at rs o) (sym (placed (Some p) it)) (by_append (in_place (Some p) r) first out)

    pub before_in : (key : ℕ) (o : Option Ref) → key < kept_to size last → Reaches f key at o → ReachesBy f key at (front count last (refs f at)) o
    before_in = before_by last is

    pub past_in : (key : ℕ) → size ≤ key → FrontLeft f at (front count last (refs f at)) size last key
    past_in key le = subst (λ rs. FrontLeft f at rs size last key) (sym (placed last is)) (by (holds key (in_place last r)) refl)
      where
        by : (b : Bool) → holds key (in_place last r) ≡ b → FrontLeft f at (take (count - 1) (refs f at) ++ (in_place last r ∷ [])) size last key
        by true e = record {
          found = Some (in_place last r);
          path = arrives {r = in_place last r} (length (take (count - 1) (refs f at))) (at_end (take (count - 1) (refs f at)) (in_place last r)) e (in_place_leaf last is);
          left = record {
            low = λ y eq. let one : in_place last r ≡ y = (cc) in subst (λ (z : Ref). z.key < size) one (in_place_low last is);
            put = λ y q eq eq'. let one : in_place last r ≡ y = (cc) in sym one ∙ in_place_put last is q eq';
          };
        }
        by false e = nothing_left f at (take (count - 1) (refs f at) ++ (in_place last r ∷ [])) size last key (λ i q read'. elim (in_append (take (count - 1) (refs f at)) (in_place last r) i q read') as (λ _. holds key q ≡ false) [
          | inl there ↦ none_before _ _ (refs f at) (count - 1) size key r node.inside read low le i q there
          | inr it ↦ subst (λ (z : Ref). holds key z ≡ false) it e
        ])

pub under_refl : (f : Forest) (at : ℕ) → IsSound f → WalksUnder f f at
under_refl f at sound = record { walks = Walks-refl f sound; keeps = λ m st out. Keeps-refl f m st }

-- At a root, where nothing is below the size: all its references go

pub root_ready : (f k : Forest) (at size : ℕ) → IsSound f → f.stands at ≡ true → f.root at ≡ at → WalksUnder f k at → LoadsIn f k at size size → Readied f k at size
root_ready f k at size sound stands top under touched = (let walks = under.walks in let copies = walks.copies at stands in let zero_is = (sound.node at stands).top top in let room = walks.room in record {
  sound = walks.sound;
  fixed = walks.fixed;
  place = (walks.stays at stands).place;
  tree = λ m st root out. under.keeps m st (λ root' u. out u);
  above = λ m st root. Keeps-Renews f k m (under.keeps m st (λ root' u. root root'));
  still = λ m st st'. (walks.stays m st).place;
  touched = touched;
  room = omega (arith, copies, zero_is, room);
  room_falls = omega (arith, room);
  spare = walks.spare;
})

pub root_cut : (f k g : Forest) (at size : ℕ) (last : Option Ref) → IsSound f → f.stands at ≡ true → f.root at ≡ at → WalksUnder f k at → LoadsIn f k at size size → ((l : List Ref) → LeavesOf f at l → cut_to size last l ≡ []) → ((key : ℕ) (o : Option Ref) → key < size → Reaches f key at o → o ≡ None) → KeepsFront k g at 0 None → Cuts f g at size last
root_cut f k g at size last sound stands top under touched none clear keeps = cuts_front f k g at size 0 last None (root_ready f k at size sound stands top under touched) keeps (λ l hl. subst (λ z. HasLeaves k at (take 0 (refs k at)) z) (sym (none l hl)) done) (λ key le. nothing_left k at (take 0 (refs k at)) size last key (λ i r read. absurd (none-some r read))) (λ key o lt reached. subst (λ x. ReachesBy k key at (take 0 (refs k at)) x) (sym (clear key o (let b = kept_le size last in omega (arith, b, lt)) reached)) (misses (λ i r read. absurd (none-some r read))))
