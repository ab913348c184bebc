-- A forest in memory in which other nodes are writable, and for each node it is counted anew how many above it aren't.
use Rattle.std.proofs.Common.{◌≡◌, ℕ, ◌+◌, ◌<◌, ◌≤◌, ◌^◌, Bool, true, false, ◌&&◌, arith, refl, cond, sym, ◌∙◌, ap, List, [], ◌∷◌, length, Option, Some, subst, inl, inr, slice_get, suc, zero, nat_eq, nat_lt, nat_le}
use Rattle.std.specs.Prelude.{map, not}
use Rattle.std.specs.List.{position}
use Rattle.std.proofs.lemmas.Bool.{cases_lt}
use Rattle.std.proofs.lemmas.Bool.Decides.{nat_tests}
use Rattle.std.proofs.lemmas.List.{length-map}
use Rattle.std.proofs.lemmas.Nat.{pow_pos}
use Rattle.h2_ref.specs.declared.faults.Why.{Why}
use Rattle.h2_set.specs.RefSet.{RefSet}
use Rattle.h2_set.specs.Forest.{Forest, loaded, IsSound, IsSoundNode, HasParent}
use Rattle.h2_set.specs.ChangeLaws.{same_or_not}
use Rattle.h2_memory_sets.specs.declared.node.Node.{Node}
use Rattle.h2_memory_sets.specs.View.{stands_of, set_of, root_of, low_of, bits_of, writable_of, copies_of, leaf_bits_of, is_child, link_of, forest_with, is_above, place_of, with_dirty, with_copies, is_copied, count_copied, recounted_all, is_top, AllRooted}
use Rattle.h2_memory_sets.specs.Owners.{owner_of, allows_of, held_of}
use Rattle.h2_memory_sets.proofs.Counting.{count_one, count_none}
use Rattle.h2_memory_sets.specs.Kept.{AreKept}
use Rattle.h2_memory_sets.proofs.Keeping.{kept_map}
use Rattle.h2_memory_sets.proofs.Nesting.{LiesIn, Link, meet, link_of as link_at, clash, few_bits, one_range, leads_to}
use Rattle.h2_memory_sets.proofs.Nodes.{belongs_still, position_same, is_there}
use Rattle.h2_memory_sets.proofs.OfInode.{IsOwnedAsBefore, of_inode_stays}
use Rattle.h2_memory_sets.proofs.Parting.{alike, one_of, item_at, get_map}
use Rattle.h2_memory_sets.proofs.Passing.{and_parts}
use Rattle.h2_memory_sets.proofs.Paths.{owner_same}
use Rattle.h2_memory_sets.proofs.Rooted.{map_field}
use Rattle.h2_memory_sets.proofs.Rooting.{still_counted}
use Rattle.h2_memory_sets.proofs.Sides.{same_bool}

pub position_map : (p : Node → Bool) (h : Node → Node) (xs : List Node) → ((x : Node) → p (h x) ≡ p x) → position p (map h xs) ≡ position p xs
position_map p h xs same = sym (position_same p p xs (map h xs) (sym (length-map _ _)) (λ i a b ra rb. sym (same a) ∙ ap p (one_of (h a) b (sym (get_map h xs i a ra) ∙ rb))))

-- node i is node c, or above it in its tree
pub record Above (f : Forest) (i c : ℕ) : Type 0 where
  pub root : f.root i ≡ f.root c
  pub bits : f.bits c ≤ f.bits i
  pub low : f.low i ≤ f.low c
  pub high : f.low c < f.low i + 2 ^ f.bits i

le_is : (a b : ℕ) → nat_le a b ≡ true → a ≤ b
le_is a b e = grind (arith, nat_tests)

is_le : (a b : ℕ) → a ≤ b → nat_le a b ≡ true
is_le a b e = grind (arith, nat_tests)

lt_is : (a b : ℕ) → nat_lt a b ≡ true → a < b
lt_is a b e = grind (arith, nat_tests)

is_lt : (a b : ℕ) → a < b → nat_lt a b ≡ true
is_lt a b e = grind (arith, nat_tests)

same_eq : (a b : ℕ) → a ≡ b → nat_eq a b ≡ true
same_eq a b e = grind (arith, nat_tests)

-- a test of a loaded node that hangs on whether it is above
if_loaded : (l n b a a' : Bool) → (l ≡ true → a ≡ a') → (l && (n && (b && a))) ≡ (l && (n && (b && a')))
if_loaded true n b a a' h = ap (λ z. n && (b && z)) (h refl)
if_loaded false n b a a' h = refl

own : (l d b a : Bool) → l ≡ true → b ≡ true → a ≡ true → ◌≡◌ {A = ℕ} (cond (l && (not d && (b && a))) 1 0) (cond d 0 1)
own true true true true e f g = refl
own true false true true e f g = refl
own false d b a e f g = absurd (cc)
own true d false a e f g = absurd (cc)
own true d true false e f g = absurd (cc)

never : (l n b a : Bool) → (b ≡ true → a ≡ true → ⊥) → (l && (n && (b && a))) ≡ false
never false n b a h = refl
never true false b a h = refl
never true true false a h = refl
never true true true false h = refl
never true true true true h = absurd (h refl refl)

module _ (xs : List Node) (new : Node → Bool) (spare epoch room failed bad : ℕ) (met : Option (ℕ × Why)) (sound : IsSound (forest_with xs spare epoch room failed bad met)) where
  abbrev f : Forest
  f = forest_with xs spare epoch room failed bad met

  abbrev d : Node → Node
  d = λ x. with_dirty (new x) x

  abbrev zs : List Node
  zs = map (λ x. with_dirty (new x) x) xs

  abbrev r : Node → Node
  r = λ x. with_copies (count_copied (place_of x) (map (λ x. with_dirty (new x) x) xs)) x

  abbrev ys : List Node
  ys = recounted_all (map (λ x. with_dirty (new x) x) xs)

  pub read_new : (m : ℕ) (x : Node) → slice_get xs m ≡ Some x → slice_get ys m ≡ Some (r (d x))
  read_new m x read = get_map r zs m (d x) (get_map d xs m x read)

  pub field : {X : Type 0} (F : Option Node → X) → ((b : Bool) (x : Node) → F (Some (with_dirty b x)) ≡ F (Some x)) → ((n : ℕ) (x : Node) → F (Some (with_copies n x)) ≡ F (Some x)) → (m : ℕ) → F (slice_get ys m) ≡ F (slice_get xs m)
  field F same same' m = map_field F r zs (λ x. same' (count_copied (place_of x) zs) x) m ∙ map_field F d xs (λ x. same (new x) x) m

  first : (m k : ℕ) → position (is_child m k) ys ≡ position (is_child m k) xs
  first m k = position_map (is_child m k) r zs (λ x. refl) ∙ position_map (is_child m k) d xs (λ x. refl)

  pub link_same : (m k : ℕ) → link_of ys m k ≡ link_of xs m k
  link_same m k = rw (field set_of (λ b x. refl) (λ n x. refl) m, first m k) refl

  pub node_at : (m : ℕ) → stands_of (slice_get xs m) ≡ true → (x : Node) × (slice_get xs m ≡ Some x)
  node_at m st = item_at xs m (is_there xs m st)

  -- whether a node is above another, by their fields
  pub above_is : (i c : ℕ) (u y : Node) → slice_get xs i ≡ Some u → slice_get xs c ≡ Some y → is_above (place_of y) u ≡ true → Above f i c
  above_is i c u y ru ry e =
      let a = and_parts (nat_eq u.root y.root) _ e in
      let b = and_parts (nat_le y.bits u.bits) _ a.1 in
      let k = and_parts (nat_le u.low y.low) _ b.1 in
      record {
        root = ap root_of ru ∙ alike _ _ a.0 ∙ sym (ap root_of ry);
        bits = rw (ru, ry) (le_is _ _ b.0);
        low = rw (ru, ry) (le_is _ _ k.0);
        high = rw (ru, ry) (lt_is _ _ k.1);
      }

  pub is_above_of : (i c : ℕ) (u y : Node) → slice_get xs i ≡ Some u → slice_get xs c ≡ Some y → Above f i c → is_above (place_of y) u ≡ true
  is_above_of i c u y ru ry a =
      let root : u.root ≡ y.root = sym (ap root_of ru) ∙ a.root ∙ ap root_of ry in
      let bits : y.bits ≤ u.bits = (let h = a.bits in rw (ru, ry) at h) in
      let low : u.low ≤ y.low = (let h = a.low in rw (ru, ry) at h) in
      let high : y.low < u.low + 2 ^ u.bits = (let h = a.high in rw (ru, ry) at h) in
      rw (same_eq _ _ root, is_le _ _ bits, is_le _ _ low, is_lt _ _ high) refl

  -- what is above a node but itself is above the one right above it
  pub up : (i m c : ℕ) → f.stands i ≡ true → f.stands m ≡ true → Link f sound m c → (i ≡ c → ⊥) → Above f i c → Above f i m
  up i m c st st' l ne a =
      let pos = pow_pos (f.bits c) in
      let above = l.child.above in
      let within = l.child.within in
      let low = a.low in
      let high = a.high in
      let bits = a.bits in
      let kid = l.child.stands in
      let pos' = pow_pos (f.bits i) in
      elim (cases_lt (f.bits c) (f.bits i)) as (λ _. Above f i m) [
        | inr ge ↦
            let e : f.bits i ≡ f.bits c = omega (arith, ge, bits) in
            let x = meet f sound i c (f.low c) st kid (omega (arith, e)) low high (omega arith) (omega (arith, pos)) in
            let xl = x.low in
            absurd (ne (one_range f sound i c st kid a.root (omega (arith, low, xl)) e))
        | inl less ↦ elim (cases_lt (f.bits i) (f.bits m)) as (λ _. Above f i m) [
          | inr long ↦
              let x = meet f sound m i (f.low c) st' st (omega (arith, long)) above (omega (arith, within, pos)) low high in
              let xl = x.low in
              let xh = x.high in
              let pos'' = pow_pos (f.bits m) in
              record { root = a.root ∙ l.child.root; bits = long; low = xl; high = omega (arith, xh, pos'') }
          | inl short ↦
              let x = meet f sound i m (f.low c) st st' (omega (arith, short)) low high above (omega (arith, within, pos)) in
              let xl = x.low in
              let xh = x.high in
              let it = leads_to f sound m i st' st (a.root ∙ l.child.root) short xl (omega (arith, xh, pos')) in
              absurd (clash f sound m c i st' l it low high less)
        ]
      ]

  down : (i m c : ℕ) → f.stands i ≡ true → f.stands m ≡ true → Link f sound m c → Above f i m → Above f i c
  down i m c st st' l a =
      let pos = pow_pos (f.bits c) in
      let pos' = pow_pos (f.bits m) in
      let above = l.child.above in
      let within = l.child.within in
      let fewer = l.child.fewer in
      let bits = a.bits in
      let low = a.low in
      let high = a.high in
      let x = meet f sound m i (f.low m) st' st bits (omega arith) (omega (arith, pos')) low high in
      let xh = x.high in
      record { root = a.root ∙ sym l.child.root; bits = omega (arith, bits, fewer); low = omega (arith, low, above); high = omega (arith, within, xh, pos) }

  -- the count of a node, and of the one right above it
  pub count_kid : (m c : ℕ) (x y : Node) → f.stands m ≡ true → Link f sound m c → slice_get xs m ≡ Some x → slice_get xs c ≡ Some y → count_copied (place_of y) zs ≡ count_copied (place_of x) zs + cond (new y) 0 1
  count_kid m c x y st l rx ry =
      let kid = l.child.stands in
      let fewer = l.child.fewer in
      let few = few_bits f sound m st in
      let short : y.bits < x.bits = rw (rx, ry) at fewer in
      let least : x.bits ≤ 63 = rw rx at few in
      let self : is_above (place_of y) y ≡ true = is_above_of c c y y ry ry (let pos = pow_pos (f.bits c) in record { root = refl; bits = omega arith; low = omega arith; high = omega (arith, pos) }) in
      let off : is_copied (place_of x) (d y) ≡ false = never y.loaded (not (new y)) (nat_lt y.bits 63) (is_above (place_of x) y) (λ e e'. let a = above_is c m y x ry rx e' in let bits = a.bits in omega (arith, bits, fewer)) in
      let now = own y.loaded (new y) (nat_lt y.bits 63) (is_above (place_of y) y) (sym (ap stands_of ry) ∙ kid) (is_lt _ _ (omega (arith, short, least))) self in
      count_one (is_copied (place_of y)) (is_copied (place_of x)) zs c (d y) (get_map d xs c y ry) off same ∙ ap (λ n. count_copied (place_of x) zs + n) now
    where
      same : (i : ℕ) (t : Node) → (i ≡ c → ⊥) → slice_get zs i ≡ Some t → is_copied (place_of y) t ≡ is_copied (place_of x) t
      same i t ne rt = elim (cases_lt i (length xs)) as (λ _. is_copied (place_of y) t ≡ is_copied (place_of x) t) [
        | inr ge ↦ absurd (past i t ge rt)
        | inl lt ↦
            let it = item_at xs i lt in
            let u = it.0 in
            let is : d u ≡ t = one_of (d u) t (sym (get_map d xs i u it.1) ∙ rt) in
            subst (λ z. is_copied (place_of y) z ≡ is_copied (place_of x) z) is (if_loaded u.loaded (not (new u)) (nat_lt u.bits 63) (is_above (place_of y) u) (is_above (place_of x) u) (λ on. same_bool _ _
            (λ e. is_above_of i m u x it.1 rx (up i m c (ap stands_of it.1 ∙ on) st l ne (above_is i c u y it.1 ry e)))
            (λ e. is_above_of i c u y it.1 ry (down i m c (ap stands_of it.1 ∙ on) st l (above_is i m u x it.1 rx e)))))
      ]
        where
          past : (i : ℕ) (t : Node) → length xs ≤ i → slice_get zs i ≡ Some t → ⊥
          past i t ge rt = beyond xs i t ge rt
            where
              beyond : (l : List Node) (i : ℕ) (t : Node) → length l ≤ i → slice_get (map (λ x. with_dirty (new x) x) l) i ≡ Some t → ⊥
              beyond [] i t ge rt = cc
              beyond (a ∷ l) zero t ge rt = omega (arith, ge)
              beyond (a ∷ l) (suc i) t ge rt = beyond l i t (omega (arith, ge)) rt

  -- a root counts none
  pub count_top : (m : ℕ) (x : Node) → slice_get xs m ≡ Some x → f.bits m ≡ 63 → count_copied (place_of x) zs ≡ 0
  count_top m x rx half = count_none (is_copied (place_of x)) zs none
    where
      bits : x.bits ≡ 63
      bits = sym (ap bits_of rx) ∙ half

      none : (i : ℕ) (t : Node) → slice_get zs i ≡ Some t → is_copied (place_of x) t ≡ false
      none i t rt = never t.loaded (not t.dirty) (nat_lt t.bits 63) (is_above (place_of x) t) (λ e e'.
          let a = and_parts (nat_eq t.root x.root) _ e' in
          let b = and_parts (nat_le x.bits t.bits) _ a.1 in
          let le = le_is _ _ b.0 in
          let lt = lt_is _ _ e in
          omega (arith, le, lt, bits))

  pub counted : (m : ℕ) (x : Node) → slice_get xs m ≡ Some x → copies_of (slice_get ys m) ≡ count_copied (place_of x) zs
  counted m x read = ap copies_of (read_new m x read)

  pub is_writable : (m : ℕ) (x : Node) → slice_get xs m ≡ Some x → writable_of (slice_get ys m) ≡ new x
  is_writable m x read = ap writable_of (read_new m x read)

  -- a path is no longer than its bits fall
  abbrev Falls : ℕ → Type 0
  Falls n = (m : ℕ) (x : Node) → f.stands m ≡ true → slice_get xs m ≡ Some x → 63 ≤ n + f.bits m → count_copied (place_of x) zs + f.bits m ≤ 63

  falls_top : (m : ℕ) (x : Node) → f.stands m ≡ true → slice_get xs m ≡ Some x → f.root m ≡ m → count_copied (place_of x) zs + f.bits m ≤ 63
  falls_top m x st rx top = let half = (sound.node m st).half top in let none = count_top m x rx half in omega (arith, half, none)

  at_most : (b : Bool) → cond b 0 1 ≤ 1
  at_most true = omega arith
  at_most false = omega arith

  falls_kid : (n : ℕ) → Falls n → (m : ℕ) (x : Node) → f.stands m ≡ true → slice_get xs m ≡ Some x → 63 ≤ suc n + f.bits m → HasParent f m → count_copied (place_of x) zs + f.bits m ≤ 63
  falls_kid n falls m x st rx most h =
      let l = link_at f sound h.parent m h.stands h.link in
      let fewer = l.child.fewer in
      let y = node_at h.parent h.stands in
      let it = falls h.parent y.0 h.stands y.1 (omega (arith, most, fewer)) in
      let kid = count_kid h.parent m y.0 x h.stands l y.1 rx in
      let one : cond (new x) 0 1 ≤ 1 = at_most (new x) in
      omega (arith, it, kid, one, fewer)

  falls : (n : ℕ) → Falls n
  falls zero m x st rx most = elim (same_or_not (f.root m) m) as (λ _. count_copied (place_of x) zs + f.bits m ≤ 63) [
    | inl top ↦ falls_top m x st rx top
    | inr off ↦
        let h = sound.parent m st off in
        let l = link_at f sound h.parent m h.stands h.link in
        let few = few_bits f sound h.parent h.stands in
        let fewer = l.child.fewer in
        absurd (omega (arith, most, few, fewer))
  ]
  falls (suc n) m x st rx most = elim (same_or_not (f.root m) m) as (λ _. count_copied (place_of x) zs + f.bits m ≤ 63) [
    | inl top ↦ falls_top m x st rx top
    | inr off ↦ falls_kid n (falls n) m x st rx most (sound.parent m st off)
  ]

  -- the root's range has that of each node of its tree
  abbrev Covers : ℕ → Type 0
  Covers n = (m : ℕ) → f.stands m ≡ true → 63 ≤ n + f.bits m → LiesIn f m (f.root m)

  covers_top : (m : ℕ) → f.root m ≡ m → LiesIn f m (f.root m)
  covers_top m top = subst (LiesIn f m) (sym top) (record { low = omega arith; high = omega arith })

  covers_kid : (n : ℕ) → Covers n → (m : ℕ) → 63 ≤ suc n + f.bits m → HasParent f m → LiesIn f m (f.root m)
  covers_kid n covers m most h =
      let l = link_at f sound h.parent m h.stands h.link in
      let fewer = l.child.fewer in
      let above = l.child.above in
      let within = l.child.within in
      let it = covers h.parent h.stands (omega (arith, most, fewer)) in
      let low = it.low in
      let high = it.high in
      subst (LiesIn f m) (sym l.child.root) (record { low = omega (arith, low, above); high = omega (arith, high, within) })

  covers : (n : ℕ) → Covers n
  covers zero m st most = elim (same_or_not (f.root m) m) as (λ _. LiesIn f m (f.root m)) [
    | inl top ↦ covers_top m top
    | inr off ↦
        let h = sound.parent m st off in
        let l = link_at f sound h.parent m h.stands h.link in
        let few = few_bits f sound h.parent h.stands in
        let fewer = l.child.fewer in
        absurd (omega (arith, most, few, fewer))
  ]
  covers (suc n) m st most = elim (same_or_not (f.root m) m) as (λ _. LiesIn f m (f.root m)) [
    | inl top ↦ covers_top m top
    | inr off ↦ covers_kid n (covers n) m most (sound.parent m st off)
  ]

  -- the root of a node is above it
  pub root_above : (m : ℕ) → f.stands m ≡ true → Above f (f.root m) m
  root_above m st =
      let t = sound.top m st in
      let it = covers 63 m st (omega arith) in
      let low = it.low in
      let high = it.high in
      let pos = pow_pos (f.bits m) in
      let half = (sound.node (f.root m) t.0).half t.1 in
      let few = few_bits f sound m st in
      record { root = t.1; bits = omega (arith, half, few); low = low; high = omega (arith, high, pos) }

  pub kept_still : AreKept xs → AreKept (recounted_all (map (λ x. with_dirty (new x) x) xs))
  kept_still kept = kept_map r zs (kept_map d xs kept (λ x. record { owner = refl; root = refl; up = refl; loaded = λ e. e; inode = refl; low = refl; bits = refl; leaf_bits = refl; set = refl })) (λ x. record { owner = refl; root = refl; up = refl; loaded = λ e. e; inode = refl; low = refl; bits = refl; leaf_bits = refl; set = refl })

  pub rooted_still : AllRooted xs → AllRooted (recounted_all (map (λ x. with_dirty (new x) x) xs))
  rooted_still rooted i now = ap (λ z. is_top (slice_get ys z)) (field root_of (λ b x. refl) (λ n x. refl) i) ∙ field is_top (λ b x. refl) (λ n x. refl) (root_of (slice_get xs i)) ∙ rooted i (sym (field stands_of (λ b x. refl) (λ n x. refl) i) ∙ now)

  -- the forest once this is done
  module _ (spare' epoch' room' : ℕ) (epoch_fits : (1 ≤ epoch') × (epoch' ≤ 2 ^ 62)) where
    abbrev pub g : Forest
    g = forest_with (recounted_all (map (λ x. with_dirty (new x) x) xs)) spare' epoch' room' failed bad met

    stands_same : (m : ℕ) → stands_of (slice_get ys m) ≡ stands_of (slice_get xs m)
    stands_same = field stands_of (λ b x. refl) (λ n x. refl)

    root_same : (m : ℕ) → root_of (slice_get ys m) ≡ root_of (slice_get xs m)
    root_same = field root_of (λ b x. refl) (λ n x. refl)

    low_same : (m : ℕ) → low_of (slice_get ys m) ≡ low_of (slice_get xs m)
    low_same = field low_of (λ b x. refl) (λ n x. refl)

    bits_same : (m : ℕ) → bits_of (slice_get ys m) ≡ bits_of (slice_get xs m)
    bits_same = field bits_of (λ b x. refl) (λ n x. refl)

    set_same : (m : ℕ) → set_of (slice_get ys m) ≡ set_of (slice_get xs m)
    set_same = field set_of (λ b x. refl) (λ n x. refl)

    owner_still : (m : ℕ) → owner_of (slice_get ys m) ≡ owner_of (slice_get xs m)
    owner_still = field owner_of (λ b x. refl) (λ n x. refl)

    held_same : (m : ℕ) → held_of (slice_get ys m) ≡ held_of (slice_get xs m)
    held_same = field held_of (λ b x. refl) (λ n x. refl)

    belongs_same_at : (m t k : ℕ) → g.belongs m t k ≡ f.belongs m t k
    belongs_same_at m t k = belongs_still xs ys owner_still m t k (root_same m)

    leaf_same : (m : ℕ) → leaf_bits_of (slice_get ys m) ≡ leaf_bits_of (slice_get xs m)
    leaf_same = field leaf_bits_of (λ b x. refl) (λ n x. refl)

    kid_count : (m k c : ℕ) → f.stands m ≡ true → f.link m k ≡ loaded c → copies_of (slice_get ys c) ≡ copies_of (slice_get ys m) + cond (writable_of (slice_get ys c)) 0 1
    kid_count m k c st link =
        let kid = (sound.node m st).child k c link in
        let l = link_at f sound m c st (ap (f.link m) kid.low ∙ link) in
        let x = node_at m st in
        let y = node_at c kid.stands in
        counted c y.0 y.1 ∙ count_kid m c x.0 y.0 st l x.1 y.1 ∙ ap (λ n. n + cond (new y.0) 0 1) (sym (counted m x.0 x.1)) ∙ ap (λ b. copies_of (slice_get ys m) + cond b 0 1) (sym (is_writable c y.0 y.1))

    sound_node : (m : ℕ) → f.stands m ≡ true → IsSoundNode g m
    sound_node m st =
        let node = sound.node m st in
        let x = node_at m st in
        still_counted f g m (λ n was now. record { root = root_same n; low = low_same n; bits = bits_same n; set = set_same n }) st (stands_same m ∙ st)
        (λ k c e. let was = sym (link_same m k) ∙ e in (was, stands_same c ∙ (node.child k c was).stands))
        (leaf_same (f.root m)) (λ q. field (λ o. allows_of o q) (λ b x. refl) (λ n x. refl) (f.root m)) (λ n t j was now. belongs_same_at n t j)
        (λ k c e. kid_count m k c st (sym (link_same m k) ∙ e))
        (λ top. counted m x.0 x.1 ∙ count_top m x.0 x.1 (node.half (sym (root_same m) ∙ top)))
        (rw (counted m x.0 x.1, bits_same m) (falls 63 m x.0 st x.1 (omega arith)))
        node

    as_before : (m : ℕ) → IsOwnedAsBefore f g m
    as_before m = record { root = root_same m; belongs = belongs_same_at m }

    pub still : IsSound g
    still = record {
      node = λ m now. sound_node m (sym (stands_same m) ∙ now);
      held = λ m held.
          let it = sound.held m (sym (held_same m) ∙ held) in
          (stands_same m ∙ it.0, root_same m ∙ it.1);
      top = λ m now.
          let t = sound.top m (sym (stands_same m) ∙ now) in
          (ap g.stands (root_same m) ∙ stands_same (f.root m) ∙ t.0, ap g.root (root_same m) ∙ root_same (f.root m) ∙ t.1 ∙ sym (root_same m));
      parent = λ m now off.
          let h = sound.parent m (sym (stands_same m) ∙ now) (λ e. off (root_same m ∙ e)) in
          record { parent = h.parent; stands = stands_same h.parent ∙ h.stands; link = ap (g.link h.parent) (low_same m) ∙ link_same h.parent (f.low m) ∙ h.link };
      owner = λ m t k st b. owner_same f g sound (λ n was. ap (λ (t : RefSet). t.refs) (set_same n)) (λ n j was. link_same n j) stands_same root_same m t k (sym (stands_same m) ∙ st) (sym (belongs_same_at m t k) ∙ b);
      inode = λ m t k st b.
          let it = sound.inode m t k (sym (stands_same m) ∙ st) (sym (belongs_same_at m t k) ∙ b) in
          of_inode_stays f g m t k (as_before m) (as_before t) it (stands_same it.inode ∙ it.named.stands) (as_before it.inode);
      chain = λ m t k u j now b b'. belongs_same_at m u j ∙ sound.chain m t k u j (sym (stands_same m) ∙ now) (sym (belongs_same_at m t k) ∙ b) (sym (belongs_same_at t u j) ∙ b');
      epoch = epoch_fits;
    }
