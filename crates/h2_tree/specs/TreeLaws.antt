-- Laws of trees: what belongs to a new leaf, and what listing a range has to do with the list of leaves.
use Rattle.std.proofs.Common.{◌≡◌, ℕ, ◌+◌, ◌<◌, ◌≤◌, ◌^◌, inl, inr, Bool, true, false, arith, refl, sym, ◌∙◌, ap, List, [], ◌∷◌, ◌++◌, Option, Some, None, subst, slice_get, suc, zero}
use Rattle.std.specs.Prelude.{filter}
use Rattle.std.proofs.lemmas.Nat.{pow_pos}
use Rattle.std.proofs.lemmas.Bool.Decides.{nat_tests}
use Rattle.std.proofs.lemmas.Option.{none-some}
use Rattle.h2_ref.specs.declared.reference.Ref.{Ref}
use Rattle.h2_set.specs.Ranges.{Rising, limit, is_indirect}
use Rattle.h2_set.specs.Forest.{Link, loaded, told, untold, Forest, refs, HasLeaves, done, one, near, far, LeavesOf, IsSound, Reaches, nowhere, here, below}
use Rattle.h2_set.specs.LeafLaws.{leaves_rising, place_above, reaches_find}
use Rattle.h2_set.specs.SplitLaws.{below_high}
use Rattle.h2_set.specs.PutLaws.{Rising-filter}
use Rattle.h2_set.specs.PathLaws.{in_holds, reaches_one}
use Rattle.h2_tree.specs.Changes.{Descends, TakesIn, replaced, placed, parted, ChangesOnly, Inserts, is_between, touches, RangeUnloaded, missing, deeper, Lists}
use Rattle.h2_tree.specs.PathLaws.{way_leads}
use Rattle.h2_tree.specs.ListLaws.{In, has_either, filter_whole, find_in, same_rising}
use Rattle.h2_set.specs.EditPathLaws.{filter_from, filter_has}

-- where the key's path leads to no leaf, nothing belongs to a leaf with this key
pub none_belongs : {h : Forest} {top key : ℕ} → IsSound h → h.stands top ≡ true → Reaches h key top None → (m : ℕ) → h.stands m ≡ true → h.belongs m top key ≡ true → ⊥
none_belongs sound stands none m st belongs =
    let own = sound.owner m _ _ st belongs in
    none-some own.leaf (reaches_one sound stands none own.path)

fresh_in : {h g : Forest} {top n blocks : ℕ} {leaf : Ref} {old : Option Ref} → IsSound h → IsSound g → h.stands top ≡ true → h.stands n ≡ true → Descends h leaf.key top n → ChangesOnly h g n (λ m. ⊥) → TakesIn h g n leaf blocks old → old ≡ None → (m : ℕ) → g.stands m ≡ true → g.belongs m top leaf.key ≡ true → ⊥
fresh_in sound sound' top_st st_n way only (replaced {old = old} it) none m st belongs = none-some old (sym none)
fresh_in {top = top} {leaf = leaf} sound sound' top_st st_n way only (placed it) none m st belongs =
    let was = it.none_new m st in
    let place = only.still m was (λ z. z) in
    none_belongs sound top_st (way_leads way (nowhere it.none)) m was (sym (place.belongs top leaf.key) ∙ belongs)
fresh_in {g = g} {top = top} {n = n} {leaf = leaf} sound sound' top_st st_n way only (parted it) none m st belongs = elim (it.none_new m st) as (λ _. ⊥) [
  | inr was ↦
      let place = only.still m was (λ z. z) in
      none_belongs sound top_st (way_leads way (nowhere it.none)) m was (sym (place.belongs top leaf.key) ∙ belongs)
  | inl new ↦
      let place = only.still n st_n (λ z. z) in
      let child = (sound'.node n place.stands).child it.key it.node it.link in
      let same = ap (λ z. g.belongs z top leaf.key) new in
      none_belongs sound top_st (way_leads way (nowhere it.none)) n st_n (sym (place.belongs top leaf.key) ∙ sym (child.belongs top leaf.key) ∙ sym same ∙ belongs)
]

-- once a leaf has gone in where there was none, nothing that stands belongs to it
pub insert_fresh : {f g : Forest} {root : ℕ} {leaf : Ref} → f.stands root ≡ true → Inserts f g root leaf None → (m : ℕ) → g.stands m ≡ true → g.belongs m root leaf.key ≡ true → ⊥
insert_fresh stands ins =
    let it = ins.goes in
    fresh_in it.prepares.sound ins.sound (it.prepares.stays _ stands).place.stands it.stands it.way it.only it.change refl

-- all of rs stand in node at
abbrev pub StandsIn : Forest → ℕ → List Ref → Type 0
StandsIn f at rs = (j : ℕ) (r : Ref) → slice_get rs j ≡ Some r → In (refs f at) r

-- a leaf between lies in the range of no reference that isn't touched
pub between_touches : (from to : ℕ) (q x : Ref) → is_between from to q ≡ true → x.key ≤ q.key → q.key < limit x → touches from to x ≡ true
between_touches from to q x mid low high = grind (arith, nat_tests)

-- where nothing that is needed is unloaded, loaded nodes lead to each leaf between
pub leaves_reached : {f : Forest} {at : ℕ} {rs l : List Ref} → StandsIn f at rs → HasLeaves f at rs l → (from to : ℕ) → (RangeUnloaded f from to at → ⊥) → (i : ℕ) (x : Ref) → slice_get l i ≡ Some x → is_between from to x ≡ true → Reaches f x.key at (Some x)
leaves_reached all done from to none i x read mid = absurd (none-some x read)
leaves_reached {f} all (one {at = at} {r = r} leaf rest) from to none zero x read mid =
    let is : r ≡ x = (cc) in
    let it = all 0 r refl in
    let pos = pow_pos r.keybits in
    let path : Reaches f r.key at (Some r) = here {r = r} it.0 it.1 (in_holds r.key r (omega arith) (omega (arith, pos))) leaf in
    subst (λ (y : Ref). Reaches f y.key at (Some y)) is path
leaves_reached all (one leaf rest) from to none (suc i) x read mid = leaves_reached (λ j q read'. all (suc j) q read') rest from to none i x read mid
leaves_reached {f} all (near {at = at} {c = c} {r = r} {below = b} {l = l} ind link kids inside rest) from to none i x read mid =
    elim (has_either b l x i read) as (λ _. Reaches f x.key at (Some x)) [
      | inl it ↦
          let there = all 0 r refl in
          let low = place_above r.key (limit r) b it.0 x inside it.1 in
          let high = below_high r.key (limit r) b it.0 x inside it.1 in
          let pos = pow_pos x.keybits in
          let on = between_touches from to x r mid low (omega (arith, high, pos)) in
          let path = leaves_reached (λ j q read'. (j, read')) kids from to (λ u. none (deeper {r = r} there.0 there.1 ind on link u)) it.0 x it.1 mid in
          below {r = r} there.0 there.1 (in_holds x.key r low (omega (arith, high, pos))) ind link path
      | inr it ↦ leaves_reached (λ j q read'. all (suc j) q read') rest from to none it.0 x it.1 mid
    ]
leaves_reached {f} all (far {at = at} {r = r} {below = b} {l = l} ind link inside rest) from to none i x read mid =
    elim (has_either b l x i read) as (λ _. Reaches f x.key at (Some x)) [
      | inl it ↦
          let there = all 0 r refl in
          let low = place_above r.key (limit r) b it.0 x inside it.1 in
          let high = below_high r.key (limit r) b it.0 x inside it.1 in
          let pos = pow_pos x.keybits in
          let on = between_touches from to x r mid low (omega (arith, high, pos)) in
          absurd (none (missing {r = r} there.0 there.1 ind on (λ c e. let clash : told b ≡ loaded c = sym link ∙ e in cc)))
      | inr it ↦ leaves_reached (λ j q read'. all (suc j) q read') rest from to none it.0 x it.1 mid
    ]

-- what is listed of a tree whose leaves are known is the part of them with keys from `from` to `to`
pub lists_agree : (f : Forest) (at from to : ℕ) (listed l : List Ref) → IsSound f → f.stands at ≡ true → Lists f at from to listed → LeavesOf f at l → listed ≡ filter (is_between from to) l
lists_agree f at from to listed l sound stands lists leaves =
    let p = is_between from to in
    let low = f.low at in
    let high = f.low at + 2 ^ f.bits at in
    let rising = Rising-filter p low high l (leaves_rising leaves low high (sound.node at stands).inside) in
    same_rising 0 (2 ^ 64) low high listed (filter p l) lists.rising rising (λ r it.
    let each = lists.each it.0 r it.1 in
    let found = find_in r.key l r (sym (reaches_find sound each.1 stands l leaves)) in
    filter_has p l found.0 r found.1 each.0) (λ r it.
    let there = filter_from p l it.0 r it.1 in
    lists.all r.key r (leaves_reached (λ j q read. (j, read)) leaves from to lists.loaded there.1.0 r there.1.1 there.0) there.0)

in_range : (f : Forest) (c : ℕ) (r : Ref) → f.low c ≡ r.key → f.bits c ≡ r.keybits → (l : List Ref) → Rising (f.low c) (f.low c + 2 ^ f.bits c) l → Rising r.key (limit r) l
in_range f c r low bits l rising = rw (low, bits) at rising

-- where every node is loaded, there is a list of leaves
module _ (f : Forest) (to : ℕ) (last : to + 1 ≡ 2 ^ 64) (sound : IsSound f) where
  leaves_loaded : (n at : ℕ) → f.bits at < n → f.stands at ≡ true → (RangeUnloaded f 0 to at → ⊥) → (l : List Ref) × LeavesOf f at l
  leaves_loaded zero at less stands none = absurd (omega (arith, less))
  leaves_loaded (suc n) at less stands none = each (leaves_loaded n) (refs f at) (λ j q read. (j, read))
    where
      each : ((c : ℕ) → f.bits c < n → f.stands c ≡ true → (RangeUnloaded f 0 to c → ⊥) → (l : List Ref) × LeavesOf f c l) → (rs : List Ref) → StandsIn f at rs → (l : List Ref) × HasLeaves f at rs l
      each kids [] all = ([], done)
      each kids (r ∷ rs) all = by (is_indirect r) refl (each kids rs (λ j q read. all (suc j) q read))
        where
          node_ends : limit r ≤ 2 ^ 64
          node_ends = let it = all 0 r refl in let node = sound.node at stands in let high = below_high _ _ (refs f at) it.0 r node.inside it.1 in omega (arith, high, node.ends)

          on : touches 0 to r ≡ true
          on = let pos = pow_pos r.keybits in let ends = node_ends in let low : r.key ≤ to = omega (arith, ends, pos, last) in let some : 0 < limit r = omega (arith, pos) in grind (arith, nat_tests)

          in_child : (c : ℕ) → is_indirect r ≡ true → f.link at r.key ≡ loaded c → (l : List Ref) × HasLeaves f at rs l → (l : List Ref) × HasLeaves f at (r ∷ rs) l
          in_child c ind link rest =
              let it = all 0 r refl in
              let node = sound.node at stands in
              let child = node.child r.key c link in
              let bits = node.bits it.0 c r it.1 ind link in
              let own = kids c (omega (arith, child.fewer, less)) child.stands (λ u. none (deeper {r = r} it.0 it.1 ind on link u)) in
              let inside = leaves_rising own.1 (f.low c) (f.low c + 2 ^ f.bits c) (sound.node c child.stands).inside in
              let ranged = in_range f c r child.low bits own.0 inside in
              (own.0 ++ rest.0, near {r = r} ind link own.1 ranged rest.1)

          by_link : (k : Link) → f.link at r.key ≡ k → is_indirect r ≡ true → (l : List Ref) × HasLeaves f at rs l → (l : List Ref) × HasLeaves f at (r ∷ rs) l
          by_link (loaded c) e ind rest = in_child c ind e rest
          by_link (told b) e ind rest = let it = all 0 r refl in absurd (none (missing {r = r} it.0 it.1 ind on (λ c e'. let clash : told b ≡ loaded c = sym e ∙ e' in cc)))
          by_link untold e ind rest = let it = all 0 r refl in absurd (none (missing {r = r} it.0 it.1 ind on (λ c e'. let clash : untold ≡ loaded c = sym e ∙ e' in cc)))

          by : (b : Bool) → is_indirect r ≡ b → (l : List Ref) × HasLeaves f at rs l → (l : List Ref) × HasLeaves f at (r ∷ rs) l
          by false e rest = (r ∷ rest.0, one {r = r} e rest.1)
          by true e rest = by_link (f.link at r.key) refl e rest

  all_between : (low : ℕ) (l : List Ref) → Rising low (2 ^ 64) l → (i : ℕ) (r : Ref) → slice_get l i ≡ Some r → is_between 0 to r ≡ true
  all_between low l rising i r read =
      let high = below_high low (2 ^ 64) l i r rising read in
      let pos = pow_pos r.keybits in
      let below_to : r.key ≤ to = omega (arith, high, pos, last) in
      grind (arith, nat_tests)

  -- what is listed of all keys are the leaves
  pub lists_whole : (at : ℕ) (listed : List Ref) → f.stands at ≡ true → Lists f at 0 to listed → LeavesOf f at listed
  lists_whole at listed stands lists =
      let it = leaves_loaded (suc (f.bits at)) at (omega arith) stands lists.loaded in
      let node = sound.node at stands in
      let rising = leaves_rising it.1 0 (2 ^ 64) node.set.rising in
      let agree = lists_agree f at 0 to listed it.0 sound stands lists it.1 in
      let whole = filter_whole (is_between 0 to) it.0 (all_between 0 it.0 rising) in
      subst (LeavesOf f at) (sym (agree ∙ whole)) it.1
