-- A loaded node is the only one at its key below the node above it.
use Rattle.std.proofs.Common.{◌≡◌, ℕ, true, false, inl, inr, ◌&&◌, nat_eq, arith, refl, sym, ◌∙◌, ap, List, Option, Some, None, subst, slice_get}
use Rattle.std.specs.List.{position}
use Rattle.std.proofs.lemmas.Bool.Decides.{nat_tests}
use Rattle.h2_ref.specs.declared.faults.Why.{Why}
use Rattle.h2_set.specs.Forest.{IsSound, HasParent, loaded}
use Rattle.h2_memory_sets.specs.declared.node.Node.{Node}
use Rattle.h2_memory_sets.specs.View.{stands_of, low_of, is_up, is_below, is_child, is_child_of, is_top, is_bare, link_of, forest_with, AllRooted}
use Rattle.h2_memory_sets.proofs.Bringing.{up_is}
use Rattle.h2_memory_sets.proofs.Parting.{alike, one_of, none_passes}
use Rattle.h2_memory_sets.proofs.Passing.{and_parts}
use Rattle.h2_memory_sets.proofs.Storing.{tested}
use Rattle.h2_memory_sets.proofs.Unloads.{link_found, found}

same_number : (a : ℕ) → nat_eq a a ≡ true
same_number a = grind (arith, nat_tests)

-- a node that is below another is no root
not_bare : (at : ℕ) (x : Node) → is_up at x.up ≡ true → is_top (Some x) ≡ true → ⊥
not_bare at x up top = go x.up (up_is at x.up up) (and_parts x.loaded (is_bare x.up) top).1
  where
    go : (u : Option ℕ) → u ≡ Some at → is_bare u ≡ true → ⊥
    go None e bare = cc
    go (Some v) e bare = cc

-- what is above a loaded node is its parent
pub parent_is : (xs : List Node) (spare epoch room failed bad : ℕ) (met : Option (ℕ × Why)) → AllRooted xs → IsSound (forest_with xs spare epoch room failed bad met) → (at i : ℕ) (x : Node) → slice_get xs i ≡ Some x → stands_of (slice_get xs i) ≡ true → x.up ≡ Some at → (h : HasParent (forest_with xs spare epoch room failed bad met) i) × (h.parent ≡ at)
parent_is xs spare epoch room failed bad met rooted sound at i x read st is_above =
    let above : is_up at x.up ≡ true = ap (is_up at) is_above ∙ same_number at in
    let h = sound.parent i st (λ same. not_bare at x above (sym (ap is_top (ap (slice_get xs) same ∙ read)) ∙ rooted i st)) in
    let it = found (is_child h.parent (low_of (slice_get xs i))) xs i (link_found _ _ i h.link) in
    let same : it.item ≡ x = one_of it.item x (sym it.read ∙ read) in
    let passes : is_child h.parent (low_of (slice_get xs i)) x ≡ true = subst (λ (z : Node). is_child h.parent (low_of (slice_get xs i)) z ≡ true) same it.passes in
    let up : is_up h.parent x.up ≡ true = (and_parts (is_up h.parent x.up) _ (and_parts x.loaded _ passes).1).0 in
    (h, one_of h.parent at (sym (up_is h.parent x.up up) ∙ is_above))

-- what is above a loaded node leads to it
pub above_is : (xs : List Node) (spare epoch room failed bad : ℕ) (met : Option (ℕ × Why)) → AllRooted xs → IsSound (forest_with xs spare epoch room failed bad met) → (at i : ℕ) (x : Node) → slice_get xs i ≡ Some x → stands_of (slice_get xs i) ≡ true → x.up ≡ Some at → link_of xs at x.low ≡ loaded i
above_is xs spare epoch room failed bad met rooted sound at i x read st is_above =
    let it = parent_is xs spare epoch room failed bad met rooted sound at i x read st is_above in
    let h = it.0 in
    let low : low_of (slice_get xs i) ≡ x.low = ap low_of read in
    sym (ap (λ m. link_of xs m x.low) it.1) ∙ sym (ap (λ k. link_of xs h.parent k) low) ∙ h.link

-- nothing is loaded below a node that isn't
pub none_below : (xs : List Node) (spare epoch room failed bad : ℕ) (met : Option (ℕ × Why)) → AllRooted xs → IsSound (forest_with xs spare epoch room failed bad met) → (c : ℕ) → stands_of (slice_get xs c) ≡ false → position (is_below c) xs ≡ None
none_below xs spare epoch room failed bad met rooted sound c away = none_passes (is_below c) xs go
  where
    go : (i : ℕ) (z : Node) → slice_get xs i ≡ Some z → is_below c z ≡ false
    go i z got = elim (tested (is_below c z)) as (λ _. is_below c z ≡ false) [
      | inr miss ↦ miss
      | inl e ↦
          let parts = and_parts z.loaded (is_up c z.up) e in
          let it = parent_is xs spare epoch room failed bad met rooted sound c i z got (ap stands_of got ∙ parts.0) (up_is c z.up parts.1) in
          let h = it.0 in
          let clash : true ≡ false = sym h.stands ∙ ap (λ m. stands_of (slice_get xs m)) it.1 ∙ away in
          absurd (cc)
    ]

pub only_child : (xs : List Node) (spare epoch room failed bad : ℕ) (met : Option (ℕ × Why)) → AllRooted xs → IsSound (forest_with xs spare epoch room failed bad met) → (at key i : ℕ) (x : Node) → slice_get xs i ≡ Some x → is_child at key x ≡ true → position (is_child at key) xs ≡ Some i
only_child xs spare epoch room failed bad met rooted sound at key i x read child =
    let a = and_parts x.loaded (is_up at x.up && _) child in
    let b = and_parts (is_up at x.up) _ a.1 in
    let low : x.low ≡ key = alike x.low key b.1 in
    sym (ap (λ k. position (is_child at k) xs) low) ∙ link_found _ _ i (above_is xs spare epoch room failed bad met rooted sound at i x read (ap stands_of read ∙ a.0) (up_is at x.up b.0))

-- a hint that names a node there
pub hinted : (xs : List Node) (at key i : ℕ) → ((j : ℕ) (x : Node) → slice_get xs j ≡ Some x → is_child at key x ≡ true → position (is_child at key) xs ≡ Some j) → is_child_of at key (slice_get xs i) ≡ true → position (is_child at key) xs ≡ Some i
hinted xs at key i one e = go (slice_get xs i) refl e
  where
    go : (o : Option Node) → slice_get xs i ≡ o → is_child_of at key o ≡ true → position (is_child at key) xs ≡ Some i
    go None read e = absurd (cc)
    go (Some x) read e = one i x read e
