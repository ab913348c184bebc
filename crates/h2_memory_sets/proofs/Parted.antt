-- What stands of the nodes of inodes, once a node took over a part of another.
use Rattle.std.proofs.Common.{◌≡◌, ℕ, ◌<◌, Bool, true, false, arith, refl, cond, sym, ◌∙◌, ap, List, [], length, Option, Some, None, subst, ◌⊎◌, inl, inr, slice_get, nat_eq}
use Rattle.std.proofs.lemmas.Bool.{cases_lt}
use Rattle.std.proofs.lemmas.Option.{none-some, slice_get_within}
use Rattle.h2_ref.specs.declared.reference.Ref.{Ref}
use Rattle.h2_set.specs.Ranges.{holds}
use Rattle.h2_set.specs.RefSet.{RefSet}
use Rattle.h2_set.specs.ChangeLaws.{same_or_not}
use Rattle.h2_inode.specs.declared.inode.Body.TheVariants.{Bytes}
use Rattle.h2_inode.specs.declared.inode.Inode.{Inode}
use Rattle.h2_memory_sets.specs.declared.node.Node.{Node}
use Rattle.h2_memory_sets.specs.Kept.{is_known, AreKept, IsInodeRoot}
use Rattle.h2_memory_sets.specs.View.{moved, moved_up, new_node, parted, with_set}
use Rattle.h2_memory_sets.proofs.Keeping.{CameFrom, IsPlain, kept_from, refit_known, refit_root}
use Rattle.h2_memory_sets.proofs.Parting.{at_new, at_here, at_other, past, item_at, one_of}

-- what is above a node once some have moved was there, or is the new node
moved_above : (at c : ℕ) (r : Ref) (low : ℕ) (u : Option ℕ) (v : ℕ) → moved_up at c r low u ≡ Some v → (u ≡ Some v) ⊎ (v ≡ c)
moved_above at c r low None v e = absurd (none-some v e)
moved_above at c r low (Some u) v e = first (nat_eq u c) e
  where
    third : (b : Bool) → cond b (Some c) (Some u) ≡ Some v → (Some u ≡ Some v) ⊎ (v ≡ c)
    third true e = inr (sym (one_of c v e))
    third false e = inl e

    second : (b : Bool) → cond b (cond (holds low r) (Some c) (Some u)) (Some u) ≡ Some v → (Some u ≡ Some v) ⊎ (v ≡ c)
    second true e = third (holds low r) e
    second false e = inl e

    first : (b : Bool) → cond b None (cond (nat_eq u at) (cond (holds low r) (Some c) (Some u)) (Some u)) ≡ Some v → (Some u ≡ Some v) ⊎ (v ≡ c)
    first true e = absurd (none-some v e)
    first false e = second (nat_eq u at) e

module _ (xs : List Node) (at : ℕ) (x : Node) (whole part : RefSet) (r : Ref) (kept : AreKept xs) (read : slice_get xs at ≡ Some x) (bare : (w : Inode) (bytes : List ℕ) → x.inode ≡ Some w → w.body ≡ Bytes bytes → whole ≡ record { refs = []; capacity = 4 }) where
  ys : List Node
  ys = parted xs at x whole part r

  long : length xs < length (parted xs at x whole part r)
  long = slice_get_within (parted xs at x whole part r) (length xs) (new_node at x part r) (at_new xs at x whole part r read)

  within : at < length xs
  within = slice_get_within xs at x read

  came : (i : ℕ) (z : Node) → slice_get xs i ≡ Some z → (y : Node) → ((v : Inode) → (let n : Node = moved at (length xs) r y in n.inode) ≡ Some v → IsInodeRoot i (moved at (length xs) r y) v) → y.owner ≡ z.owner → y.root ≡ z.root → y.up ≡ z.up → y.loaded ≡ z.loaded → (is_known z.inode ≡ true → is_known y.inode ≡ true) → CameFrom xs (length (parted xs at x whole part r)) i (moved at (length xs) r y)
  came i z got y holds owner root up loaded known = record {
    old = z;
    read = got;
    owner = owner;
    root = root;
    bare = λ e. ap (moved_up at (length xs) r y.low) (up ∙ e);
    above = λ u e. elim (moved_above at (length xs) r y.low y.up u e) as (λ _. u < length (parted xs at x whole part r)) [
      | inl was ↦ let lt = kept.above i z u got (sym up ∙ was) in omega (arith, lt, long)
      | inr new ↦ omega (arith, new, long)
    ];
    loaded = λ o own on. sym loaded ∙ on;
    inode = holds;
    known = λ on e. known e;
  }

  moved_root : (i : ℕ) (y : Node) (v : Inode) → IsInodeRoot i y v → IsInodeRoot i (moved at (length xs) r y) v
  moved_root i y v it = record { root = it.root; bare = ap (moved_up at (length xs) r y.low) it.bare; low = it.low; bits = it.bits; leaf_bits = it.leaf_bits; set = it.set; number = it.number }

  from : (i : ℕ) (y : Node) → slice_get (parted xs at x whole part r) i ≡ Some y → CameFrom xs (length (parted xs at x whole part r)) i y ⊎ IsPlain (length (parted xs at x whole part r)) y
  from i y got = elim (same_or_not i (length xs)) as (λ _. CameFrom xs (length (parted xs at x whole part r)) i y ⊎ IsPlain (length (parted xs at x whole part r)) y) [
    | inl e ↦
        let is : new_node at x part r ≡ y = one_of (new_node at x part r) y (sym (at_new xs at x whole part r read) ∙ subst (λ z. slice_get (parted xs at x whole part r) z ≡ Some y) e got) in
        inr (subst (IsPlain (length (parted xs at x whole part r))) is (record { above = λ u up. (let same : at ≡ u = one_of at u up in omega (arith, same, within, long)); owner = refl; inode = refl }))
    | inr ne ↦ elim (same_or_not i at) as (λ _. CameFrom xs (length (parted xs at x whole part r)) i y ⊎ IsPlain (length (parted xs at x whole part r)) y) [
      | inl e ↦
          let is : moved at (length xs) r (with_set x whole) ≡ y = one_of (moved at (length xs) r (with_set x whole)) y (sym (at_here xs at x whole part r read) ∙ subst (λ z. slice_get (parted xs at x whole part r) z ≡ Some y) e got) in
          inl (subst (λ z. CameFrom xs (length (parted xs at x whole part r)) z y) (sym e) (subst (CameFrom xs (length (parted xs at x whole part r)) at) is (came at x read (with_set x whole) (λ v holds. moved_root at (with_set x whole) v (refit_root at x whole (λ w h. kept.inode at x w read h) bare v holds)) refl refl refl refl (λ e. refit_known x.inode whole ∙ e))))
      | inr off ↦ elim (cases_lt i (length xs)) as (λ _. CameFrom xs (length (parted xs at x whole part r)) i y ⊎ IsPlain (length (parted xs at x whole part r)) y) [
        | inr ge ↦ absurd (none-some y (sym (past xs at x whole part r read i ne ge) ∙ got))
        | inl lt ↦
            let it = item_at xs i lt in
            let z = it.0 in
            let is : moved at (length xs) r z ≡ y = one_of (moved at (length xs) r z) y (sym (at_other xs at x whole part r read i z off it.1) ∙ got) in
            inl (subst (CameFrom xs (length (parted xs at x whole part r)) i) is (came i z it.1 z (λ v holds. moved_root i z v (kept.inode i z v it.1 holds)) refl refl refl refl (λ e. e)))
      ]
    ]
  ]

  pub kept_part : AreKept (parted xs at x whole part r)
  kept_part = kept_from xs (parted xs at x whole part r) kept from
