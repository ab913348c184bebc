-- How the split rule's range parts the set of a node.
use Rattle.std.proofs.Common.{◌≡◌, ℕ, ◌+◌, ◌<◌, ◌≤◌, ◌^◌, ◌%◌, Bool, true, false, arith, refl, sym, length, Some, subst, ◌⊎◌, inl, inr, slice_get, suc}
use Rattle.std.specs.Prelude.{count_by}
use Rattle.std.proofs.lemmas.Nat.{pow_pos}
use Rattle.h2_ref.specs.declared.reference.Ref.{Ref}
use Rattle.h2_set.specs.declared.set.Split.{Split}
use Rattle.h2_set.specs.Ranges.{Rising, limit, put, lies, is_indirect, IsApart, AllAligned, IsOneClass, Sides}
use Rattle.h2_set.specs.RefSet.{RefSet, HoldsAll}
use Rattle.h2_set.specs.Forest.{Forest, refs, Fits, IsSoundNode}
use Rattle.h2_set.specs.Calls.{MadeFrom}
use Rattle.h2_set.specs.LeafLaws.{place_above}
use Rattle.h2_set.specs.EditLaws.{Rising-put, length-put}
use Rattle.h2_set.specs.PutLaws.{put_from}
use Rattle.h2_set.specs.PartLaws.{lies_inside}
use Rattle.h2_set.specs.SplitLaws.{nested, below_high, in_lies, counted, split_two, split_shorter, split_fewer, split_inside, split_sides, split_few}

-- the range of a node lies in one half of all keys
pub one_half : (f : Forest) (at : ℕ) → IsSoundNode f at → (f.low at + 2 ^ f.bits at ≤ 2 ^ 63) ⊎ (2 ^ 63 ≤ f.low at)
one_half f at node =
    let zero_is : 0 % 2 ^ 63 ≡ 0 = refl in
    elim (nested (f.low at) (f.bits at) 0 63 node.aligned zero_is (omega (arith, node.slope))) as (λ _. (f.low at + 2 ^ f.bits at ≤ 2 ^ 63) ⊎ (2 ^ 63 ≤ f.low at)) [
      | inl in_it ↦ inl (omega (arith, in_it.1))
      | inr out ↦ elim out as (λ _. (f.low at + 2 ^ f.bits at ≤ 2 ^ 63) ⊎ (2 ^ 63 ≤ f.low at)) [
        | inl before ↦ let pos = pow_pos (f.bits at) in absurd (omega (arith, before, pos))
        | inr behind ↦ inr (omega (arith, behind))
      ]
    ]

-- a key of the lower half
small_key : (q : Ref) → (q.key < 2 ^ 62) ⊎ (2 ^ 63 ≤ q.key) → q.key < 2 ^ 63 → q.key < 2 ^ 62
small_key q (inl small) lower = small
small_key q (inr large) lower = absurd (omega (arith, large, lower))

-- a set with one more in its order, in a sound node
module _ (f : Forest) (at : ℕ) (r : Ref) (node : IsSoundNode f at) (apart : IsApart r (refs f at)) (fits : Fits f at r) (low : f.low at ≤ r.key) (high : limit r ≤ f.low at + 2 ^ f.bits at) where
  pub put_rising : Rising (f.low at) (f.low at + 2 ^ f.bits at) (put r (refs f at))
  put_rising = Rising-put _ _ (refs f at) r node.inside apart low high

  pub put_fits : (i : ℕ) (q : Ref) → slice_get (put r (refs f at)) i ≡ Some q → Fits f at q
  put_fits i q read = elim (put_from r (refs f at) apart i q read) as (λ _. Fits f at q) [
    | inl new ↦ subst (Fits f at) (sym new) fits
    | inr old ↦ node.fits old.0 q old.1
  ]

  pub put_aligned : AllAligned (put r (refs f at))
  put_aligned i q read = (put_fits i q read).aligned

  pub put_all : HoldsAll (put r (refs f at)) (f.low at) (f.bits at)
  put_all = record {
    aligned = node.aligned;
    all = λ i q read. in_lies _ _ q (place_above _ _ (put r (refs f at)) i q put_rising read) (below_high _ _ (put r (refs f at)) i q put_rising read);
  }

  pub put_class : IsOneClass (put r (refs f at))
  put_class = elim (one_half f at node) as (λ _. IsOneClass (put r (refs f at))) [
    | inl lower ↦ inl (λ i q read.
        let top = below_high _ _ (put r (refs f at)) i q put_rising read in
        let pos = pow_pos q.keybits in
        small_key q (put_fits i q read).class (omega (arith, top, pos, lower)))
    | inr upper ↦ inr (λ i q read. let from = place_above _ _ (put r (refs f at)) i q put_rising read in omega (arith, from, upper))
  ]

-- what the range of a split is to the node that is split
pub record PartsNode (f : Forest) (at : ℕ) (r : Ref) (key bits : ℕ) : Type 0 where
  pub range_low : f.low at ≤ key
  pub range_high : key + 2 ^ bits ≤ f.low at + 2 ^ f.bits at
  pub fewer : bits < f.bits at
  pub class : (key < 2 ^ 62) ⊎ (2 ^ 63 ≤ key)
  pub wide : f.leaf_bits (f.root at) < bits
  pub sides : (i : ℕ) (q : Ref) → slice_get (put r (refs f at)) i ≡ Some q → Sides key bits q
  pub shorter : (i : ℕ) (q : Ref) → slice_get (put r (refs f at)) i ≡ Some q → lies key bits q ≡ true → q.keybits < bits
  pub two : 2 ≤ count_by (lies key bits) (put r (refs f at))
  pub few : count_by (lies key bits) (put r (refs f at)) < suc (length (refs f at))

pub parts_node : (f : Forest) (at : ℕ) (r : Ref) (set : RefSet) (s : Split) → IsSoundNode f at → MadeFrom f at r set s → PartsNode f at r s.key s.keybits
parts_node f at r set s node made =
    let all = put r (refs f at) in
    let rising = put_rising f at r node made.apart made.fits made.low made.high in
    let aligned = put_aligned f at r node made.apart made.fits made.low made.high in
    let holds = put_all f at r node made.apart made.fits made.low made.high in
    let fits = put_fits f at r node made.apart made.fits made.low made.high in
    let n = length-put r (refs f at) made.apart in
    let three : 3 ≤ length all = four node.set.known made.full n in
    let inside = split_inside all _ _ rising aligned s.key s.keybits three made.split _ _ holds in
    let two = split_two all _ _ rising aligned s.key s.keybits three made.split in
    let shorter = split_shorter all _ _ rising aligned s.key s.keybits three made.split in
    let few = split_few all _ _ rising aligned s.key s.keybits three made.split in
    let it = counted (lies s.key s.keybits) all (omega (arith, two)) in
    let less = shorter it.place it.ref it.read it.holds in
    let first = (lies_inside s.key s.keybits it.ref it.holds).0 in
    let top = below_high _ _ all it.place it.ref rising it.read in
    record {
      range_low = inside.0;
      range_high = inside.1;
      fewer = split_fewer all _ _ rising aligned s.key s.keybits three made.split _ _ holds;
      class = elim (one_half f at node) as (λ _. (s.key < 2 ^ 62) ⊎ (2 ^ 63 ≤ s.key)) [
        | inl lower ↦ let pos = pow_pos it.ref.keybits in let small = small_key it.ref (fits it.place it.ref it.read).class (omega (arith, top, pos, lower)) in inl (omega (arith, first, small))
        | inr upper ↦ inr (omega (arith, inside.0, upper))
      ];
      wide = longer it.ref (is_indirect it.ref) refl (fits it.place it.ref it.read) less;
      sides = split_sides all _ _ rising aligned s.key s.keybits three made.split;
      shorter = shorter;
      two = two;
      few = omega (arith, few, n);
    }
  where
    four : {n m k : ℕ} → (n ≡ 4) ⊎ (n ≡ 32) → m ≡ n → k ≡ suc m → 3 ≤ k
    four (inl e) e2 e3 = omega (arith, e, e2, e3)
    four (inr e) e2 e3 = omega (arith, e, e2, e3)

    longer : (q : Ref) (b : Bool) → is_indirect q ≡ b → Fits f at q → q.keybits < s.keybits → f.leaf_bits (f.root at) < s.keybits
    longer q false e h less = omega (arith, h.leaf e, less)
    longer q true e h less = omega (arith, h.wide e, less)
