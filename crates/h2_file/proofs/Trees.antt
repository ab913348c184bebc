-- Where nodes of a tree stand to one another: of two whose ranges have a key in common, one is below the other.
use Rattle.std.proofs.Common.{◌≡◌, ℕ, ◌+◌, ◌<◌, ◌≤◌, ◌^◌, true, arith, refl, sym, ◌∙◌, ap, Some, subst, inl, inr, slice_get, suc, zero}
use Rattle.std.proofs.lemmas.Nat.{pow_pos}
use Rattle.h2_ref.specs.declared.reference.Ref.{Ref}
use Rattle.h2_set.specs.Ranges.{limit, holds, is_indirect}
use Rattle.h2_set.specs.Forest.{Forest, refs, loaded, IsSound}
use Rattle.h2_set.specs.LeafLaws.{holds_inside, place_above}
use Rattle.h2_set.specs.SplitLaws.{below_high}
use Rattle.h2_set.specs.PathLaws.{in_holds, same_holder}
use Rattle.h2_set.specs.ChangeLaws.{same_or_not}
use Rattle.h2_tree.specs.Changes.{Descends, arrived, onward}

-- A node that a walk down from another leads to

pub record IsWithin (f : Forest) (c n : ℕ) : Type 0 where
  pub root : f.root n ≡ f.root c
  pub low : f.low c ≤ f.low n
  pub high : f.low n + 2 ^ f.bits n ≤ f.low c + 2 ^ f.bits c
  pub bits : f.bits n ≤ f.bits c
  pub belongs : (top key : ℕ) → f.belongs n top key ≡ f.belongs c top key

pub descends_within : {f : Forest} {key c n : ℕ} → IsSound f → Descends f key c n → f.stands c ≡ true → IsWithin f c n
descends_within sound arrived stands = record { root = refl; low = omega arith; high = omega arith; bits = omega arith; belongs = λ top key. refl }
descends_within sound (onward {at = at} {c = d} {r = r} i read in_r ind link rest) stands =
    let kid = (sound.node at stands).child r.key d link in
    let it = descends_within sound rest kid.stands in
    record {
      root = it.root ∙ kid.root;
      low = omega (arith, it.low, kid.above);
      high = omega (arith, it.high, kid.within);
      bits = omega (arith, it.bits, kid.fewer);
      belongs = λ top key. it.belongs top key ∙ kid.belongs top key;
    }

-- a walk down that goes on by one reference
one_more : {f : Forest} {key a b : ℕ} (i c : ℕ) (r : Ref) → Descends f key a b → slice_get (refs f b) i ≡ Some r → holds key r ≡ true → is_indirect r ≡ true → f.link b r.key ≡ loaded c → Descends f key a c
one_more i c r arrived read in_r ind link = onward {r = r} i read in_r ind link arrived
one_more i c r (onward {c = d} {r = q} j read' in_q ind' link' rest) read in_r ind link = onward {c = d} {r = q} j read' in_q ind' link' (one_more i c r rest read in_r ind link)

-- the walk down from the root to a node whose range has the key
module _ (f : Forest) (key : ℕ) (sound : IsSound f) where
  from_root : (n at : ℕ) → 64 ≤ f.bits at + n → f.stands at ≡ true → f.low at ≤ key → key < f.low at + 2 ^ f.bits at → Descends f key (f.root at) at
  from_root zero at few stands low high = absurd (let slope = (sound.node at stands).slope in omega (arith, few, slope))
  from_root (suc n) at few stands low high = elim (same_or_not (f.root at) at) as (λ _. Descends f key (f.root at) at) [
    | inl top ↦ subst (λ z. Descends f key z at) (sym top) arrived
    | inr ne ↦
        let up = sound.parent at stands ne in
        let node = sound.node up.parent up.stands in
        let child = node.child (f.low at) at up.link in
        let named = node.named (f.low at) at up.link in
        let link : f.link up.parent named.ref.key ≡ loaded at = ap (f.link up.parent) named.key ∙ up.link in
        let bits = node.bits named.place at named.ref named.read named.indirect link in
        let in_ref = in_holds key named.ref (omega (arith, named.key, low)) (omega (arith, named.key, high, ap (λ z. 2 ^ z) bits)) in
        let from = from_root n up.parent (omega (arith, few, child.fewer)) up.stands (omega (arith, child.above, low)) (omega (arith, child.within, high)) in
        subst (λ z. Descends f key z at) (sym child.root) (one_more named.place at named.ref from named.read in_ref named.indirect link)
  ]

-- two walks of one key: the one that ends lower leads through the end of the other
through : {f : Forest} {key top at n : ℕ} → IsSound f → f.stands top ≡ true → Descends f key top n → Descends f key top at → f.bits n < f.bits at → Descends f key at n
through sound stands way arrived fewer = way
through sound stands arrived (onward {c = d} {r = r} i read in_r ind link rest) fewer = absurd (let it = descends_within sound (onward {c = d} {r = r} i read in_r ind link rest) stands in let le = it.bits in omega (arith, le, fewer))
through {f} {key} {n = n} sound stands (onward {at = top} {c = c} {r = r} i read in_r ind link rest) (onward {c = d} {r = q} j read' in_q ind' link' rest') fewer =
    let node = sound.node top stands in
    let same : q ≡ r = same_holder _ _ key (refs f top) i j r q node.inside read read' in_r in_q in
    let link_d : f.link top r.key ≡ loaded d = subst (λ (x : Ref). f.link top x.key ≡ loaded d) same link' in
    let dc : c ≡ d = loaded_same (sym link ∙ link_d) in
    let kid = node.child r.key d link_d in
    through sound kid.stands (subst (λ z. Descends f key z n) dc rest) rest' fewer
  where
    loaded_same : {a b : ℕ} → loaded a ≡ loaded b → a ≡ b
    loaded_same e = (cc)

-- what a walk's first reference is, where it isn't at its end
below_ref : {f : Forest} {key at n : ℕ} → IsSound f → f.stands at ≡ true → Descends f key at n → f.bits n < f.bits at → (place : ℕ) (ref : Ref) → slice_get (refs f at) place ≡ Some ref → holds key ref ≡ true → (ref.key ≤ f.low n) × (f.low n + 2 ^ f.bits n ≤ limit ref)
below_ref sound stands arrived fewer place ref read in_ref = absurd (omega (arith, fewer))
below_ref {f} {key} {n = n} sound stands (onward {at = at} {c = c} {r = r} i read' in_r ind link rest) fewer place ref read in_ref =
    let node = sound.node at stands in
    let same : ref ≡ r = same_holder _ _ key (refs f at) i place r ref node.inside read' read in_r in_ref in
    let kid = node.child r.key c link in
    let bits = node.bits i c r read' ind link in
    let it = descends_within sound rest kid.stands in
    subst (λ (x : Ref). (x.key ≤ f.low n) × (f.low n + 2 ^ f.bits n ≤ limit x)) (sym same) (omega (arith, it.low, kid.low), omega (arith, it.high, kid.low, ap (λ z. 2 ^ z) bits))

-- a node below another lies in the range of the reference there that has its first key
pub in_ref : (f : Forest) (at n place : ℕ) (ref : Ref) → IsSound f → f.stands at ≡ true → f.stands n ≡ true → f.root n ≡ f.root at → f.bits n < f.bits at → slice_get (refs f at) place ≡ Some ref → holds (f.low n) ref ≡ true → (ref.key ≤ f.low n) × (f.low n + 2 ^ f.bits n ≤ limit ref)
in_ref f at n place ref sound stands st root fewer read in_n =
    let key = f.low n in
    let node = sound.node at stands in
    let held = holds_inside key ref in_n in
    let low = place_above _ _ (refs f at) place ref node.inside read in
    let high = below_high _ _ (refs f at) place ref node.inside read in
    let pos = pow_pos (f.bits n) in
    let to_n : Descends f key (f.root at) n = subst (λ z. Descends f key z n) root (from_root f key sound 64 n (omega arith) st (omega arith) (omega (arith, pos))) in
    let to_at = from_root f key sound 64 at (omega arith) stands (omega (arith, low, held.0)) (omega (arith, high, held.1)) in
    below_ref sound stands (through sound (sound.top at stands).0 to_n to_at fewer) fewer place ref read in_n
