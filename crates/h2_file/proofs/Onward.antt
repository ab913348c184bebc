-- What a loaded path at a node leads on to.
use Rattle.std.proofs.Common.{◌≡◌, ℕ, true, false, arith, sym, ◌∙◌, ap, List, Option, Some, subst, inl, inr, slice_get}
use Rattle.h2_ref.specs.declared.reference.Ref.{Ref}
use Rattle.h2_set.specs.Ranges.{Rising, holds, is_indirect}
use Rattle.h2_set.specs.Forest.{Forest, refs, loaded, IsSound, Reaches, nowhere, here, below}
use Rattle.h2_set.specs.LeafLaws.{holds_inside}
use Rattle.h2_set.specs.ChangeLaws.{same_or_not, apart_places}
use Rattle.h2_file.specs.Blocks.{HasContents}

pub contents_root : (f : Forest) (m n : ℕ) → f.root m ≡ f.root n → HasContents f m → HasContents f n
contents_root f m n e h = record {
  kinds = λ r may. h.kinds r (subst (λ k. f.allows k r ≡ true) (sym e) may);
  kinds_all = λ r is held. subst (λ k. f.allows k r ≡ true) e (h.kinds_all r is held);
  keybits = ap f.leaf_bits (sym e) ∙ h.keybits;
}

-- what a loaded path at a node leads on to
pub record Onward (f : Forest) (key at : ℕ) (r : Ref) : Type 0 where
  pub next : ℕ
  pub link : f.link at r.key ≡ loaded next
  pub found : Option Ref
  pub rest : Reaches f key next found

pub holder : (low high key : ℕ) (rs : List Ref) (i j : ℕ) (q r : Ref) → Rising low high rs → slice_get rs i ≡ Some q → slice_get rs j ≡ Some r → holds key q ≡ true → holds key r ≡ true → r ≡ q
holder low high key rs i j q r h read_q read_r in_q in_r =
    let a = holds_inside key q in_q in
    let b = holds_inside key r in_r in
    elim (same_or_not j i) as (λ _. r ≡ q) [
      | inl e ↦ let moved : slice_get rs i ≡ Some r = subst (λ z. slice_get rs z ≡ Some r) e read_r in cc
      | inr ne ↦ elim (apart_places low high rs i j q r h read_q read_r ne) as (λ _. r ≡ q) [
        | inl lower ↦ absurd (omega (arith, lower, a.0, b.1))
        | inr upper ↦ absurd (omega (arith, upper, a.1, b.0))
      ]
    ]

pub onward : {f : Forest} {key at : ℕ} {o : Option Ref} → IsSound f → Reaches f key at o → f.stands at ≡ true → (i : ℕ) (r : Ref) → slice_get (refs f at) i ≡ Some r → holds key r ≡ true → is_indirect r ≡ true → Onward f key at r
onward sound (nowhere miss) stands i r read in_r ind = absurd (let clash : true ≡ false = sym in_r ∙ miss i r read in cc)
onward {key = key} sound (here {at = at} {r = q} j read_q in_q leaf) stands i r read in_r ind =
    let same : r ≡ q = holder _ _ key _ j i q r (sound.node at stands).inside read_q read in_q in_r in
    absurd (let clash : false ≡ true = sym leaf ∙ (ap (λ (x : Ref). is_indirect x) (sym same) ∙ ind) in cc)
onward {f} {key} sound (below {at = at} {c = c} {r = q} {o = o} j read_q in_q ind_q link rest) stands i r read in_r ind =
    let same : r ≡ q = holder _ _ key _ j i q r (sound.node at stands).inside read_q read in_q in_r in
    subst (λ (x : Ref). Onward f key at x) (sym same) (record { next = c; link = link; found = o; rest = rest })
