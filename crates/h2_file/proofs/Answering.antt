-- What is kept beside sets over three changes, and what is loaded by calls one after the other.
use Rattle.std.proofs.Common.{◌≡◌, ℕ, ◌+◌, ◌<◌, ◌≤◌, ◌^◌, true, false, arith, sym, ◌∙◌, ap, ◌⊎◌, inl, inr}
use Rattle.std.proofs.lemmas.Bool.{cases_Bool}
use Rattle.h2_set.specs.Forest.{Forest}
use Rattle.h2_set.specs.Calls.{InPlace, KeepsBeside}
use Rattle.h2_tree.specs.Changes.{LoadsTouched, LoadsIn}

Touched-on : (f g h : Forest) (from to : ℕ) → ((m : ℕ) → g.stands m ≡ true → h.stands m ≡ true → InPlace g h m) → LoadsTouched f g from to → LoadsTouched g h from to → LoadsTouched f h from to
Touched-on f g h from to places a b = record {
  only = λ m st. elim (b.only m st) as (λ _. (f.stands m ≡ true) ⊎ ((h.low m ≤ to) × (from < h.low m + 2 ^ h.bits m))) [
    | inr new ↦ inr new
    | inl was ↦ elim (a.only m was) as (λ _. (f.stands m ≡ true) ⊎ ((h.low m ≤ to) × (from < h.low m + 2 ^ h.bits m))) [
      | inl first ↦ inl first
      | inr new ↦
          let place = places m was st in
          inr (omega (arith, place.low, new.0), omega (arith, place.low, ap (λ z. 2 ^ z) place.bits, new.1))
    ]
  ];
}

-- where no node was loaded
pub none_in : (f g : Forest) (at from to : ℕ) → ((m : ℕ) → g.stands m ≡ true → f.stands m ≡ true) → LoadsIn f g at from to
none_in f g at from to none_new = record {
  touched = record { only = λ m st. inl (none_new m st) };
  tree = λ m out st. absurd (let was = none_new m st in let clash : true ≡ false = sym was ∙ out in cc);
  some = λ m out st. absurd (let was = none_new m st in let clash : true ≡ false = sym was ∙ out in cc);
}

pub In-refl : (f : Forest) (at from to : ℕ) → LoadsIn f f at from to
In-refl f at from to = none_in f f at from to (λ m st. st)

-- loads in the tree of node at, and then in that of node c, which is the same
pub In-on : (f g h : Forest) (at c from to : ℕ) → g.root c ≡ f.root at → ((m : ℕ) → g.stands m ≡ true → h.stands m ≡ true → InPlace g h m) → LoadsIn f g at from to → LoadsIn g h c from to → LoadsIn f h at from to
In-on f g h at c from to root places a b = record {
  touched = Touched-on f g h from to places a.touched b.touched;
  tree = λ m out st. elim (cases_Bool (g.stands m)) as (λ _. h.root m ≡ f.root at) [
    | inl was ↦ (places m was st).root ∙ a.tree m out was
    | inr new ↦ b.tree m new st ∙ root
  ];
  some = λ m out st. elim (cases_Bool (g.stands m)) as (λ _. from ≤ to) [
    | inl was ↦ a.some m out was
    | inr new ↦ b.some m new st
  ];
}

-- three changes, of which the first loses no node and the last makes none
pub beside_over : {B : Type 0} (f h k g : Forest) (a b c d : ℕ → B) → ((m : ℕ) → f.stands m ≡ true → h.stands m ≡ true) → ((m : ℕ) → g.stands m ≡ true → k.stands m ≡ true) → KeepsBeside f h a b → KeepsBeside h k b c → KeepsBeside k g c d → KeepsBeside f g a d
beside_over f h k g a b c d still none_new first second third = record { same = λ m st st'. let there = still m st in let was = none_new m st' in third.same m was st' ∙ (second.same m there was ∙ first.same m st there) }
