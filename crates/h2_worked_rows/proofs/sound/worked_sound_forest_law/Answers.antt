use Rattle.std.proofs.Common.{◌≡◌, ◌≤◌, ◌<◌, ◌^◌, ◌⊎◌, ◌||◌, ℕ, Bool, true, false, nat_eq, nat_lt, [], ◌∷◌, Some, refl, sym, inl, inr, zero, suc, slice_get, subst, true≢false, arith}
use Rattle.std.proofs.lemmas.Option.{none-some, same_Some}
use Rattle.std.proofs.lemmas.Bool.{eqb-true}
use Rattle.h2_ref.specs.declared.reference.Ref.{Ref}
use Rattle.h2_set.specs.Forest.{loaded, untold, Fits, IsSoundNode, IsSound, HasOwner, IsOfInode, IsRootOf, here}
use Rattle.h2_worked_rows.specs.Refs.{block_at, fifth_leaf}
use Rattle.h2_worked_rows.specs.Trees.{is_fifth, is_seventh, two_roots, without_fifth}
use Rattle.h2_worked_rows.proofs.Roots.{fifth_is, fifth_root, no_third}
use Rattle.h2_worked_rows.proofs.sound.worked_sound_forest_law.Goals as goal

no_link : (c : ℕ) → untold ≡ loaded c → ⊥
no_link c e = cc

-- Both roots are sound

fifth_fits : Fits two_roots 0 fifth_leaf
fifth_fits = record {
  aligned = refl;
  class = inl (let lt : 5 < 2 ^ 62 = omega arith in lt);
  leaf = λ e. refl;
  allowed = λ e. refl;
  held = λ e. absurd (true≢false (sym e));
  wide = λ e. absurd (true≢false (sym e));
  some_bits = λ e. absurd (true≢false (sym e));
  falls = λ e. absurd (true≢false (sym e));
}

block_fits : Fits two_roots 1 (block_at 0)
block_fits = record {
  aligned = refl;
  class = inl (let lt : 0 < 2 ^ 62 = omega arith in lt);
  leaf = λ e. refl;
  allowed = λ e. refl;
  held = λ e. absurd (true≢false (sym e));
  wide = λ e. absurd (true≢false (sym e));
  some_bits = λ e. absurd (true≢false (sym e));
  falls = λ e. absurd (true≢false (sym e));
}

one_fits : (m : ℕ) (leaf : Ref) → Fits two_roots m leaf → (i : ℕ) (r : Ref) → slice_get (leaf ∷ []) i ≡ Some r → Fits two_roots m r
one_fits m leaf fits zero r e = subst (λ (q : Ref). Fits two_roots m q) (same_Some leaf r e) fits
one_fits m leaf fits (suc i) r e = absurd (none-some r e)

first_node : IsSoundNode two_roots 0
first_node = record {
  set = record { rising = (omega arith, omega arith); fits = omega arith; known = inl refl };
  root_capacity = λ e. refl;
  block_capacity = λ other. absurd (other refl);
  inside = (omega arith, omega arith);
  aligned = refl;
  ends = omega arith;
  fits = one_fits 0 fifth_leaf fifth_fits;
  some = λ other. absurd (other refl);
  child = λ k c e. absurd (no_link c e);
  named = λ k c e. absurd (no_link c e);
  bits = λ i c r read indirect e. absurd (no_link c e);
  top = λ e. refl;
  half = λ e. refl;
  slope = omega arith;
}

second_node : IsSoundNode two_roots 1
second_node = record {
  set = record { rising = (omega arith, omega arith); fits = omega arith; known = inl refl };
  root_capacity = λ e. refl;
  block_capacity = λ other. absurd (other refl);
  inside = (omega arith, omega arith);
  aligned = refl;
  ends = omega arith;
  fits = one_fits 1 (block_at 0) block_fits;
  some = λ other. absurd (other refl);
  child = λ k c e. absurd (no_link c e);
  named = λ k c e. absurd (no_link c e);
  bits = λ i c r read indirect e. absurd (no_link c e);
  top = λ e. refl;
  half = λ e. refl;
  slope = omega arith;
}

node_is : (m : ℕ) → nat_lt m 2 ≡ true → IsSoundNode two_roots m
node_is zero stands = first_node
node_is (suc zero) stands = second_node
node_is (suc (suc m)) stands = absurd (no_third m stands)

owner_is : (m top key : ℕ) → is_fifth m top key ≡ true → HasOwner two_roots m top key
owner_is m top key e =
    let is = fifth_is m top key e in
    subst (λ x. HasOwner two_roots x top key) (sym is.0) (subst (λ x. HasOwner two_roots 1 x key) (sym is.1) (subst (λ x. HasOwner two_roots 1 0 x) (sym is.2) first_owner))
  where
    first_owner : HasOwner two_roots 1 0 5
    first_owner = record {
      other = λ same. absurd (let no : 1 ≡ 0 = same in omega arith);
      stands = refl;
      root = refl;
      leaf = fifth_leaf;
      key_is = refl;
      kind_is = refl;
      path = here 0 refl refl refl;
    }

inode_is : (m top key : ℕ) → is_fifth m top key ≡ true → IsOfInode two_roots m top key
inode_is m top key e =
    let is = fifth_is m top key e in
    subst (λ x. IsOfInode two_roots x top key) (sym is.0) (subst (λ x. IsOfInode two_roots 1 x key) (sym is.1) (subst (λ x. IsOfInode two_roots 1 0 x) (sym is.2) of_fifth))
  where
    of_fifth : IsOfInode two_roots 1 0 5
    of_fifth = record { inode = 1; named = fifth_root; within = inl refl }

chain_is : (m t k u j : ℕ) → is_fifth m t k ≡ true → is_fifth t u j ≡ true → is_fifth m u j ≡ true
chain_is m t k u j e f = absurd (let t_zero : t ≡ 0 = (fifth_is m t k e).1 in let t_one : t ≡ 1 = (fifth_is t u j f).0 in omega (arith, t_zero, t_one))

is_sound : IsSound two_roots
is_sound = record {
  node = node_is;
  held = λ m e. absurd (true≢false (sym e));
  top = λ m stands. (stands, refl);
  parent = λ m stands other. absurd (other refl);
  owner = λ m top key stands e. owner_is m top key e;
  inode = λ m top key stands e. inode_is m top key e;
  chain = λ m t k u j stands e f. chain_is m t k u j e f;
  epoch = (omega arith, omega arith);
}

-- A root whose inode isn't loaded

either : (a b : Bool) → (a || b) ≡ true → (a ≡ true) ⊎ (b ≡ true)
either true b e = inl refl
either false b e = inr e

no_root : (c : ℕ) → IsRootOf without_fifth 0 5 c → ⊥
no_root c is = elim (either (nat_eq c 0) (nat_eq c 2) is.stands) [
  | inl e ↦ true≢false (sym (subst (λ x. is_seventh x 0 5 ≡ true) (eqb-true c 0 e) ((is.belongs 0 5).1 (inl (refl, refl)))))
  | inr e ↦ elim ((is.belongs 1 7).0 (subst (λ x. is_seventh x 1 7 ≡ true) (sym (eqb-true c 2 e)) refl)) [
    | inl of_leaf ↦ absurd (let no : 1 ≡ 0 = of_leaf.0 in omega arith)
    | inr above ↦ true≢false (sym above)
  ]
]

pub returns : goal.returns
returns c = record {
  sound = is_sound;
  no_inode = λ h. let it = h.inode 2 0 5 refl refl in no_root it.inode it.named;
  leaf_twice = λ h. absurd (let le : 6 ≤ 5 = ((h.node 0 refl).inside).1.0 in omega arith);
  held_away = λ h. true≢false (sym (h.held 2 refl).0);
}
