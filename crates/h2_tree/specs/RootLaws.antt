-- Roots once a leaf went into a tree, or out of one: none came, and those that stand are in place.
use Rattle.std.proofs.Common.{◌≡◌, ◌<◌, ◌≤◌, ◌+◌, ℕ, true, false, sym, ◌∙◌, arith, inl, inr, subst, Option}
use Rattle.std.proofs.lemmas.Bool.{cases_Bool}
use Rattle.h2_ref.specs.declared.reference.Ref.{Ref}
use Rattle.h2_set.specs.Forest.{Forest, loaded, IsSound}
use Rattle.h2_set.specs.Calls.{InPlace}
use Rattle.h2_set.specs.StayLaws.{InPlace-trans}
use Rattle.h2_tree.specs.Changes.{TakesIn, replaced, placed, parted, Inserts, Removes}

module _ (f g : Forest) (at : ℕ) (leaf : Ref) (old : Option Ref) (sound : IsSound f) (stands : f.stands at ≡ true) (ins : Inserts f g at leaf old) where
  -- a block that was split off isn't a root
  no_root : let goes = ins.goes in (key c : ℕ) → g.link goes.node key ≡ loaded c → g.root c ≡ c → ⊥
  no_root key c link root =
      let goes = ins.goes in
      let above = ins.sound.node goes.node (goes.only.still goes.node goes.stands (λ gone. gone)).stands in
      let child = above.child key c link in
      let whole : g.bits c ≡ 63 = (ins.sound.node c child.stands).half root in
      let fewer : g.bits c < g.bits goes.node = child.fewer in
      let slope : g.copies goes.node + g.bits goes.node ≤ 63 = above.slope in
      omega (arith, whole, fewer, slope)

  before_change : let goes = ins.goes in let then = goes.then in (m blocks : ℕ) (o : Option Ref) → TakesIn then g goes.node leaf blocks o → g.stands m ≡ true → g.root m ≡ m → then.stands m ≡ true
  before_change m blocks o (replaced r) now root = r.none_new m now
  before_change m blocks o (placed p) now root = p.none_new m now
  before_change m blocks o (parted p) now root = elim (p.none_new m now) as (λ _. let goes = ins.goes in let then = goes.then in then.stands m ≡ true) [
    | inl e ↦ absurd (no_root p.key p.node p.link (subst (λ n. g.root n ≡ n) e root))
    | inr stood ↦ stood
  ]

  -- no root came: what was loaded, or split off, stands below another node
  pub inserted_roots : (m : ℕ) → g.stands m ≡ true → g.root m ≡ m → f.stands m ≡ true
  inserted_roots m now root =
      let goes = ins.goes in
      let then = goes.then in
      let there = before_change m goes.blocks old goes.change now root in
      let own : then.root m ≡ m = sym (goes.only.still m there (λ gone. gone)).root ∙ root in
      elim (cases_Bool (f.stands m)) as (λ _. f.stands m ≡ true) [
        | inl stood ↦ stood
        | inr not ↦
            let top : f.stands m ≡ true = subst (λ n. f.stands n ≡ true) (sym (goes.touched.tree m not there) ∙ own) (sound.top at stands).0 in
            top
      ]

module _ (f g : Forest) (at : ℕ) (leaf : Ref) (out : Removes f g at leaf) where
  still_there : let goes = out.goes in let then = goes.then in (m : ℕ) → then.stands m ≡ true → g.stands m ≡ true → InPlace then g m
  still_there m there now = let goes = out.goes in goes.only.still m there (λ away. let gone = goes.gone m there away in let clash : true ≡ false = sym now ∙ gone in absurd (cc))

  -- no root came
  pub removed_roots : (m : ℕ) → g.stands m ≡ true → g.root m ≡ m → f.stands m ≡ true
  removed_roots m now root =
      let goes = out.goes in
      let there = goes.none_new m now in
      goes.walks.roots m there (sym (still_there m there now).root ∙ root)

  -- what stands before and after is in its place
  pub removed_place : (m : ℕ) → f.stands m ≡ true → g.stands m ≡ true → InPlace f g m
  removed_place m stood now =
      let goes = out.goes in
      let first = (goes.walks.stays m stood).place in
      InPlace-trans f goes.then g m first (still_there m first.stands now)
