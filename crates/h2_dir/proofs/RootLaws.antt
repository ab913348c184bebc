-- Roots once an entry went into a directory, or out of one: none came, those that stand are in place, and each leaf still
-- names one root at most.
use Rattle.std.specs.Prelude.{◌≡◌, ℕ, true, None}
use Rattle.std.proofs.Common.{sym, ◌∙◌}
use Rattle.h2_ref.specs.declared.reference.Ref.{Ref}
use Rattle.h2_set.specs.Forest.{Forest, IsSound}
use Rattle.h2_set.specs.Calls.{InPlace}
use Rattle.h2_set.specs.StayLaws.{InPlace-trans}
use Rattle.h2_tree.specs.RootLaws.{inserted_roots, removed_roots, removed_place}
use Rattle.h2_inode.specs.Nodes.{NamesOne}
use Rattle.h2_inode.specs.NodeLaws.{replaced_place}
use Rattle.h2_inode.specs.NamesOneLaws.{rootless_one}
use Rattle.h2_dir.specs.Changing.{Adds, TakesAway}

-- an entry that went in

module _ (f g : Forest) (dir : ℕ) (leaf : Ref) (sound : IsSound f) (stands : f.stands dir ≡ true) (h : Adds f g dir leaf) where
  pub added_roots : (m : ℕ) → g.stands m ≡ true → g.root m ≡ m → f.stands m ≡ true
  added_roots m now root =
      let then = h.between in
      let there = h.resizes.none_new m now in
      inserted_roots f then dir leaf None sound stands h.inserts m there (sym (replaced_place then g dir (then.set dir) h.resizes m there now).root ∙ root)

  pub added_place : (m : ℕ) → f.stands m ≡ true → g.stands m ≡ true → InPlace f g m
  added_place m stood now =
      let then = h.between in
      let first = h.inserts.still m stood in
      InPlace-trans f then g m first (replaced_place then g dir (then.set dir) h.resizes m first.stands now)

  pub added_one : NamesOne f → NamesOne g
  added_one names = rootless_one f g names h.resizes.sound added_roots added_place

-- one that went out

module _ (f g : Forest) (dir : ℕ) (leaf : Ref) (h : TakesAway f g dir leaf) where
  pub taken_roots : (m : ℕ) → g.stands m ≡ true → g.root m ≡ m → f.stands m ≡ true
  taken_roots m now root =
      let then = h.between in
      let there = h.resizes.none_new m now in
      removed_roots f then dir leaf h.removes m there (sym (replaced_place then g dir (then.set dir) h.resizes m there now).root ∙ root)

  pub taken_place : (m : ℕ) → f.stands m ≡ true → g.stands m ≡ true → InPlace f g m
  taken_place m stood now =
      let then = h.between in
      let between = h.resizes.none_new m now in
      InPlace-trans f then g m (removed_place f then dir leaf h.removes m stood between) (replaced_place then g dir (then.set dir) h.resizes m between now)

  pub taken_one : NamesOne f → NamesOne g
  taken_one names = rootless_one f g names h.resizes.sound taken_roots taken_place
