-- An entry that goes into a directory or out of it changes no reference of other directories and files.
use Rattle.std.specs.Prelude.{◌≡◌, ℕ, true, Option, None, Some, slice_get, refl}
use Rattle.std.proofs.Common.{ap, sym, ◌∙◌, subst}
use Rattle.h2_ref.specs.declared.reference.Ref.{Ref}
use Rattle.h2_set.specs.RefSet.{RefSet}
use Rattle.h2_set.specs.Forest.{Forest, refs, IsSound}
use Rattle.h2_set.specs.Calls.{InPlace, Fixed, Renews, OnWay, inside, across}
use Rattle.h2_tree.specs.Changes.{Inserts, Removes, GoesAway, below_it, named}
use Rattle.h2_tree.specs.OtherTrees.{KeepsOtherLeaves, removed_leaves}
use Rattle.h2_inode.specs.declared.inode.Inode.{Inode}
use Rattle.h2_inode.specs.declared.kind.InodeKind.TheVariants.{Directory}
use Rattle.h2_inode.specs.Nodes.{Fields, HasInode}
use Rattle.h2_dir.proofs.Paths.{hangs}
use Rattle.h2_dir.proofs.Leaf.{nothing_belongs}
use Rattle.h2_dir.proofs.Growing.{descends_root}
use Rattle.h2_dir.proofs.Renewed.{NamesNone}

-- no reference of a tree whose leaves name no inodes is on the way to a node of another tree
off_way : (h : Forest) (m node : ℕ) (r : Ref) → IsSound h → h.stands node ≡ true → NamesNone h (h.root m) → (h.root m ≡ h.root node → ⊥) → OnWay h m r node → ⊥
off_way h m node r sound stands none other (inside same ind in_r bits) = other same
off_way h m node r sound stands none other (across key differs in_r belongs) =
    let owner = sound.owner node (h.root m) key stands belongs in
    let there = hangs sound owner.stands owner.path owner.leaf refl in
    none owner.leaf (subst (λ n. h.allows n owner.leaf ≡ true) (there.root ∙ owner.root) ((there.fits).allowed there.is_leaf)) owner.kind_is

none_later : (f h : Forest) (c : ℕ) → Fixed f h → f.stands c ≡ true → h.stands c ≡ true → NamesNone f c → NamesNone h c
none_later f h c fixed stands there none r allowed = none r (sym (fixed.allows c r stands there) ∙ allowed)

module _ (f g : Forest) (dir : ℕ) (leaf : Ref) (sound : IsSound f) (stands : f.stands dir ≡ true) (root : f.root dir ≡ dir) (ins : Inserts f g dir leaf None) where
  pub inserted_renews : (m : ℕ) → f.stands m ≡ true → (f.root m ≡ dir → ⊥) → Renews f g m
  inserted_renews m there other = ins.above m there (λ e. other (e ∙ root))

  pub inserted_exact : (m i : ℕ) (r : Ref) → f.stands m ≡ true → (f.root m ≡ dir → ⊥) → NamesNone f (f.root m) → slice_get (refs f m) i ≡ Some r → slice_get (refs g m) i ≡ Some r
  inserted_exact m i r there other none read =
      let goes = ins.goes in
      let h = goes.then in
      let place = (goes.prepares.stays dir stands).place in
      let now = (goes.prepares.stays m there).place in
      let up = sound.top m there in
      let top : h.root goes.node ≡ dir = descends_root goes.prepares.sound place.stands goes.way ∙ place.root ∙ root in
      let apart : h.root m ≡ h.root goes.node → ⊥ = λ e. other (sym now.root ∙ e ∙ top) in
      let none_now : NamesNone h (h.root m) = subst (λ n. NamesNone h n) (sym now.root) (none_later f h (f.root m) goes.prepares.fixed up.0 (goes.prepares.stays (f.root m) up.0).place.stands none) in
      goes.only.exact m i r now.stands (λ e. apart (ap h.root e)) (λ gone. gone) (ap (λ (s : RefSet). slice_get s.refs i) (goes.prepares.sets m there) ∙ read) (off_way h m goes.node r goes.prepares.sound goes.stands none_now apart)

module _ (f g : Forest) (holds : ℕ → Option Fields) (dir : ℕ) (inode : Inode) (leaf : Ref) (sound : IsSound f) (has : HasInode f holds dir inode) (kind : inode.kind ≡ Directory) (out : Removes f g dir leaf) where
  free : (m : ℕ) → f.stands m ≡ true → f.belongs m dir leaf.key ≡ true → ⊥
  free m there belongs = nothing_belongs f holds dir inode m leaf.key sound has kind there belongs

  pub removed_free : KeepsOtherLeaves f g dir
  removed_free = removed_leaves f g dir leaf has.stands out (λ m there belongs. free m there (subst (λ n. f.belongs m n leaf.key ≡ true) has.root belongs))

  pub removed_renews : (m : ℕ) → f.stands m ≡ true → (f.root m ≡ dir → ⊥) → Renews f g m
  removed_renews m there other = out.above m there (λ e. other (e ∙ has.root)) (λ belongs. free m there (subst (λ n. f.belongs m n leaf.key ≡ true) has.root belongs))

  pub removed_exact : (m i : ℕ) (r : Ref) → f.stands m ≡ true → (f.root m ≡ dir → ⊥) → NamesNone f (f.root m) → slice_get (refs f m) i ≡ Some r → slice_get (refs g m) i ≡ Some r
  removed_exact m i r there other none read =
      let goes = out.goes in
      let h = goes.then in
      let place = (goes.walks.stays dir has.stands).place in
      let now = (goes.walks.stays m there).place in
      let up = sound.top m there in
      let top : h.root goes.node ≡ dir = descends_root goes.walks.sound place.stands goes.way ∙ place.root ∙ has.root in
      let apart : h.root m ≡ h.root goes.node → ⊥ = λ e. other (sym now.root ∙ e ∙ top) in
      let none_now : NamesNone h (h.root m) = subst (λ n. NamesNone h n) (sym now.root) (none_later f h (f.root m) goes.walks.fixed up.0 (goes.walks.stays (f.root m) up.0).place.stands none) in
      goes.only.exact m i r now.stands (λ e. apart (ap h.root e)) (stays_put now top apart) (ap (λ (s : RefSet). slice_get s.refs i) (goes.walks.sets m there) ∙ read) (off_way h m goes.node r goes.walks.sound goes.stands none_now apart)
    where
      stays_put : let goes = out.goes in let h = goes.then in InPlace f h m → h.root goes.node ≡ dir → (h.root m ≡ h.root goes.node → ⊥) → GoesAway h goes.node goes.place leaf m → ⊥
      stays_put now top apart (below_it q read_q tree fewer in_q) = apart tree
      stays_put now top apart (named differs belongs) = free m there (sym (now.belongs dir leaf.key) ∙ subst (λ n. (out.goes.then).belongs m n leaf.key ≡ true) top belongs)
