-- Where each leaf names one root at most, it still does once a PFS came or went.
use Rattle.std.proofs.Common.{◌≡◌, ℕ, true, Option, None}
use Rattle.h2_ref.specs.declared.reference.Ref.{Ref}
use Rattle.h2_set.specs.Forest.{Forest}
use Rattle.h2_tree.specs.Changes.{Removes}
use Rattle.h2_tree.specs.RootLaws.{inserted_roots, removed_roots, removed_place}
use Rattle.h2_inode.specs.declared.inode.Inode.{Inode}
use Rattle.h2_inode.specs.Nodes.{Fields, NamesOne}
use Rattle.h2_inode.specs.NamesOneLaws.{rootless_one, readies_one, plants_one}
use Rattle.h2_pfs.specs.Addition.{Founds}
use Rattle.h2_pfs.proofs.Planted.{new_unloaded}

pub founded_one : (f g : Forest) (new : ℕ → Option Fields) (top : ℕ) (leaf : Ref) (inode : Inode) → f.stands top ≡ true → f.root top ≡ top → Founds f g new top leaf inode → NamesOne f → NamesOne g
founded_one f g new top leaf inode stands root it names =
    let a = it.ready in
    let put = it.put in
    let top_a = (it.readies.same top stands).place in
    let roots = inserted_roots a put top leaf None it.readies.sound top_a.stands it.inserts in
    let at_put = rootless_one a put (readies_one f a names it.readies) it.inserts.sound roots (λ m stood now. it.inserts.still m stood) in
    plants_one put g top leaf.key it.node it.inserts.sound at_put (new_unloaded a put top leaf top_a.stands it.inserts) it.plants

pub removed_one : (f g : Forest) (top : ℕ) (leaf : Ref) → Removes f g top leaf → NamesOne f → NamesOne g
removed_one f g top leaf rem names = rootless_one f g names rem.sound (removed_roots f g top leaf rem) (removed_place f g top leaf rem)
