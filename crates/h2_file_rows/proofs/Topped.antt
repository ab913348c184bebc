-- A super-root stays one after each call on files.
use Rattle.std.proofs.Common.{◌≡◌, ℕ, arith, sym, ◌∙◌, ap, subst, true, List, Option, Some, None, Result, Ok, Err}
use Rattle.std.specs.Prelude.{◌↔◌, OnOk, OnErr, IfOk}
use Rattle.h2_ref.specs.declared.reference.Kind.TheVariants.{Inode as Inode_kind}
use Rattle.h2_ref.specs.declared.reference.Ref.{Ref}
use Rattle.h2_ref.specs.declared.faults.Trouble.{Trouble}
use Rattle.h2_set.specs.SetBytes.{IsHeld}
use Rattle.h2_set.specs.declared.sets.NodeId.{NodeId}
use Rattle.h2_set.specs.Forest.{Forest, Reaches}
use Rattle.h2_set.specs.Calls.{Unchanged, Walks}
use Rattle.h2_tree.specs.Changes.{Inserts}
use Rattle.h2_inode.specs.declared.inode.Inode.{Inode}
use Rattle.h2_inode.specs.declared.kind.InodeKind.TheVariants.{File}
use Rattle.h2_inode.specs.Nodes.{Fields, leaf_keybits, HasInode, IsInodeLeaf, Seeks}
use Rattle.h2_memory_sets.specs.Roots.{BeginsEpoch}
use Rattle.h2_file.specs.Blocks.{IsFile, IsFileOfRefs}
use Rattle.h2_file.specs.Cutting.{CutsFile}
use Rattle.h2_file.specs.Linking.{LinksFile}
use Rattle.h2_file_rows.specs.FileUnderTest.{HasSomeInode, IfNewUnloaded}
use Rattle.h2_node_rows.specs.VolumeUnderTest.{IsTop}
use Rattle.h2_node_rows.specs.SuperRootLaws.{top_on, top_fixed, brought, inserted, none_named}

pub walked : (f g : Forest) (c : ℕ) → IsTop f c → Walks f g → IsTop g c
walked f g c is walks = let s = is.super_root in top_fixed f g c is walks.sound (walks.stays c s.stands).place walks.fixed

pub unchanged : (f g : Forest) (c : ℕ) → IsTop f c → Unchanged f g → IsTop g c
unchanged f g c is same = let s = is.super_root in top_fixed f g c is same.sound (same.same c s.stands).place same.fixed

pub sought_or_not : (f g : Forest) (c key : ℕ) (r : Result NodeId Trouble) → IsTop f c → IfOk r (λ at. Seeks f g c key at.0) → OnErr r (Unchanged f g) → IsTop g c
sought_or_not f g c key (Ok at) is seeks same = brought f g c at.0 is seeks.brings
sought_or_not f g c key (Err e) is seeks same = unchanged f g c is same

-- the root that was found has an inode
pub some_inode : (g : Forest) (holds : ℕ → Option Fields) (key : ℕ) (r : Result NodeId Trouble) → IfOk r (λ at. (i : Inode) × HasInode g holds at.0 i × (i.number ≡ key)) → IfOk r (λ at. HasSomeInode g holds at.0)
some_inode g holds key (Ok at) has = (has.0, has.1)
some_inode g holds key (Err e) has = has

-- a leaf that was found with its key is that of an inode
pub found_leaf : (f : Forest) (c key : ℕ) (leaf : Ref) → IsTop f c → leaf.kind ≡ Inode_kind → leaf.key ≡ key → Reaches f key c (Some leaf) → IsInodeLeaf f c leaf
found_leaf f c key leaf is kind number path = let s = is.super_root in record { stands = s.stands; root = s.root; kind = kind; path = subst (λ k. Reaches f k c (Some leaf)) (sym number) path }

pub inserted_or_not : (f g : Forest) (c : ℕ) (leaf : Ref) (r : Result (Option Ref) Trouble) → IsTop f c → IfOk r (Inserts f g c leaf) → OnErr r (Walks f g) → IsTop g c
inserted_or_not f g c leaf (Ok old) is ins walks = inserted f g c c leaf old is ins
inserted_or_not f g c leaf (Err e) is ins walks = walked f g c is walks

-- the leaf that was put in
pub inserted_leaf : (f g : Forest) (c : ℕ) (leaf : Ref) (r : Result (Option Ref) Trouble) → IsTop f c → leaf.kind ≡ Inode_kind → IfOk r (Inserts f g c leaf) → IfOk r (λ o. Reaches g leaf.key c (Some leaf)) → IfOk r (λ o. IsInodeLeaf g c leaf)
inserted_leaf f g c leaf (Ok old) is kind ins path = let s = (inserted f g c c leaf old is ins).super_root in record { stands = s.stands; root = s.root; kind = kind; path = path }
inserted_leaf f g c leaf (Err e) is kind ins path = path

-- what a new leaf names isn't loaded
pub inserted_new : (f g : Forest) (c : ℕ) (leaf : Ref) (r : Result (Option Ref) Trouble) → (Inserts f g c leaf None → (m : ℕ) → g.stands m ≡ true → g.belongs m c leaf.key ≡ true → ⊥) → IfOk r (Inserts f g c leaf) → IfOk r (IfNewUnloaded g c leaf.key)
inserted_new f g c leaf (Ok None) fresh ins = none_named g c leaf.key (fresh ins)
inserted_new f g c leaf (Ok (Some old)) fresh ins = tt
inserted_new f g c leaf (Err e) fresh ins = ins

pub begun : (f g : Forest) (c : ℕ) → IsTop f c → BeginsEpoch f g → IsTop g c
begun f g c is begins =
    let s = is.super_root in
    record {
      sound = begins.sound;
      super_root = record {
        stands = begins.stands c ∙ s.stands;
        root = begins.root c ∙ s.root;
        low = begins.low c ∙ s.low;
        bits = begins.bits c ∙ s.bits;
        leaf_bits = begins.leaf_bits c ∙ s.leaf_bits;
        allows = λ r. subst (λ x. (x ≡ true) ↔ ((r.kind ≡ Inode_kind) × IsHeld r)) (sym (begins.allows c r)) (s.allows r);
      };
      unowned = λ t k. begins.belongs c t k ∙ is.unowned t k;
      free = λ m. begins.held m ∙ is.free m;
    }

-- the super-root is no file's
other_root : (f : Forest) (holds : ℕ → Option Fields) (c at : ℕ) (i : Inode) → IsTop f c → HasInode f holds at i → i.kind ≡ File → c ≡ at → ⊥
other_root f holds c at i is has kind e =
    let s = is.super_root in
    let tree = has.tree in
    let clash : 0 ≡ 14 = sym s.leaf_bits ∙ ap f.leaf_bits e ∙ tree.leaf_bits ∙ ap leaf_keybits kind in
    absurd (omega (arith, clash))

linked : (f g : Forest) (holds : ℕ → Option Fields) (c at : ℕ) (rs : List Ref) → IsTop f c → IsFile f holds at → LinksFile f g at rs → IsTop g c
linked f g holds c at rs is file links =
    let s = is.super_root in
    let other = other_root f holds c at file.inode is file.has file.kind in
    top_on f g c is links.sound (links.still c s.stands) (links.leaf_bits c s.stands) (λ r. links.allows c r s.stands other) links.held

pub linked_or_not : (f g : Forest) (holds : ℕ → Option Fields) (c at : ℕ) (rs : List Ref) (r : Result (Unit {0}) Trouble) → IsTop f c → IsFile f holds at → OnOk r (LinksFile f g at rs) → OnErr r (Walks f g) → IsTop g c
linked_or_not f g holds c at rs (Ok u) is file links walks = linked f g holds c at rs is file links
linked_or_not f g holds c at rs (Err e) is file links walks = walked f g c is walks

cut : (f g : Forest) (holds : ℕ → Option Fields) (c at size : ℕ) (last : Option Ref) → IsTop f c → IsFileOfRefs f holds at → CutsFile f g at size last → IsTop g c
cut f g holds c at size last is file cuts =
    let s = is.super_root in
    let other = other_root f holds c at file.inode is file.has file.kind in
    let renews = cuts.others c s.stands (λ e. other (sym s.root ∙ e)) in
    let place = renews.place in
    top_on f g c is cuts.sound place (cuts.leaf_bits c s.stands place.stands) (λ r. cuts.allows c r s.stands place.stands) cuts.held

pub cut_or_not : (f g : Forest) (holds : ℕ → Option Fields) (c at size : ℕ) (last : Option Ref) (r : Result (Unit {0}) Trouble) → IsTop f c → IsFileOfRefs f holds at → OnOk r (CutsFile f g at size last) → OnErr r (Walks f g) → IsTop g c
cut_or_not f g holds c at size last (Ok u) is file cuts walks = cut f g holds c at size last is file cuts
cut_or_not f g holds c at size last (Err e) is file cuts walks = walked f g c is walks
