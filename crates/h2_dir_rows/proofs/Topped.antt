-- A super-root stays one after each call on a directory below it.
use Rattle.std.proofs.Common.{◌≡◌, ℕ, true, false, Option, Some, None, [], sym, ◌∙◌, ap, subst, refl, inl, arith}
use Rattle.h2_ref.specs.declared.reference.Kind.TheVariants.{Inode as Inode_kind}
use Rattle.h2_ref.specs.declared.reference.Ref.{Ref}
use Rattle.h2_set.specs.Forest.{Forest, Reaches, IsRootOf}
use Rattle.h2_set.specs.Calls.{Walks, KeepsBeside}
use Rattle.h2_set.specs.Ranges.{leads_on}
use Rattle.h2_tree.specs.Changes.{Removes, Takes}
use Rattle.h2_inode.specs.declared.inode.Inode.{Inode}
use Rattle.h2_inode.specs.declared.inode.Body.TheVariants.{Refs}
use Rattle.h2_inode.specs.declared.kind.InodeKind.TheVariants.{Pfs}
use Rattle.h2_inode.specs.Inode.{keys_from}
use Rattle.h2_inode.specs.Nodes.{Fields, held_by, leaf_keybits, MayHave, HasInode, IsInodeLeaf, Replaces}
use Rattle.h2_inode.specs.PathLaws.{refit_place}
use Rattle.h2_inode.specs.VisitLaws.{walks_visit, visits_inode}
use Rattle.h2_memory_sets.specs.Inodes.{fields_seen}
use Rattle.h2_dir.specs.Changing.{Adds, TakesAway}
use Rattle.h2_node_rows.specs.VolumeUnderTest.{IsTop, IsLeaf}
use Rattle.h2_dir_rows.specs.DirectoryUnderTest.{IsRootOfTree, IsOpened, IsNewPfs}
use Rattle.h2_node_rows.specs.SuperRootLaws.{top_on, top_fixed, inserted}

-- a leaf went out of another tree
pub cut : (f g : Forest) (c at : ℕ) (leaf : Ref) → IsTop f c → f.root at ≡ at → (at ≡ c → ⊥) → Removes f g at leaf → IsTop g c
cut f g c at leaf is root apart out =
    let s = is.super_root in
    let renews = out.above c s.stands (λ e. apart (sym root ∙ sym e ∙ s.root)) (λ owned. let clash : true ≡ false = sym owned ∙ is.unowned (f.root at) leaf.key in absurd (cc)) in
    top_fixed f g c is out.sound renews.place out.fixed

-- the inode of another root was replaced by one with the same set
pub refitted : (f g : Forest) (c at : ℕ) → IsTop f c → (at ≡ c → ⊥) → Replaces f g at (f.set at) → IsTop g c
refitted f g c at is apart h =
    let s = is.super_root in
    let place = refit_place f g at is.sound h c s.stands in
    top_on f g c is h.sound place (h.leaf_bits c s.stands place.stands) (λ r. h.allows c r s.stands place.stands (λ e. apart (sym e))) h.held

-- an entry was added to a directory
pub entered : (f g : Forest) (c dir : ℕ) (leaf : Ref) → IsTop f c → (dir ≡ c → ⊥) → Adds f g dir leaf → IsTop g c
entered f g c dir leaf is apart adds = refitted adds.between g c dir (inserted f adds.between c dir leaf None is adds.inserts) apart adds.resizes

-- an entry was taken out of a directory
pub taken : (f g : Forest) (c dir : ℕ) (leaf : Ref) → IsTop f c → f.root dir ≡ dir → (dir ≡ c → ⊥) → TakesAway f g dir leaf → IsTop g c
taken f g c dir leaf is root apart takes = refitted takes.between g c dir (cut f takes.between c dir leaf is root apart takes.removes) apart takes.resizes

-- what a leaf names isn't the super-root, which belongs to nothing
pub named_apart : (f : Forest) (c top key d : ℕ) → IsTop f c → IsRootOf f top key d → d ≡ c → ⊥
named_apart f c top key d is named e =
    let owned : f.belongs d top key ≡ true = (named.belongs top key).1 (inl (refl, refl)) in
    let clash : true ≡ false = sym owned ∙ ap (λ m. f.belongs m top key) e ∙ is.unowned top key in
    absurd (cc)

-- a leaf of inode 1 that was looked up
pub leaf_is : (f g : Forest) (at : ℕ) (found : Option Ref) (leaf : Ref) → IsRootOfTree f at → Walks f g → Reaches g 1 at found → found ≡ Some leaf → leaf.kind ≡ Inode_kind → leaf.key ≡ 1 → IsInodeLeaf g at leaf
leaf_is f g at found leaf is walks path found_is kind key =
    let place = (walks.stays at is.stands).place in
    let to_leaf : Reaches g 1 at (Some leaf) = subst (λ o. Reaches g 1 at o) found_is path in
    record { stands = place.stands; root = place.root ∙ is.root; kind = kind; path = subst (λ k. Reaches g k at (Some leaf)) (sym key) to_leaf }

-- a directory stays open where nothing but blocks of references is loaded
pub still_opened : (f g : Forest) (old new : ℕ → Option Inode) (root dir : ℕ) → Walks f g → KeepsBeside f g old new → IsOpened f (held_by fields_seen old) root dir → IsOpened g (held_by fields_seen new) root dir
still_opened f g old new root dir walks beside is = record {
  inode = is.inode;
  has = visits_inode fields_seen f g old new dir is.inode (walks_visit f g walks) beside is.has;
  kind = is.kind;
  apart = is.apart;
}

-- a root with the lower half of all keys takes in a leaf of inode 1 that it may have
takes_inode : (f : Forest) (at : ℕ) (leaf : Ref) → f.root at ≡ at → f.low at ≡ 0 → f.bits at ≡ 63 → f.leaf_bits at ≡ 0 → f.allows at leaf ≡ true → IsLeaf leaf → Takes f at leaf
takes_inode f at leaf root low bits grain allows is =
    let key = is.number in
    let keybits = is.keybits in
    record {
      is_leaf = ap leads_on is.kind;
      allowed = ap (λ m. f.allows m leaf) root ∙ allows;
      aligned = rw (key, keybits) refl;
      class = inl (rw key (omega arith));
      keybits = keybits ∙ sym grain ∙ ap f.leaf_bits (sym root);
      low = rw low (omega arith);
      high = rw (key, keybits, low, bits) (omega arith);
    }

pub takes_top : (f : Forest) (at : ℕ) (leaf : Ref) → IsTop f at → IsLeaf leaf → Takes f at leaf
takes_top f at leaf is l = let s = is.super_root in takes_inode f at leaf s.root s.low s.bits s.leaf_bits ((s.allows leaf).1 (l.kind, l.held)) l

pub takes_pfs : (f : Forest) (holds : ℕ → Option Fields) (at : ℕ) (i : Inode) (leaf : Ref) → HasInode f holds at i → IsNewPfs i → IsLeaf leaf → Takes f at leaf
takes_pfs f holds at i leaf has is l =
    let tree = has.tree in
    let may : MayHave Pfs (Refs (record { refs = []; capacity = 4 })) leaf = (l.kind, l.held) in
    let may_too : MayHave i.kind i.body leaf = subst (λ k. MayHave k i.body leaf) (sym is.kind) (subst (λ b. MayHave Pfs b leaf) (sym is.body) may) in
    takes_inode f at leaf has.root (tree.low ∙ ap keys_from is.kind) tree.bits (tree.leaf_bits ∙ ap leaf_keybits is.kind) ((tree.allows leaf).1 may_too) l
