-- What stands in an image depends on the blocks alone that are reached.
use Rattle.std.specs.Prelude.{◌≡◌, ℕ, ◌^◌, ◌==◌, if◌then◌else◌, List, [], ◌∷◌, slice_index_or, All, refl}
use Rattle.std.proofs.Common.{ap, sym, ◌∙◌, subst}
use Rattle.std.proofs.lemmas.List.Elements.{Contains-get_or}
use Rattle.h2_num.specs.Places.{Places, SameBelow}
use Rattle.h2_check.specs.XxhLaws.{xxh64_of-same}
use Rattle.h2_ref.specs.declared.reference.Kind.TheVariants.{Inode as Inode_kind, Indirect, Content, Dirent as Entry_kind}
use Rattle.h2_ref.specs.declared.reference.Check.TheVariants.{Xx}
use Rattle.h2_ref.specs.declared.reference.Ref.{Ref}
use Rattle.h2_ref.specs.Ref.{IsValid, FitsRow, method_number, size_of}
use Rattle.h2_ref.specs.Table.{row_of}
use Rattle.h2_dirkey.specs.BlockLaws.{NameBytes-same}
use Rattle.h2_inode.specs.declared.kind.InodeKind.{InodeKind}
use Rattle.h2_inode.specs.declared.inode.Body.{Body}
use Rattle.h2_inode.specs.declared.inode.Body.TheVariants.{Refs, Bytes}
use Rattle.h2_inode.specs.declared.inode.Inode.{Inode}
use Rattle.h2_inode.specs.Inode.{BodyFits}
use Rattle.h2_inode.specs.InodeLaws.{InodeBytes-same}
use Rattle.h2_set.specs.SetBytesLaws.{SetBytes-same}
use Rattle.h2_inode.specs.Block.{HasCheck, IsInodeBlock, IsSetBlock, IsContentBlock, IsNameBlock, HoldsRefs, by_inode, by_set, refs_of_body}
use Rattle.h2_forest.specs.Forest.{PlainForest}
use Rattle.h2_inode.specs.Access.{OneByOne}
use Rattle.h2_inode.specs.Following.{Follows}
use Rattle.h2_meaning.specs.Forest.{IsForest}
use Rattle.h2_inode.specs.ListLaws.{all_head, all_tail, all_cons, all_none, all_append}
use Rattle.h2_inode.specs.FollowLaws.{same_inode}
use Rattle.h2_meaning.specs.CarryLaws.{forest_carried}
use Rattle.h2_meaning.specs.Image.{block, LeavesIn, nothing_left, a_leaf, a_block, in_image, by_root, by_block, SameReached, IsKnown, between, named, Stands}

-- Blocks by their bytes alone

check_same : (r : Ref) (n : ℕ) (a b : Places) → SameBelow n a b → HasCheck r n a → HasCheck r n b
check_same r n a b same h = h ∙ sym (ap Xx (xxh64_of-same a b n same))

inode_same : (r : Ref) (a b : Places) (i : Inode) → SameBelow 1024 a b → IsInodeBlock r a i → IsInodeBlock r b i
inode_same r a b i same h = record {
  kind_is = h.kind_is;
  check_is = check_same r 1024 a b same h.check_is;
  inode = h.inode;
  bytes = InodeBytes-same i a b h.inode same h.bytes;
  number_is = h.number_is;
}

set_same : (r : Ref) (a b : Places) (refs : List Ref) → SameBelow 4096 a b → IsSetBlock r a refs → IsSetBlock r b refs
set_same r a b refs same h = record {
  kind_is = h.kind_is;
  check_is = check_same r 4096 a b same h.check_is;
  set = record { held = h.set.held; rising = h.set.rising; bytes = SetBytes-same 32 refs a b same h.set.bytes };
  arranged = h.arranged;
}

name_same : (r : Ref) (a b : Places) (name : List ℕ) → SameBelow 1024 a b → IsNameBlock r a name → IsNameBlock r b name
name_same r a b name same h = record {
  kind_is = h.kind_is;
  check_is = check_same r 1024 a b same h.check_is;
  named = record { len_is = h.named.len_is; bytes = NameBytes-same name a b same h.named.bytes; under = h.named.under };
}

content_same : (r : Ref) (a b : Places) → SameBelow 16384 a b → IsContentBlock r a → IsContentBlock r b
content_same r a b same h = record { kind_is = h.kind_is; check_is = check_same r 16384 a b same h.check_is }

-- Sizes of blocks

-- how many bytes a block with a radix has
abbrev size_by : ℕ → ℕ
size_by radix = if radix == 0 then 0 else 2 ^ radix

inode_size : (r : Ref) → IsValid r → r.kind ≡ Inode_kind → size_of r ≡ 1024
inode_size r h e = ap size_by (subst (λ k. FitsRow (row_of k (method_number r.check)) r) e h).radix

set_size : (r : Ref) → IsValid r → r.kind ≡ Indirect → size_of r ≡ 4096
set_size r h e = ap size_by (subst (λ k. FitsRow (row_of k (method_number r.check)) r) e h).radix

content_size : (r : Ref) → IsValid r → r.kind ≡ Content → size_of r ≡ 16384
content_size r h e = ap size_by (subst (λ k. FitsRow (row_of k (method_number r.check)) r) e h).radix

name_size : (r : Ref) (n : ℕ) → IsValid r → r.kind ≡ Entry_kind → r.check ≡ Xx n → size_of r ≡ 1024
name_size r n h e c =
    let of_kind : FitsRow (row_of Entry_kind (method_number r.check)) r = subst (λ k. FitsRow (row_of k (method_number r.check)) r) e h in
    let of_block : FitsRow (row_of Entry_kind 3) r = subst (λ m. FitsRow (row_of Entry_kind m) r) (ap method_number c) of_kind in
    ap size_by of_block.radix

-- The references of an inode are valid

body_valid : (kind : InodeKind) (size : ℕ) (b : Body) → BodyFits kind size b → All IsValid (refs_of_body b)
body_valid kind size (Refs s) h = λ k d lt. (h.2.held k d lt).valid
body_valid kind size (Bytes x) h = all_none IsValid

module _ (x : Places) (roots : List Ref) (y : Places) (agree : SameReached x roots y) where
  -- the reference is valid, and the first image leads to it
  abbrev Known : Ref → Type 0
  Known r = IsKnown x roots r

  below_known : (r : Ref) (refs : List Ref) → Known r → HoldsRefs r (block x r) refs → All IsValid refs → All Known refs
  below_known r refs known holds valid = λ k d lt. record { valid = valid k d lt; reached = by_block r (slice_index_or refs k d) refs known.reached holds (Contains-get_or refs k d lt) }

  same_block : (r : Ref) (n : ℕ) → Known r → size_of r ≡ n → SameBelow n (block x r) (block y r)
  same_block r n known size = subst (λ m. SameBelow m (block x r) (block y r)) size (agree r known.reached)

  leaves_follow : (t l : List Ref) → All Known t → LeavesIn x t l → LeavesIn y t l × All Known l
  leaves_follow _ _ at nothing_left = (nothing_left, all_none Known)
  leaves_follow _ _ at (a_leaf r {rs = rs} {l = l} kind rest) =
      let g = leaves_follow rs l (all_tail Known r rs at) rest in
      (a_leaf r kind g.0, all_cons Known r l (all_head Known r rs at) g.1)
  leaves_follow _ _ at (a_block r inner {rs = rs} {below = below} {l = l} holds under rest) =
      let here = all_head Known r rs at in
      let same = same_block r 4096 here (set_size r here.valid holds.kind_is) in
      let f = leaves_follow inner below (below_known r inner here (by_set inner holds) (λ k d lt. (holds.set.held k d lt).valid)) under in
      let g = leaves_follow rs l (all_tail Known r rs at) rest in
      (a_block r inner (set_same r (block x r) (block y r) inner same holds) f.0 g.0, all_append Known below l f.1 g.1)

  beside_known : (l : List Ref) → All Known l → OneByOne (λ (r s : Ref). (s ≡ r) × Known r) l l
  beside_known [] h = tt
  beside_known (r ∷ l) h = ((refl, all_head Known r l h), beside_known l (all_tail Known r l h))

  inode_follows : (r : Ref) (i : Inode) → Known r → IsInodeBlock r (block x r) i → IsInodeBlock r (block y r) i × All Known (refs_of_body i.body)
  inode_follows r i known h = (
    inode_same r (block x r) (block y r) i (same_block r 1024 known (inode_size r known.valid h.kind_is)) h,
    below_known r (refs_of_body i.body) known (by_inode i h) (body_valid i.kind i.size i.body h.inode.body_fits),
  )

  content_follows : (r : Ref) (b : Places) → Known r → IsContentBlock r (block x r) → SameBelow 16384 (block x r) b → IsContentBlock r (block y r) × SameBelow 16384 (block y r) b
  content_follows r b known h is =
      let same = same_block r 16384 known (content_size r known.valid h.kind_is) in
      (content_same r (block x r) (block y r) same h, λ k lt. is k lt ∙ sym (same k lt))

  pub image_follows : Follows (between x roots y)
  image_follows = record {
    leaves = λ t u l sim h. let g = leaves_follow t l sim.1 h in (l, subst (λ v. LeavesIn y v l) (sym sim.0) g.0, beside_known l g.1);
    like = λ t u r s e. record { kind = ap (λ v. v.kind) e.0; key = ap (λ v. v.key) e.0; keybits = ap (λ v. v.keybits) e.0; dirent = ap (λ v. v.dirent) e.0 };
    inode = λ t u r s i c e is.
        let g = inode_follows r i e.1 is.0 in
        (i, c, (subst (λ v. IsInodeBlock v (block y v) i) (sym e.0) g.0, is.1), same_inode i, (refl, subst (λ v. All Known v) (sym is.1) g.1));
    name = λ t u r s n e is.
        subst (λ v. IsNameBlock v (block y v) n) (sym e.0)
        (name_same r (block x r) (block y r) n (same_block r 1024 e.1 (name_size r _ e.1.valid is.kind_is is.check_is)) is);
    content = λ t u r s b e is.
        subst (λ v. IsContentBlock v (block y v) × SameBelow 16384 (block y v) b) (sym e.0) (content_follows r b e.1 is.0 is.1);
  }

-- An image that agrees on all that is reached stands for the same forest.
pub image_local : (x y : Places) (root : List Ref) (next : ℕ) (f : PlainForest) → All IsValid root → SameReached x root y → IsForest (in_image x) root next f → IsForest (in_image y) root next f
image_local x y root next f valid agree h =
    forest_carried (between x root y) (image_follows x root y agree) root root next f
    (refl, λ k d lt. record { valid = valid k d lt; reached = by_root (slice_index_or root k d) (Contains-get_or root k d lt) }) h

-- The same under the references of a header, by those of them that name something.
pub image_stands_local : (x y : Places) (root : List Ref) (next : ℕ) (f : PlainForest) → All IsValid (named root) → SameReached x (named root) y → Stands x root next f → Stands y root next f
image_stands_local x y root next f valid agree h = image_local x y (named root) next f valid agree h
