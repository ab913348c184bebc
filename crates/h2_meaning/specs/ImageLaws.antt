-- An image gives one answer at most, so under some references one forest stands at most.
use Rattle.std.specs.Prelude.{◌≡◌, ℕ, List, ◌∷◌, ◌++◌, refl}
use Rattle.std.proofs.Common.{ap, sym, ◌∙◌, subst}
use Rattle.h2_num.specs.Places.{Places}
use Rattle.h2_ref.specs.declared.reference.Ref.{Ref}
use Rattle.h2_inode.specs.declared.inode.Inode.{Inode}
use Rattle.h2_inode.specs.Block.{IsInodeBlock, IsSetBlock, IsNameBlock, refs_of_body}
use Rattle.h2_inode.specs.InodeLaws.{inode_one}
use Rattle.h2_set.specs.SetBytesLaws.{set_one}
use Rattle.h2_dirkey.specs.BlockLaws.{name_one}
use Rattle.h2_forest.specs.Forest.{PlainForest}
use Rattle.h2_inode.specs.Single.{IsSingle}
use Rattle.h2_meaning.specs.SingleLaws.{forest_one}
use Rattle.h2_meaning.specs.Forest.{IsForest}
use Rattle.h2_meaning.specs.Image.{block, LeavesIn, nothing_left, a_leaf, a_block, in_image, named, Stands}

inode_block_one : (r : Ref) (b : Places) (i j : Inode) → IsInodeBlock r b i → IsInodeBlock r b j → j ≡ i
inode_block_one r b i j p q = inode_one i j b p.inode q.inode p.bytes q.bytes

set_block_one : (r : Ref) (b : Places) (rs ss : List Ref) → IsSetBlock r b rs → IsSetBlock r b ss → ss ≡ rs
set_block_one r b rs ss p q = set_one 32 rs ss b p.set q.set

name_block_one : (r : Ref) (b : Places) (n m : List ℕ) → IsNameBlock r b n → IsNameBlock r b m → m ≡ n
name_block_one r b n m p q = name_one n m b p.named.under.good.no_zero q.named.under.good.no_zero p.named.bytes q.named.bytes

pub image_leaves_one : (x : Places) (t l m : List Ref) → LeavesIn x t l → LeavesIn x t m → m ≡ l
image_leaves_one x _ _ _ nothing_left nothing_left = refl
image_leaves_one x _ _ _ (a_leaf r kind rest) (a_leaf _ other last) = ap (λ v. r ∷ v) (image_leaves_one x _ _ _ rest last)
image_leaves_one x _ _ _ (a_leaf r kind rest) (a_block _ inner holds under last) = absurd (kind holds.kind_is)
image_leaves_one x _ _ _ (a_block r inner holds under rest) (a_leaf _ kind last) = absurd (kind holds.kind_is)
image_leaves_one x _ _ _ (a_block r inner {below = below} holds under rest) (a_block _ deeper {below = lower} keeps lying last) =
    let same : deeper ≡ inner = set_block_one r (block x r) inner deeper holds keeps in
    let low : lower ≡ below = image_leaves_one x _ _ _ under (subst (λ v. LeavesIn x v lower) same lying) in
    let next = image_leaves_one x _ _ _ rest last in
    λ i. low i ++ next i

pub image_single : (x : Places) → IsSingle (in_image x)
image_single x = record {
  leaves = image_leaves_one x;
  inode = λ t r i j c d p q. let same : j ≡ i = inode_block_one r (block x r) i j p.0 q.0 in (same, q.1 ∙ ap (λ v. refs_of_body v.body) same ∙ sym p.1);
  name = λ t r n m p q. name_block_one r (block x r) n m p q;
  content = λ t r a b p q k lt. q.1 k lt ∙ sym (p.1 k lt);
}

-- at most one forest stands in an image under some references
pub image_forest_one : (x : Places) (root : List Ref) (next : ℕ) (f g : PlainForest) → IsForest (in_image x) root next f → IsForest (in_image x) root next g → g ≡ f
image_forest_one x root next f g p q = forest_one (in_image x) (image_single x) root next f g p q

-- at most one forest stands in an image under the references of a header
pub image_stands_one : (x : Places) (root : List Ref) (next : ℕ) (f g : PlainForest) → Stands x root next f → Stands x root next g → g ≡ f
image_stands_one x root next f g p q = image_forest_one x (named root) next f g p q
