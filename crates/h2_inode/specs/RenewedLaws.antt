-- What is read of renewed trees: the leaf of an inode of which nothing is loaded, and what the trees stand for.
use Rattle.std.specs.Prelude.{◌≡◌, ℕ, ◌<◌, zero, suc, false, List, [], ◌∷◌, length, Contains, slice_index_or, Some, refl}
use Rattle.std.proofs.Common.{arith, ap, sym, ◌∙◌, inl, inr, subst}
use Rattle.h2_num.specs.Places.{Places}
use Rattle.h2_ref.specs.declared.reference.Ref.{Ref}
use Rattle.h2_set.specs.RefSet.{RefSet}
use Rattle.h2_set.specs.Forest.{LeavesOf, IsRootOf}
use Rattle.h2_set.specs.Calls.{names_node}
use Rattle.h2_inode.specs.declared.inode.Body.{Body}
use Rattle.h2_inode.specs.declared.inode.Body.TheVariants.{Refs, Bytes}
use Rattle.h2_inode.specs.declared.inode.Inode.{Inode}
use Rattle.h2_inode.specs.Nodes.{IsUnloaded, IsBare}
use Rattle.h2_inode.specs.Access.{OneByOne}
use Rattle.h2_inode.specs.Following.{SameLeaf, SameBody, SameInode, Follows}
use Rattle.h2_inode.specs.FollowLaws.{same_inode}
use Rattle.h2_inode.specs.ListLaws.{behind, each_mapped, all_beside}
use Rattle.h2_inode.specs.Loaded.{Tree, at_root, of_leaves, HasAsLeaves, IsTold, NamesInode, View, TellsOn, IsLeafOf}
use Rattle.h2_inode.specs.BareLaws.{leaf_like, unloaded_bare}
use Rattle.h2_inode.specs.Others.{body_with, with_set, LeafRenewed, RenewsTree, RenewsTrees, IsTreeOf, IsLeafRenewed, over_renewal}

-- what was told of a leaf is told
told_on : (u v : View) → TellsOn u v → (r : Ref) (i : Inode) (t : Tree) → IsTold u.tells r i t → IsTold v.tells r i t
told_on u v told r i t x = (x.0, told r x.0 x.1, x.2, x.3)

-- a leaf of a list of whose inode nothing was loaded is one of the list after the change
held_same : (u : View) (c : ℕ) (r : Ref) (k : ℕ) (l m : List Ref) → OneByOne (LeafRenewed u.forest c) l m → k < length l → slice_index_or l k r ≡ r → IsBare u.forest c r.key → Contains m r
held_same u c r k [] m p lt read bare = absurd (omega (arith, lt))
held_same u c r k (x ∷ l) [] p lt read bare = absurd p
held_same u c r zero (x ∷ l) (y ∷ m) p lt read bare =
    let is : x ≡ r = read in
    let same : y ≡ x = p.0.same (subst (λ (z : Ref). IsBare u.forest c z.key) (sym is) bare) in
    (0, omega arith, same ∙ is)
held_same u c r (suc k) (x ∷ l) (y ∷ m) p lt read bare = behind y m r (held_same u c r k l m p.1 (omega (arith, lt)) read bare)

-- A leaf of whose inode nothing was loaded is a leaf of the tree after the change, and what was read of it is read.
pub unloaded_renewed : (u v : View) (c : ℕ) (r : Ref) (i : Inode) (t : Tree) → RenewsTree u v c → TellsOn u v → IsBare u.forest c r.key → IsLeafOf u (at_root c) r → NamesInode u.forest u.holds u.tells (at_root c) r i t
    → IsLeafOf v (at_root c) r × NamesInode v.forest v.holds v.tells (at_root c) r i t
unloaded_renewed u v c r i t h told bare leaf (inl x) = absurd (bare x.0 x.1.stands x.1.root ((x.1.belongs c r.key).1 (inl (refl, refl))))
unloaded_renewed u v c r i t h told bare leaf (inr x) =
    let now = h.leaves leaf.0 leaf.1 in
    let at = leaf.2 in
    ((now.list, now.leaves, held_same u c r at.0 leaf.0 now.list now.each at.1 at.2 bare), inr (h.unloaded r.key x.0, told_on u v told r i t x.1))

same_body : (b : Body) (s : RefSet) → SameBody b (body_with b s)
same_body (Refs r) s = tt
same_body (Bytes bytes) s = refl

-- an inode is the same with another set
pub same_with : (i : Inode) (s : RefSet) → SameInode i (with_set i s)
same_with i s = record { kind = refl; number = refl; size = refl; links = refl; next = refl; name = refl; body = same_body i.body s }

-- Renewed trees stand for what they stood for

module _ (u v : View) (P : ℕ → Type 0) (h : RenewsTrees u v P) (Content : Ref → Places → Type 0) (blocks : (r : Ref) (x : Places) → Content r x → names_node r.kind ≡ false) where
  -- a leaf before the change and after it, at trees that match
  abbrev Like : Tree → Tree → Ref → Ref → Type 0
  Like t w r s = IsLeafRenewed u t r s × IsTreeOf P t w

  leaves_on : (t w : Tree) (l : List Ref) → IsTreeOf P t w → HasAsLeaves u.forest t l → (m : List Ref) × HasAsLeaves v.forest w m × OneByOne (Like t w) l m
  leaves_on (at_root m) (at_root n) l sim has =
      let now = (h.trees m sim.1).leaves l has in
      (now.list, subst (λ k. LeavesOf v.forest k now.list) (sym sim.0) now.leaves, each_mapped (LeafRenewed u.forest m) (Like (at_root m) (at_root n)) (λ r s like. (like, sim)) l now.list now.each)
  leaves_on (at_root m) (of_leaves k) l sim has = absurd sim
  leaves_on (of_leaves k) (at_root n) l sim has = absurd sim
  leaves_on (of_leaves k) (of_leaves j) l sim has = (l, has ∙ sym sim, all_beside (Like (of_leaves k) (of_leaves j)) l (λ r at. (refl, sim)))

  like_on : (t w : Tree) (r s : Ref) → Like t w r s → SameLeaf r s
  like_on (at_root m) w r s e = leaf_like u.forest m r s e.0
  like_on (of_leaves l) w r s e = record { kind = ap (λ x. x.kind) e.0; key = ap (λ x. x.key) e.0; keybits = ap (λ x. x.keybits) e.0; dirent = ap (λ x. x.dirent) e.0 }

  -- a leaf that names no node is the same
  same_on : (t w : Tree) (r s : Ref) → Like t w r s → names_node r.kind ≡ false → s ≡ r
  same_on (at_root m) w r s e none = e.0.renewed.others none
  same_on (of_leaves l) w r s e none = e.0

  tree_told : (r s : Ref) (i : Inode) (b : Tree) → s ≡ r → IsTold u.tells r i b → IsTold v.tells s i b × IsTreeOf P b b
  tree_told r s i b same x =
      (subst (λ z. IsTold v.tells z i b) (sym same) (told_on u v h.told r i b x), subst (λ z. IsTreeOf P z z) (sym x.3) refl)

  inode_on : (t w : Tree) (r s : Ref) (i : Inode) (b : Tree) → Like t w r s → NamesInode u.forest u.holds u.tells t r i b
      → (j : Inode) × (d : Tree) × NamesInode v.forest v.holds v.tells w s j d × SameInode i j × IsTreeOf P b d
  inode_on (at_root m) (at_root n) r s i b e (inl x) =
      let sim = e.1 in
      let d = x.0 in
      let is = h.closed m r.key d sim.1 x.1 in
      let named = subst (λ k. IsRootOf v.forest m k d) (sym e.0.renewed.key) ((h.trees m sim.1).named r.key d x.1) in
      let j = with_set i (v.forest.set d) in (
        j,
        at_root d,
        subst (λ k. NamesInode v.forest v.holds v.tells (at_root k) s j (at_root d)) (sym sim.0) (inl (d, named, (h.trees d is).inode i x.2, refl)),
        same_with i (v.forest.set d),
        subst (λ z. IsTreeOf P z (at_root d)) (sym x.3) (refl, is),
      )
  inode_on (at_root m) (at_root n) r s i b e (inr x) =
      let sim = e.1 in
      let same = e.0.same (unloaded_bare u.forest m r.key h.sound x.0) in
      let g = tree_told r s i b same x.1 in
      let none = subst (λ k. IsUnloaded v.forest m k) (sym e.0.renewed.key) ((h.trees m sim.1).unloaded r.key x.0) in
      (i, b, subst (λ k. NamesInode v.forest v.holds v.tells (at_root k) s i b) (sym sim.0) (inr (none, g.0)), same_inode i, g.1)
  inode_on (at_root m) (of_leaves k) r s i b e x = absurd e.1
  inode_on (of_leaves k) (at_root n) r s i b e x = absurd e.1
  inode_on (of_leaves k) (of_leaves j) r s i b e x = let g = tree_told r s i b e.0 x in (i, b, g.0, same_inode i, g.1)

  pub renewed_follow : Follows (over_renewal u v P Content)
  renewed_follow = record {
    leaves = leaves_on;
    like = like_on;
    inode = inode_on;
    name = λ t w r s n e is. subst (λ x. v.forest.name x ≡ Some n) (sym (same_on t w r s e (h.plain r n is))) (h.name r n is);
    content = λ t w r s x e is. subst (λ y. Content y x) (sym (same_on t w r s e (blocks r x is))) is;
  }
