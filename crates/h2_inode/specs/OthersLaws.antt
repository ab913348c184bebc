-- Trees that a change of another one keeps or renews: it is so over changes one after the other, and what they stand for
-- stays.
use Rattle.std.specs.Prelude.{◌≡◌, ℕ, true, List, [], ◌∷◌, Option, Some, None, refl}
use Rattle.std.proofs.Common.{ap, sym, ◌∙◌, inl, inr, subst}
use Rattle.h2_num.specs.Places.{Places}
use Rattle.h2_ref.specs.declared.reference.Ref.{Ref}
use Rattle.h2_ref.specs.declared.reference.Dirent.{Dirent}
use Rattle.h2_set.specs.RefSet.{RefSet}
use Rattle.h2_set.specs.Forest.{LeavesOf}
use Rattle.h2_set.specs.Calls.{names_node, IsRenewed}
use Rattle.h2_set.specs.StayLaws.{InPlace-refl, InPlace-trans}
use Rattle.h2_set.specs.RenewLaws.{AllRenewed-trans}
use Rattle.h2_set.specs.PathLaws.{AnswerRenewed, answer_same}
use Rattle.h2_inode.specs.declared.inode.Body.{Body}
use Rattle.h2_inode.specs.declared.inode.Body.TheVariants.{Refs, Bytes}
use Rattle.h2_inode.specs.declared.inode.Inode.{Inode}
use Rattle.h2_inode.specs.Nodes.{set_of, HasInode, IsBare}
use Rattle.h2_inode.specs.Access.{HasLeaves, OneByOne}
use Rattle.h2_inode.specs.Contents.{IsPart, IsContents}
use Rattle.h2_inode.specs.Directory.{Entries, IsNameOf, IsEntry, IsDirectory}
use Rattle.h2_inode.specs.Following.{SameLeaf, Follows}
use Rattle.h2_inode.specs.FollowLaws.{same_inode}
use Rattle.h2_inode.specs.ListLaws.{through, each_mapped, all_through, all_beside, hole_carried, rising_carried}
use Rattle.h2_inode.specs.Loaded.{Tree, at_root, of_leaves, HasAsLeaves, IsTold, NamesInode, View, reading}
use Rattle.h2_inode.specs.BareLaws.{LeafRenewed-refl}
use Rattle.h2_inode.specs.Others.{body_with, with_set, KeepsTree, LeafRenewed, RenewsTree, RenewsOthers, KeepsTrees, IsTreeOf, over_change}

-- Kept trees

pub KeepsTree-refl : (u : View) (c : ℕ) → u.forest.stands c ≡ true → KeepsTree u u c
KeepsTree-refl u c stands = record {
  place = InPlace-refl u.forest c stands;
  inode = λ i is. is;
  leaves = λ l has. has;
  paths = λ key o path. path;
  named = λ key d is. is;
  unloaded = λ key none. none;
  bare = λ key bare. bare;
}

pub KeepsTree-trans : (u v w : View) (c : ℕ) → KeepsTree u v c → KeepsTree v w c → KeepsTree u w c
KeepsTree-trans u v w c a b = record {
  place = InPlace-trans u.forest v.forest w.forest c a.place b.place;
  inode = λ i is. b.inode i (a.inode i is);
  leaves = λ l has. b.leaves l (a.leaves l has);
  paths = λ key o path. b.paths key o (a.paths key o path);
  named = λ key d is. b.named key d (a.named key d is);
  unloaded = λ key none. b.unloaded key (a.unloaded key none);
  bare = λ key bare. b.bare key (a.bare key bare);
}

-- Renewed trees

answer_trans : (o p q : Option Ref) → AnswerRenewed o p → AnswerRenewed p q → AnswerRenewed o q
answer_trans None None None a b = tt
answer_trans None None (Some q) a b = absurd b
answer_trans None (Some p) q a b = absurd a
answer_trans (Some o) None q a b = absurd a
answer_trans (Some o) (Some p) None a b = absurd b
answer_trans (Some o) (Some p) (Some q) a b = (AllRenewed-trans (o ∷ []) (p ∷ []) (q ∷ []) (a, tt) (b, tt)).0

own_body : (b : Body) (s : RefSet) → s ≡ set_of b → body_with b s ≡ b
own_body (Refs r) s e = ap Refs e
own_body (Bytes bytes) s e = refl

-- an inode with its own set
pub own_set : (v : View) (c : ℕ) (i : Inode) → HasInode v.forest v.holds c i → with_set i (v.forest.set c) ≡ i
own_set v c i is = let body = own_body i.body (v.forest.set c) is.set in λ k. record { kind = i.kind; number = i.number; size = i.size; links = i.links; next = i.next; name = i.name; body = body k }

body_twice : (b : Body) (s t : RefSet) → body_with (body_with b s) t ≡ body_with b t
body_twice (Refs r) s t = refl
body_twice (Bytes bytes) s t = refl

set_twice : (i : Inode) (s t : RefSet) → with_set (with_set i s) t ≡ with_set i t
set_twice i s t = let body = body_twice i.body s t in λ k. record { kind = i.kind; number = i.number; size = i.size; links = i.links; next = i.next; name = i.name; body = body k }

-- a tree that is kept is renewed
pub keeps_renews : (u v : View) (c : ℕ) → KeepsTree u v c → RenewsTree u v c
keeps_renews u v c h = record {
  place = h.place;
  inode = λ i is. let now = h.inode i is in subst (λ j. HasInode v.forest v.holds c j) (sym (own_set v c i now)) now;
  leaves = λ l has. record { list = l; leaves = h.leaves l has; each = all_beside (LeafRenewed u.forest c) l (λ r at. LeafRenewed-refl u.forest c r) };
  paths = λ key o path. record { answer = o; path = h.paths key o path; renewed = answer_same o };
  named = h.named;
  unloaded = h.unloaded;
  bare = h.bare;
  same = λ key r bare path. h.paths key (Some r) path;
}

pub RenewsTree-refl : (u : View) (c : ℕ) → u.forest.stands c ≡ true → RenewsTree u u c
RenewsTree-refl u c stands = keeps_renews u u c (KeepsTree-refl u c stands)

pub RenewsTree-trans : (u v w : View) (c : ℕ) → RenewsTree u v c → RenewsTree v w c → RenewsTree u w c
RenewsTree-trans u v w c a b = record {
  place = InPlace-trans u.forest v.forest w.forest c a.place b.place;
  inode = λ i is. subst (λ j. HasInode w.forest w.holds c j) (set_twice i (v.forest.set c) (w.forest.set c)) (b.inode (with_set i (v.forest.set c)) (a.inode i is));
  leaves = λ l has.
      let first = a.leaves l has in
      let second = b.leaves first.list first.leaves in
      record { list = second.list; leaves = second.leaves; each = leaves_trans l first.list second.list first.each second.each };
  paths = λ key o path.
      let first = a.paths key o path in
      let second = b.paths key first.answer first.path in
      record { answer = second.answer; path = second.path; renewed = answer_trans o first.answer second.answer first.renewed second.renewed };
  named = λ key d is. b.named key d (a.named key d is);
  unloaded = λ key none. b.unloaded key (a.unloaded key none);
  bare = λ key bare. b.bare key (a.bare key bare);
  same = λ key r bare path. b.same key r (a.bare r.key bare) (a.same key r bare path);
}
  where
    leaf_trans : (r q p : Ref) → LeafRenewed u.forest c r q → LeafRenewed v.forest c q p → LeafRenewed u.forest c r p
    leaf_trans r q p x y = record {
      renewed = (AllRenewed-trans (r ∷ []) (q ∷ []) (p ∷ []) (x.renewed, tt) (y.renewed, tt)).0;
      same = λ bare. y.same (a.bare q.key (subst (λ k. IsBare u.forest c k) (sym x.renewed.key) bare)) ∙ x.same bare;
    }

    leaves_trans : (l m n : List Ref) → OneByOne (LeafRenewed u.forest c) l m → OneByOne (LeafRenewed v.forest c) m n → OneByOne (LeafRenewed u.forest c) l n
    leaves_trans [] [] [] p q = tt
    leaves_trans [] [] (z ∷ n) p q = absurd q
    leaves_trans [] (y ∷ m) n p q = absurd p
    leaves_trans (x ∷ l) [] n p q = absurd p
    leaves_trans (x ∷ l) (y ∷ m) [] p q = absurd q
    leaves_trans (x ∷ l) (y ∷ m) (z ∷ n) p q = (leaf_trans x y z p.0 q.0, leaves_trans l m n p.1 q.1)

pub RenewsOthers-trans : (u v w : View) (at : ℕ) → RenewsOthers u v at → RenewsOthers v w at → RenewsOthers u w at
RenewsOthers-trans u v w at a b = λ c stands root other.
    let first = a c stands root other in
    RenewsTree-trans u v w c first (b c first.place.stands (first.place.root ∙ root) other)

-- What renewed trees stand for: the leaves of files and directories name no nodes

renewed_like : (r s : Ref) → IsRenewed r s → SameLeaf r s
renewed_like r s h = record { kind = h.kind; key = h.key; keybits = h.keybits; dirent = h.dirent }

module _ (u v : View) (c : ℕ) (h : RenewsTree u v c) (Content : Ref → Places → Type 0) where
  leaves_renewed : (l : List Ref) → HasLeaves (reading u Content) (at_root c) l → (m : List Ref) × HasLeaves (reading v Content) (at_root c) m × OneByOne IsRenewed l m
  leaves_renewed l has =
      let now = h.leaves l has.read in
      let beside = each_mapped (LeafRenewed u.forest c) IsRenewed (λ r s like. like.renewed) l now.list now.each in
      (now.list, record { read = now.leaves; ordered = rising_carried IsRenewed renewed_like l now.list beside 0 _ has.ordered }, beside)

  part_renewed : (size : ℕ) (bytes : List ℕ) (r s : Ref) → IsRenewed r s → IsPart (reading u Content) (at_root c) size bytes r → IsPart (reading v Content) (at_root c) size bytes s
  part_renewed size bytes r s like is =
      let same : s ≡ r = like.others (ap names_node is.kind_is) in
      subst (λ x. IsPart (reading v Content) (at_root c) size bytes x) (sym same) (record {
        kind_is = is.kind_is;
        keybits_are = is.keybits_are;
        aligned = is.aligned;
        below_size = is.below_size;
        block = is.block;
        read = is.read;
        bytes_are = is.bytes_are;
      })

  pub contents_renewed : (size : ℕ) (bytes : List ℕ) → IsContents (reading u Content) (at_root c) size bytes → IsContents (reading v Content) (at_root c) size bytes
  contents_renewed size bytes is =
      let now = leaves_renewed is.leaves is.has in
      record {
        leaves = now.0;
        has = now.1;
        parts = all_through IsRenewed (IsPart (reading u Content) (at_root c) size bytes) (IsPart (reading v Content) (at_root c) size bytes) (part_renewed size bytes) is.leaves now.0 now.2 is.parts;
        holes = λ k none. is.holes k (hole_carried IsRenewed renewed_like k is.leaves now.0 now.2 none);
        sized = is.sized;
      }

  module _ (Target : ℕ → ℕ → Type 0) (names : (r : Ref) (name : List ℕ) → u.forest.name r ≡ Some name → v.forest.name r ≡ Some name) where
    name_renewed : (r : Ref) (e : Dirent) (n : List ℕ) → IsNameOf (reading u Content) (at_root c) r e n → IsNameOf (reading v Content) (at_root c) r e n
    name_renewed r e n (inl is) = inl is
    name_renewed r e n (inr is) = inr (is.0, names r n is.1)

    entry_renewed : (r s : Ref) (named : List ℕ × ℕ) → IsRenewed r s → IsEntry (reading u Content) Target (at_root c) r named → IsEntry (reading v Content) Target (at_root c) s named
    entry_renewed r s named like is =
        let same : s ≡ r = like.others (ap names_node is.kind_is) in
        subst (λ x. IsEntry (reading v Content) Target (at_root c) x named) (sym same) (record {
          kind_is = is.kind_is;
          entry = is.entry;
          entry_is = is.entry_is;
          number_is = is.number_is;
          name_is = name_renewed r is.entry named.0 is.name_is;
          length_is = is.length_is;
          under = is.under;
          target_fits = is.target_fits;
        })

    pub directory_renewed : (size : ℕ) (entries : Entries) → IsDirectory (reading u Content) Target (at_root c) size entries → IsDirectory (reading v Content) Target (at_root c) size entries
    directory_renewed size entries is =
        let now = leaves_renewed is.leaves is.has in
        record {
          leaves = now.0;
          has = now.1;
          named = is.named;
          each = through IsRenewed (IsEntry (reading u Content) Target (at_root c)) (IsEntry (reading v Content) Target (at_root c)) entry_renewed is.leaves now.0 is.named now.2 is.each;
          differ = is.differ;
          counted = is.counted;
          entries_are = is.entries_are;
        }

-- Kept trees stand for what they stood for

module _ (u v : View) (P : ℕ → Type 0) (h : KeepsTrees u v P) where
  leaves_kept : (t w : Tree) (l : List Ref) → IsTreeOf P t w → HasAsLeaves u.forest t l → HasAsLeaves v.forest w l
  leaves_kept (at_root m) (at_root n) l sim has = subst (λ k. LeavesOf v.forest k l) (sym sim.0) ((h.trees m sim.1).leaves l has)
  leaves_kept (at_root m) (of_leaves k) l sim has = absurd sim
  leaves_kept (of_leaves k) (at_root n) l sim has = absurd sim
  leaves_kept (of_leaves k) (of_leaves j) l sim has = has ∙ sym sim

  told_kept : (r : Ref) (i : Inode) (t : Tree) → IsTold u.tells r i t → IsTold v.tells r i t × IsTreeOf P t t
  told_kept r i t x = ((x.0, h.told r x.0 x.1, x.2, x.3), subst (λ z. IsTreeOf P z z) (sym x.3) refl)

  inode_kept : (t w : Tree) (r : Ref) (i : Inode) (b : Tree) → IsTreeOf P t w → NamesInode u.forest u.holds u.tells t r i b
      → (d : Tree) × NamesInode v.forest v.holds v.tells w r i d × IsTreeOf P b d
  inode_kept (at_root m) (at_root n) r i b sim (inl x) =
      let is = h.closed m r.key x.0 sim.1 x.1 in (
        at_root x.0,
        subst (λ k. NamesInode v.forest v.holds v.tells (at_root k) r i (at_root x.0)) (sym sim.0) (inl (x.0, (h.trees m sim.1).named r.key x.0 x.1, (h.trees x.0 is).inode i x.2, refl)),
        subst (λ z. IsTreeOf P z (at_root x.0)) (sym x.3) (refl, is),
      )
  inode_kept (at_root m) (at_root n) r i b sim (inr x) =
      let g = told_kept r i b x.1 in
      (b, subst (λ k. NamesInode v.forest v.holds v.tells (at_root k) r i b) (sym sim.0) (inr ((h.trees m sim.1).unloaded r.key x.0, g.0)), g.1)
  inode_kept (at_root m) (of_leaves k) r i b sim x = absurd sim
  inode_kept (of_leaves k) (at_root n) r i b sim x = absurd sim
  inode_kept (of_leaves k) (of_leaves j) r i b sim x = let g = told_kept r i b x in (b, g.0, g.1)

  pub kept_follow : (Content : Ref → Places → Type 0) → Follows (over_change u v P Content)
  kept_follow Content = record {
    leaves = λ t w l sim has. (l, leaves_kept t w l sim has, all_beside (λ r s. (s ≡ r) × IsTreeOf P t w) l (λ r at. (refl, sim)));
    like = λ t w r s e. record { kind = ap (λ x. x.kind) e.0; key = ap (λ x. x.key) e.0; keybits = ap (λ x. x.keybits) e.0; dirent = ap (λ x. x.dirent) e.0 };
    inode = λ t w r s i b e is.
        let g = inode_kept t w r i b e.1 is in
        (i, g.0, subst (λ x. NamesInode v.forest v.holds v.tells w x i g.0) (sym e.0) g.1, same_inode i, g.2);
    name = λ t w r s n e is. subst (λ x. v.forest.name x ≡ Some n) (sym e.0) (h.name r n is);
    content = λ t w r s x e is. subst (λ y. Content y x) (sym e.0) is;
  }
