-- Where each leaf names one root at most, the reading of loaded nodes gives one answer at most.
use Rattle.std.specs.Prelude.{◌≡◌, ℕ, true, false, List, ◌∷◌, ◌++◌, Option, Some, refl}
use Rattle.std.proofs.Common.{ap, sym, ◌∙◌, inl, inr, subst}
use Rattle.std.proofs.lemmas.Option.{same_Some}
use Rattle.h2_num.specs.Places.{Places}
use Rattle.h2_ref.specs.declared.reference.Ref.{Ref}
use Rattle.h2_set.specs.Forest.{Link, loaded, told, untold, Forest, refs, HasLeaves, done, one, near, far}
use Rattle.h2_inode.specs.declared.inode.Inode.{Inode}
use Rattle.h2_inode.specs.Nodes.{Told, HasInode, NamesOne}
use Rattle.h2_inode.specs.Single.{IsSingle}
use Rattle.h2_inode.specs.NamedLaws.{inode_one}
use Rattle.h2_inode.specs.Loaded.{Tree, at_root, of_leaves, HasAsLeaves, IsTold, NamesInode, View, reading, BlocksOne}

-- the node of a link, or another one where none is loaded
abbrev loaded_node : ℕ → Link → ℕ
loaded_node d (loaded c) = c
loaded_node d (told l) = d
loaded_node d untold = d

-- the leaves of a link, or others where none are told
abbrev told_leaves : List Ref → Link → List Ref
told_leaves d (loaded c) = d
told_leaves d (told l) = l
told_leaves d untold = d

same_node : (c d : ℕ) (x : Link) → x ≡ loaded c → x ≡ loaded d → d ≡ c
same_node c d x p q = ap (loaded_node d) (sym q ∙ p)

same_told : (l m : List Ref) (x : Link) → x ≡ told l → x ≡ told m → m ≡ l
same_told l m x p q = ap (told_leaves m) (sym q ∙ p)

not_both : (c : ℕ) (l : List Ref) (x : Link) → x ≡ loaded c → x ≡ told l → ⊥
not_both c l x p q = let clash : loaded c ≡ told l = sym p ∙ q in absurd (cc)

-- the leaves of references are known in one way at most
pub known_once : {f : Forest} {at : ℕ} {rs l m : List Ref} → HasLeaves f at rs l → HasLeaves f at rs m → m ≡ l
known_once done done = refl
known_once (one {r = r} leaf rest) (one leaf' rest') = ap (λ x. r ∷ x) (known_once rest rest')
known_once (one leaf rest) (near ind link kids inside rest') = let clash : true ≡ false = sym ind ∙ leaf in absurd (cc)
known_once (one leaf rest) (far ind link inside rest') = let clash : true ≡ false = sym ind ∙ leaf in absurd (cc)
known_once (near ind link kids inside rest) (one leaf rest') = let clash : true ≡ false = sym ind ∙ leaf in absurd (cc)
known_once {f} (near {c = c} {below = b} ind link kids inside rest) (near {c = d} {below = e} ind' link' kids' inside' rest') =
    let same : d ≡ c = same_node c d _ link link' in
    let there : HasLeaves f c (refs f c) e = subst (λ n. HasLeaves f n (refs f n) e) same kids' in
    let left : e ≡ b = known_once kids there in
    let right = known_once rest rest' in
    λ i. left i ++ right i
known_once (near {c = c} ind link kids inside rest) (far {below = e} ind' link' inside' rest') = absurd (not_both c e _ link link')
known_once (far ind link inside rest) (one leaf rest') = let clash : true ≡ false = sym ind ∙ leaf in absurd (cc)
known_once (far {below = b} ind link inside rest) (near {c = d} ind' link' kids' inside' rest') = absurd (not_both d b _ link' link)
known_once (far {below = b} ind link inside rest) (far {below = e} ind' link' inside' rest') =
    let left : e ≡ b = same_told b e _ link link' in
    let right = known_once rest rest' in
    λ i. left i ++ right i

-- where at most one block is told for each reference
pub told_blocks_one : (block : Ref → Option Places) → BlocksOne (λ r b. block r ≡ Some b)
told_blocks_one block r x y p q = λ k less. ap (λ (b : Places). b k) (same_Some y x (sym q ∙ p))

module _ (u : View) (one_root : NamesOne u.forest) where
  leaves_once : (t : Tree) (l m : List Ref) → HasAsLeaves u.forest t l → HasAsLeaves u.forest t m → m ≡ l
  leaves_once (at_root at) l m p q = known_once p q
  leaves_once (of_leaves k) l m p q = q ∙ sym p

  told_once : (r : Ref) (i j : Inode) (c d : Tree) → IsTold u.tells r i c → IsTold u.tells r j d → (j ≡ i) × (d ≡ c)
  told_once r i j c d p q =
      let same : q.0 ≡ p.0 = same_Some q.0 p.0 (sym q.1 ∙ p.1) in
      (q.2 ∙ ap (λ (x : Told). x.inode) same ∙ sym p.2, q.3 ∙ ap (λ (x : Told). of_leaves x.leaves) same ∙ sym p.3)

  inode_once : (t : Tree) (r : Ref) (i j : Inode) (c d : Tree) → NamesInode u.forest u.holds u.tells t r i c → NamesInode u.forest u.holds u.tells t r j d → (j ≡ i) × (d ≡ c)
  inode_once (at_root top) r i j c d (inl p) (inl q) =
      let same : q.0 ≡ p.0 = one_root top r.key p.0 q.0 p.1 q.1 in
      let there : HasInode u.forest u.holds p.0 j = subst (λ m. HasInode u.forest u.holds m j) same q.2 in
      (inode_one u.forest u.holds p.0 j i there p.2, q.3 ∙ ap at_root same ∙ sym p.3)
  inode_once (at_root top) r i j c d (inl p) (inr q) = absurd (q.0 p.0 p.1)
  inode_once (at_root top) r i j c d (inr p) (inl q) = absurd (p.0 q.0 q.1)
  inode_once (at_root top) r i j c d (inr p) (inr q) = told_once r i j c d p.1 q.1
  inode_once (of_leaves l) r i j c d p q = told_once r i j c d p q

  pub loaded_single : (Content : Ref → Places → Type 0) → BlocksOne Content → IsSingle (reading u Content)
  loaded_single Content single = record {
    leaves = leaves_once;
    inode = inode_once;
    name = λ t r n m p q. same_Some m n (sym q ∙ p);
    content = λ t r x y p q. single r x y p q;
  }
