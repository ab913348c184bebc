-- What stands of the nodes of inodes, once some nodes have changed.
use Rattle.std.proofs.Common.{◌≡◌, ℕ, ◌<◌, Bool, true, false, ◌&&◌, arith, refl, sym, ◌∙◌, ap, List, [], ◌∷◌, length, Option, Some, None, subst, ◌⊎◌, inl, inr, slice_get, suc, zero}
use Rattle.std.specs.Prelude.{map}
use Rattle.std.proofs.lemmas.List.{length-map}
use Rattle.std.proofs.lemmas.Option.{none-some}
use Rattle.h2_ref.specs.declared.reference.Ref.{Ref}
use Rattle.h2_set.specs.RefSet.{RefSet}
use Rattle.h2_inode.specs.declared.inode.Body.{Body}
use Rattle.h2_inode.specs.declared.inode.Body.TheVariants.{Refs, Bytes}
use Rattle.h2_inode.specs.declared.inode.Inode.{Inode}
use Rattle.h2_inode.specs.Nodes.{set_of as set_of_body}
use Rattle.h2_memory_sets.specs.declared.node.Leaves.{Leaves}
use Rattle.h2_memory_sets.specs.declared.node.Node.{Node}
use Rattle.h2_memory_sets.specs.declared.node.Owner.{Owner}
use Rattle.h2_memory_sets.specs.Kept.{is_known, AreKept, IsNamedRoot, IsInodeRoot}
use Rattle.h2_memory_sets.specs.Owners.{held_of, allowed_by, inode_allows, refit, refit_body, refit_inode}
use Rattle.h2_memory_sets.specs.View.{stands_of, with_set}

-- an inode with another set may have the same leaves
pub refit_allows : (i : Option Inode) (s : RefSet) (leaves : Leaves) (r : Ref) → allowed_by (refit i s) leaves r ≡ allowed_by i leaves r
refit_allows None s leaves r = refl
refit_allows (Some i) s leaves r = go i.body
  where
    go : (b : Body) → inode_allows i.kind (refit_body b s) r ≡ inode_allows i.kind b r
    go (Refs t) = refl
    go (Bytes bytes) = refl

-- and without its set it is the same
pub refit_twice : (i : Option Inode) (s t : RefSet) → refit (refit i s) t ≡ refit i t
refit_twice None s t = refl
refit_twice (Some i) s t = ap (λ (b : Body). Some (record { kind = i.kind; number = i.number; size = i.size; links = i.links; next = i.next; name = i.name; body = b })) (go i.body)
  where
    go : (b : Body) → refit_body (refit_body b s) t ≡ refit_body b t
    go (Refs u) = refl
    go (Bytes bytes) = refl

-- a node that was there, with the leaf that named it, and no higher above it than the vector reaches
pub record CameFrom (xs : List Node) (n i : ℕ) (y : Node) : Type 0 where
  pub old : Node
  pub read : slice_get xs i ≡ Some old
  pub owner : y.owner ≡ old.owner
  pub root : y.root ≡ old.root
  pub bare : old.up ≡ None → y.up ≡ None
  pub above : (u : ℕ) → y.up ≡ Some u → u < n
  pub loaded : (o : Owner) → y.owner ≡ Some o → y.loaded ≡ true → old.loaded ≡ true
  pub inode : (v : Inode) → y.inode ≡ Some v → IsInodeRoot i y v
  -- where it is loaded, it has an inode still
  pub known : y.loaded ≡ true → is_known old.inode ≡ true → is_known y.inode ≡ true

-- a node that no leaf names, and that isn't the root of an inode
pub record IsPlain (n : ℕ) (y : Node) : Type 0 where
  pub above : (u : ℕ) → y.up ≡ Some u → u < n
  pub owner : y.owner ≡ None
  pub inode : y.inode ≡ None

pub kept_from : (xs ys : List Node) → AreKept xs → ((i : ℕ) (y : Node) → slice_get ys i ≡ Some y → CameFrom xs (length ys) i y ⊎ IsPlain (length ys) y) → AreKept ys
kept_from xs ys kept from = record {
  above = λ i y u read up. elim (from i y read) as (λ _. u < length ys) [
    | inl it ↦ it.above u up
    | inr it ↦ it.above u up
  ];
  owner = λ i y o read named. elim (from i y read) as (λ _. IsNamedRoot i y o) [
    | inr it ↦ absurd (none-some o (sym it.owner ∙ named))
    | inl it ↦ let old = kept.owner i it.old o it.read (sym it.owner ∙ named) in record { lower = old.lower; root = it.root ∙ old.root; bare = it.bare old.bare; known = λ on. it.known on (old.known (it.loaded o named on)) }
  ];
  inode = λ i y v read holds. elim (from i y read) as (λ _. IsInodeRoot i y v) [
    | inr it ↦ absurd (none-some v (sym it.inode ∙ holds))
    | inl it ↦ it.inode v holds
  ];
  one = λ i j x y o read_x read_y on_x on_y own_x own_y. elim (from i x read_x) as (λ _. i ≡ j) [
    | inr it ↦ absurd (none-some o (sym it.owner ∙ own_x))
    | inl a ↦ elim (from j y read_y) as (λ _. i ≡ j) [
      | inr it ↦ absurd (none-some o (sym it.owner ∙ own_y))
      | inl b ↦ kept.one i j a.old b.old o a.read b.read (a.loaded o own_x on_x) (b.loaded o own_y on_y) (sym a.owner ∙ own_x) (sym b.owner ∙ own_y)
    ]
  ];
}

pub refit_known : (o : Option Inode) (s : RefSet) → is_known (refit o s) ≡ is_known o
refit_known None s = refl
refit_known (Some i) s = refl

-- the root of an inode, of which the set has changed
pub refit_root : (i : ℕ) (x : Node) (s : RefSet) → ((w : Inode) → x.inode ≡ Some w → IsInodeRoot i x w) → ((w : Inode) (bytes : List ℕ) → x.inode ≡ Some w → w.body ≡ Bytes bytes → s ≡ record { refs = []; capacity = 4 }) → (v : Inode) → refit x.inode s ≡ Some v → IsInodeRoot i (with_set x s) v
refit_root i x s was none v e = go x.inode refl e
  where
    body : (w : Inode) (b : Body) → x.inode ≡ Some w → w.body ≡ b → s ≡ set_of_body (refit_body b s)
    body w (Refs t) is eb = refl
    body w (Bytes bytes) is eb = none w bytes is eb

    go : (o : Option Inode) → x.inode ≡ o → refit o s ≡ Some v → IsInodeRoot i (with_set x s) v
    go None is e = absurd (none-some v e)
    go (Some w) is e =
        let old = was w is in
        let now : IsInodeRoot i (with_set x s) (refit_inode w s) = record {
          root = old.root;
          bare = old.bare;
          low = old.low;
          bits = old.bits;
          leaf_bits = old.leaf_bits;
          set = body w w.body is refl;
          number = old.number;
        } in
        subst (IsInodeRoot i (with_set x s)) (one_inode (refit_inode w s) e) now
      where
        one_inode : (u : Inode) → Some u ≡ Some v → u ≡ v
        one_inode u e = cc

-- a node of which what is kept of it hasn't changed
pub record IsLike (x y : Node) : Type 0 where
  pub owner : y.owner ≡ x.owner
  pub root : y.root ≡ x.root
  pub up : y.up ≡ x.up
  pub loaded : y.loaded ≡ true → x.loaded ≡ true
  pub inode : y.inode ≡ x.inode
  pub low : y.low ≡ x.low
  pub bits : y.bits ≡ x.bits
  pub leaf_bits : y.leaf_bits ≡ x.leaf_bits
  pub set : y.set ≡ x.set

pub map_read : (h : Node → Node) (xs : List Node) (i : ℕ) (y : Node) → slice_get (map h xs) i ≡ Some y → (x : Node) × (slice_get xs i ≡ Some x) × (h x ≡ y)
map_read h [] i y read = absurd (none-some y read)
map_read h (x ∷ xs) zero y read = (x, refl, (let e : h x ≡ y = (cc) in e))
map_read h (x ∷ xs) (suc i) y read = map_read h xs i y read

pub kept_map : (h : Node → Node) (xs : List Node) → AreKept xs → ((x : Node) → IsLike x (h x)) → AreKept (map h xs)
kept_map h xs kept like = kept_from xs (map h xs) kept (λ i y read. inl (from i y read))
  where
    of : (i : ℕ) (x : Node) → slice_get xs i ≡ Some x → CameFrom xs (length (map h xs)) i (h x)
    of i x got =
        let l = like x in
        record {
          old = x;
          read = got;
          owner = l.owner;
          root = l.root;
          bare = λ e. l.up ∙ e;
          above = λ u up. let lt = kept.above i x u got (sym l.up ∙ up) in let n : length (map h xs) ≡ length xs = length-map _ _ in omega (arith, n, lt);
          loaded = λ o own on. l.loaded on;
          inode = λ v e.
              let it = kept.inode i x v got (sym l.inode ∙ e) in
              record { root = l.root ∙ it.root; bare = l.up ∙ it.bare; low = l.low ∙ it.low; bits = l.bits ∙ it.bits; leaf_bits = l.leaf_bits ∙ it.leaf_bits; set = l.set ∙ it.set; number = λ o own. it.number o (sym l.owner ∙ own) };
          known = λ on e. ap is_known l.inode ∙ e;
        }

    from : (i : ℕ) (y : Node) → slice_get (map h xs) i ≡ Some y → CameFrom xs (length (map h xs)) i y
    from i y read = let it = map_read h xs i y read in subst (CameFrom xs (length (map h xs)) i) it.2 (of i it.0 it.1)

-- whether a node is marked as held, loaded or not
abbrev pub flag_of : Option Node → Bool
flag_of None = false
flag_of (Some x) = x.held

held_is : (o : Option Node) → held_of o ≡ (stands_of o && flag_of o)
held_is None = refl
held_is (Some x) = refl

-- what is held stays held, where no more is loaded and what was held is still
pub held_keeps : (o p : Option Node) → flag_of p ≡ flag_of o → (stands_of p ≡ true → stands_of o ≡ true) → (held_of o ≡ true → stands_of p ≡ true) → held_of p ≡ held_of o
held_keeps o p flag less still = held_is p ∙ go (stands_of p) (stands_of o) (flag_of p) (flag_of o) flag less (λ e. still (held_is o ∙ e)) ∙ sym (held_is o)
  where
    go : (sp so fp fo : Bool) → fp ≡ fo → (sp ≡ true → so ≡ true) → ((so && fo) ≡ true → sp ≡ true) → (sp && fp) ≡ (so && fo)
    go true true fp fo e a b = e
    go true false fp fo e a b = absurd (let clash : false ≡ true = a refl in cc)
    go false true fp true e a b = absurd (let clash : false ≡ true = b refl in cc)
    go false true fp false e a b = refl
    go false false fp fo e a b = refl
