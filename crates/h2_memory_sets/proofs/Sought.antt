-- The root that a leaf names, where it is loaded already, or is loaded now.
use Rattle.std.proofs.Common.{◌≡◌, ◌+◌, ◌%◌, ◌≤◌, ◌^◌, ℕ, ◌&&◌, List, [], ◌∷◌, Option, Some, None, true, false, length, slice_get, slice_set, refl, sym, ap, arith, subst, inr, ◌∙◌}
use Rattle.std.specs.List.{position}
use Rattle.std.proofs.Math.ListN.{length-set}
use Rattle.std.proofs.lemmas.List.Quantifiers.{position-Some}
use Rattle.std.proofs.lemmas.Option.{slice_get-get_or}
use Rattle.h2_ref.specs.declared.faults.Why.{Why}
use Rattle.h2_ref.specs.declared.reference.Ref.{Ref}
use Rattle.h2_set.specs.Forest.{Forest, IsSound, IsRootOf}
use Rattle.h2_set.specs.Calls.{KeepsBeside, Same}
use Rattle.h2_set.specs.StayLaws.{InPlace-refl}
use Rattle.h2_inode.specs.declared.inode.Inode.{Inode}
use Rattle.h2_inode.specs.Inode.{IsInode}
use Rattle.h2_inode.specs.NamedLaws.{inode_one}
use Rattle.h2_inode.specs.Nodes.{IsInodeLeaf, IsUnloaded, Seeks, HasInode, held_by}
use Rattle.h2_memory_sets.specs.declared.node.Node.{Node}
use Rattle.h2_memory_sets.specs.declared.node.Owner.{Owner}
use Rattle.h2_memory_sets.specs.Inodes.{owned_by, is_sought, sought, fields_seen, IsSought}
use Rattle.h2_memory_sets.specs.Kept.{AreKept, IsInodeRoot, is_known}
use Rattle.h2_memory_sets.specs.Owners.{beside_of, owner_of}
use Rattle.h2_memory_sets.specs.View.{AllRooted, forest_with, stands_of, root_of}
use Rattle.h2_memory_sets.proofs.Arrived.{rooted_arrives, kept_arrives, beside_arrives}
use Rattle.h2_memory_sets.proofs.Arriving.{loaded_root, seeks, none_named}
use Rattle.h2_memory_sets.proofs.Coming.{Comes, IsFitRoot}
use Rattle.h2_memory_sets.proofs.Inoded.{has_inode}
use Rattle.h2_memory_sets.proofs.Named.{named_by, owner_named, self_owner}
use Rattle.h2_memory_sets.proofs.Owned.{are_lower, owner_is}
use Rattle.h2_memory_sets.proofs.Parting.{one_of, none_false}
use Rattle.h2_memory_sets.proofs.Passing.{and_parts}
use Rattle.h2_memory_sets.proofs.Plantable.{from_aligned, from_ends}

-- the owner that a leaf is
pub owned_is : (top key : ℕ) (o : Option Owner) → owned_by top key o ≡ true → o ≡ Some (record { root = top; key = key })
owned_is top key None e = absurd (cc)
owned_is top key (Some o) e = let is = owner_is top key o e in ap (λ n. Some (record { root = n; key = o.key })) is.0 ∙ ap (λ n. Some (record { root = top; key = n })) is.1

known_inode : (o : Option Inode) → is_known o ≡ true → (v : Inode) × (o ≡ Some v)
known_inode None e = absurd (cc)
known_inode (Some v) e = (v, refl)

-- a loaded root that the leaf names
record IsHere (xs : List Node) (top key c : ℕ) : Type 0 where
  node : Node
  read : slice_get xs c ≡ Some node
  passes : is_sought top key node ≡ true

here_at : (xs : List Node) (top key c : ℕ) → position (is_sought top key) xs ≡ Some c → IsHere xs top key c
here_at [] top key c e = absurd (cc)
here_at (z ∷ zs) top key c e = let s = position-Some (is_sought top key) (z ∷ zs) c z e in record { node = _; read = slice_get-get_or (z ∷ zs) c z s.0; passes = s.1 }

-- what the call that seeks an inode does, once it is there
pub record Found (xs ys : List Node) (spare epoch room failed bad : ℕ) (met : Option (ℕ × Why)) (top key c : ℕ) : Type 0 where
  pub rooted : AllRooted ys
  pub kept : AreKept ys
  pub seeks : Seeks (forest_with xs spare epoch room failed bad met) (forest_with ys spare epoch room failed bad met) top key c
  pub inode : (i : Inode) × HasInode (forest_with ys spare epoch room failed bad met) (held_by fields_seen (λ m. beside_of (slice_get ys m))) c i × (i.number ≡ key)
  pub spelled : (i : Inode) → stands_of (slice_get xs c) ≡ false → HasInode (forest_with ys spare epoch room failed bad met) (held_by fields_seen (λ m. beside_of (slice_get ys m))) c i → IsInode i
  pub beside : KeepsBeside (forest_with xs spare epoch room failed bad met) (forest_with ys spare epoch room failed bad met) (λ m. beside_of (slice_get xs m)) (λ m. beside_of (slice_get ys m))

module _ (xs : List Node) (spare epoch room failed bad : ℕ) (met : Option (ℕ × Why)) (top : ℕ) (leaf : Ref) (rooted : AllRooted xs) (kept : AreKept xs) (sound : IsSound (forest_with xs spare epoch room failed bad met)) (named : IsInodeLeaf (forest_with xs spare epoch room failed bad met) top leaf) where
  abbrev f : Forest
  f = forest_with xs spare epoch room failed bad met

  abbrev o : Owner
  o = record { root = top; key = leaf.key }

  -- where no loaded root is found, the leaf names none
  pub unloaded : position (is_sought top leaf.key) xs ≡ None → IsUnloaded f top leaf.key
  unloaded none d is = none_named xs spare epoch room failed bad met (are_lower xs kept) sound top leaf.key d none is

  module _ (c : ℕ) (l : IsSought xs top leaf.key c) (none : position (is_sought top leaf.key) xs ≡ None) where
    abbrev x : Node
    x = l.node

    abbrev y : Node
    y = sought l.node

    abbrev ys : List Node
    ys = slice_set xs c (sought l.node)

    own : l.node.owner ≡ Some o
    own = owned_is top leaf.key l.node.owner l.owned

    it : IsInodeRoot c l.node l.item
    it = kept.inode c l.node l.item l.read l.holds

    comes : Comes xs ys c y
    comes = loaded_root xs c x y l.read l.away l.bare refl it.bare refl it.bare it.root it.bits refl refl

    fit : IsFitRoot y
    fit = record {
      set = l.fits.set;
      capacity = l.fits.capacity;
      aligned = ap (λ n. n % 2 ^ 63) it.low ∙ from_aligned l.item.kind;
      ends = subst (λ n. n + 2 ^ 63 ≤ 2 ^ 64) (sym it.low) (from_ends l.item.kind);
      fits = λ j r read. let b = l.fits.fits j r read in record {
        named = b.named;
        held = b.held;
        low = b.low;
        high = b.high;
        aligned = b.aligned;
        class = b.class;
        fewer = b.fewer;
        leaf = b.leaf;
        allowed = b.allowed;
        wide = b.wide;
        some_bits = b.some_bits;
      };
    }

    none_owned : (j : ℕ) (z : Node) → slice_get xs j ≡ Some z → z.loaded ≡ true → z.owner ≡ Some o → ⊥
    none_owned j z read on is =
        let passes : is_sought top leaf.key z ≡ true = ap (λ b. b && owned_by top leaf.key z.owner) on ∙ ap (λ (p : Option Owner). owned_by top leaf.key p) is ∙ self_owner top leaf.key in
        let clash : true ≡ false = sym passes ∙ none_false (is_sought top leaf.key) xs none j z read in
        cc

    kept_now : AreKept ys
    kept_now = kept_arrives xs ys c y comes it.bare o kept longer own
        (record { lower = (kept.owner c l.node o l.read own).lower; root = it.root; bare = it.bare; known = λ on. ap is_known l.holds })
        (λ v e. let old = kept.inode c l.node v l.read e in record { root = old.root; bare = old.bare; low = old.low; bits = old.bits; leaf_bits = old.leaf_bits; set = old.set; number = old.number })
        none_owned
      where
        longer : length xs ≤ length ys
        longer = let n : length ys ≡ length xs = length-set xs c y in omega (arith, n)

    has : HasInode (forest_with ys spare epoch room failed bad met) (held_by fields_seen (λ m. beside_of (slice_get ys m))) c l.item
    has = has_inode ys spare epoch room failed bad met kept_now c y l.item (ap stands_of comes.at_c) comes.at_c l.holds

    pub loads_root : Found xs ys spare epoch room failed bad met top leaf.key c
    loads_root = record {
      rooted = rooted_arrives xs ys c y comes it.bare rooted;
      kept = kept_now;
      seeks = seeks xs ys c y spare spare epoch room failed failed bad bad met met comes sound fit (are_lower ys kept_now) top leaf named own refl (are_lower xs kept) none refl (omega arith) (omega arith);
      inode = (l.item, has, l.fits.number);
      spelled = λ i fresh is. subst IsInode (inode_one (forest_with ys spare epoch room failed bad met) (held_by fields_seen (λ m. beside_of (slice_get ys m))) c l.item i has is) l.fits.inode;
      beside = beside_arrives xs ys c y comes it.bare spare spare epoch room failed failed bad bad met met;
    }

  module _ (c : ℕ) (found : position (is_sought top leaf.key) xs ≡ Some c) where
    abbrev node : Node
    node = (here_at xs top leaf.key c found).node

    at_there : slice_get xs c ≡ Some node
    at_there = (here_at xs top leaf.key c found).read

    on : node.loaded ≡ true
    on = (and_parts node.loaded (owned_by top leaf.key node.owner) (here_at xs top leaf.key c found).passes).0

    owned : node.owner ≡ Some o
    owned = owned_is top leaf.key node.owner (and_parts node.loaded (owned_by top leaf.key node.owner) (here_at xs top leaf.key c found).passes).1

    stands : f.stands c ≡ true
    stands = ap stands_of at_there ∙ on

    known : (v : Inode) × (node.inode ≡ Some v)
    known = known_inode node.inode ((kept.owner c node o at_there owned).known on)

    one : (d : ℕ) → IsRootOf f top leaf.key d → c ≡ d
    one d is = go (slice_get xs d) refl
      where
        own_d : owner_of (slice_get xs d) ≡ Some o
        own_d = owner_named xs spare epoch room failed bad met (are_lower xs kept) sound top leaf.key d is

        go : (n : Option Node) → slice_get xs d ≡ n → c ≡ d
        go None e = let clash : true ≡ false = sym is.stands ∙ ap stands_of e in absurd (cc)
        go (Some z) e = kept.one c d node z o at_there e on (sym (ap stands_of e) ∙ is.stands) owned (sym (ap owner_of e) ∙ own_d)

    same : (m : ℕ) → f.stands m ≡ true → Same f f m
    same m st = record { place = InPlace-refl f m st; set = refl; link = λ k. refl; writable = refl; copies = refl }

    not_fresh : {A : Type 0} → f.stands c ≡ false → A
    not_fresh fresh = let clash : true ≡ false = sym stands ∙ fresh in absurd (cc)

    pub there_already : Found xs xs spare epoch room failed bad met top leaf.key c
    there_already = record {
      rooted = rooted;
      kept = kept;
      seeks = record {
        brings = record {
          sound = sound;
          same = same;
          leaf_bits = λ m st. refl;
          allows = λ m r st. refl;
          new = λ m st. inr st;
          held = λ m. refl;
          name = λ r. refl;
          epoch = refl;
          room = refl;
        };
        named = named_by xs spare epoch room failed bad met (are_lower xs kept) top leaf.key c (ap owner_of at_there ∙ owned) stands (ap root_of at_there ∙ (kept.owner c node o at_there owned).root) named.root;
        only = λ fresh t k is. not_fresh fresh;
        loaded = one;
        clean = λ fresh. not_fresh fresh;
        spare = refl;
        failed = omega arith;
        bad = omega arith;
      };
      inode = (known.0, has_inode xs spare epoch room failed bad met kept c node known.0 stands at_there known.1, (kept.inode c node known.0 at_there known.1).number o owned);
      spelled = λ i fresh is. not_fresh fresh;
      beside = record { same = λ m st now. refl };
    }

-- the node that was written is the one that was sought
pub sought_is : (xs : List Node) (top key c : ℕ) (l : IsSought xs top key c) (x z : Node) → slice_get xs c ≡ Some x → z ≡ sought x → slice_set xs c (sought l.node) ≡ slice_set xs c z
sought_is xs top key c l x z read is = ap (λ (y : Node). slice_set xs c (sought y)) (one_of l.node x (sym l.read ∙ read)) ∙ ap (slice_set xs c) (sym is)
