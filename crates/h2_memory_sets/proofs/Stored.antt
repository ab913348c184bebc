-- What storing a set leaves.
use Rattle.std.proofs.Common.{◌≡◌, ℕ, Bool, true, false, arith, refl, sym, ◌∙◌, ap, List, [], ◌∷◌, Option, Some, None, subst, slice_get, slice_set}
use Rattle.h2_ref.specs.declared.faults.Why.{Why}
use Rattle.h2_ref.specs.declared.reference.Kind.{Kind}
use Rattle.h2_ref.specs.declared.reference.Kind.TheVariants.{Empty, Inode as Inode_kind, Indirect, Content, Dirent, MapNode, MapLeaf}
use Rattle.h2_ref.specs.declared.reference.Ref.{Ref}
use Rattle.h2_set.specs.Ranges.{is_indirect}
use Rattle.h2_set.specs.RefSet.{RefSet}
use Rattle.h2_set.specs.Forest.{Forest, IsSound, Reaches, nowhere, here, below}
use Rattle.h2_set.specs.Calls.{Fixed, KeepsBeside, Storable, Stores}
use Rattle.h2_inode.specs.declared.kind.InodeKind.{InodeKind}
use Rattle.h2_inode.specs.declared.kind.InodeKind.TheVariants.{Directory, File, Pfs}
use Rattle.h2_inode.specs.declared.inode.Body.{Body}
use Rattle.h2_inode.specs.declared.inode.Body.TheVariants.{Refs, Bytes}
use Rattle.h2_inode.specs.declared.inode.Inode.{Inode}
use Rattle.h2_inode.specs.Nodes.{set_of as set_of_body}
use Rattle.h2_memory_sets.specs.declared.node.Leaves.{Leaves}
use Rattle.h2_memory_sets.specs.declared.node.Leaves.TheVariants.{Any, Inodes}
use Rattle.h2_memory_sets.specs.declared.node.Node.{Node}
use Rattle.h2_memory_sets.specs.Kept.{AreKept, IsInodeRoot}
use Rattle.h2_memory_sets.specs.Owners.{is_leaf_of, is_plain, inode_allows, allowed_by, allows_of, beside_of, refit}
use Rattle.h2_memory_sets.specs.View.{stands_of, set_of, root_of, with_set, forest_with, dropped, dropped_all, AllRooted}
use Rattle.h2_memory_sets.proofs.Drops.{dropped_with, own_stays, kept_drop}
use Rattle.h2_memory_sets.proofs.Keeping.{refit_allows, refit_twice, refit_known, refit_root}
use Rattle.h2_memory_sets.proofs.Losing.{roots, differs_by_store, rooted_dropped, stays_field}
use Rattle.h2_memory_sets.proofs.Nodes.{fixed_of}
use Rattle.h2_memory_sets.proofs.Parting.{one_of, get_map}
use Rattle.h2_memory_sets.proofs.Passing.{and_parts}
use Rattle.h2_memory_sets.proofs.Reaching.{stores}
use Rattle.h2_memory_sets.proofs.Settled.{KeepsRules, fits_in}
use Rattle.h2_memory_sets.proofs.Storing.{DiffersByStore, Suits, at_now, now_stays, root_now}

-- a leaf that is reached is one that the tree may have
pub allowed_leaf : (f : Forest) (key : ℕ) → IsSound f → {n : ℕ} {o : Option Ref} (leaf : Ref) → o ≡ Some leaf → f.stands n ≡ true → Reaches f key n o → f.allows (f.root n) leaf ≡ true
allowed_leaf f key sound leaf is st (nowhere miss) = absurd (let clash : None ≡ Some leaf = is in cc)
allowed_leaf f key sound leaf is st (here {at = n} {r = r} i read in_r leafy) = subst (λ (q : Ref). f.allows (f.root n) q ≡ true) (one_of r leaf is) (((sound.node n st).fits i r read).allowed leafy)
allowed_leaf f key sound leaf is st (below {at = n} {c = c} {r = r} i read in_r ind link rest) =
    let kid = (sound.node n st).child r.key c link in
    subst (λ t. f.allows t leaf ≡ true) kid.root (allowed_leaf f key sound leaf is kid.stands rest)

pfs_leaf : (k : Kind) → is_leaf_of Pfs k ≡ true → k ≡ Inode_kind
pfs_leaf Empty e = absurd (cc)
pfs_leaf Inode_kind e = refl
pfs_leaf Indirect e = absurd (cc)
pfs_leaf Content e = absurd (cc)
pfs_leaf Dirent e = absurd (cc)
pfs_leaf MapNode e = absurd (cc)
pfs_leaf MapLeaf e = absurd (cc)

pfs_kind : (kind : InodeKind) → is_leaf_of kind Inode_kind ≡ true → kind ≡ Pfs
pfs_kind Directory e = absurd (cc)
pfs_kind File e = absurd (cc)
pfs_kind Pfs e = refl

-- a tree that may have a leaf which names an inode has no others
pub one_kind : (o : Option Node) (leaf r : Ref) → allows_of o leaf ≡ true → leaf.kind ≡ Inode_kind → allows_of o r ≡ true → r.kind ≡ Inode_kind
one_kind None leaf r a kind b = absurd (cc)
one_kind (Some x) leaf r a kind b = by_inode x.inode a b
  where
    of_kind : (k : InodeKind) → is_leaf_of k leaf.kind ≡ true → is_leaf_of k r.kind ≡ true → r.kind ≡ Inode_kind
    of_kind k a b = pfs_leaf r.kind (ap (λ z. is_leaf_of z r.kind) (sym (pfs_kind k (ap (is_leaf_of k) (sym kind) ∙ a))) ∙ b)

    by_body : (k : InodeKind) (body : Body) → inode_allows k body leaf ≡ true → inode_allows k body r ≡ true → r.kind ≡ Inode_kind
    by_body k (Refs s) a b = of_kind k (and_parts (is_leaf_of k leaf.kind) _ a).0 (and_parts (is_leaf_of k r.kind) _ b).0
    by_body k (Bytes bytes) a b = absurd (cc)

    by_leaves : (l : Leaves) → allowed_by None l leaf ≡ true → allowed_by None l r ≡ true → r.kind ≡ Inode_kind
    by_leaves Any a b = absurd (let clash : false ≡ true = ap is_plain (sym kind) ∙ a in cc)
    by_leaves Inodes a b = of_kind Pfs (and_parts (is_leaf_of Pfs leaf.kind) _ a).0 (and_parts (is_leaf_of Pfs r.kind) _ b).0

    by_inode : (i : Option Inode) → allowed_by i x.leaves leaf ≡ true → allowed_by i x.leaves r ≡ true → r.kind ≡ Inode_kind
    by_inode None a b = by_leaves x.leaves a b
    by_inode (Some i) a b = by_body i.kind i.body a b

-- a set without references
pub bare_set : (s : RefSet) → ((i : ℕ) (r : Ref) → slice_get s.refs i ≡ Some r → ⊥) → s.capacity ≡ 4 → s ≡ record { refs = []; capacity = 4 }
bare_set s none four = ap (λ (l : List Ref). record { refs = l; capacity = s.capacity }) (go s.refs none) ∙ ap (λ (n : ℕ). record { refs = []; capacity = n }) four
  where
    go : (l : List Ref) → ((i : ℕ) (r : Ref) → slice_get l i ≡ Some r → ⊥) → l ≡ []
    go [] none = refl
    go (q ∷ qs) none = absurd (none 0 q refl)

-- what is known once a set is stored
pub record IsStored (xs ys : List Node) (f g : Forest) (at : ℕ) (s : RefSet) : Type 0 where
  pub stores : Stores f g at s
  pub rooted : AllRooted ys
  pub kept : AreKept ys
  pub beside : KeepsBeside f g (λ m. beside_of (slice_get xs m)) (λ m. beside_of (slice_get ys m))

module _ (xs : List Node) (at : ℕ) (x : Node) (s : RefSet) (kept : AreKept xs) (read : slice_get xs at ≡ Some x) (spare epoch room failed bad : ℕ) (met : Option (ℕ × Why)) (sound : IsSound (forest_with xs spare epoch room failed bad met)) (stands : stands_of (slice_get xs at) ≡ true) (storable : Storable (forest_with xs spare epoch room failed bad met) at s) where
  abbrev f : Forest
  f = forest_with xs spare epoch room failed bad met

  abbrev ys : List Node
  ys = dropped_with xs at x x s (refit x.inode s) kept read refl

  abbrev g : Forest
  g = forest_with (dropped_with xs at x x s (refit x.inode s) kept read refl) spare epoch room failed bad met

  d : DiffersByStore f g at s
  d = differs_by_store xs at x x s (refit x.inode s) kept read refl spare epoch room failed bad met sound stands storable.free

  allows_same : (m : ℕ) (r : Ref) → g.stands m ≡ true → g.allows m r ≡ f.allows m r
  allows_same m r now = stays_field xs at x x s (refit x.inode s) kept read refl spare epoch room failed bad met sound stands storable.free (λ o. allows_of o r) (refit_allows x.inode s x.leaves r) m now

  fixed : Fixed f g
  fixed = fixed_of xs ys spare spare epoch room room failed failed bad bad met met (roots xs at x x s (refit x.inode s) kept read refl spare epoch room failed bad met sound stands storable.free) (λ m r st now. allows_same m r now) (omega arith) (omega arith)

  rules : (m : ℕ) → g.stands m ≡ true → KeepsRules f g (f.root m)
  rules m now =
      let st = d.none_new m now in
      let there = root_now f g at s d sound stands m st (now_stays f g at s d sound stands m now) in
      record { stood = (sound.top m st).0; stands = there; allows = λ r e. allows_same (f.root m) r there ∙ e }

  kinds : (m key i : ℕ) (r : Ref) → f.stands m ≡ true → f.belongs m (f.root at) key ≡ true → slice_get s.refs i ≡ Some r → is_indirect r ≡ false → r.kind ≡ Inode_kind
  kinds m key i r st bel got leafy =
      let h = sound.owner m (f.root at) key st bel in
      let a = subst (λ t. f.allows t h.leaf ≡ true) h.root (allowed_leaf f key sound h.leaf refl h.stands h.path) in
      one_kind (slice_get xs (root_of (slice_get xs at))) h.leaf r a h.kind_is ((storable.fits i r got).allowed leafy)

  suits : Suits f g at s
  suits =
      let now = at_now f g at s d sound stands in
      record {
        capacity = storable.capacity;
        set = storable.set;
        some = storable.some;
        inside = storable.inside;
        fits = λ i r got. fits_in f g d.loose at r stands now (rules at now) (storable.fits i r got);
        stood = storable.stood;
        free = storable.free;
        rules = λ m there ne. rules m there;
        kinds = kinds;
      }

  -- a body that is bytes has no set, and is given none
  bare : (w : Inode) (bytes : List ℕ) → x.inode ≡ Some w → w.body ≡ Bytes bytes → s ≡ record { refs = []; capacity = 4 }
  bare w bytes holds is = bare_set s none (storable.capacity ∙ ap (λ (t : RefSet). t.capacity) (ap set_of read ∙ empty))
    where
      root : IsInodeRoot at x w
      root = kept.inode at x w read holds

      empty : x.set ≡ record { refs = []; capacity = 4 }
      empty = root.set ∙ ap set_of_body is

      no_leaf : (r : Ref) → allows_of (slice_get xs (root_of (slice_get xs at))) r ≡ false
      no_leaf r = ap (λ t. allows_of (slice_get xs t) r) (ap root_of read ∙ root.root) ∙ ap (λ o. allows_of o r) read ∙ ap (λ i. allowed_by i x.leaves r) holds ∙ ap (λ b. inode_allows w.kind b r) is

      none : (i : ℕ) (r : Ref) → slice_get s.refs i ≡ Some r → ⊥
      none i r got = by_kind (is_indirect r) refl
        where
          by_kind : (b : Bool) → is_indirect r ≡ b → ⊥
          by_kind false e = let clash : true ≡ false = sym ((storable.fits i r got).allowed e) ∙ no_leaf r in cc
          by_kind true e =
              let old = storable.stood i r got e in
              let was : slice_get [] old.0 ≡ Some r = sym (ap (λ (t : RefSet). slice_get t.refs old.0) (ap set_of read ∙ empty)) ∙ old.1 in
              cc

  pub is_stored : AllRooted xs → IsStored xs (dropped_with xs at x x s (refit x.inode s) kept read refl) (forest_with xs spare epoch room failed bad met) (forest_with (dropped_with xs at x x s (refit x.inode s) kept read refl) spare epoch room failed bad met) at s
  is_stored rooted = record {
    stores = stores f g at s d sound stands suits fixed;
    rooted = rooted_dropped xs at x x s (refit x.inode s) kept read refl spare epoch room failed bad met sound stands storable.free rooted;
    kept = kept_drop xs at x x s (refit x.inode s) kept read refl (refit_root at x s (λ w e. kept.inode at x w read e) bare) (λ e. refit_known x.inode s ∙ e);
    beside = record { same = λ m st now. stays_field xs at x x s (refit x.inode s) kept read refl spare epoch room failed bad met sound stands storable.free beside_of (refit_twice x.inode s (record { refs = []; capacity = 4 })) m now };
  }

-- the nodes that were written, where y is the node that was read once the others were dropped
pub stored : (xs items : List Node) (at : ℕ) (x y : Node) (s : RefSet) (old : List Ref) (spare epoch room failed bad : ℕ) (met : Option (ℕ × Why)) → IsSound (forest_with xs spare epoch room failed bad met) → stands_of (slice_get xs at) ≡ true → Storable (forest_with xs spare epoch room failed bad met) at s → AllRooted xs → (kept : AreKept xs) → items ≡ dropped_all x.root x.bits old s.refs xs → old ≡ (let t = x.set in t.refs) → slice_get xs at ≡ Some x → slice_get items at ≡ Some y → (z : Node) → z ≡ with_set y s → IsStored xs (slice_set items at z) (forest_with xs spare epoch room failed bad met) (forest_with (slice_set items at z) spare epoch room failed bad met) at s
stored xs items at x y s old spare epoch room failed bad met sound stands storable rooted kept items_is old_is read read_y z z_is =
    let all_is : items ≡ dropped_all x.root x.bits (let t = x.set in t.refs) s.refs xs = items_is ∙ ap (λ (o : List Ref). dropped_all x.root x.bits o s.refs xs) old_is in
    let same : y ≡ x = one_of y x (sym read_y ∙ ap (λ (l : List Node). slice_get l at) all_is ∙ get_map (dropped xs x.root x.bits (let t = x.set in t.refs) s.refs) xs at x read ∙ ap Some (own_stays xs at x s kept read)) in
    let is : slice_set items at z ≡ dropped_with xs at x x s (refit x.inode s) kept read refl = ap (slice_set items at) z_is ∙ ap (λ (l : List Node). slice_set l at (with_set y s)) all_is ∙ ap (λ (n : Node). slice_set (dropped_all x.root x.bits (let t = x.set in t.refs) s.refs xs) at (with_set n s)) same in
    subst (λ (zs : List Node). IsStored xs zs (forest_with xs spare epoch room failed bad met) (forest_with zs spare epoch room failed bad met) at s) (sym is) (is_stored xs at x s kept read spare epoch room failed bad met sound stands storable rooted)
