-- A root that is loaded, or new.
use Rattle.std.proofs.Common.{◌≡◌, ℕ, ◌+◌, ◌%◌, ◌<◌, ◌≤◌, ◌^◌, Bool, true, false, ◌&&◌, ◌||◌, arith, refl, cond, sym, ◌∙◌, ap, List, [], ◌∷◌, Option, Some, None, subst, ◌⊎◌, inl, inr, slice_get, suc}
use Rattle.std.specs.List.{position}
use Rattle.std.proofs.lemmas.Bool.{or_cases}
use Rattle.h2_ref.specs.declared.faults.Why.{Why}
use Rattle.h2_ref.specs.declared.reference.Kind.TheVariants.{Inode}
use Rattle.h2_ref.specs.declared.reference.Ref.{Ref}
use Rattle.h2_set.specs.Ranges.{Rising, limit}
use Rattle.h2_set.specs.RefSet.{RefSet, IsRefSet}
use Rattle.h2_set.specs.Forest.{Forest, refs, loaded, untold, IsSound, IsSoundNode, HasParent, HasOwner, IsOfInode, Reaches}
use Rattle.h2_set.specs.Calls.{Same}
use Rattle.h2_set.specs.ChangeLaws.{same_or_not}
use Rattle.h2_set.specs.PathLaws.{reaches_stay}
use Rattle.h2_set.specs.StayLaws.{stands_below}
use Rattle.h2_inode.specs.NodeLaws.{same_stays}
use Rattle.h2_inode.specs.Nodes.{Brings}
use Rattle.h2_memory_sets.specs.declared.node.Node.{Node}
use Rattle.h2_memory_sets.proofs.Chains.{belongs_trans}
use Rattle.h2_memory_sets.proofs.Named.{named_by, self_owner}
use Rattle.h2_memory_sets.proofs.OfInode.{placed_owned, of_inode_stays}
use Rattle.h2_memory_sets.proofs.Owned.{AreLower, belongs_step, belongs_none, owner_is, or_first, or_second}
use Rattle.h2_memory_sets.specs.declared.node.Owner.{Owner}
use Rattle.h2_memory_sets.specs.Owners.{owner_of, is_owner, belongs_to, allows_of, held_of}
use Rattle.h2_memory_sets.specs.View.{stands_of, set_of, root_of, low_of, bits_of, writable_of, copies_of, leaf_bits_of, is_child, link_of, forest_with, FitsBelow, range_of}

-- where the second vector is the first but for node c, which is a root that stands there alone
pub record Comes (xs ys : List Node) (c : ℕ) (y : Node) : Type 0 where
  pub at_c : slice_get ys c ≡ Some y
  pub off_c : (m : ℕ) → (m ≡ c → ⊥) → slice_get ys m ≡ slice_get xs m
  pub fresh : stands_of (slice_get xs c) ≡ false
  pub loaded : y.loaded ≡ true
  pub root : y.root ≡ c
  pub bits : y.bits ≡ 63
  pub copies : y.copies ≡ 0
  pub unheld : y.held ≡ false
  pub first : (m k : ℕ) → position (is_child m k) ys ≡ position (is_child m k) xs
  pub bare : (k : ℕ) → position (is_child c k) ys ≡ None
  pub belongs : (m t k : ℕ) → stands_of (slice_get xs m) ≡ true → belongs_to ys (root_of (slice_get xs m)) t k ≡ belongs_to xs (root_of (slice_get xs m)) t k

-- a root whose references may stand there
pub record IsFitRoot (y : Node) : Type 0 where
  pub set : IsRefSet y.set
  pub capacity : let s = y.set in s.capacity ≡ 4
  pub aligned : y.low % 2 ^ 63 ≡ 0
  pub ends : y.low + 2 ^ 63 ≤ 2 ^ 64
  pub fits : (j : ℕ) (r : Ref) → (let s = y.set in slice_get s.refs j) ≡ Some r → FitsBelow (range_of y) (Some y) r

-- the leaf with the key in the tree of root top names an inode, and its path is loaded
pub record HasPath (f : Forest) (top key : ℕ) : Type 0 where
  pub stands : f.stands top ≡ true
  pub root : f.root top ≡ top
  pub leaf : Ref
  pub key_is : leaf.key ≡ key
  pub kind_is : leaf.kind ≡ Inode
  pub path : Reaches f key top (Some leaf)

-- references between two keys, in order
rest_between : (low high high' : ℕ) (rs : List Ref) → Rising low high rs → ((i : ℕ) (r : Ref) → slice_get rs i ≡ Some r → limit r ≤ high') → low ≤ high' → Rising low high' rs
rest_between low high high' [] h all le = le
rest_between low high high' (r ∷ rs) h all le = (h.0, rest_between (limit r) high high' rs h.1 (λ i q read. all (suc i) q read) (all 0 r refl))

rising_between : (low low' high high' : ℕ) (rs : List Ref) → Rising low high rs → ((i : ℕ) (r : Ref) → slice_get rs i ≡ Some r → low' ≤ r.key) → ((i : ℕ) (r : Ref) → slice_get rs i ≡ Some r → limit r ≤ high') → low' ≤ high' → Rising low' high' rs
rising_between low low' high high' [] h from to le = le
rising_between low low' high high' (r ∷ rs) h from to le = (from 0 r refl, rest_between (limit r) high high' rs h.1 (λ i q read. to (suc i) q read) (to 0 r refl))

cond_untold : (b : Bool) → cond b untold untold ≡ untold
cond_untold true = refl
cond_untold false = refl

unheld_away : (o : Option Node) → stands_of o ≡ false → held_of o ≡ false
unheld_away None e = refl
unheld_away (Some x) e = ap (λ b. b && x.held) e

unheld_there : (y : Node) → y.held ≡ false → held_of (Some y) ≡ false
unheld_there y e = ap (λ b. y.loaded && b) e ∙ go y.loaded
  where
    go : (b : Bool) → (b && false) ≡ false
    go true = refl
    go false = refl

module _ (xs ys : List Node) (c : ℕ) (y : Node) (spare spare' epoch room failed failed' bad bad' : ℕ) (met met' : Option (ℕ × Why)) (h : Comes xs ys c y) (sound : IsSound (forest_with xs spare epoch room failed bad met)) where
  abbrev f : Forest
  f = forest_with xs spare epoch room failed bad met

  abbrev g : Forest
  g = forest_with ys spare' epoch room failed' bad' met'

  pub not_fresh : (m : ℕ) → stands_of (slice_get xs m) ≡ true → m ≡ c → ⊥
  not_fresh m st e = let clash : true ≡ false = sym st ∙ ap (λ z. stands_of (slice_get xs z)) e ∙ h.fresh in cc

  off : (m : ℕ) → stands_of (slice_get xs m) ≡ true → slice_get ys m ≡ slice_get xs m
  off m st = h.off_c m (not_fresh m st)

  link_other : (m k : ℕ) → (m ≡ c → ⊥) → link_of ys m k ≡ link_of xs m k
  link_other m k ne = rw (ap set_of (h.off_c m ne), h.first m k) refl

  pub link_here : (k : ℕ) → link_of ys c k ≡ untold
  link_here k = rw (h.bare k) (cond_untold _)

  none_loaded : (k d : ℕ) → link_of ys c k ≡ loaded d → ⊥
  none_loaded k d e = let it : untold ≡ loaded d = sym (link_here k) ∙ e in cc

  pub same : (m : ℕ) → f.stands m ≡ true → Same f g m
  same m st =
      let o = off m st in
      record {
        place = record {
          stands = ap stands_of o ∙ st;
          root = ap root_of o;
          low = ap low_of o;
          bits = ap bits_of o;
          belongs = λ t k. ap (λ q. belongs_to ys q t k) (ap root_of o) ∙ h.belongs m t k st;
          writable = λ e. ap writable_of o ∙ e;
        };
        set = ap set_of o;
        link = λ k. link_other m k (not_fresh m st);
        writable = ap writable_of o;
        copies = ap copies_of o;
      }

  pub leaf_bits : (m : ℕ) → f.stands m ≡ true → g.leaf_bits m ≡ f.leaf_bits m
  leaf_bits m st = ap leaf_bits_of (off m st)

  pub allows : (m : ℕ) (r : Ref) → f.stands m ≡ true → g.allows m r ≡ f.allows m r
  allows m r st = ap (λ (o : Option Node). allows_of o r) (off m st)

  pub held : (m : ℕ) → g.held m ≡ f.held m
  held m = elim (same_or_not m c) as (λ _. g.held m ≡ f.held m) [
    | inl e ↦ subst (λ z. g.held z ≡ f.held z) (sym e) (ap held_of h.at_c ∙ unheld_there y h.unheld ∙ sym (unheld_away (slice_get xs c) h.fresh))
    | inr ne ↦ ap held_of (h.off_c m ne)
  ]

  pub new : (m : ℕ) → g.stands m ≡ true → (m ≡ c) ⊎ (f.stands m ≡ true)
  new m st = elim (same_or_not m c) as (λ _. (m ≡ c) ⊎ (f.stands m ≡ true)) [
    | inl e ↦ inl e
    | inr ne ↦ inr (sym (ap stands_of (h.off_c m ne)) ∙ st)
  ]

  pub stands : g.stands c ≡ true
  stands = ap stands_of h.at_c ∙ h.loaded

  pub root : g.root c ≡ c
  root = ap root_of h.at_c ∙ h.root

  -- a node that stood is sound
  old_node : (m : ℕ) → f.stands m ≡ true → IsSoundNode g m
  old_node m st =
      let s = same m st in
      let p = s.place in
      let node = sound.node m st in
      let top = (sound.top m st).0 in
      let refs_is : refs g m ≡ refs f m = ap (λ (t : RefSet). t.refs) s.set in
      let grain : g.leaf_bits (g.root m) ≡ f.leaf_bits (f.root m) = ap g.leaf_bits p.root ∙ leaf_bits (f.root m) top in
      record {
        set = rw s.set node.set;
        root_capacity = λ e. ap (λ (t : RefSet). t.capacity) s.set ∙ node.root_capacity (sym p.root ∙ e);
        block_capacity = λ ne. ap (λ (t : RefSet). t.capacity) s.set ∙ node.block_capacity (λ e. ne (p.root ∙ e));
        inside = rw (refs_is, p.low, p.bits) node.inside;
        aligned = rw (p.low, p.bits) node.aligned;
        ends = rw (p.low, p.bits) node.ends;
        fits = λ i r read. let it = node.fits i r (rw refs_is at read) in record {
          aligned = it.aligned;
          class = it.class;
          leaf = λ e. it.leaf e ∙ sym grain;
          allowed = λ e. ap (λ n. g.allows n r) p.root ∙ allows (f.root m) r top ∙ it.allowed e;
          held = it.held;
          wide = λ e. rw grain (it.wide e);
          some_bits = it.some_bits;
          falls = λ e. rw p.bits (it.falls e);
        };
        some = λ ne. rw refs_is (node.some (λ e. ne (p.root ∙ e)));
        child = λ k d e.
            let it = node.child k d (sym (s.link k) ∙ e) in
            let q = same d it.stands in
            record {
              stands = q.place.stands;
              root = q.place.root ∙ it.root ∙ sym p.root;
              low = q.place.low ∙ it.low;
              above = rw (p.low, q.place.low) it.above;
              within = rw (p.low, q.place.low, p.bits, q.place.bits) it.within;
              fewer = rw (p.bits, q.place.bits) it.fewer;
              copies = rw (q.copies, s.copies, q.writable) it.copies;
              belongs = λ t j. q.place.belongs t j ∙ it.belongs t j ∙ sym (p.belongs t j);
            };
        named = λ k d e. rw refs_is (node.named k d (sym (s.link k) ∙ e));
        bits = λ i d r read ind e.
            let was = sym (s.link r.key) ∙ e in
            (same d (node.child r.key d was).stands).place.bits ∙ node.bits i d r (rw refs_is at read) ind was;
        top = λ e. s.copies ∙ node.top (sym p.root ∙ e);
        half = λ e. p.bits ∙ node.half (sym p.root ∙ e);
        slope = rw (s.copies, p.bits) node.slope;
      }

  new_node : IsFitRoot y → IsSoundNode g c
  new_node fit =
      let set_is : set_of (slice_get ys c) ≡ y.set = ap set_of h.at_c in
      let low_is : low_of (slice_get ys c) ≡ y.low = ap low_of h.at_c in
      let bits_is : bits_of (slice_get ys c) ≡ 63 = ap bits_of h.at_c ∙ h.bits in
      let copies_is : copies_of (slice_get ys c) ≡ 0 = ap copies_of h.at_c ∙ h.copies in
      let refs_is : refs g c ≡ (let s = y.set in s.refs) = ap (λ (t : RefSet). t.refs) set_is in
      let tree : slice_get ys (root_of (slice_get ys c)) ≡ Some y = ap (λ n. slice_get ys n) root ∙ h.at_c in
      let top_bits : y.low + 2 ^ y.bits ≡ y.low + 2 ^ 63 = ap (λ n. y.low + 2 ^ n) h.bits in
      record {
        set = rw set_is fit.set;
        root_capacity = λ e. ap (λ (t : RefSet). t.capacity) set_is ∙ fit.capacity;
        block_capacity = λ ne. absurd (ne root);
        inside = rw (refs_is, low_is, bits_is) (rising_between 0 y.low (2 ^ 64) (y.low + 2 ^ 63) _ fit.set.rising (λ i r read. (fit.fits i r read).low) (λ i r read. subst (λ n. limit r ≤ n) top_bits (fit.fits i r read).high) (omega arith));
        aligned = rw (low_is, bits_is) fit.aligned;
        ends = rw (low_is, bits_is) fit.ends;
        fits = λ i r read. let it = fit.fits i r (sym (ap (λ (l : List Ref). slice_get l i) refs_is) ∙ read) in record {
          aligned = it.aligned;
          class = it.class;
          leaf = λ e. it.leaf e ∙ sym (ap leaf_bits_of tree);
          allowed = λ e. ap (λ (o : Option Node). allows_of o r) tree ∙ it.allowed e;
          held = it.held;
          wide = λ e. subst (λ n. n ≤ r.keybits) (sym (ap leaf_bits_of tree)) (it.wide e);
          some_bits = it.some_bits;
          falls = λ e. subst (λ n. r.keybits < n) (h.bits ∙ sym bits_is) it.fewer;
        };
        some = λ ne. absurd (ne root);
        child = λ k d e. absurd (none_loaded k d e);
        named = λ k d e. absurd (none_loaded k d e);
        bits = λ i d r read ind e. absurd (none_loaded r.key d e);
        top = λ e. copies_is;
        half = λ e. bits_is;
        slope = rw (copies_is, bits_is) (omega arith);
      }

  top_of : (m : ℕ) → g.stands m ≡ true → (g.stands (g.root m) ≡ true) × (g.root (g.root m) ≡ g.root m)
  top_of m st = elim (new m st) as (λ _. (g.stands (g.root m) ≡ true) × (g.root (g.root m) ≡ g.root m)) [
    | inl e ↦ subst (λ z. (g.stands (g.root z) ≡ true) × (g.root (g.root z) ≡ g.root z)) (sym e) (ap g.stands root ∙ stands, ap g.root root)
    | inr was ↦
        let t = sound.top m was in
        let p = (same m was).place in
        let q = (same (f.root m) t.0).place in
        (ap g.stands p.root ∙ q.stands, ap g.root p.root ∙ q.root ∙ t.1 ∙ sym p.root)
  ]

  parent_of : (m : ℕ) → g.stands m ≡ true → (g.root m ≡ m → ⊥) → HasParent g m
  parent_of m st ne = elim (new m st) as (λ _. HasParent g m) [
    | inl e ↦ absurd (ne (subst (λ z. g.root z ≡ z) (sym e) root))
    | inr was ↦
        let p = (same m was).place in
        let it = sound.parent m was (λ e. ne (p.root ∙ e)) in
        let q = same it.parent it.stands in
        record { parent = it.parent; stands = q.place.stands; link = ap (g.link it.parent) p.low ∙ q.link (f.low m) ∙ it.link }
  ]

  pub path_stays : {key at : ℕ} {o : Option Ref} → f.stands at ≡ true → Reaches f key at o → Reaches g key at o
  path_stays st path = reaches_stay f g (λ n. f.stands n ≡ true) (stands_below f sound) (λ n was. same_stays f g n (same n was)) st path

  old_owner : (m t k : ℕ) → f.stands m ≡ true → HasOwner f m t k → HasOwner g m t k
  old_owner m t k st it = record {
    other = λ e. it.other (sym (same m st).place.root ∙ e);
    stands = (same t it.stands).place.stands;
    root = (same t it.stands).place.root ∙ it.root;
    leaf = it.leaf;
    key_is = it.key_is;
    kind_is = it.kind_is;
    path = path_stays it.stands it.path;
  }

  new_owner : (t k : ℕ) → HasPath f t k → HasOwner g c t k
  new_owner t k it = record {
    other = λ e. not_fresh t it.stands (sym e ∙ root);
    stands = (same t it.stands).place.stands;
    root = (same t it.stands).place.root ∙ it.root;
    leaf = it.leaf;
    key_is = it.key_is;
    kind_is = it.kind_is;
    path = path_stays it.stands it.path;
  }

  owner_of_new : ((t k : ℕ) → belongs_to ys c t k ≡ true → HasPath f t k) → (m t k : ℕ) → g.stands m ≡ true → g.belongs m t k ≡ true → HasOwner g m t k
  owner_of_new owned m t k st b = elim (new m st) as (λ _. HasOwner g m t k) [
    | inl e ↦ subst (λ z. HasOwner g z t k) (sym e) (new_owner t k (owned t k (sym (ap (λ q. belongs_to ys q t k) root) ∙ subst (λ z. g.belongs z t k ≡ true) e b)))
    | inr was ↦ old_owner m t k was (sound.owner m t k was (sym ((same m was).place.belongs t k) ∙ b))
  ]

  -- what belonged to a leaf stands with the root of its inode
  old_inode : (m t k : ℕ) → f.stands m ≡ true → f.belongs m t k ≡ true → IsOfInode g m t k
  old_inode m t k st b =
      let it = sound.inode m t k st b in
      let above = (sound.owner m t k st b).stands in
      let here = (same it.inode it.named.stands).place in
      of_inode_stays f g m t k (placed_owned f g m (same m st).place) (placed_owned f g t (same t above).place) it here.stands (placed_owned f g it.inode here)

  -- the root that came is that of its owner's inode, and belongs to all that the owner's tree belongs to
  owner_inode : AreLower ys → (t k : ℕ) → belongs_to ys c t k ≡ true → (o : Owner) → owner_of (slice_get ys c) ≡ Some o → HasPath f o.root o.key → IsOfInode g c t k
  owner_inode low t k b o e it =
      let top_own : g.root o.root ≡ o.root = (same o.root it.stands).place.root ∙ it.root in
      let to_c : (u j : ℕ) → (is_owner u j o || belongs_to ys o.root u j) ≡ true → g.belongs c u j ≡ true = λ u j is. ap (λ q. belongs_to ys q u j) root ∙ belongs_step ys low c u j o e ∙ is in
      elim (or_cases (is_owner t k o) (belongs_to ys o.root t k) (sym (belongs_step ys low c t k o e) ∙ b)) as (λ _. IsOfInode g c t k) [
        | inl is ↦
            let at = owner_is t k o is in
            subst (λ z. IsOfInode g c z k) at.0 (subst (λ z. IsOfInode g c o.root z) at.1 (record { inode = c; named = named_by ys spare' epoch room failed' bad' met' low o.root o.key c e stands root top_own; within = inl root }))
        | inr above ↦
            let now = old_inode o.root t k it.stands (sym (h.belongs o.root t k it.stands) ∙ ap (λ q. belongs_to ys q t k) it.root ∙ above) in
            record {
              inode = now.inode;
              named = now.named;
              within = inr (elim now.within as (λ _. (j : ℕ) × (g.belongs c now.inode j ≡ true)) [
                | inl own ↦ (o.key, subst (λ z. g.belongs c z o.key ≡ true) (sym top_own ∙ own) (to_c o.root o.key (or_first (is_owner o.root o.key o) _ (self_owner o.root o.key))))
                | inr w ↦ (w.0, to_c now.inode w.0 (or_second (is_owner now.inode w.0 o) _ (sym (ap (λ q. belongs_to ys q now.inode w.0) top_own) ∙ w.1)))
              ]);
            }
      ]

  new_inode : AreLower ys → ((t k : ℕ) → belongs_to ys c t k ≡ true → HasPath f t k) → (t k : ℕ) → belongs_to ys c t k ≡ true → IsOfInode g c t k
  new_inode low owned t k b = go (owner_of (slice_get ys c)) refl
    where
      go : (o : Option Owner) → owner_of (slice_get ys c) ≡ o → IsOfInode g c t k
      go None e = let clash : true ≡ false = sym b ∙ belongs_none ys c t k e in absurd (cc)
      go (Some o) e = owner_inode low t k b o e (owned o.root o.key (belongs_step ys low c o.root o.key o e ∙ or_first (is_owner o.root o.key o) _ (self_owner o.root o.key)))

  pub sound_now : AreLower ys → IsFitRoot y → ((t k : ℕ) → belongs_to ys c t k ≡ true → HasPath f t k) → IsSound g
  sound_now low fit owned = record {
    node = λ m st. elim (new m st) as (λ _. IsSoundNode g m) [
      | inl e ↦ subst (IsSoundNode g) (sym e) (new_node fit)
      | inr was ↦ old_node m was
    ];
    held = λ m is.
        let it = sound.held m (sym (held m) ∙ is) in
        let p = (same m it.0).place in
        (p.stands, p.root ∙ it.1);
    top = top_of;
    parent = parent_of;
    owner = owner_of_new owned;
    inode = λ m t k st b. elim (new m st) as (λ _. IsOfInode g m t k) [
      | inl e ↦ subst (λ z. IsOfInode g z t k) (sym e) (new_inode low owned t k (sym (ap (λ q. belongs_to ys q t k) root) ∙ subst (λ z. g.belongs z t k ≡ true) e b))
      | inr was ↦ old_inode m t k was (sym ((same m was).place.belongs t k) ∙ b)
    ];
    chain = λ m t k u j st b b'.
        let own : g.root t ≡ t = (owner_of_new owned m t k st b).root in
        belongs_trans ys low (g.root m) t k u j b (sym (ap (λ q. belongs_to ys q u j) own) ∙ b');
    epoch = sound.epoch;
  }

  pub brings_root : AreLower ys → IsFitRoot y → ((t k : ℕ) → belongs_to ys c t k ≡ true → HasPath f t k) → Brings f g c
  brings_root low fit owned = record {
    sound = sound_now low fit owned;
    same = same;
    leaf_bits = leaf_bits;
    allows = allows;
    new = new;
    held = held;
    name = λ r. refl;
    epoch = refl;
    room = refl;
  }
