-- Nodes that stay where they are while something else of the forest changes.
use Rattle.std.proofs.Common.{◌≡◌, ℕ, ◌+◌, ◌<◌, ◌≤◌, ◌^◌, true, sym, ◌∙◌, ap, length, Some, subst, inl, inr, slice_get}
use Rattle.h2_ref.specs.declared.reference.Ref.{Ref}
use Rattle.h2_set.specs.Ranges.{Rising, is_indirect}
use Rattle.h2_set.specs.RefSet.{RefSet, IsRefSet}
use Rattle.h2_set.specs.Forest.{Forest, refs, loaded, IsChild, IsSoundNode, IsSound, Fits, NamesBelow, HasParent, HasOwner, IsOfInode, Reaches}
use Rattle.h2_set.specs.Calls.{Fixed, InPlace, Stays, Keeps, Same, Alike, ReadiesOnly, Unchanged}
use Rattle.h2_set.specs.StayLaws.{Alike-refl, stands_below}
use Rattle.h2_set.specs.ChangeLaws.{Keeps-Stays}
use Rattle.h2_set.specs.PathLaws.{reaches_stay}
use Rattle.h2_memory_sets.proofs.OfInode.{placed_owned, of_inode_stays, of_inode_like}

-- every node that stands in both forests stays in its place, as writable as it was
pub record Loose (f g : Forest) : Type 0 where
  pub leaf_bits : (m : ℕ) → f.stands m ≡ true → g.stands m ≡ true → g.leaf_bits m ≡ f.leaf_bits m
  pub held : (m : ℕ) → g.held m ≡ f.held m
  pub epoch : g.epoch ≡ f.epoch
  pub place : (m : ℕ) → f.stands m ≡ true → g.stands m ≡ true → InPlace f g m
  pub copies : (m : ℕ) → f.stands m ≡ true → g.stands m ≡ true → g.copies m ≡ f.copies m
  pub writable : (m : ℕ) → f.stands m ≡ true → g.stands m ≡ true → g.writable m ≡ f.writable m

-- a root stands in both forests, and its tree may have the leaves that it might have
pub record KeepsRules (f g : Forest) (top : ℕ) : Type 0 where
  pub stood : f.stands top ≡ true
  pub stands : g.stands top ≡ true
  pub allows : (r : Ref) → f.allows top r ≡ true → g.allows top r ≡ true

-- and every node that stood stands
pub record Settled (f g : Forest) : Type 0 where
  pub fixed : Fixed f g
  pub loose : Loose f g
  pub stands : (m : ℕ) → f.stands m ≡ true → g.stands m ≡ true

-- what is sound of a node but for its range
pub record Contents (f g : Forest) (m : ℕ) : Type 0 where
  pub set : IsRefSet (g.set m)
  pub capacity : let s = g.set m in let t = f.set m in s.capacity ≡ t.capacity
  pub inside : Rising (g.low m) (g.low m + 2 ^ g.bits m) (refs g m)
  pub fits : (i : ℕ) (r : Ref) → slice_get (refs g m) i ≡ Some r → Fits g m r
  pub some : (g.root m ≡ m → ⊥) → 0 < length (refs g m)
  pub child : (k c : ℕ) → g.link m k ≡ loaded c → IsChild g m k c
  pub named : (k c : ℕ) → g.link m k ≡ loaded c → NamesBelow (refs g m) k
  pub bits : (i c : ℕ) (r : Ref) → slice_get (refs g m) i ≡ Some r → is_indirect r ≡ true → g.link m r.key ≡ loaded c → g.bits c ≡ r.keybits

module _ (f g : Forest) (s : Loose f g) where
  pub fits_in : (m : ℕ) (r : Ref) → f.stands m ≡ true → g.stands m ≡ true → KeepsRules f g (f.root m) → Fits f m r → Fits g m r
  fits_in m r st now rules h =
      let p = s.place m st now in
      let grain : g.leaf_bits (g.root m) ≡ f.leaf_bits (f.root m) = ap g.leaf_bits p.root ∙ s.leaf_bits (f.root m) rules.stood rules.stands in
      record {
        held = h.held;
        aligned = h.aligned;
        class = h.class;
        leaf = λ k. h.leaf k ∙ sym grain;
        allowed = λ k. ap (λ n. g.allows n r) p.root ∙ rules.allows r (h.allowed k);
        wide = λ k. rw grain (h.wide k);
        some_bits = h.some_bits;
        falls = λ k. rw p.bits (h.falls k);
      }

  pub child_in : (m k c : ℕ) → f.stands m ≡ true → g.stands m ≡ true → g.stands c ≡ true → IsChild f m k c → IsChild g m k c
  child_in m k c st now kid h =
      let p = s.place m st now in
      let q = s.place c h.stands kid in
      record {
        stands = kid;
        root = q.root ∙ h.root ∙ sym p.root;
        low = q.low ∙ h.low;
        above = rw (p.low, q.low) h.above;
        within = rw (p.low, q.low, p.bits, q.bits) h.within;
        fewer = rw (p.bits, q.bits) h.fewer;
        copies = rw (s.copies c h.stands kid, s.copies m st now, s.writable c h.stands kid) h.copies;
        belongs = λ t k'. q.belongs t k' ∙ h.belongs t k' ∙ sym (p.belongs t k');
      }

  -- a node in its place with sound contents is sound
  pub placed : (m : ℕ) → f.stands m ≡ true → g.stands m ≡ true → IsSoundNode f m → Contents f g m → IsSoundNode g m
  placed m st now node h =
      let p = s.place m st now in
      record {
        set = h.set;
        root_capacity = λ top. h.capacity ∙ node.root_capacity (sym p.root ∙ top);
        block_capacity = λ off. h.capacity ∙ node.block_capacity (λ e. off (p.root ∙ e));
        inside = h.inside;
        aligned = rw (p.low, p.bits) node.aligned;
        ends = rw (p.low, p.bits) node.ends;
        fits = h.fits;
        some = h.some;
        child = h.child;
        named = h.named;
        bits = h.bits;
        top = λ top. s.copies m st now ∙ node.top (sym p.root ∙ top);
        half = λ top. p.bits ∙ node.half (sym p.root ∙ top);
        slope = rw (s.copies m st now, p.bits) node.slope;
      }

  -- a node of which nothing has changed is sound still, where what is right below it stands
  pub same_node : (m : ℕ) → f.stands m ≡ true → g.stands m ≡ true → KeepsRules f g (f.root m) → IsSoundNode f m → g.set m ≡ f.set m → ((k : ℕ) → g.link m k ≡ f.link m k) → ((k c : ℕ) → f.link m k ≡ loaded c → g.stands c ≡ true) → IsSoundNode g m
  same_node m st now rules node set link kids =
      let p = s.place m st now in
      let refs_is : refs g m ≡ refs f m = ap (λ (t : RefSet). t.refs) set in
      placed m st now node (record {
        set = rw set node.set;
        capacity = ap (λ (t : RefSet). t.capacity) set;
        inside = rw (refs_is, p.low, p.bits) node.inside;
        fits = λ i r read. fits_in m r st now rules (node.fits i r (rw refs_is at read));
        some = λ top. rw refs_is (node.some (λ e. top (p.root ∙ e)));
        child = λ k c at_k. let old = sym (link k) ∙ at_k in child_in m k c st now (kids k c old) (node.child k c old);
        named = λ k c at_k. rw refs_is (node.named k c (sym (link k) ∙ at_k));
        bits = λ i c r read ind at_k.
            let old : f.link m r.key ≡ loaded c = sym (link r.key) ∙ at_k in
            let kid = node.child r.key c old in
            (s.place c kid.stands (kids r.key c old)).bits ∙ node.bits i c r (rw refs_is at read) ind old;
      })

  pub same_all : (m : ℕ) → f.stands m ≡ true → g.stands m ≡ true → g.set m ≡ f.set m → ((k : ℕ) → g.link m k ≡ f.link m k) → Same f g m
  same_all m st now set link = record {
    place = s.place m st now;
    set = set;
    link = link;
    writable = s.writable m st now;
    copies = s.copies m st now;
  }

  -- the root of a node stays, where it stands
  pub same_top : (m : ℕ) → IsSound f → f.stands m ≡ true → g.stands m ≡ true → g.stands (f.root m) ≡ true → (g.stands (g.root m) ≡ true) × (g.root (g.root m) ≡ g.root m)
  same_top m sound st now root =
      let t = sound.top m st in
      let p = s.place m st now in
      let q = s.place (f.root m) t.0 root in
      (ap g.stands p.root ∙ root, ap g.root p.root ∙ q.root ∙ t.1 ∙ sym p.root)

  -- a node belongs to a leaf as before, where the path of that stays
  pub owner_in : (m t k : ℕ) → f.stands m ≡ true → g.stands m ≡ true → (h : HasOwner f m t k) → g.stands t ≡ true → Reaches g k t (Some h.leaf) → HasOwner g m t k
  owner_in m t k st now h top path = record {
    other = λ e. h.other (sym (s.place m st now).root ∙ e);
    stands = top;
    root = (s.place t h.stands top).root ∙ h.root;
    leaf = h.leaf;
    key_is = h.key_is;
    kind_is = h.kind_is;
    path = path;
  }

  -- where a node came from: it stood, or it is in the tree of one that stands before and after, and belongs to what that does
  pub data CameOf (m : ℕ) : Type 0 where
    stood : f.stands m ≡ true → CameOf m
    like : (n : ℕ) → f.stands n ≡ true → g.stands n ≡ true → g.root m ≡ g.root n → ((t k : ℕ) → g.belongs m t k ≡ g.belongs n t k) → CameOf m

  -- what belongs to a leaf belongs to all that the leaf's tree belongs to
  chain_old : IsSound f → ((m t k : ℕ) → g.stands m ≡ true → g.belongs m t k ≡ true → HasOwner g m t k) → (m t k u j : ℕ) → f.stands m ≡ true → g.stands m ≡ true → g.belongs m t k ≡ true → g.belongs t u j ≡ true → g.belongs m u j ≡ true
  chain_old sound owner m t k u j st now b b' =
      let p = s.place m st now in
      let was : f.belongs m t k ≡ true = sym (p.belongs t k) ∙ b in
      let top = (sound.owner m t k st was).stands in
      let q = s.place t top (owner m t k now b).stands in
      p.belongs u j ∙ sound.chain m t k u j st was (sym (q.belongs u j) ∙ b')

  chain_in : IsSound f → ((m t k : ℕ) → g.stands m ≡ true → g.belongs m t k ≡ true → HasOwner g m t k) → (m t k u j : ℕ) → CameOf m → g.stands m ≡ true → g.belongs m t k ≡ true → g.belongs t u j ≡ true → g.belongs m u j ≡ true
  chain_in sound owner m t k u j (stood st) now b b' = chain_old sound owner m t k u j st now b b'
  chain_in sound owner m t k u j (like n st there root same) now b b' = same u j ∙ chain_old sound owner n t k u j st there (sym (same t k) ∙ b) b'

  -- what belongs to a leaf stands with the root of its inode
  inode_old : IsSound f → ((m : ℕ) → g.stands m ≡ true → (g.stands (g.root m) ≡ true) × (g.root (g.root m) ≡ g.root m)) → ((m t k : ℕ) → g.stands m ≡ true → g.belongs m t k ≡ true → HasOwner g m t k) → (m t k : ℕ) → f.stands m ≡ true → g.stands m ≡ true → g.belongs m t k ≡ true → IsOfInode g m t k
  inode_old sound top owner m t k st now b =
      let p = s.place m st now in
      let was : f.belongs m t k ≡ true = sym (p.belongs t k) ∙ b in
      let above = s.place t (sound.owner m t k st was).stands (owner m t k now b).stands in
      let it = sound.inode m t k st was in
      let there : g.stands it.inode ≡ true = elim it.within as (λ _. g.stands it.inode ≡ true) [
        | inl e ↦ subst (λ n. g.stands n ≡ true) (p.root ∙ e) (top m now).0
        | inr w ↦ (owner m it.inode w.0 now (p.belongs it.inode w.0 ∙ w.1)).stands
      ] in
      of_inode_stays f g m t k (placed_owned f g m p) (placed_owned f g t above) it there (placed_owned f g it.inode (s.place it.inode it.named.stands there))

  inode_in : IsSound f → ((m : ℕ) → g.stands m ≡ true → (g.stands (g.root m) ≡ true) × (g.root (g.root m) ≡ g.root m)) → ((m t k : ℕ) → g.stands m ≡ true → g.belongs m t k ≡ true → HasOwner g m t k) → (m t k : ℕ) → CameOf m → g.stands m ≡ true → g.belongs m t k ≡ true → IsOfInode g m t k
  inode_in sound top owner m t k (stood st) now b = inode_old sound top owner m t k st now b
  inode_in sound top owner m t k (like n st there root same) now b = of_inode_like g m n t k root same (inode_old sound top owner n t k st there (sym (same t k) ∙ b))

  -- a forest whose nodes are sound and hang together
  pub sound_of : IsSound f → ((m : ℕ) → g.stands m ≡ true → IsSoundNode g m) → ((m : ℕ) → g.stands m ≡ true → (g.stands (g.root m) ≡ true) × (g.root (g.root m) ≡ g.root m)) → ((m : ℕ) → g.stands m ≡ true → (g.root m ≡ m → ⊥) → HasParent g m) → ((m : ℕ) → f.held m ≡ true → g.stands m ≡ true) → ((m t k : ℕ) → g.stands m ≡ true → g.belongs m t k ≡ true → HasOwner g m t k) → ((m : ℕ) → g.stands m ≡ true → CameOf m) → IsSound g
  sound_of sound node top parent held owner came = record {
    node = node;
    held = λ m h.
        let was : f.held m ≡ true = sym (s.held m) ∙ h in
        let it = sound.held m was in
        let now = held m was in
        (now, (s.place m it.0 now).root ∙ it.1);
    top = top;
    parent = parent;
    owner = owner;
    inode = λ m t k now b. inode_in sound top owner m t k (came m now) now b;
    chain = λ m t k u j now b b'. chain_in sound owner m t k u j (came m now) now b b';
    epoch = rw s.epoch sound.epoch;
  }

module _ (f g : Forest) (s : Settled f g) where
  pub same_keeps : (m : ℕ) → f.stands m ≡ true → g.set m ≡ f.set m → ((k : ℕ) → g.link m k ≡ f.link m k) → Keeps f g m
  same_keeps m st set link = record {
    place = s.loose.place m st (s.stands m st);
    alike = subst (λ (t : RefSet). Alike (refs f m) t.refs) (sym set) (Alike-refl (refs f m));
    link = link;
  }

  pub keeps_rules : IsSound f → (m : ℕ) → f.stands m ≡ true → KeepsRules f g (f.root m)
  keeps_rules sound m st =
      let t = (sound.top m st).0 in
      let now = s.stands (f.root m) t in
      record { stood = t; stands = now; allows = λ r e. s.fixed.allows (f.root m) r t now ∙ e }

  -- where all nodes stay, each belongs to the leaf that it belonged to
  pub owners_stay : IsSound f → ((m : ℕ) → f.stands m ≡ true → Stays f g m) → (m t k : ℕ) → f.stands m ≡ true → g.belongs m t k ≡ true → HasOwner g m t k
  owners_stay sound stay m t k st b =
      let now = s.stands m st in
      let h = sound.owner m t k st (sym ((s.loose.place m st now).belongs t k) ∙ b) in
      owner_in f g s.loose m t k st now h (s.stands t h.stands) (reaches_stay f g (λ n. f.stands n ≡ true) (stands_below f sound) stay h.stands h.path)

  -- where all nodes that stand are the same, the forest is sound
  pub all_same : ((m : ℕ) → g.stands m ≡ f.stands m) → ((m : ℕ) → g.set m ≡ f.set m) → ((m k : ℕ) → g.link m k ≡ f.link m k) → IsSound f → IsSound g
  all_same stands set link sound = sound_of f g s.loose sound
      (λ m st. let old = sym (stands m) ∙ st in same_node f g s.loose m old st (keeps_rules sound m old) (sound.node m old) (set m) (link m) (λ k c l. s.stands c ((sound.node m old).child k c l).stands))
      (λ m st. let old = sym (stands m) ∙ st in same_top f g s.loose m sound old st (s.stands (f.root m) (sound.top m old).0))
      (λ m st ne.
      let old = sym (stands m) ∙ st in
      let p = s.loose.place m old st in
      let h = sound.parent m old (λ e. ne (p.root ∙ e)) in
      record { parent = h.parent; stands = s.stands h.parent h.stands; link = ap (g.link h.parent) p.low ∙ link h.parent (f.low m) ∙ h.link })
      (λ m h. s.stands m (sound.held m h).0)
      (λ m t k st b. owners_stay sound (λ n was. Keeps-Stays f g n (same_keeps n was (set n) (link n))) m t k (sym (stands m) ∙ st) b)
      (λ m st. stood (sym (stands m) ∙ st))

  -- where nothing but spare has changed
  pub readies : ((m : ℕ) → g.stands m ≡ f.stands m) → ((m : ℕ) → g.set m ≡ f.set m) → ((m k : ℕ) → g.link m k ≡ f.link m k) → f.spare ≤ g.spare → g.room ≡ f.room → g.failed ≡ f.failed → g.bad ≡ f.bad → g.met ≡ f.met → IsSound f → ReadiesOnly f g
  readies stands set link spare room failed bad met sound = record {
    sound = all_same stands set link sound;
    fixed = s.fixed;
    same = λ m st. same_all f g s.loose m st (s.stands m st) (set m) (link m);
    none_new = λ m st. sym (stands m) ∙ st;
    spare = spare;
    room = room;
    failed = failed;
    bad = bad;
    met = met;
  }

  -- where nothing but the two counts has risen
  pub counts_rise : ((m : ℕ) → g.stands m ≡ f.stands m) → ((m : ℕ) → g.set m ≡ f.set m) → ((m k : ℕ) → g.link m k ≡ f.link m k) → g.spare ≡ f.spare → g.room ≡ f.room → IsSound f → Unchanged f g
  counts_rise stands set link spare room sound = record {
    sound = all_same stands set link sound;
    fixed = s.fixed;
    same = λ m st. same_all f g s.loose m st (s.stands m st) (set m) (link m);
    none_new = λ m st. sym (stands m) ∙ st;
    spare = spare;
    room = room;
  }
