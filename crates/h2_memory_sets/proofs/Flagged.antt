-- A root that is held, or no longer.
use Rattle.std.proofs.Common.{◌≡◌, ℕ, Bool, true, false, ◌&&◌, arith, refl, sym, ◌∙◌, ap, List, [], ◌∷◌, length, map, zero, suc, Option, Some, subst, ◌⊎◌, inl, inr, slice_get, slice_set}
use Rattle.std.specs.List.{position}
use Rattle.std.proofs.Math.ListN.{length-set}
use Rattle.std.proofs.lemmas.Option.{slice_get_within}
use Rattle.h2_ref.specs.declared.faults.Why.{Why}
use Rattle.h2_set.specs.Forest.{Forest, IsSound}
use Rattle.h2_set.specs.Calls.{Same, KeepsBeside}
use Rattle.h2_set.specs.ChangeLaws.{same_or_not}
use Rattle.h2_set.specs.PathLaws.{reaches_stay}
use Rattle.h2_set.specs.StayLaws.{stands_below}
use Rattle.h2_inode.specs.NodeLaws.{same_stays}
use Rattle.h2_memory_sets.specs.declared.node.Node.{Node}
use Rattle.h2_memory_sets.specs.Inodes.{with_held}
use Rattle.h2_memory_sets.specs.Kept.{AreKept, is_known}
use Rattle.h2_memory_sets.specs.Owners.{owner_of, allows_of, held_of, beside_of}
use Rattle.h2_memory_sets.specs.Roots.{HoldsRoot}
use Rattle.h2_memory_sets.specs.View.{stands_of, set_of, root_of, low_of, bits_of, writable_of, copies_of, leaf_bits_of, is_child, is_top, link_of, forest_with, Block, block, AllRooted}
use Rattle.h2_memory_sets.proofs.Keeping.{CameFrom, IsPlain, kept_from}
use Rattle.h2_memory_sets.proofs.Nodes.{belongs_still, field_stays, get_set, get_set_other, position_same}
use Rattle.h2_memory_sets.proofs.OfInode.{IsOwnedAsBefore, of_inode_stays}
use Rattle.h2_memory_sets.proofs.Parting.{one_of}
use Rattle.h2_memory_sets.proofs.Rooting.{still_sound}

and_on : (a b : Bool) → a ≡ true → (a && b) ≡ b
and_on true b e = refl
and_on false b e = absurd (cc)

-- the blocks stay where one node is put in place of another with the same block
pub blocks_set : (xs : List Node) (at : ℕ) (x y : Node) → slice_get xs at ≡ Some x → block y ≡ block x → map block (slice_set xs at y) ≡ map block xs
blocks_set [] at x y read same = refl
blocks_set (z ∷ zs) zero x y read same = ap (λ (u : Block). u ∷ map block zs) (same ∙ sym (ap block (one_of z x read)))
blocks_set (z ∷ zs) (suc at) x y read same = ap (λ (l : List Block). block z ∷ l) (blocks_set zs at x y read same)

pub blocks_held : (xs : List Node) (at : ℕ) (x : Node) (b : Bool) → slice_get xs at ≡ Some x → map block (slice_set xs at (with_held b x)) ≡ map block xs
blocks_held xs at x b read = blocks_set xs at x (with_held b x) read refl

module _ (xs : List Node) (at : ℕ) (x : Node) (b : Bool) (read : slice_get xs at ≡ Some x) (spare epoch room failed bad : ℕ) (met : Option (ℕ × Why)) where
  abbrev ys : List Node
  ys = slice_set xs at (with_held b x)

  abbrev f : Forest
  f = forest_with xs spare epoch room failed bad met

  abbrev g : Forest
  g = forest_with (slice_set xs at (with_held b x)) spare epoch room failed bad met

  field : {X : Type 0} (F : Option Node → X) → F (Some (with_held b x)) ≡ F (Some x) → (m : ℕ) → F (slice_get ys m) ≡ F (slice_get xs m)
  field F same = field_stays F xs at x (with_held b x) read same

  at_now : slice_get ys at ≡ Some (with_held b x)
  at_now = get_set xs at (with_held b x) (slice_get_within xs at x read)

  first : (m k : ℕ) → position (is_child m k) ys ≡ position (is_child m k) xs
  first m k = sym (position_same (is_child m k) (is_child m k) xs ys (sym (length-set xs at (with_held b x))) pointwise)
    where
      pointwise : (i : ℕ) (u v : Node) → slice_get xs i ≡ Some u → slice_get ys i ≡ Some v → is_child m k u ≡ is_child m k v
      pointwise i u v ru rv = elim (same_or_not i at) as (λ _. is_child m k u ≡ is_child m k v) [
        | inr off ↦ ap (is_child m k) (one_of u v (sym ru ∙ sym (get_set_other xs at i (with_held b x) off) ∙ rv))
        | inl e ↦
            let u_is = one_of x u (sym read ∙ subst (λ z. slice_get xs z ≡ Some u) e ru) in
            let v_is = one_of (with_held b x) v (sym at_now ∙ subst (λ z. slice_get ys z ≡ Some v) e rv) in
            sym (ap (is_child m k) u_is) ∙ ap (is_child m k) v_is
      ]

  links : (m k : ℕ) → link_of ys m k ≡ link_of xs m k
  links m k = rw (field set_of refl m, first m k) refl

  belongs : (m t k : ℕ) → g.belongs m t k ≡ f.belongs m t k
  belongs m t k = belongs_still xs ys (field owner_of refl) m t k (field root_of refl m)

  same : (m : ℕ) → f.stands m ≡ true → Same f g m
  same m st = record {
    place = record {
      stands = field stands_of refl m ∙ st;
      root = field root_of refl m;
      low = field low_of refl m;
      bits = field bits_of refl m;
      belongs = belongs m;
      writable = λ e. field writable_of refl m ∙ e;
    };
    set = field set_of refl m;
    link = links m;
    writable = field writable_of refl m;
    copies = field copies_of refl m;
  }

  stood : (m : ℕ) → g.stands m ≡ true → f.stands m ≡ true
  stood m st = sym (field stands_of refl m) ∙ st

  held_at : f.stands at ≡ true → g.held at ≡ b
  held_at st = ap held_of at_now ∙ and_on x.loaded b (sym (ap stands_of read) ∙ st)

  held_off : (m : ℕ) → (m ≡ at → ⊥) → g.held m ≡ f.held m
  held_off m ne = ap held_of (get_set_other xs at m (with_held b x) ne)

  as_before : (m : ℕ) → IsOwnedAsBefore f g m
  as_before m = record { root = field root_of refl m; belongs = belongs m }

  sound_now : IsSound f → f.stands at ≡ true → f.root at ≡ at → IsSound g
  sound_now sound st own = record {
    node = λ m now. still_sound f g m (λ n was _. let s = same n was in record { root = s.place.root; low = s.place.low; bits = s.place.bits; set = s.set; writable = s.writable; copies = s.copies }) (stood m now) now
        (λ k c e. let was = sym (links m k) ∙ e in (was, (same c ((sound.node m (stood m now)).child k c was).stands).place.stands))
        (field leaf_bits_of refl (f.root m)) (λ r. field (λ (o : Option Node). allows_of o r) refl (f.root m)) (λ n t j was _. belongs n t j) (sound.node m (stood m now));
    held = λ m h. elim (same_or_not m at) as (λ _. (g.stands m ≡ true) × (g.root m ≡ m)) [
      | inl e ↦ subst (λ z. (g.stands z ≡ true) × (g.root z ≡ z)) (sym e) (field stands_of refl at ∙ st, field root_of refl at ∙ own)
      | inr ne ↦ let it = sound.held m (sym (held_off m ne) ∙ h) in (field stands_of refl m ∙ it.0, field root_of refl m ∙ it.1)
    ];
    top = λ m now.
        let t = sound.top m (stood m now) in
        let p = (same m (stood m now)).place in
        let q = (same (f.root m) t.0).place in
        (ap g.stands p.root ∙ q.stands, ap g.root p.root ∙ q.root ∙ t.1 ∙ sym p.root);
    parent = λ m now ne.
        let p = (same m (stood m now)).place in
        let h = sound.parent m (stood m now) (λ e. ne (p.root ∙ e)) in
        record { parent = h.parent; stands = (same h.parent h.stands).place.stands; link = ap (g.link h.parent) p.low ∙ links h.parent (f.low m) ∙ h.link };
    owner = λ m t k now bel.
        let was = stood m now in
        let h = sound.owner m t k was (sym (belongs m t k) ∙ bel) in
        record {
          other = λ e. h.other (sym (same m was).place.root ∙ e);
          stands = (same t h.stands).place.stands;
          root = (same t h.stands).place.root ∙ h.root;
          leaf = h.leaf;
          key_is = h.key_is;
          kind_is = h.kind_is;
          path = reaches_stay f g (λ n. f.stands n ≡ true) (stands_below f sound) (λ n old. same_stays f g n (same n old)) h.stands h.path;
        };
    inode = λ m t k now bel.
        let it = sound.inode m t k (stood m now) (sym (belongs m t k) ∙ bel) in
        of_inode_stays f g m t k (as_before m) (as_before t) it (same it.inode it.named.stands).place.stands (as_before it.inode);
    chain = λ m t k u j now a b'. belongs m u j ∙ sound.chain m t k u j (stood m now) (sym (belongs m t k) ∙ a) (sym (belongs t u j) ∙ b');
    epoch = sound.epoch;
  }

  pub holds_root : IsSound f → f.stands at ≡ true → f.root at ≡ at → HoldsRoot f g at b
  holds_root sound st own = record {
    sound = sound_now sound st own;
    now = held_at st;
    others_held = held_off;
    same = same;
    stands = field stands_of refl;
    leaf_bits = field leaf_bits_of refl;
    allows = λ m r. field (λ (o : Option Node). allows_of o r) refl m;
    name = λ r. refl;
    epoch = refl;
    spare = refl;
    room = refl;
    failed = refl;
    bad = refl;
    met = refl;
  }

  pub rooted_held : AllRooted xs → AllRooted ys
  rooted_held rooted i st = ap (λ z. is_top (slice_get ys z)) (field root_of refl i) ∙ field is_top refl (root_of (slice_get xs i)) ∙ rooted i (stood i st)

  pub kept_held : AreKept xs → AreKept ys
  kept_held kept = kept_from xs ys kept (λ i y got. elim (same_or_not i at) as (λ _. CameFrom xs (length ys) i y ⊎ IsPlain (length ys) y) [
    | inr off ↦ inl (came i y y (sym (get_set_other xs at i (with_held b x) off) ∙ got) refl refl refl (λ e. e) refl refl refl refl refl)
    | inl e ↦
        let y_is : with_held b x ≡ y = one_of (with_held b x) y (sym at_now ∙ subst (λ z. slice_get ys z ≡ Some y) e got) in
        inl (subst (CameFrom xs (length ys) i) y_is (came i x (with_held b x) (ap (λ z. slice_get xs z) e ∙ read) refl refl refl (λ e. e) refl refl refl refl refl))
  ])
    where
      came : (i : ℕ) (u v : Node) → slice_get xs i ≡ Some u → v.owner ≡ u.owner → v.root ≡ u.root → v.up ≡ u.up → (v.loaded ≡ true → u.loaded ≡ true) → v.inode ≡ u.inode → v.low ≡ u.low → v.bits ≡ u.bits → v.leaf_bits ≡ u.leaf_bits → v.set ≡ u.set → CameFrom xs (length ys) i v
      came i u v got owner root up on inode low bits leaf_bits set = record {
        old = u;
        read = got;
        owner = owner;
        root = root;
        bare = λ e. up ∙ e;
        above = λ n e. let lt = kept.above i u n got (sym up ∙ e) in let len : length ys ≡ length xs = length-set xs at (with_held b x) in omega (arith, lt, len);
        loaded = λ o own. on;
        inode = λ w e.
            let it = kept.inode i u w got (sym inode ∙ e) in
            record { root = root ∙ it.root; bare = up ∙ it.bare; low = low ∙ it.low; bits = bits ∙ it.bits; leaf_bits = leaf_bits ∙ it.leaf_bits; set = set ∙ it.set; number = λ o own. it.number o (sym owner ∙ own) };
        known = λ now e. ap is_known inode ∙ e;
      }

  pub beside_held : KeepsBeside f g (λ m. beside_of (slice_get xs m)) (λ m. beside_of (slice_get ys m))
  beside_held = record { same = λ m st now. field beside_of refl m }
