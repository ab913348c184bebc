-- Nodes whose tree a leaf names, once they are unloaded.
use Rattle.std.proofs.Common.{◌≡◌, ℕ, Bool, true, false, ◌&&◌, arith, refl, sym, ◌∙◌, ap, List, [], ◌∷◌, Option, Some, None, slice_get, suc, zero, nat_eq}
use Rattle.std.specs.Prelude.{map}
use Rattle.std.specs.List.{position}
use Rattle.std.proofs.lemmas.Bool.{or_left}
use Rattle.std.proofs.lemmas.Bool.Decides.{nat_tests}
use Rattle.std.proofs.lemmas.List.{length-map}
use Rattle.h2_ref.specs.declared.faults.Why.{Why}
use Rattle.h2_set.specs.Forest.{Forest, loaded, IsSound}
use Rattle.h2_set.specs.Calls.{Same}
use Rattle.h2_set.specs.StayLaws.{Fixed-refl}
use Rattle.h2_memory_sets.specs.declared.node.Node.{Node}
use Rattle.h2_memory_sets.specs.declared.node.Owner.{Owner}
use Rattle.h2_memory_sets.specs.Inodes.{is_named, named_by, is_unowned, with_loaded, unsought_all}
use Rattle.h2_memory_sets.specs.Kept.{AreKept}
use Rattle.h2_memory_sets.specs.Owners.{owner_of, is_owner, belongs_to, allows_of, held_of, beside_of}
use Rattle.h2_memory_sets.specs.Roots.{NoneBelongs, Unloads, UnloadsInodes}
use Rattle.h2_memory_sets.specs.View.{stands_of, set_of, root_of, low_of, bits_of, writable_of, copies_of, leaf_bits_of, is_up, is_bare, is_top, is_child, link_of, forest_with, AllRooted, Block, block}
use Rattle.h2_memory_sets.proofs.Keeping.{flag_of, held_keeps, kept_map}
use Rattle.h2_memory_sets.proofs.Nodes.{KeepsRoots, belongs_still, fixed_of, position_same, is_there}
use Rattle.h2_memory_sets.proofs.Owned.{are_lower, belongs_step, belongs_none}
use Rattle.h2_memory_sets.proofs.Parting.{alike, one_of, item_at, get_map}
use Rattle.h2_memory_sets.proofs.Passing.{and_parts}
use Rattle.h2_memory_sets.proofs.Rooted.{map_field}
use Rattle.h2_memory_sets.proofs.Rooting.{still_sound}
use Rattle.h2_memory_sets.proofs.Unloads.{Found, found, link_found}

same_eq : (a : ℕ) → nat_eq a a ≡ true
same_eq a = grind (arith, nat_tests)

-- a tree that a leaf names belongs to it
belongs_owner : (xs : List Node) → AreKept xs → (c : ℕ) (o : Owner) → owner_of (slice_get xs c) ≡ Some o → belongs_to xs c o.root o.key ≡ true
belongs_owner xs kept c o e = belongs_step xs (are_lower xs kept) c o.root o.key o e ∙ or_left (is_owner o.root o.key o) (belongs_to xs o.root o.root o.key) (rw (same_eq o.root, same_eq o.key) refl)

-- where a loaded root has an owner, some node belongs to a leaf
named_belongs : (xs : List Node) (c : ℕ) (spare epoch room failed bad : ℕ) (met : Option (ℕ × Why)) → position is_named xs ≡ Some c → AreKept xs → NoneBelongs (forest_with xs spare epoch room failed bad met) → ⊥
named_belongs xs c spare epoch room failed bad met e kept bare = by_owner it.item.owner refl it.passes
  where
    it : Found is_named xs c
    it = found is_named xs c e

    by_owner : (w : Option Owner) → it.item.owner ≡ w → named_by w it.item.loaded ≡ true → ⊥
    by_owner None is h = cc
    by_owner (Some o) is h =
        let own : root_of (slice_get xs c) ≡ c = ap root_of it.read ∙ (kept.owner c it.item o it.read is).root in
        let bel : belongs_to xs (root_of (slice_get xs c)) o.root o.key ≡ true = ap (λ q. belongs_to xs q o.root o.key) own ∙ belongs_owner xs kept c o (ap owner_of it.read ∙ is) in
        let clash : true ≡ false = sym bel ∙ bare c o.root o.key (ap stands_of it.read ∙ h) in
        cc

-- where an inode is loaded, unloading does nothing
pub stays_named : (xs : List Node) (from spare epoch room failed bad : ℕ) (met : Option (ℕ × Why)) (c : ℕ) → position is_named xs ≡ Some c → AreKept xs → IsSound (forest_with xs spare epoch room failed bad met) → Unloads (forest_with xs spare epoch room failed bad met) (forest_with xs spare epoch room failed bad met) from
stays_named xs from spare epoch room failed bad met c e kept sound = record {
  sound = sound;
  fixed = Fixed-refl _;
  stays = λ m st why. record { stands = st; root = refl; low = refl; bits = refl; belongs = λ t k. refl; writable = λ w. w };
  goes = λ m k d bare le link. absurd (named_belongs xs c spare epoch room failed bad met e kept bare);
  same = λ m t k n st bel now. record { place = record { stands = now; root = refl; low = refl; bits = refl; belongs = λ t' k'. refl; writable = λ w. w }; set = refl; link = λ k'. refl; writable = refl; copies = refl };
  none_new = λ m st. st;
  set = λ m. refl;
  writable = λ m. refl;
  copies = λ m. refl;
  link_before = λ m k lt. refl;
  link_from = λ m k bare le. absurd (named_belongs xs c spare epoch room failed bad met e kept bare);
  spare = refl;
  room = refl;
  failed = refl;
  bad = refl;
  met = refl;
}

module _ (xs : List Node) (spare epoch room failed bad : ℕ) (met : Option (ℕ × Why)) (kept : AreKept xs) (rooted : AllRooted xs) (sound : IsSound (forest_with xs spare epoch room failed bad met)) (free : (m : ℕ) → held_of (slice_get xs m) ≡ false) where
  abbrev f : Forest
  f = forest_with xs spare epoch room failed bad met

  abbrev h : Node → Node
  h = λ x. with_loaded (x.loaded && is_unowned (owner_of (slice_get xs x.root))) x

  abbrev ys : List Node
  ys = unsought_all xs

  abbrev g : Forest
  g = forest_with (unsought_all xs) spare epoch room failed bad met

  field : {X : Type 0} (F : Option Node → X) → ((x : Node) → F (Some (h x)) ≡ F (Some x)) → (m : ℕ) → F (slice_get ys m) ≡ F (slice_get xs m)
  field F same m = map_field F h xs same m

  owner_same : (m : ℕ) → owner_of (slice_get ys m) ≡ owner_of (slice_get xs m)
  owner_same = field owner_of (λ x. refl)

  belongs_same_at : (m t k : ℕ) → g.belongs m t k ≡ f.belongs m t k
  belongs_same_at m t k = belongs_still xs ys owner_same m t k (field root_of (λ x. refl) m)

  -- what stands still is in a tree that no leaf names
  stands_is : (m : ℕ) → stands_of (slice_get ys m) ≡ true → (stands_of (slice_get xs m) ≡ true) × (owner_of (slice_get xs (root_of (slice_get xs m))) ≡ None)
  stands_is m st = go (slice_get xs m) refl
    where
      bare : (w : Option Owner) → is_unowned w ≡ true → w ≡ None
      bare None e = refl
      bare (Some o) e = absurd (cc)

      go : (o : Option Node) → slice_get xs m ≡ o → (stands_of o ≡ true) × (owner_of (slice_get xs (root_of o)) ≡ None)
      go None read = absurd (let clash : true ≡ false = sym st ∙ gone in cc)
        where
          gone : stands_of (slice_get ys m) ≡ false
          gone = past xs m read
            where
              past : (zs : List Node) (m : ℕ) → slice_get zs m ≡ None → stands_of (slice_get (map h zs) m) ≡ false
              past [] m e = refl
              past (z ∷ zs) zero e = absurd (cc)
              past (z ∷ zs) (suc m) e = past zs m e
      go (Some x) read = let p = and_parts x.loaded (is_unowned (owner_of (slice_get xs x.root))) (sym (ap stands_of (get_map h xs m x read)) ∙ st) in (p.0, bare _ p.1)

  stood : (m : ℕ) → stands_of (slice_get ys m) ≡ true → stands_of (slice_get xs m) ≡ true
  stood m st = (stands_is m st).0

  is_still : (m : ℕ) → stands_of (slice_get xs m) ≡ true → owner_of (slice_get xs (root_of (slice_get xs m))) ≡ None → stands_of (slice_get ys m) ≡ true
  is_still m st bare =
      let it = item_at xs m (is_there xs m st) in
      let x = it.0 in
      let on : x.loaded ≡ true = sym (ap stands_of it.1) ∙ st in
      let none : owner_of (slice_get xs x.root) ≡ None = sym (ap (λ o. owner_of (slice_get xs (root_of o))) it.1) ∙ bare in
      ap stands_of (get_map h xs m x it.1) ∙ rw (on, none) refl

  none_belongs : (m t k : ℕ) → g.stands m ≡ true → f.belongs m t k ≡ false
  none_belongs m t k st = belongs_none xs (f.root m) t k (stands_is m st).1

  -- a node in a tree that stays is above the same nodes
  child_same : (m k : ℕ) → g.stands m ≡ true → position (is_child m k) ys ≡ position (is_child m k) xs
  child_same m k st = sym (position_same (is_child m k) (is_child m k) xs ys (sym (length-map _ _)) pointwise)
    where
      top_bare : (l b : Bool) → (l && b) ≡ true → b ≡ true
      top_bare l b e = (and_parts l b e).1

      up_is : (u : Option ℕ) → is_up m u ≡ true → u ≡ Some m
      up_is None e = absurd (cc)
      up_is (Some n) e = ap Some (alike n m e)

      one_up : (a b : ℕ) → Some a ≡ Some b → a ≡ b
      one_up a b e = cc

      not_bare : (u : Option ℕ) → u ≡ Some m → is_bare u ≡ true → ⊥
      not_bare None e b = cc
      not_bare (Some n) e b = cc

      -- the tree of a loaded node right below is the same
      tree : (i : ℕ) (x : Node) → slice_get xs i ≡ Some x → x.loaded ≡ true → x.up ≡ Some m → x.root ≡ root_of (slice_get xs m)
      tree i x read on up = below (own (nat_eq (root_of (slice_get xs i)) i) refl)
        where
          there : f.stands i ≡ true
          there = ap stands_of read ∙ on

          not_own : root_of (slice_get xs i) ≡ i → ⊥
          not_own e =
              let top : is_top (slice_get xs i) ≡ true = sym (ap (λ z. is_top (slice_get xs z)) e) ∙ rooted i there in
              not_bare x.up up (top_bare x.loaded (is_bare x.up) (sym (ap is_top read) ∙ top))

          own : (b : Bool) → nat_eq (root_of (slice_get xs i)) i ≡ b → root_of (slice_get xs i) ≡ i → ⊥
          own b e = not_own

          below : (root_of (slice_get xs i) ≡ i → ⊥) → x.root ≡ root_of (slice_get xs m)
          below ne =
              let p = sound.parent i there ne in
              let kid = (sound.node p.parent p.stands).child (f.low i) i p.link in
              let at = found (is_child p.parent (f.low i)) xs i (link_found _ _ i p.link) in
              let parts = and_parts at.item.loaded _ at.passes in
              let same : at.item ≡ x = one_of at.item x (sym at.read ∙ read) in
              let parent_up : x.up ≡ Some p.parent = sym (ap (λ (n : Node). n.up) same) ∙ up_of p.parent at.item.up (and_parts (is_up p.parent at.item.up) _ parts.1).0 in
              let same_parent : p.parent ≡ m = one_up p.parent m (sym parent_up ∙ up) in
              sym (ap root_of read) ∙ kid.root ∙ ap f.root same_parent
            where
              up_of : (n : ℕ) (u : Option ℕ) → is_up n u ≡ true → u ≡ Some n
              up_of n None e = absurd (cc)
              up_of n (Some v) e = ap Some (alike v n e)

      pointwise : (i : ℕ) (a b : Node) → slice_get xs i ≡ Some a → slice_get ys i ≡ Some b → is_child m k a ≡ is_child m k b
      pointwise i a b ra rb = go a.loaded refl (is_up m a.up) refl ∙ ap (is_child m k) (one_of (h a) b (sym (get_map h xs i a ra) ∙ rb))
        where
          go : (l : Bool) → a.loaded ≡ l → (u : Bool) → is_up m a.up ≡ u → is_child m k a ≡ is_child m k (h a)
          go false el u eu = rw el refl
          go true el false eu = rw (el, eu) (none_up (is_unowned (owner_of (slice_get xs a.root))))
            where
              none_up : (b : Bool) → false ≡ (b && false)
              none_up true = refl
              none_up false = refl
          go true el true eu =
              let bare : owner_of (slice_get xs a.root) ≡ None = ap (λ z. owner_of (slice_get xs z)) (tree i a ra el (up_is a.up eu)) ∙ (stands_is m st).1 in
              rw (el, bare) refl

  link_same : (m k : ℕ) → g.stands m ≡ true → link_of ys m k ≡ link_of xs m k
  link_same m k st = rw (field set_of (λ x. refl) m, child_same m k st) refl

  same : (m : ℕ) → f.stands m ≡ true → g.stands m ≡ true → Same f g m
  same m st now = record {
    place = record { stands = now; root = field root_of (λ x. refl) m; low = field low_of (λ x. refl) m; bits = field bits_of (λ x. refl) m; belongs = λ t k. belongs_same_at m t k; writable = λ e. field writable_of (λ x. refl) m ∙ e };
    set = field set_of (λ x. refl) m;
    link = λ k. link_same m k now;
    writable = field writable_of (λ x. refl) m;
    copies = field copies_of (λ x. refl) m;
  }

  held_same : (m : ℕ) → held_of (slice_get ys m) ≡ held_of (slice_get xs m)
  held_same m = held_keeps (slice_get xs m) (slice_get ys m) (field flag_of (λ x. refl) m) (stood m) (λ e. let clash : true ≡ false = sym e ∙ free m in absurd (cc))

  -- a node right below one that stays is in its tree, and stays
  kid_now : (m k c : ℕ) → g.stands m ≡ true → f.link m k ≡ loaded c → g.stands c ≡ true
  kid_now m k c now link =
      let kid = (sound.node m (stood m now)).child k c link in
      is_still c kid.stands (ap (λ z. owner_of (slice_get xs z)) kid.root ∙ (stands_is m now).1)

  still : IsSound g
  still = record {
    node = λ m now.
        let st = stood m now in
        still_sound f g m (λ n was there. record { root = field root_of (λ x. refl) n; low = field low_of (λ x. refl) n; bits = field bits_of (λ x. refl) n; set = field set_of (λ x. refl) n; writable = field writable_of (λ x. refl) n; copies = field copies_of (λ x. refl) n })
        st now
        (λ k c e. let was = sym (link_same m k now) ∙ e in (was, kid_now m k c now was))
        (field leaf_bits_of (λ x. refl) (f.root m))
        (λ r. field (λ o. allows_of o r) (λ x. refl) (f.root m)) (λ n t j was there. belongs_same_at n t j) (sound.node m st);
    held = λ m held. let clash : true ≡ false = sym held ∙ held_same m ∙ free m in absurd (cc);
    top = λ m now.
        let st = stood m now in
        let t = sound.top m st in
        let root = field root_of (λ x. refl) m in
        let there = is_still (f.root m) t.0 (ap (λ z. owner_of (slice_get xs z)) t.1 ∙ (stands_is m now).1) in
        (ap g.stands root ∙ there, ap g.root root ∙ field root_of (λ x. refl) (f.root m) ∙ t.1 ∙ sym root);
    parent = λ m now off.
        let st = stood m now in
        let p = sound.parent m st (λ e. off (field root_of (λ x. refl) m ∙ e)) in
        let kid = (sound.node p.parent p.stands).child (f.low m) m p.link in
        let there = is_still p.parent p.stands (ap (λ z. owner_of (slice_get xs z)) (sym kid.root) ∙ (stands_is m now).1) in
        record { parent = p.parent; stands = there; link = ap (g.link p.parent) (field low_of (λ x. refl) m) ∙ link_same p.parent (f.low m) there ∙ p.link };
    owner = λ m t k now b. let clash : true ≡ false = sym b ∙ belongs_same_at m t k ∙ none_belongs m t k now in absurd (cc);
    inode = λ m t k now b. let clash : true ≡ false = sym b ∙ belongs_same_at m t k ∙ none_belongs m t k now in absurd (cc);
    chain = λ m t k u j now b b'. belongs_same_at m u j ∙ sound.chain m t k u j (stood m now) (sym (belongs_same_at m t k) ∙ b) (sym (belongs_same_at t u j) ∙ b');
    epoch = sound.epoch;
  }

  roots : KeepsRoots xs ys
  roots = record { leaf_bits = field leaf_bits_of (λ x. refl); owner = owner_same; held = held_same }

  pub unloads_inodes : UnloadsInodes (forest_with xs spare epoch room failed bad met) (forest_with (unsought_all xs) spare epoch room failed bad met)
  unloads_inodes = record {
    sound = still;
    fixed = fixed_of xs ys spare spare epoch room room failed failed bad bad met met roots (λ m r st now. field (λ o. allows_of o r) (λ x. refl) m) (omega arith) (omega arith);
    stays = λ m st bare. same m st (is_still m st (unnamed m (owner_of (slice_get xs (f.root m))) refl bare));
    goes = λ m t k b. gone m t k b (stands_of (slice_get ys m)) refl;
    none_new = stood;
    spare = refl;
    room = refl;
    failed = refl;
    bad = refl;
    met = refl;
  }
    where
      unnamed : (m : ℕ) (w : Option Owner) → owner_of (slice_get xs (root_of (slice_get xs m))) ≡ w → ((t k : ℕ) → f.belongs m t k ≡ false) → owner_of (slice_get xs (root_of (slice_get xs m))) ≡ None
      unnamed m None e bare = e
      unnamed m (Some o) e bare = let clash : true ≡ false = sym (belongs_owner xs kept (root_of (slice_get xs m)) o e) ∙ bare o.root o.key in absurd (cc)

      gone : (m t k : ℕ) → f.belongs m t k ≡ true → (b : Bool) → stands_of (slice_get ys m) ≡ b → stands_of (slice_get ys m) ≡ false
      gone m t k bel false e = e
      gone m t k bel true e = let clash : true ≡ false = sym bel ∙ none_belongs m t k e in absurd (cc)

  pub kept_unsought : AreKept (unsought_all xs)
  kept_unsought = kept_map h xs kept (λ x. record { owner = refl; root = refl; up = refl; loaded = λ e. (and_parts x.loaded (is_unowned (owner_of (slice_get xs x.root))) e).0; inode = refl; low = refl; bits = refl; leaf_bits = refl; set = refl })

  pub rooted_unsought : AllRooted (unsought_all xs)
  rooted_unsought i now =
      let st = stood i now in
      let t = root_of (slice_get xs i) in
      let top = sound.top i st in
      let there = is_still t top.0 (ap (λ z. owner_of (slice_get xs z)) top.1 ∙ (stands_is i now).1) in
      let it = item_at xs t (is_there xs t top.0) in
      let x = it.0 in
      let bare : is_bare x.up ≡ true = (and_parts x.loaded (is_bare x.up) (sym (ap is_top it.1) ∙ rooted i st)).1 in
      let on : (x.loaded && is_unowned (owner_of (slice_get xs x.root))) ≡ true = sym (ap stands_of (get_map h xs t x it.1)) ∙ there in
      ap (λ z. is_top (slice_get ys z)) (field root_of (λ y. refl) i) ∙ ap is_top (get_map h xs t x it.1) ∙ rw (on, bare) refl

  pub beside_unsought : (m : ℕ) → beside_of (slice_get (unsought_all xs) m) ≡ beside_of (slice_get xs m)
  beside_unsought = field beside_of (λ x. refl)

-- what the blocks hold stays
pub map_blocks : (h : Node → Node) → ((x : Node) → block (h x) ≡ block x) → (zs : List Node) → map block (map h zs) ≡ map block zs
map_blocks h same [] = refl
map_blocks h same (z ∷ zs) = ap (λ (b : Block). b ∷ map block (map h zs)) (same z) ∙ ap (λ (l : List Block). block z ∷ l) (map_blocks h same zs)

pub blocks_unsought : (xs : List Node) → map block (unsought_all xs) ≡ map block xs
blocks_unsought xs = map_blocks (λ x. with_loaded (x.loaded && is_unowned (owner_of (slice_get xs x.root))) x) (λ x. refl) xs
