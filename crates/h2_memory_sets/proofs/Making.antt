-- A node that takes over a part of another.
use Rattle.std.proofs.Common.{◌≡◌, ℕ, ◌+◌, ◌<◌, ◌≤◌, ◌^◌, true, false, arith, refl, cond, sym, ◌∙◌, ap, List, Some, subst, ◌⊎◌, inl, inr, slice_get}
use Rattle.std.specs.Prelude.{filter, not}
use Rattle.std.proofs.lemmas.Nat.{pow_pos}
use Rattle.h2_ref.specs.declared.reference.Ref.{Ref}
use Rattle.h2_set.specs.declared.set.Split.{Split}
use Rattle.h2_set.specs.Ranges.{put, lies, is_indirect}
use Rattle.h2_set.specs.RefSet.{RefSet}
use Rattle.h2_set.specs.SetBytes.{IsHeld}
use Rattle.h2_set.specs.Forest.{Forest, refs, loaded, untold, IsSound, IsSoundNode, IsChild, NamesBelow, Fits, HasParent, HasOwner}
use Rattle.h2_set.specs.Calls.{MadeFrom, Makes, InPlace, Same}
use Rattle.h2_set.specs.ChangeLaws.{same_or_not}
use Rattle.h2_set.specs.EditPathLaws.{PartsRefs, made_path}
use Rattle.h2_set.specs.PutLaws.{put_from, put_keeps}
use Rattle.h2_set.specs.SplitLaws.{lies_in}
use Rattle.h2_set.specs.MadeLaws.{PartsNode, parts_node}
use Rattle.h2_memory_sets.specs.View.{names}
use Rattle.h2_memory_sets.proofs.Lists.{below_names, filter_keeps, put_there}
use Rattle.h2_memory_sets.proofs.Settled.{KeepsRules, CameOf, stood as stood_in, like, keeps_rules, owner_in, fits_in, child_in, placed, same_node, same_all, same_top, sound_of}
use Rattle.h2_memory_sets.proofs.Made.{DiffersByMake}
use Rattle.h2_memory_sets.proofs.Sides.{at_start, in_range, outside, where_lies, off_key, off_lies}
use Rattle.h2_memory_sets.proofs.Sharing.{stayed, stood, ref_apart, here_rising, here_length, here_set, came, inner_rising, inner_length, new_set, moved_there, names_kept, names_moved, all_fits}

module _ (f : Forest) (at : ℕ) (set : RefSet) (s : Split) (ref leaf : Ref) (sound : IsSound f) (stands : f.stands at ≡ true) (made : MadeFrom f at leaf set s) (is_ind : is_indirect ref ≡ true) (key_is : ref.key ≡ s.key) (bits_is : ref.keybits ≡ s.keybits) where
  node : IsSoundNode f at
  node = sound.node at stands

  parts : PartsNode f at leaf s.key s.keybits
  parts = parts_node f at leaf set s node made

  module _ (g : Forest) (c : ℕ) (d : DiffersByMake f g at c set s ref) (ref_held : IsHeld ref) (ref_dated : ref.id ≡ f.epoch) where
    stays : (m : ℕ) → f.stands m ≡ true → g.stands m ≡ true
    stays = d.settled.stands

    rules : KeepsRules f g (f.root at)
    rules = keeps_rules f g d.settled sound at stands

    place : (m : ℕ) → f.stands m ≡ true → InPlace f g m
    place m st = d.settled.loose.place m st (stays m st)

    refs_here : refs g at ≡ put ref (filter (λ q. not (lies s.key s.keybits q)) (put leaf (refs f at)))
    refs_here = ap (λ (t : RefSet). t.refs) d.now ∙ ap (put ref) made.kept

    refs_new : refs g c ≡ filter (lies s.key s.keybits) (put leaf (refs f at))
    refs_new = ap (λ (t : RefSet). t.refs) d.moved ∙ ap (λ (t : RefSet). t.refs) made.moved

    kept : (k : ℕ) → (k < s.key) ⊎ (s.key + 2 ^ s.keybits ≤ k) → g.link at k ≡ f.link at k
    kept k out = d.after_here k out ∙ ap (λ (rs : List Ref). cond (names rs k) (d.before k) untold) refs_here ∙ ap (λ b. cond b (d.before k) untold) ((names_kept f at set s ref leaf sound stands made is_ind key_is bits_is) k out) ∙ sym (d.before_is k)

    below : (k : ℕ) → s.key ≤ k → k < s.key + 2 ^ s.keybits → g.link c k ≡ f.link at k
    below k lo hi = d.after_new k lo hi ∙ ap (λ (rs : List Ref). cond (names rs k) (d.before k) untold) refs_new ∙ ap (λ b. cond b (d.before k) untold) ((names_moved f at set s ref leaf sound stands made is_ind key_is bits_is) k lo hi) ∙ sym (d.before_is k)

    child : g.link at s.key ≡ loaded c
    child =
        let it = put_there ref (filter (λ q. not (lies s.key s.keybits q)) (put leaf (refs f at))) (ref_apart f at set s ref leaf sound stands made is_ind key_is bits_is) in
        let e : names (put ref (filter (λ q. not (lies s.key s.keybits q)) (put leaf (refs f at)))) s.key ≡ true = below_names _ s.key it.0 ref it.1 is_ind key_is in
        d.after_start ∙ ap (λ (rs : List Ref). cond (names rs s.key) (loaded c) untold) refs_here ∙ ap (λ b. cond b (loaded c) untold) e

    other : at ≡ c → ⊥
    other e = let clash : true ≡ false = sym stands ∙ ap f.stands e ∙ d.fresh in cc

    -- the reference to the new node fits
    ref_fits : Fits g at ref
    ref_fits = fits_in f g d.settled.loose at ref stands (stays at stands) rules (record {
      held = λ _. ref_held;
      aligned = rw (key_is, bits_is) made.split.half.aligned;
      class = rw key_is parts.class;
      leaf = λ miss. let clash : true ≡ false = sym is_ind ∙ miss in absurd (cc);
      allowed = λ miss. let clash : true ≡ false = sym is_ind ∙ miss in absurd (cc);
      wide = λ _. let w = parts.wide in rw bits_is (omega (arith, w));
      some_bits = λ _. let w = parts.wide in rw bits_is (omega (arith, w));
      falls = λ _. rw bits_is parts.fewer;
    })

    here_child : (k e : ℕ) → g.link at k ≡ loaded e → IsChild g at k e
    here_child k e l = elim (where_lies s.key s.keybits k) as (λ _. IsChild g at k e) [
      | in_range ne lo hi ↦ absurd (d.only k e ne lo hi l)
      | outside out ↦ let kid = node.child k e (sym (kept k out) ∙ l) in child_in f g d.settled.loose at k e stands (stays at stands) (stays e kid.stands) kid
      | at_start start ↦ let same : loaded c ≡ loaded e = sym child ∙ ap (g.link at) (sym start) ∙ l in let it : c ≡ e = (cc) in subst (IsChild g at k) it (fresh_child k start)
    ]
      where
        fresh_child : (k : ℕ) → k ≡ s.key → IsChild g at k c
        fresh_child k start =
            let p = place at stands in
            record {
              stands = d.new;
              root = d.root ∙ sym p.root;
              low = d.low ∙ sym start;
              above = rw (p.low, d.low) parts.range_low;
              within = rw (p.low, d.low, p.bits, d.bits) parts.range_high;
              fewer = rw (p.bits, d.bits) parts.fewer;
              copies = (let s = d.settled.loose in let a = d.new_copies in rw (d.new_writable, s.copies at stands (stays at stands)) (omega (arith, a)));
              belongs = λ t j. d.belongs t j ∙ sym (p.belongs t j);
            }

    here_named : (k e : ℕ) → g.link at k ≡ loaded e → NamesBelow (put ref (filter (λ q. not (lies s.key s.keybits q)) (put leaf (refs f at)))) k
    here_named k e l = elim (where_lies s.key s.keybits k) as (λ _. NamesBelow (put ref (filter (λ q. not (lies s.key s.keybits q)) (put leaf (refs f at)))) k) [
      | in_range ne lo hi ↦ absurd (d.only k e ne lo hi l)
      | at_start start ↦ let it = put_there ref (filter (λ q. not (lies s.key s.keybits q)) (put leaf (refs f at))) (ref_apart f at set s ref leaf sound stands made is_ind key_is bits_is) in record { place = it.0; ref = ref; read = it.1; indirect = is_ind; key = key_is ∙ sym start }
      | outside out ↦
          let old = node.named k e (sym (kept k out) ∙ l) in
          let one = put_keeps leaf (refs f at) made.apart old.place old.ref old.read in
          let miss : lies s.key s.keybits old.ref ≡ false = off_lies s.key s.keybits old.ref (rw old.key out) _ refl in
          let two = filter_keeps (λ q. not (lies s.key s.keybits q)) (put leaf (refs f at)) one.0 old.ref one.1 (ap not miss) in
          let three = put_keeps ref (filter (λ q. not (lies s.key s.keybits q)) (put leaf (refs f at))) (ref_apart f at set s ref leaf sound stands made is_ind key_is bits_is) two.0 old.ref two.1 in
          record { place = three.0; ref = old.ref; read = three.1; indirect = old.indirect; key = old.key }
    ]

    here_bits : (i e : ℕ) (q : Ref) → slice_get (put ref (filter (λ q. not (lies s.key s.keybits q)) (put leaf (refs f at)))) i ≡ Some q → is_indirect q ≡ true → g.link at q.key ≡ loaded e → g.bits e ≡ q.keybits
    here_bits i e q read ind l = elim (put_from ref (filter (λ q. not (lies s.key s.keybits q)) (put leaf (refs f at))) (ref_apart f at set s ref leaf sound stands made is_ind key_is bits_is) i q read) as (λ _. g.bits e ≡ q.keybits) [
      | inl same ↦
          let at_key : q.key ≡ s.key = ap (λ (z : Ref). z.key) same ∙ key_is in
          let both : loaded c ≡ loaded e = sym child ∙ ap (g.link at) (sym at_key) ∙ l in
          let it : c ≡ e = (cc) in
          ap g.bits (sym it) ∙ d.bits ∙ sym bits_is ∙ ap (λ (z : Ref). z.keybits) (sym same)
      | inr old ↦
          let st = (stayed f at set s ref leaf sound stands made is_ind key_is bits_is) old.0 q old.1 in
          let was = (stood f at set s ref leaf sound stands made is_ind key_is bits_is) st.place q st.read ind in
          let l' : f.link at q.key ≡ loaded e = sym (kept q.key (off_key s.key s.keybits q st.off)) ∙ l in
          let kid = node.child q.key e l' in
          (place e kid.stands).bits ∙ node.bits was.place e q was.read ind l'
    ]

    here_fits : (i : ℕ) (q : Ref) → slice_get (put ref (filter (λ q. not (lies s.key s.keybits q)) (put leaf (refs f at)))) i ≡ Some q → Fits g at q
    here_fits i q read = elim (put_from ref (filter (λ q. not (lies s.key s.keybits q)) (put leaf (refs f at))) (ref_apart f at set s ref leaf sound stands made is_ind key_is bits_is) i q read) as (λ _. Fits g at q) [
      | inl same ↦ subst (Fits g at) (sym same) ref_fits
      | inr old ↦ let st = (stayed f at set s ref leaf sound stands made is_ind key_is bits_is) old.0 q old.1 in fits_in f g d.settled.loose at q stands (stays at stands) rules ((all_fits f at set s ref leaf sound stands made is_ind key_is bits_is) st.place q st.read)
    ]

    pub here_node : IsSoundNode g at
    here_node =
        let p = place at stands in
        placed f g d.settled.loose at stands (stays at stands) node (record {
          set = rw (d.now, made.kept) (here_set f at set s ref leaf sound stands made is_ind key_is bits_is);
          capacity = ap (λ (t : RefSet). t.capacity) d.now ∙ made.capacity;
          inside = rw (refs_here, p.low, p.bits) (here_rising f at set s ref leaf sound stands made is_ind key_is bits_is);
          fits = λ i q read. here_fits i q (rw refs_here at read);
          some = λ top. rw (refs_here, (here_length f at set s ref leaf sound stands made is_ind key_is bits_is)) (omega arith);
          child = here_child;
          named = λ k e l. rw refs_here (here_named k e l);
          bits = λ i e q read ind l. here_bits i e q (rw refs_here at read) ind l;
        })

    new_fits : (i : ℕ) (q : Ref) → slice_get (filter (lies s.key s.keybits) (put leaf (refs f at))) i ≡ Some q → Fits g c q
    new_fits i q read =
        let it = (came f at set s ref leaf sound stands made is_ind key_is bits_is) i q read in
        let h = (all_fits f at set s ref leaf sound stands made is_ind key_is bits_is) it.1 q it.2 in
        let grain : g.leaf_bits (g.root c) ≡ f.leaf_bits (f.root at) = ap g.leaf_bits d.root ∙ d.settled.loose.leaf_bits (f.root at) rules.stood rules.stands in
        record {
          held = h.held;
          aligned = h.aligned;
          class = h.class;
          leaf = λ k. h.leaf k ∙ sym grain;
          allowed = λ k. ap (λ n. g.allows n q) d.root ∙ rules.allows q (h.allowed k);
          wide = λ k. rw grain (h.wide k);
          some_bits = h.some_bits;
          falls = λ k. rw d.bits (parts.shorter it.1 q it.2 it.0);
        }

    -- a node below the new one was below the old one, at a reference that moved
    record WasBelow (k e : ℕ) : Type 0 where
      link : f.link at k ≡ loaded e
      named : NamesBelow (refs f at) k
      lo : s.key ≤ k
      hi : k < s.key + 2 ^ s.keybits

    was_below : (k e : ℕ) → g.link c k ≡ loaded e → WasBelow k e
    was_below k e l = elim (where_lies s.key s.keybits k) as (λ _. WasBelow k e) [
      | outside out ↦ absurd (d.only_below k e out l)
      | at_start start ↦ let pos = pow_pos s.keybits in from (omega (arith, start)) (omega (arith, start, pos))
      | in_range ne lo hi ↦ from lo hi
    ]
      where
        from : s.key ≤ k → k < s.key + 2 ^ s.keybits → WasBelow k e
        from lo hi = let l' = sym (below k lo hi) ∙ l in record { link = l'; named = node.named k e l'; lo = lo; hi = hi }

    new_child : (k e : ℕ) → g.link c k ≡ loaded e → IsChild g c k e
    new_child k e l =
        let was = was_below k e l in
        let kid = node.child k e was.link in
        let p = place e kid.stands in
        let n = was.named in
        let m = (moved_there f at set s ref leaf sound stands made is_ind key_is bits_is) k was.lo was.hi n in
        let bits_is : f.bits e ≡ n.ref.keybits = node.bits n.place e n.ref n.read n.indirect (rw n.key was.link) in
        let in_it = lies_in s.key s.keybits n.ref m.lies_there in
        let end : n.ref.key + 2 ^ n.ref.keybits ≤ s.key + 2 ^ s.keybits = in_it.1 in
        let key_is : n.ref.key ≡ k = n.key in
        let size : 2 ^ f.bits e ≡ 2 ^ n.ref.keybits = ap (λ z. 2 ^ z) bits_is in
        let end' : k + 2 ^ f.bits e ≤ s.key + 2 ^ s.keybits = omega (arith, end, size, key_is) in
        let low_is : f.low e ≡ k = kid.low in
        record {
          stands = p.stands;
          root = p.root ∙ kid.root ∙ sym d.root;
          low = p.low ∙ kid.low;
          above = rw (d.low, p.low, low_is) was.lo;
          within = rw (d.low, d.bits, p.low, p.bits, low_is) end';
          fewer = rw (d.bits, p.bits, bits_is) (parts.shorter m.all_place n.ref m.all_read m.lies_there);
          copies = (let s = d.settled.loose in rw (s.copies e kid.stands (stays e kid.stands), s.writable e kid.stands (stays e kid.stands), d.new_copies) kid.copies);
          belongs = λ t j. p.belongs t j ∙ kid.belongs t j ∙ sym (d.belongs t j);
        }

    new_named : (k e : ℕ) → g.link c k ≡ loaded e → NamesBelow (filter (lies s.key s.keybits) (put leaf (refs f at))) k
    new_named k e l =
        let was = was_below k e l in
        let m = (moved_there f at set s ref leaf sound stands made is_ind key_is bits_is) k was.lo was.hi was.named in
        record { place = m.place; ref = was.named.ref; read = m.read; indirect = was.named.indirect; key = was.named.key }

    new_bits : (i e : ℕ) (q : Ref) → slice_get (filter (lies s.key s.keybits) (put leaf (refs f at))) i ≡ Some q → is_indirect q ≡ true → g.link c q.key ≡ loaded e → g.bits e ≡ q.keybits
    new_bits i e q read ind l =
        let it = (came f at set s ref leaf sound stands made is_ind key_is bits_is) i q read in
        let st = (stood f at set s ref leaf sound stands made is_ind key_is bits_is) it.1 q it.2 ind in
        let was = was_below q.key e l in
        let kid = node.child q.key e was.link in
        (place e kid.stands).bits ∙ node.bits st.place e q st.read ind was.link

    new_node : IsSoundNode g c
    new_node =
        let high = parts.range_high in
        let fewer = parts.fewer in
        let slope = node.slope in
        record {
          set = rw (d.moved, made.moved) (new_set f at set s ref leaf sound stands made is_ind key_is bits_is);
          root_capacity = λ top. absurd (d.under (sym d.root ∙ top));
          block_capacity = λ _. ap (λ (t : RefSet). t.capacity) (d.moved ∙ made.moved);
          inside = rw (refs_new, d.low, d.bits) (inner_rising f at set s ref leaf sound stands made is_ind key_is bits_is);
          aligned = rw (d.low, d.bits) made.split.half.aligned;
          ends = rw (d.low, d.bits) (let e = node.ends in omega (arith, high, e));
          fits = λ i q read. new_fits i q (rw refs_new at read);
          some = λ top. rw (refs_new, (inner_length f at set s ref leaf sound stands made is_ind key_is bits_is)) (let two = parts.two in omega (arith, two));
          child = new_child;
          named = λ k e l. rw refs_new (new_named k e l);
          bits = λ i e q read ind l. new_bits i e q (rw refs_new at read) ind l;
          top = λ top. absurd (d.under (sym d.root ∙ top));
          half = λ top. absurd (d.under (sym d.root ∙ top));
          slope = rw (d.new_copies, d.bits) (omega (arith, fewer, slope));
        }

    new_top : (g.stands (g.root c) ≡ true) × (g.root (g.root c) ≡ g.root c)
    new_top =
        let t = sound.top at stands in
        let q = place (f.root at) t.0 in
        (ap g.stands d.root ∙ q.stands, ap g.root d.root ∙ q.root ∙ t.1 ∙ sym d.root)

    -- a node that was below the old one is below it or the new one
    moved_parent : (m : ℕ) → f.stands m ≡ true → f.link at (f.low m) ≡ loaded m → HasParent g m
    moved_parent m old link = elim (where_lies s.key s.keybits (f.low m)) as (λ _. HasParent g m) [
      | outside out ↦ record { parent = at; stands = stays at stands; link = ap (g.link at) (place m old).low ∙ kept (f.low m) out ∙ link }
      | at_start start ↦ let pos = pow_pos s.keybits in under (omega (arith, start)) (omega (arith, start, pos))
      | in_range ne lo hi ↦ under lo hi
    ]
      where
        under : s.key ≤ f.low m → f.low m < s.key + 2 ^ s.keybits → HasParent g m
        under lo hi = record { parent = c; stands = d.new; link = ap (g.link c) (place m old).low ∙ below (f.low m) lo hi ∙ link }

    old_parent : (m : ℕ) → f.stands m ≡ true → (g.root m ≡ m → ⊥) → HasParent g m
    old_parent m old ne =
        let p = place m old in
        let h = sound.parent m old (λ e. ne (p.root ∙ e)) in
        elim (same_or_not h.parent at) as (λ _. HasParent g m) [
          | inl e ↦ moved_parent m old (ap (λ z. f.link z (f.low m)) (sym e) ∙ h.link)
          | inr off ↦ record { parent = h.parent; stands = stays h.parent h.stands; link = ap (g.link h.parent) p.low ∙ d.link h.parent (f.low m) h.stands off ∙ h.link }
        ]

    others : (m : ℕ) → f.stands m ≡ true → (m ≡ at → ⊥) → Same f g m
    others m st off = same_all f g d.settled.loose m st (stays m st) (d.there m st off) (λ k. d.link m k st off)

    -- the references of the node are parted, and the path of each leaf goes on through the new node or beside it
    parted : PartsRefs f g at c s.key s.keybits (put leaf (refs f at)) ref
    parted = record { moved = refs_new; kept = refs_here; indirect = is_ind; ref_key = key_is; ref_bits = bits_is; link = child; sides = parts.sides; below_moved = below; below_kept = kept }

    old_owner : (m t k : ℕ) → f.stands m ≡ true → f.belongs m t k ≡ true → HasOwner g m t k
    old_owner m t k st b =
        let h = sound.owner m t k st b in
        owner_in f g d.settled.loose m t k st (stays m st) h (stays t h.stands) (made_path f g at c leaf ref s.key s.keybits sound stands made.apart parted others k t (Some h.leaf) h.stands (λ e. cc) h.path)

    -- what is new belongs to what the old node does
    owners : (m t k : ℕ) → g.stands m ≡ true → g.belongs m t k ≡ true → HasOwner g m t k
    owners m t k st b = elim (same_or_not m c) as (λ _. HasOwner g m t k) [
      | inr ne ↦ let old = d.stands m ne st in old_owner m t k old (sym ((place m old).belongs t k) ∙ b)
      | inl e ↦
          let p = place at stands in
          let h = old_owner at t k stands (sym (d.belongs t k) ∙ subst (λ z. g.belongs z t k ≡ true) e b) in
          record { other = λ same. h.other (p.root ∙ sym d.root ∙ sym (ap g.root e) ∙ same); stands = h.stands; root = h.root; leaf = h.leaf; key_is = h.key_is; kind_is = h.kind_is; path = h.path }
    ]

    came_of : (m : ℕ) → g.stands m ≡ true → CameOf f g d.settled.loose m
    came_of m st = elim (same_or_not m c) as (λ _. CameOf f g d.settled.loose m) [
      | inr ne ↦ stood_in (d.stands m ne st)
      | inl e ↦ like at stands (stays at stands) (ap g.root e ∙ d.root ∙ sym (place at stands).root) (λ t k. ap (λ z. g.belongs z t k) e ∙ d.belongs t k ∙ sym ((place at stands).belongs t k))
    ]

    pub makes : Makes f g at c set s
    makes = record {
      sound = sound_of f g d.settled.loose sound
          (λ m st. elim (same_or_not m c) as (λ _. IsSoundNode g m) [
            | inl e ↦ subst (IsSoundNode g) (sym e) new_node
            | inr ne ↦ elim (same_or_not m at) as (λ _. IsSoundNode g m) [
              | inl e ↦ subst (IsSoundNode g) (sym e) here_node
              | inr off ↦ let old = d.stands m ne st in same_node f g d.settled.loose m old st (keeps_rules f g d.settled sound m old) (sound.node m old) (d.there m old off) (λ k. d.link m k old off) (λ k e l. stays e ((sound.node m old).child k e l).stands)
            ]
          ])
          (λ m st. elim (same_or_not m c) as (λ _. (g.stands (g.root m) ≡ true) × (g.root (g.root m) ≡ g.root m)) [
            | inl e ↦ subst (λ z. (g.stands (g.root z) ≡ true) × (g.root (g.root z) ≡ g.root z)) (sym e) new_top
            | inr ne ↦ let old = d.stands m ne st in same_top f g d.settled.loose m sound old st (stays (f.root m) (sound.top m old).0)
          ])
          (λ m st ne. elim (same_or_not m c) as (λ _. HasParent g m) [
            | inl e ↦ subst (HasParent g) (sym e) (record { parent = at; stands = stays at stands; link = ap (g.link at) d.low ∙ child })
            | inr off ↦ old_parent m (d.stands m off st) ne
          ])
          (λ m h. stays m (sound.held m h).0)
          owners
          came_of;
      fixed = d.settled.fixed;
      fresh = d.fresh;
      child = child;
      moved = d.moved;
      new_writable = d.new_writable;
      ref = ref;
      indirect = is_ind;
      key = key_is;
      keybits = bits_is;
      dated = ref_dated;
      now = d.now;
      place = place at stands;
      below_moved = below;
      below_kept = kept;
      copies = d.settled.loose.copies at stands (stays at stands);
      others = others;
      none_new = λ m st. elim (same_or_not m c) as (λ _. (m ≡ c) ⊎ (f.stands m ≡ true)) [
        | inl e ↦ inl e
        | inr ne ↦ inr (d.stands m ne st)
      ];
      spare = d.spare;
      room = d.room;
      failed = d.failed;
      bad = d.bad;
      met = d.met;
    }
