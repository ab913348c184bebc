-- An insertion below a node is one into the node's tree.
use Rattle.std.proofs.Common.{◌≡◌, ℕ, ◌+◌, ◌<◌, ◌≤◌, ◌^◌, true, arith, sym, ◌∙◌, ap, List, Option, Some, subst, ◌⊎◌, inl, inr, slice_get, Result, Ok, Err, IfOk}
use Rattle.std.specs.Prelude.{OnErr}
use Rattle.h2_ref.specs.declared.faults.Trouble.{Trouble}
use Rattle.std.proofs.lemmas.Nat.{pow_pos, pow_below}
use Rattle.h2_ref.specs.declared.reference.Ref.{Ref}
use Rattle.h2_set.specs.Ranges.{Rising, limit, holds, find, put, is_indirect}
use Rattle.h2_set.specs.RefSet.{RefSet}
use Rattle.h2_set.specs.Forest.{Forest, refs, loaded, LeavesOf, KeepsLeaves, IsSoundNode, IsSound, Fits}
use Rattle.h2_set.specs.Calls.{Stays, Keeps, Walks, Loads}
use Rattle.h2_set.specs.StayLaws.{leaves_stay, Walks-leaves, Walks-trans, Fixed-trans, InPlace-trans}
use Rattle.h2_set.specs.RenewLaws.{Keeps-Renews, Renews-trans}
use Rattle.h2_set.specs.LeafLaws.{leaves_rising, holds_inside, find_below}
use Rattle.h2_set.specs.ChangeLaws.{Keeps-Stays, Keeps-trans, leaves_replace, put-append_left, put-append_right, limit_inside, apart_places}
use Rattle.h2_tree.specs.Changes.{Under, Takes, Inserts, LoadsIn, PathUnloaded}
use Rattle.h2_tree.proofs.Going.{Prepares-trans, Walks-prepares, way_down}
use Rattle.h2_tree.proofs.Climb.{reaches_child}
use Rattle.h2_tree.proofs.Touching.{In-trans, In-prepared, in_path}

module _ (f h : Forest) (at i c : ℕ) (leaf q : Ref) (sound : IsSound f) (stands : f.stands at ≡ true) (takes : Takes f at leaf) (read : slice_get (refs f at) i ≡ Some q) (ind : is_indirect q ≡ true) (in_q : holds leaf.key q ≡ true) (walks : Walks f h) (loads : Loads f h at q.key) (link : h.link at q.key ≡ loaded c) where
  there : Stays f h at
  there = walks.stays at stands

  node : IsSoundNode h at
  node = walks.sound.node at there.place.stands

  read_h : slice_get (refs h at) i ≡ Some q
  read_h = ap (λ (s : RefSet). slice_get s.refs i) (walks.sets at stands) ∙ read

  bits_c : h.bits c ≡ q.keybits
  bits_c = node.bits i c q read_h ind link

  q_fits : Fits h at q
  q_fits = node.fits i q read_h

  top : f.stands (f.root at) ≡ true
  top = (sound.top at stands).0

  top_h : h.stands (f.root at) ≡ true
  top_h = (walks.stays (f.root at) top).place.stands

  bits_are : leaf.keybits ≡ h.leaf_bits (h.root at)
  bits_are = takes.keybits ∙ sym (walks.fixed.leaf_bits (f.root at) top top_h) ∙ ap h.leaf_bits (sym there.place.root)

  pub child_stands : h.stands c ≡ true
  child_stands = (node.child q.key c link).stands

  pub child_fewer : h.bits c < f.bits at
  child_fewer = omega (arith, (node.child q.key c link).fewer, there.place.bits)

  pub child_takes : Takes h c leaf
  child_takes =
      let child = node.child q.key c link in
      let inside = holds_inside leaf.key q in_q in
      let longer : leaf.keybits ≤ q.keybits = omega (arith, q_fits.wide ind, bits_are) in
      let ends = limit_inside leaf q takes.aligned q_fits.aligned longer in_q in
      record {
        is_leaf = takes.is_leaf;
        allowed = ap (λ z. h.allows z leaf) (child.root ∙ there.place.root) ∙ walks.fixed.allows (f.root at) leaf top top_h ∙ takes.allowed;
        aligned = takes.aligned;
        class = takes.class;
        keybits = bits_are ∙ ap h.leaf_bits (sym child.root);
        low = omega (arith, child.low, inside.0);
        high = rw (child.low, bits_c) ends;
      }

  -- what was found below is what the whole list has
  pub found_below : (o : Option Ref) → ((l : List Ref) → LeavesOf h c l → o ≡ find leaf.key l) → (l : List Ref) → LeavesOf f at l → o ≡ find leaf.key l
  found_below o below l hl =
      let it = find_below leaf.key _ _ i c q (Walks-leaves f h sound walks at stands l hl) node.inside read_h in_q ind link in
      below it.kids it.leaves ∙ sym it.same

  -- the child is on the path of the leaf's key
  touched_child : LoadsIn f h at leaf.key leaf.key
  touched_child = in_path f h at i q leaf.key stands read ind in_q walks loads

  root_c : h.root c ≡ f.root at
  root_c = (node.child q.key c link).root ∙ there.place.root

  -- a node is not in the range of one below it
  not_under : (m : ℕ) → h.bits c < h.bits m → h.low c ≡ q.key → (Under h m c → ⊥)
  not_under m more low u = omega (arith, u.low, u.high, pow_below (h.bits c) (h.bits m) more)

  pub insert_below : (g : Forest) (old : Option Ref) → Inserts h g c leaf old → Inserts f g at leaf old
  insert_below g old ins =
      let child = node.child q.key c link in
      let kept : Keeps h g at = ins.tree at there.place.stands (sym child.root) (not_under at child.fewer child.low) in
      let keep = λ (j d : ℕ) (r : Ref) (read' : slice_get (refs h at) j ≡ Some r) (ind' : is_indirect r ≡ true) (link' : h.link at r.key ≡ loaded d) (ne : j ≡ i → ⊥).
      let kid = node.child r.key d link' in
      let bits_d = node.bits j d r read' ind' link' in
      let apart = apart_places _ _ (refs h at) i j q r node.inside read_h read' ne in
      let P : ℕ → Type 0 = λ m. (h.stands m ≡ true) × (h.root m ≡ h.root at) × (r.key ≤ h.low m) × (h.low m + 2 ^ h.bits m ≤ limit r) in
      let closed : (m k e : ℕ) → P m → h.link m k ≡ loaded e → P e = λ m k e p link''. let kid' = (walks.sound.node m p.0).child k e link'' in (kid'.stands, kid'.root ∙ p.1, omega (arith, kid'.above, p.2), omega (arith, kid'.within, p.3)) in
      let out : (m : ℕ) → P m → (Under h m c → ⊥) = λ m p u.
      let pos = pow_pos (h.bits m) in
      elim apart as (λ _. ⊥) [
        | inl lower ↦ omega (arith, lower, p.3, u.low, child.low, pos)
        | inr upper ↦ omega (arith, upper, p.2, u.high, child.low, ap (λ z. 2 ^ z) bits_c, pos)
      ] in
      let stay : (m : ℕ) → P m → Stays h g m = λ m p. Keeps-Stays h g m (ins.tree m p.0 (p.1 ∙ sym child.root) (out m p)) in
      let start : P d = (kid.stands, kid.root, omega (arith, kid.low), omega (arith, kid.low, ap (λ z. 2 ^ z) bits_d)) in
      let it : KeepsLeaves h g d = λ l hl. leaves_stay h g P closed stay start hl (refs g d) (stay d start).alike in
      it in
      let rising : (b : List Ref) → LeavesOf g c b → Rising q.key (limit q) b = λ b hb.
      let inside = leaves_rising hb _ _ (ins.sound.node c ins.place.stands).inside in
      rw (ins.place.low, ins.place.bits, child.low, bits_c) at inside in
      let below_c : (m : ℕ) → f.stands m ≡ true → (Under f m at → ⊥) → (Under h m c → ⊥) = λ m st out u.
      let stay = walks.stays m st in
      let up : Under f m at = record {
        low = omega (arith, u.low, child.above, stay.place.low, there.place.low);
        high = omega (arith, u.high, child.within, stay.place.low, ap (λ z. 2 ^ z) stay.place.bits, there.place.low, ap (λ z. 2 ^ z) there.place.bits);
      } in
      out up in
      let differs : (m : ℕ) → (Under f m at → ⊥) → m ≡ at → ⊥ = λ m out e. out (subst (λ z. Under f z at) (sym e) (record { low = omega arith; high = omega arith })) in
      record {
        sound = ins.sound;
        fixed = Fixed-trans f h g (λ m st st'. (walks.stays m st).place.stands) walks.fixed ins.fixed;
        place = InPlace-trans f h g at there.place kept.place;
        leaves = λ l hl. leaves_replace (put leaf) leaf.key (put-append_left leaf) (put-append_right leaf) c i q (Walks-leaves f h sound walks at stands l hl) (refs g at) kept.alike _ _ node.inside read_h ind link in_q kept.link keep ins.leaves rising;
        tree = λ m st root out.
            let k = loads.keeps m st (differs m out) in
            Keeps-trans f h g m k (ins.tree m k.place.stands (k.place.root ∙ root ∙ sym there.place.root ∙ sym child.root) (below_c m st out));
        above = λ m st root.
            let stay = walks.stays m st in
            let k = loads.keeps m st (λ e. root (ap f.root e)) in
            let s = ins.above m stay.place.stands (λ e. root (sym stay.place.root ∙ e ∙ child.root ∙ there.place.root)) in
            Renews-trans f h g m (Keeps-Renews f h m k) s;
        still = λ m st. let stay = (walks.stays m st).place in InPlace-trans f h g m stay (ins.still m stay.stands);
        goes = (let it = ins.goes in record {
          then = it.then;
          prepares = Prepares-trans f h it.then (Walks-prepares f h walks) it.prepares;
          touched = In-prepared f h it.then at c leaf.key leaf.key root_c it.prepares touched_child it.touched;
          node = it.node;
          stands = it.stands;
          way = way_down h it.then leaf.key at i c it.node q it.prepares there.place.stands read_h in_q ind link it.way;
          blocks = it.blocks;
          change = it.change;
          only = it.only;
          room = omega (arith, it.room, walks.room);
          spare = it.spare;
          grown = λ one. it.grown (omega (arith, one, walks.spare)) ∙ walks.spare;
        });
        filled = ins.filled;
        room = omega (arith, ins.room, walks.room);
        room_falls = omega (arith, ins.room_falls, walks.room);
        spare = omega (arith, ins.spare, walks.spare);
      }

  -- what the call below ensures, at whatever it answered
  pub ok_below : (g : Forest) (r : Result (Option Ref) Trouble) → IfOk r (Inserts h g c leaf) → IfOk r (Inserts f g at leaf)
  ok_below g (Ok o) ins = insert_below g o ins
  ok_below g (Err e) ins = tt

  pub old_below : (r : Result (Option Ref) Trouble) → IfOk r (λ o. (l : List Ref) → LeavesOf h c l → o ≡ find leaf.key l) → IfOk r (λ o. (l : List Ref) → LeavesOf f at l → o ≡ find leaf.key l)
  old_below (Ok o) found = found_below o found
  old_below (Err e) found = tt

  pub walks_below : (g : Forest) (r : Result (Option Ref) Trouble) → OnErr r (Walks h g) → OnErr r (Walks f g)
  walks_below g (Ok o) w = tt
  walks_below g (Err e) w = Walks-trans f h g walks w

  pub touched_below : (g : Forest) (r : Result (Option Ref) Trouble) → OnErr r (Walks h g) → OnErr r (LoadsIn h g c leaf.key leaf.key) → OnErr r (LoadsIn f g at leaf.key leaf.key)
  touched_below g (Ok o) w t = tt
  touched_below g (Err e) w t = In-trans f h g at c leaf.key leaf.key root_c w touched_child t

  pub child_room : 63 ≤ f.room → 63 ≤ h.room
  child_room room = omega (arith, room, walks.room)

  -- where the path from the child isn't loaded, that from the node isn't
  pub unloaded_below : (r : Result (Option Ref) Trouble) → OnErr r (PathUnloaded h c leaf.key ⊎ (h.spare ≡ 0)) → OnErr r (PathUnloaded f at leaf.key ⊎ (f.spare ≡ 0))
  unloaded_below (Ok o) u = tt
  unloaded_below (Err e) (inl path) = inl (λ o reached. path o (reaches_child f h leaf.key at i c q o sound walks stands read in_q ind link reached))
  unloaded_below (Err e) (inr none) = inr (omega (arith, none, walks.spare))
