-- A removal below a node is one from the node's tree.
use Rattle.std.proofs.Common.{◌≡◌, ℕ, ◌+◌, ◌<◌, ◌≤◌, ◌^◌, true, arith, sym, ◌∙◌, ap, List, ◌++◌, Some, subst, inl, inr, slice_get}
use Rattle.std.proofs.lemmas.Nat.{pow_pos, pow_below}
use Rattle.h2_ref.specs.declared.reference.Ref.{Ref}
use Rattle.h2_set.specs.Ranges.{Rising, limit, holds, without, is_indirect}
use Rattle.h2_set.specs.RefSet.{RefSet}
use Rattle.h2_set.specs.Forest.{Forest, refs, loaded, LeavesOf, KeepsLeaves, IsSoundNode, IsSound}
use Rattle.h2_set.specs.Calls.{Stays, Keeps, Walks, Loads}
use Rattle.h2_set.specs.StayLaws.{leaves_stay, Walks-leaves, Walks-trans, Fixed-trans, InPlace-trans}
use Rattle.h2_set.specs.RenewLaws.{Keeps-Renews, Renews-trans}
use Rattle.h2_set.specs.LeafLaws.{leaves_rising}
use Rattle.h2_set.specs.ChangeLaws.{Keeps-Stays, Keeps-trans, leaves_replace, apart_places}
use Rattle.h2_tree.specs.Changes.{Under, Removes}
use Rattle.h2_tree.proofs.Going.{way_down, Walks-prepares}
use Rattle.h2_tree.proofs.Touching.{In-trans, in_path}
use Rattle.h2_set.specs.CutLaws.{without-append, without-append_left}

-- the child that a load gave stands, and its bits are fewer
module _ (f h : Forest) (at i c key : ℕ) (q : Ref) (sound : IsSound f) (stands : f.stands at ≡ true) (read : slice_get (refs f at) i ≡ Some q) (ind : is_indirect q ≡ true) (in_q : holds key q ≡ true) (walks : Walks f h) (loads : Loads f h at q.key) (link : h.link at q.key ≡ loaded c) where
  pub child_stands : h.stands c ≡ true
  child_stands = ((walks.sound.node at (walks.stays at stands).place.stands).child q.key c link).stands

  pub child_fewer : h.bits c < f.bits at
  child_fewer = (let there = walks.stays at stands in omega (arith, ((walks.sound.node at there.place.stands).child q.key c link).fewer, there.place.bits))

without_right : (key low mid : ℕ) (xs ys : List Ref) → Rising low mid xs → mid ≤ key → without key (xs ++ ys) ≡ xs ++ without key ys
without_right key low mid xs ys h le = without-append key low mid xs ys h le

module _ (f h : Forest) (at i c : ℕ) (leaf q : Ref) (sound : IsSound f) (stands : f.stands at ≡ true) (read : slice_get (refs f at) i ≡ Some q) (ind : is_indirect q ≡ true) (in_q : holds leaf.key q ≡ true) (walks : Walks f h) (loads : Loads f h at q.key) (link : h.link at q.key ≡ loaded c) where
  there : Stays f h at
  there = walks.stays at stands

  node : IsSoundNode h at
  node = walks.sound.node at there.place.stands

  read_h : slice_get (refs h at) i ≡ Some q
  read_h = ap (λ (s : RefSet). slice_get s.refs i) (walks.sets at stands) ∙ read

  bits_c : h.bits c ≡ q.keybits
  bits_c = node.bits i c q read_h ind link

  -- a node is not in the range of one below it
  not_under : (m : ℕ) → h.bits c < h.bits m → h.low c ≡ q.key → (Under h m c → ⊥)
  not_under m more low u = omega (arith, u.low, u.high, pow_below (h.bits c) (h.bits m) more)

  pub remove_below : (g : Forest) → Removes h g c leaf → Removes f g at leaf
  remove_below g ins =
      let child = node.child q.key c link in
      let kept : Keeps h g at = ins.tree at there.place.stands (sym child.root) (not_under at child.fewer child.low) in
      let keep = λ (j d : ℕ) (r : Ref) (read' : slice_get (refs h at) j ≡ Some r) (ind' : is_indirect r ≡ true) (link' : h.link at r.key ≡ loaded d) (ne : j ≡ i → ⊥).
      let kid = node.child r.key d link' in
      let bits_d = node.bits j d r read' ind' link' in
      let apart = apart_places _ _ (refs h at) i j q r node.inside read_h read' ne in
      let P : ℕ → Type 0 = λ m. (h.stands m ≡ true) × (h.root m ≡ h.root at) × (r.key ≤ h.low m) × (h.low m + 2 ^ h.bits m ≤ limit r) in
      let closed : (m k e : ℕ) → P m → h.link m k ≡ loaded e → P e = λ m k e p link''. let kid' = (walks.sound.node m p.0).child k e link'' in (kid'.stands, kid'.root ∙ p.1, omega (arith, kid'.above, p.2), omega (arith, kid'.within, p.3)) in
      let out : (m : ℕ) → P m → (Under h m c → ⊥) = λ m p u.
      let pos = pow_pos (h.bits m) in
      elim apart as (λ _. ⊥) [
        | inl lower ↦ omega (arith, lower, p.3, u.low, child.low, pos)
        | inr upper ↦ omega (arith, upper, p.2, u.high, child.low, ap (λ z. 2 ^ z) bits_c, pos)
      ] in
      let stay : (m : ℕ) → P m → Stays h g m = λ m p. Keeps-Stays h g m (ins.tree m p.0 (p.1 ∙ sym child.root) (out m p)) in
      let start : P d = (kid.stands, kid.root, omega (arith, kid.low), omega (arith, kid.low, ap (λ z. 2 ^ z) bits_d)) in
      let it : KeepsLeaves h g d = λ l hl. leaves_stay h g P closed stay start hl (refs g d) (stay d start).alike in
      it in
      let rising : (b : List Ref) → LeavesOf g c b → Rising q.key (limit q) b = λ b hb.
      let inside = leaves_rising hb _ _ (ins.sound.node c ins.place.stands).inside in
      rw (ins.place.low, ins.place.bits, child.low, bits_c) at inside in
      let below_c : (m : ℕ) → f.stands m ≡ true → (Under f m at → ⊥) → (Under h m c → ⊥) = λ m st out u.
      let stay = walks.stays m st in
      let up : Under f m at = record {
        low = omega (arith, u.low, child.above, stay.place.low, there.place.low);
        high = omega (arith, u.high, child.within, stay.place.low, ap (λ z. 2 ^ z) stay.place.bits, there.place.low, ap (λ z. 2 ^ z) there.place.bits);
      } in
      out up in
      let differs : (m : ℕ) → (Under f m at → ⊥) → m ≡ at → ⊥ = λ m out e. out (subst (λ z. Under f z at) (sym e) (record { low = omega arith; high = omega arith })) in
      record {
        sound = ins.sound;
        fixed = Fixed-trans f h g (λ m st st'. (walks.stays m st).place.stands) walks.fixed ins.fixed;
        place = InPlace-trans f h g at there.place kept.place;
        leaves = λ l hl. leaves_replace (without leaf.key) leaf.key (without-append_left leaf.key) (without_right leaf.key) c i q (Walks-leaves f h sound walks at stands l hl) (refs g at) kept.alike _ _ node.inside read_h ind link in_q kept.link keep ins.leaves rising;
        tree = λ m st root out.
            let k = loads.keeps m st (differs m out) in
            Keeps-trans f h g m k (ins.tree m k.place.stands (k.place.root ∙ root ∙ sym there.place.root ∙ sym child.root) (below_c m st out));
        above = λ m st root belongs.
            let stay = walks.stays m st in
            let k = loads.keeps m st (λ e. root (ap f.root e)) in
            let root_c : h.root c ≡ f.root at = child.root ∙ there.place.root in
            let s = ins.above m stay.place.stands (λ e. root (sym stay.place.root ∙ e ∙ root_c)) (λ e. belongs (sym (stay.place.belongs (f.root at) leaf.key) ∙ subst (λ z. h.belongs m z leaf.key ≡ true) root_c e)) in
            Renews-trans f h g m (Keeps-Renews f h m k) s;
        goes = (let it = ins.goes in record {
          then = it.then;
          walks = Walks-trans f h it.then walks it.walks;
          touched = In-trans f h it.then at c leaf.key leaf.key (child.root ∙ there.place.root) it.walks (in_path f h at i q leaf.key stands read ind in_q walks loads) it.touched;
          node = it.node;
          stands = it.stands;
          way = way_down h it.then leaf.key at i c it.node q (Walks-prepares h it.then it.walks) there.place.stands read_h in_q ind link it.way;
          place = it.place;
          only_leaf = it.only_leaf;
          more = it.more;
          set = it.set;
          link = it.link;
          only = it.only;
          gone = it.gone;
          none_new = it.none_new;
          room = omega (arith, it.room, walks.room);
          spare = it.spare ∙ walks.spare;
        });
        filled = ins.filled;
        room = omega (arith, ins.room, walks.room);
        room_falls = omega (arith, ins.room_falls, walks.room);
        spare = ins.spare ∙ walks.spare;
      }
