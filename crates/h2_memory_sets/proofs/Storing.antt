-- Another set in one node, and what is below references that it lacks gone.
use Rattle.std.proofs.Common.{◌≡◌, ℕ, ◌+◌, ◌<◌, ◌≤◌, ◌^◌, Bool, true, false, arith, refl, sym, ◌∙◌, ap, length, Some, subst, ◌⊎◌, inl, inr, slice_get}
use Rattle.std.proofs.lemmas.Bool.{cases_lt}
use Rattle.std.proofs.lemmas.Nat.{pow_pos}
use Rattle.h2_ref.specs.declared.reference.Ref.{Ref}
use Rattle.h2_ref.specs.declared.reference.Kind.TheVariants.{Inode}
use Rattle.h2_set.specs.Ranges.{Rising, holds, is_indirect}
use Rattle.h2_set.specs.RefSet.{RefSet, IsRefSet}
use Rattle.h2_set.specs.Forest.{Forest, refs, loaded, untold, IsSound, IsSoundNode, NamesBelow, HasParent, Fits}
use Rattle.h2_set.specs.Calls.{Loses, GoesBelow, GoesWith}
use Rattle.h2_set.specs.ChangeLaws.{same_or_not}
use Rattle.h2_set.specs.LeafLaws.{holds_inside, place_above}
use Rattle.h2_set.specs.SplitLaws.{below_high}
use Rattle.h2_memory_sets.specs.View.{names}
use Rattle.h2_memory_sets.proofs.Lists.{names_below, below_names}
use Rattle.h2_memory_sets.proofs.Nesting.{in_holds, same_holder, meet, link_of, clash, one_range, leads_to, few_bits}
use Rattle.h2_memory_sets.proofs.Settled.{Loose, KeepsRules, child_in, placed, same_node}

-- Two forests that differ in the set of one node, and in nodes that stand no longer. A node belongs to what its root
-- belongs to, and to what that does which the leaf is in.
pub record DiffersByStore (f g : Forest) (at : ℕ) (s : RefSet) : Type 0 where
  pub loose : Loose f g
  pub goes : ℕ → Bool
  pub gone : (m : ℕ) → goes m ≡ true → g.stands m ≡ false
  pub stays : (m : ℕ) → goes m ≡ false → g.stands m ≡ f.stands m
  pub none_new : (m : ℕ) → g.stands m ≡ true → f.stands m ≡ true
  pub goes_is : (m : ℕ) → f.stands m ≡ true → goes m ≡ true → GoesBelow f m at s ⊎ GoesWith f m at s
  pub goes_all : (m : ℕ) → f.stands m ≡ true → GoesBelow f m at s ⊎ GoesWith f m at s → goes m ≡ true
  pub by_root : (m t k : ℕ) → f.stands m ≡ true → f.belongs (f.root m) t k ≡ f.belongs m t k
  pub here : g.set at ≡ s
  pub there : (m : ℕ) → (m ≡ at → ⊥) → g.set m ≡ f.set m
  pub link : (m k : ℕ) → (m ≡ at → ⊥) → ((c : ℕ) → f.link m k ≡ loaded c → goes c ≡ false) → g.link m k ≡ f.link m k
  pub link_here : (k : ℕ) → names s.refs k ≡ true → names (refs f at) k ≡ true → ((c : ℕ) → f.link at k ≡ loaded c → goes c ≡ false) → g.link at k ≡ f.link at k
  pub unnamed : (k : ℕ) → names s.refs k ≡ false → g.link at k ≡ untold
  pub spare : g.spare ≡ f.spare
  pub room : g.room ≡ f.room
  pub failed : g.failed ≡ f.failed
  pub bad : g.bad ≡ f.bad
  pub met : g.met ≡ f.met

-- a set that may stand in node at, in the forest that comes of it
pub record Suits (f g : Forest) (at : ℕ) (s : RefSet) : Type 0 where
  pub capacity : let t = f.set at in s.capacity ≡ t.capacity
  pub set : IsRefSet s
  pub some : (f.root at ≡ at → ⊥) → 0 < length s.refs
  pub inside : Rising (f.low at) (f.low at + 2 ^ f.bits at) s.refs
  pub fits : (i : ℕ) (r : Ref) → slice_get s.refs i ≡ Some r → Fits g at r
  pub stood : (i : ℕ) (r : Ref) → slice_get s.refs i ≡ Some r → is_indirect r ≡ true → (j : ℕ) × (slice_get (refs f at) j ≡ Some r)
  pub free : (m : ℕ) → f.stands m ≡ true → GoesWith f m at s → f.held m ≡ false
  -- the trees of other nodes may have the leaves that they might have
  pub rules : (m : ℕ) → g.stands m ≡ true → (m ≡ at → ⊥) → KeepsRules f g (f.root m)
  -- a leaf in a tree to whose leaves something belongs names an inode
  pub kinds : (m key i : ℕ) (r : Ref) → f.stands m ≡ true → f.belongs m (f.root at) key ≡ true → slice_get s.refs i ≡ Some r → is_indirect r ≡ false → r.kind ≡ Inode

-- what a test answers
pub tested : (b : Bool) → (b ≡ true) ⊎ (b ≡ false)
tested true = inl refl
tested false = inr refl

module _ (f : Forest) (at : ℕ) (s : RefSet) (sound : IsSound f) (stands : f.stands at ≡ true) where
  -- what lies below a reference that is missing lies in the range of node at
  lost_in : (key : ℕ) → (l : Loses f at s key) → (f.low at ≤ key) × (key < f.low at + 2 ^ f.bits at)
  lost_in key l =
      let node = sound.node at stands in
      let it = holds_inside key l.lost l.held in
      let from = place_above _ _ (refs f at) l.place l.lost node.inside l.was in
      let to = below_high _ _ (refs f at) l.place l.lost node.inside l.was in
      (omega (arith, from, it.0), omega (arith, to, it.1))

  -- a node below node at lies in the range of the reference that holds its first key
  covers : (m : ℕ) → f.stands m ≡ true → (goes : GoesBelow f m at s) → (x : ℕ) → f.low m ≤ x → x < f.low m + 2 ^ f.bits m → holds x goes.loses.lost ≡ true
  covers m st goes x lo hi =
      let node = sound.node at stands in
      let range = lost_in (f.low m) goes.loses in
      let it = leads_to f sound at m stands st goes.tree goes.fewer range.0 range.1 in
      let from = it.from in
      let to = it.to in
      let pos = pow_pos (f.bits m) in
      let same = same_holder _ _ (refs f at) it.place goes.loses.place (f.low m) it.ref goes.loses.lost node.inside it.read goes.loses.was (in_holds (f.low m) it.ref from (omega (arith, to, pos))) goes.loses.held in
      subst (λ (q : Ref). holds x q ≡ true) same (in_holds x it.ref (omega (arith, from, lo)) (omega (arith, to, hi)))

  -- what is right below a node that goes, goes
  pub goes_down : (m c : ℕ) → f.stands m ≡ true → f.link m (f.low c) ≡ loaded c → GoesBelow f m at s → GoesBelow f c at s
  goes_down m c st link goes =
      let l = link_of f sound m c st link in
      let above = l.child.above in
      let within = l.child.within in
      let less = l.child.fewer in
      let fewer = goes.fewer in
      let pos = pow_pos (f.bits c) in
      record {
        tree = l.child.root ∙ goes.tree;
        fewer = omega (arith, less, fewer);
        loses = record { place = goes.loses.place; lost = goes.loses.lost; was = goes.loses.was; lacks = goes.loses.lacks; held = covers m st goes (f.low c) above (omega (arith, within, pos)) };
      }

  -- a node goes with what is right below it, but for node at
  pub goes_up : (m c : ℕ) → f.stands m ≡ true → (m ≡ at → ⊥) → f.link m (f.low c) ≡ loaded c → GoesBelow f c at s → GoesBelow f m at s
  goes_up m c st ne link goes =
      let node = sound.node at stands in
      let l = link_of f sound m c st link in
      let above = l.child.above in
      let within = l.child.within in
      let pos = pow_pos (f.bits c) in
      let top = lost_in (f.low c) goes.loses in
      let root : f.root m ≡ f.root at = sym l.child.root ∙ goes.tree in
      elim (cases_lt (f.bits m) (f.bits at)) as (λ _. GoesBelow f m at s) [
        | inl less ↦
            let in_it = meet f sound m at (f.low c) st stands (omega (arith, less)) above (omega (arith, within, pos)) top.0 top.1 in
            let lo = in_it.low in
            let hi = in_it.high in
            let pos' = pow_pos (f.bits m) in
            let it = leads_to f sound at m stands st root less lo (omega (arith, hi, pos')) in
            let from = it.from in
            let to = it.to in
            let same = same_holder _ _ (refs f at) it.place goes.loses.place (f.low c) it.ref goes.loses.lost node.inside it.read goes.loses.was (in_holds (f.low c) it.ref (omega (arith, from, above)) (omega (arith, to, within, pos))) goes.loses.held in
            record {
              tree = root;
              fewer = less;
              loses = record { place = goes.loses.place; lost = goes.loses.lost; was = goes.loses.was; lacks = goes.loses.lacks; held = subst (λ (q : Ref). holds (f.low m) q ≡ true) same (in_holds (f.low m) it.ref from (omega (arith, to, pos'))) };
            }
        | inr ge ↦ elim (same_or_not (f.bits at) (f.bits m)) as (λ _. GoesBelow f m at s) [
          | inl e ↦
              let x = meet f sound at m (f.low c) stands st (omega (arith, e)) top.0 top.1 above (omega (arith, within, pos)) in
              let y = meet f sound m at (f.low c) st stands (omega (arith, e)) above (omega (arith, within, pos)) top.0 top.1 in
              let xl = x.low in
              let yl = y.low in
              absurd (ne (one_range f sound m at st stands root (omega (arith, xl, yl)) (sym e)))
          | inr off ↦
              let longer : f.bits at < f.bits m = omega (arith, ge, off) in
              let x = meet f sound at m (f.low c) stands st (omega (arith, longer)) top.0 top.1 above (omega (arith, within, pos)) in
              let xl = x.low in
              let xh = x.high in
              let pos' = pow_pos (f.bits at) in
              let it = leads_to f sound m at st stands (sym root) longer xl (omega (arith, xh, pos')) in
              absurd (clash f sound m c at st l it top.0 top.1 goes.fewer)
        ]
      ]

module _ (f g : Forest) (at : ℕ) (s : RefSet) (d : DiffersByStore f g at s) (sound : IsSound f) (stands : f.stands at ≡ true) where
  pub refs_here : refs g at ≡ s.refs
  refs_here = ap (λ (t : RefSet). t.refs) d.here

  pub node : IsSoundNode f at
  node = sound.node at stands

  -- a node goes with one that belongs to the same
  pub with_same : (m n : ℕ) → f.root n ≡ f.root m → ((t k : ℕ) → f.belongs n t k ≡ f.belongs m t k) → GoesWith f n at s → GoesWith f m at s
  with_same m n root same w = record {
    other = λ e. w.other (root ∙ e);
    key = w.key;
    leaf = w.leaf;
    loses = w.loses;
    reaches = w.reaches;
    exact = w.exact;
    belongs = sym (same (f.root at) w.key) ∙ w.belongs;
  }

  pub not_goes : (m : ℕ) → f.stands m ≡ true → (GoesBelow f m at s ⊎ GoesWith f m at s → ⊥) → d.goes m ≡ false
  not_goes m st miss = elim (tested (d.goes m)) as (λ _. d.goes m ≡ false) [
    | inl e ↦ absurd (miss (d.goes_is m st e))
    | inr e ↦ e
  ]

  pub at_stays : d.goes at ≡ false
  at_stays = not_goes at stands (λ why. elim why as (λ _. ⊥) [
    | inl goes ↦ let less = goes.fewer in omega (arith, less)
    | inr w ↦ w.other refl
  ])

  pub at_now : g.stands at ≡ true
  at_now = d.stays at at_stays ∙ stands

  pub now_stays : (m : ℕ) → g.stands m ≡ true → d.goes m ≡ false
  now_stays m now = elim (tested (d.goes m)) as (λ _. d.goes m ≡ false) [
    | inl e ↦ let clash : true ≡ false = sym now ∙ d.gone m e in absurd (cc)
    | inr e ↦ e
  ]

  low_link : (m k c : ℕ) → f.stands m ≡ true → f.link m k ≡ loaded c → f.link m (f.low c) ≡ loaded c
  low_link m k c st link = ap (f.link m) ((sound.node m st).child k c link).low ∙ link

  -- what is right below another node that stays, stays
  pub kid_stays : (m k c : ℕ) → f.stands m ≡ true → (m ≡ at → ⊥) → d.goes m ≡ false → f.link m k ≡ loaded c → d.goes c ≡ false
  kid_stays m k c st ne stay link =
      let kid = (sound.node m st).child k c link in
      not_goes c kid.stands (λ why. let clash : true ≡ false = sym (d.goes_all m st (elim why as (λ _. GoesBelow f m at s ⊎ GoesWith f m at s) [
        | inl goes ↦ inl (goes_up f at s sound stands m c st ne (low_link m k c st link) goes)
        | inr w ↦ inr (with_same m c kid.root kid.belongs w)
      ])) ∙ stay in cc)

  pub link_same : (m : ℕ) → f.stands m ≡ true → (m ≡ at → ⊥) → d.goes m ≡ false → (k : ℕ) → g.link m k ≡ f.link m k
  link_same m st ne stay k = d.link m k ne (λ c e. kid_stays m k c st ne stay e)

  -- a root isn't below a reference
  pub not_below : (t : ℕ) → f.stands t ≡ true → f.root t ≡ t → GoesBelow f t at s → ⊥
  not_below t st own goes =
      let half = (sound.node t st).half own in
      let few = few_bits f sound at stands in
      let less = goes.fewer in
      omega (arith, half, few, less)

  pub root_now : (m : ℕ) → f.stands m ≡ true → d.goes m ≡ false → g.stands (f.root m) ≡ true
  root_now m st stay =
      let t = sound.top m st in
      d.stays (f.root m) (not_goes (f.root m) t.0 (λ why. elim why as (λ _. ⊥) [
        | inl goes ↦ not_below (f.root m) t.0 t.1 goes
        | inr w ↦ let clash : true ≡ false = sym (d.goes_all m st (inr (with_same m (f.root m) t.1 (λ x k. d.by_root m x k st) w))) ∙ stay in cc
      ])) ∙ t.0

  module _ (suits : Suits f g at s) where
    -- so does what is below a reference of node at that stays
    pub near_stays : (i c : ℕ) (r : Ref) → slice_get s.refs i ≡ Some r → is_indirect r ≡ true → f.link at r.key ≡ loaded c → d.goes c ≡ false
    near_stays i c r read ind link =
        let kid = node.child r.key c link in
        not_goes c kid.stands (λ why. elim why as (λ _. ⊥) [
          | inr w ↦ w.other kid.root
          | inl goes ↦
              let old = suits.stood i r read ind in
              let pos = pow_pos r.keybits in
              let low : f.low c ≡ r.key = kid.low in
              let in_r = in_holds (f.low c) r (omega (arith, low)) (omega (arith, low, pos)) in
              let same = same_holder _ _ (refs f at) old.0 goes.loses.place (f.low c) r goes.loses.lost node.inside old.1 goes.loses.was in_r goes.loses.held in
              goes.loses.lacks i r read (ap (λ (z : Ref). z.key) same) (ap (λ (z : Ref). is_indirect z) same)
        ])

    -- what is below a reference that stays
    pub kept : (i : ℕ) (r : Ref) → slice_get s.refs i ≡ Some r → is_indirect r ≡ true → g.link at r.key ≡ f.link at r.key
    kept i r read ind =
        let old = suits.stood i r read ind in
        d.link_here r.key (below_names s.refs r.key i r read ind refl) (below_names (refs f at) r.key old.0 r old.1 ind refl) (λ c link. near_stays i c r read ind link)

    named : (k c : ℕ) → g.link at k ≡ loaded c → NamesBelow s.refs k
    named k c e = elim (tested (names s.refs k)) as (λ _. NamesBelow s.refs k) [
      | inl yes' ↦ names_below s.refs k yes'
      | inr miss ↦ let clash : untold ≡ loaded c = sym (d.unnamed k miss) ∙ e in absurd (cc)
    ]

    was : (k c : ℕ) → g.link at k ≡ loaded c → f.link at k ≡ loaded c
    was k c e =
        let it = named k c e in
        let same : g.link at k ≡ f.link at k = subst (λ z. g.link at z ≡ f.link at z) it.key (kept it.place it.ref it.read it.indirect) in
        sym same ∙ e

    kid_now : (k c : ℕ) → g.link at k ≡ loaded c → g.stands c ≡ true
    kid_now k c e =
        let it = named k c e in
        let old = was k c e in
        d.stays c (near_stays it.place c it.ref it.read it.indirect (ap (f.link at) it.key ∙ old)) ∙ (node.child k c old).stands

    pub here_node : IsSoundNode g at
    here_node =
        let p = d.loose.place at stands at_now in
        placed f g d.loose at stands at_now node (record {
          set = rw d.here suits.set;
          capacity = ap (λ (t : RefSet). t.capacity) d.here ∙ suits.capacity;
          inside = rw (refs_here, p.low, p.bits) suits.inside;
          fits = λ i r read. suits.fits i r (rw refs_here at read);
          some = λ top. rw refs_here (suits.some (λ e. top (p.root ∙ e)));
          child = λ k c e. child_in f g d.loose at k c stands at_now (kid_now k c e) (node.child k c (was k c e));
          named = λ k c e. rw refs_here (named k c e);
          bits = λ i c r read ind e.
              let old = suits.stood i r (rw refs_here at read) ind in
              let e' = was r.key c e in
              let kid = node.child r.key c e' in
              (d.loose.place c kid.stands (kid_now r.key c e)).bits ∙ node.bits old.0 c r old.1 ind e';
        })

    pub other_node : (m : ℕ) → g.stands m ≡ true → (m ≡ at → ⊥) → IsSoundNode g m
    other_node m now ne =
        let st = d.none_new m now in
        let stay = now_stays m now in
        same_node f g d.loose m st now (suits.rules m now ne) (sound.node m st) (d.there m ne) (link_same m st ne stay) (λ k c e. d.stays c (kid_stays m k c st ne stay e) ∙ ((sound.node m st).child k c e).stands)

    -- what is held stays
    pub held_now : (m : ℕ) → f.held m ≡ true → g.stands m ≡ true
    held_now m held =
        let it = sound.held m held in
        d.stays m (not_goes m it.0 (λ why. elim why as (λ _. ⊥) [
          | inl goes ↦ not_below m it.0 it.1 goes
          | inr w ↦ let clash : true ≡ false = sym held ∙ suits.free m it.0 w in cc
        ])) ∙ it.0

    -- what is right below a node that goes, goes
    went : (m : ℕ) (h : HasParent f m) → GoesBelow f h.parent at s ⊎ GoesWith f h.parent at s → GoesBelow f m at s ⊎ GoesWith f m at s
    went m h why = elim why as (λ _. GoesBelow f m at s ⊎ GoesWith f m at s) [
      | inl goes ↦ inl (goes_down f at s sound stands h.parent m h.stands h.link goes)
      | inr w ↦ let kid = (sound.node h.parent h.stands).child (f.low m) m h.link in inr (with_same m h.parent (sym kid.root) (λ t k. sym (kid.belongs t k)) w)
    ]

    -- a node that stays is below one that stays
    pub parent_now : (m : ℕ) → g.stands m ≡ true → (g.root m ≡ m → ⊥) → HasParent g m
    parent_now m now off =
        let st = d.none_new m now in
        let stay = now_stays m now in
        let p = d.loose.place m st now in
        let h = sound.parent m st (λ e. off (p.root ∙ e)) in
        elim (same_or_not h.parent at) as (λ _. HasParent g m) [
          | inl e ↦ at_it st stay p.low (ap (λ z. f.link z (f.low m)) (sym e) ∙ h.link)
          | inr ne ↦
              let up : d.goes h.parent ≡ false = not_goes h.parent h.stands (λ why. let clash : true ≡ false = sym (d.goes_all m st (went m h why)) ∙ stay in cc) in
              record { parent = h.parent; stands = d.stays h.parent up ∙ h.stands; link = ap (g.link h.parent) p.low ∙ link_same h.parent h.stands ne up (f.low m) ∙ h.link }
        ]
      where
        -- right below node at, it is below a reference that the set has
        at_it : f.stands m ≡ true → d.goes m ≡ false → g.low m ≡ f.low m → f.link at (f.low m) ≡ loaded m → HasParent g m
        at_it st stay low link =
            let l = link_of f sound at m stands link in
            let name = l.named in
            let key = name.key in
            let pos = pow_pos name.ref.keybits in
            elim (tested (names s.refs (f.low m))) as (λ _. HasParent g m) [
              | inl yes' ↦
                  let it = names_below s.refs (f.low m) yes' in
                  let same = kept it.place it.ref it.read it.indirect in
                  record { parent = at; stands = at_now; link = ap (g.link at) low ∙ subst (λ z. g.link at z ≡ f.link at z) it.key same ∙ link }
              | inr miss ↦
                  let goes : GoesBelow f m at s = record {
                    tree = l.child.root;
                    fewer = l.child.fewer;
                    loses = record {
                      place = name.place;
                      lost = name.ref;
                      was = name.read;
                      lacks = λ i r read same way.
                          let there : names s.refs (f.low m) ≡ true = below_names s.refs (f.low m) i r read (way ∙ name.indirect) (same ∙ name.key) in
                          let clash : true ≡ false = sym there ∙ miss in
                          cc;
                      held = in_holds (f.low m) name.ref (omega (arith, key)) (omega (arith, key, pos));
                    };
                  } in
                  let clash : true ≡ false = sym (d.goes_all m st (inl goes)) ∙ stay in
                  absurd (cc)
            ]
