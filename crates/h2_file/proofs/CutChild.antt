-- What a cut below a node is to the node.
use Rattle.std.proofs.lemmas.Bool.{cases_lt}
use Rattle.std.proofs.Common.{◌≡◌, ℕ, ◌+◌, ◌-◌, ◌<◌, ◌≤◌, ◌^◌, Bool, true, false, arith, refl, sym, ◌∙◌, ap, List, [], ◌∷◌, ◌++◌, length, Option, Some, None, subst, ◌⊎◌, inl, inr, slice_get, take, suc}
use Rattle.std.specs.Prelude.{IfSome}
use Rattle.std.proofs.lemmas.Nat.{pow_pos, pow_below}
use Rattle.std.proofs.lemmas.Option.{slice_get_within}
use Rattle.std.proofs.lemmas.List.{append-nil}
use Rattle.h2_ref.specs.declared.reference.Ref.{Ref}
use Rattle.h2_set.specs.Ranges.{Rising, limit, holds, is_indirect, leads_on}
use Rattle.h2_set.specs.RefSet.{RefSet}
use Rattle.h2_set.specs.Forest.{Forest, refs, loaded, HasLeaves, done, near, LeavesOf, KeepsLeaves, IsChild, IsSoundNode, IsSound, Reaches, nowhere, here, below}
use Rattle.h2_set.specs.Calls.{InPlace, Stays, Keeps, Renews, Fixed, Walks, Loads}
use Rattle.h2_set.specs.StayLaws.{Alike-refl, Fixed-trans, InPlace-trans, Walks-trans, Walks-leaves, Reaches-walks, leaves_stay, stands_below}
use Rattle.h2_set.specs.LeafLaws.{holds_inside, leaves_rising, outside_holds}
use Rattle.h2_set.specs.ChangeLaws.{Keeps-Stays, Keeps-trans, leaves_move, same_or_not}
use Rattle.h2_set.specs.RenewLaws.{Keeps-Renews, Renews-trans, Alike-length, LikeAt, like_at, Alike-sym}
use Rattle.h2_tree.specs.Changes.{Under, LoadsIn, WalksUnder, PathUnloaded}
use Rattle.h2_file.specs.Blocks.{HasContents}
use Rattle.h2_file.specs.Cutting.{IsCutBlock, cut_to, front, leads, Cuts, kept_to, ReachesBy, misses, arrives}
use Rattle.h2_file.proofs.Answering.{In-on}
use Rattle.h2_file.proofs.Parts.{Alike-take, cut_append, Parted, leaves_parted, leaves_join, take_from, taken_at, take_next, in_order}
use Rattle.h2_file.proofs.Onward.{contents_root, onward}
use Rattle.h2_file.proofs.Altered.{contents_keep}
use Rattle.h2_file.proofs.Fronts.{reaches_keeps, same_holds, same_holds_back}
use Rattle.h2_file.proofs.CutLevels.{Readied, FrontLeft, nothing_left, none_before, none_upto, none_of, own_below, cut_parts, kept_le}

-- A load of what the last reference below the size leads to

module _ (f h : Forest) (at i size : ℕ) (r : Ref) (sound : IsSound f) (stands : f.stands at ≡ true) (read : slice_get (refs f at) i ≡ Some r) (ind : is_indirect r ≡ true) (in_r : holds size r ≡ true) (walks : Walks f h) (loads : Loads f h at r.key) where
  pub load_touched : LoadsIn f h at size size
  load_touched = record {
    touched = record {
      only = λ m st. elim (loads.new m st) as (λ _. (f.stands m ≡ true) ⊎ ((h.low m ≤ size) × (size < h.low m + 2 ^ h.bits m))) [
        | inl was ↦ inl was
        | inr link ↦
            let node = walks.sound.node at (walks.stays at stands).place.stands in
            let read_h : slice_get (refs h at) i ≡ Some r = ap (λ (s : RefSet). slice_get s.refs i) (walks.sets at stands) ∙ read in
            let kid = node.child r.key m link in
            let bits = node.bits i m r read_h ind link in
            let it = holds_inside size r in_r in
            inr (omega (arith, kid.low, it.0), omega (arith, kid.low, ap (λ z. 2 ^ z) bits, it.1))
      ];
    };
    tree = λ m out st. elim (loads.new m st) as (λ _. h.root m ≡ f.root at) [
      | inl was ↦ absurd (let clash : true ≡ false = sym was ∙ out in cc)
      | inr link ↦ let place = (walks.stays at stands).place in ((walks.sound.node at place.stands).child r.key m link).root ∙ place.root
    ];
    some = λ m out st. omega arith;
  }

  pub unloaded_child : ((q : Ref) (c : ℕ) → slice_get (refs f at) i ≡ Some q → f.link at q.key ≡ loaded c → ⊥) → PathUnloaded f at size
  unloaded_child unloaded o reached = let it = onward sound reached stands i r read in_r ind in unloaded r it.next read it.link

  module _ (c : ℕ) (link : h.link at r.key ≡ loaded c) where
    there : InPlace f h at
    there = (walks.stays at stands).place

    node : IsSoundNode h at
    node = walks.sound.node at there.stands

    read_h : slice_get (refs h at) i ≡ Some r
    read_h = ap (λ (s : RefSet). slice_get s.refs i) (walks.sets at stands) ∙ read

    child : IsChild h at r.key c
    child = node.child r.key c link

    bits_c : h.bits c ≡ r.keybits
    bits_c = node.bits i c r read_h ind link

    pub child_root : h.root c ≡ f.root at
    child_root = child.root ∙ there.root

    pub child_stands : h.stands c ≡ true
    child_stands = child.stands

    pub child_fewer : h.bits c < f.bits at
    child_fewer = (let less = child.fewer in let same = there.bits in omega (arith, less, same))

    pub child_room : (f.copies at ≤ 62) × (62 ≤ f.room) → (h.copies c ≤ 62) × (62 ≤ h.room)
    child_room room =
        let some = (node.fits i r read_h).some_bits ind in
        let slope = (walks.sound.node c child.stands).slope in
        let bits = bits_c in
        (omega (arith, bits, some, slope), omega (arith, walks.room, room.1))

    pub child_contents : HasContents f at → HasContents h c
    child_contents holds_contents = contents_root h at c (sym child.root) (contents_keep f h at sound walks.sound stands there walks.fixed holds_contents)

    pub unloaded_below : PathUnloaded h c size → PathUnloaded f at size
    unloaded_below unloaded o reached =
        let it = onward sound reached stands i r read in_r ind in
        let link_h = (walks.stays at stands).near r.key it.next it.link in
        let same : it.next ≡ c = cc (link_h, link) in
        unloaded it.found (subst (λ z. Reaches h size z it.found) same (Reaches-walks sound walks (stands_below f sound at r.key it.next stands it.link) it.rest))

    -- what lies outside the node lies outside the child
    outside : (m : ℕ) → f.stands m ≡ true → (Under f m at → ⊥) → Under h m c → ⊥
    outside m st out u =
        let stay = (walks.stays m st).place in
        let here_at = there in
        let kid = child in
        out (record {
          low = omega (arith, u.low, kid.above, stay.low, here_at.low);
          high = omega (arith, u.high, kid.within, stay.low, ap (λ z. 2 ^ z) stay.bits, here_at.low, ap (λ z. 2 ^ z) here_at.bits);
        })

    other_node : (m : ℕ) → (Under f m at → ⊥) → m ≡ at → ⊥
    other_node m out e = out (subst (λ z. Under f z at) (sym e) (record { low = omega arith; high = omega arith }))

    at_outside : Under h at c → ⊥
    at_outside u = (let kid = child in let more = pow_below (h.bits c) (h.bits at) kid.fewer in omega (arith, u.low, u.high, more))

    -- what was done below the child makes the node ready
    readied : (k : Forest) → IsSound k → Fixed h k → InPlace h k at → ((m : ℕ) → h.stands m ≡ true → h.root m ≡ h.root c → (Under h m c → ⊥) → Keeps h k m) → ((m : ℕ) → h.stands m ≡ true → (h.root m ≡ h.root c → ⊥) → Renews h k m) → ((m : ℕ) → h.stands m ≡ true → k.stands m ≡ true → InPlace h k m) → LoadsIn h k c size size → h.room + k.copies at ≤ k.room + 62 → k.room ≤ h.room → k.spare ≡ h.spare → Readied f k at size
    readied k sound_k fixed place tree above still touched room falls spare = record {
      sound = sound_k;
      fixed = Fixed-trans f h k (λ m st st'. (walks.stays m st).place.stands) walks.fixed fixed;
      place = InPlace-trans f h k at there place;
      tree = λ m st root out.
          let first = loads.keeps m st (other_node m out) in
          Keeps-trans f h k m first (tree m first.place.stands (first.place.root ∙ root ∙ sym there.root ∙ sym child.root) (outside m st out));
      above = λ m st root.
          let first = loads.keeps m st (λ e. root (ap f.root e)) in
          Renews-trans f h k m (Keeps-Renews f h m first) (above m first.place.stands (λ e. root (sym first.place.root ∙ e ∙ child.root ∙ there.root)));
      still = λ m st st'. let first = (walks.stays m st).place in InPlace-trans f h k m first (still m first.stands st');
      touched = In-on f h k at c size size child_root still load_touched touched;
      room = (let same = walks.room in omega (arith, same, room));
      room_falls = (let same = walks.room in omega (arith, same, falls));
      spare = spare ∙ walks.spare;
    }

    -- the child was cut
    module _ (k : Forest) (last : Option Ref) (cuts : Cuts h k c size last) where
      pub kept : Keeps h k at
      kept = cuts.tree at there.stands (sym child.root) at_outside

      link_k : k.link at r.key ≡ loaded c
      link_k = kept.link r.key ∙ link

      pub none_to_copy : k.copies c ≡ 0 → k.copies at ≡ 0
      none_to_copy none_c = (let kid = (cuts.sound.node at kept.place.stands).child r.key c link_k in let e = kid.copies in omega (arith, e, none_c))

      pub ready_cut : k.copies c ≡ 0 → Readied f k at size
      ready_cut none_c = readied k cuts.sound cuts.fixed kept.place cuts.tree cuts.above cuts.still cuts.touched (let e = none_to_copy none_c in let room = cuts.room in omega (arith, e, room)) cuts.room_falls cuts.spare

      pub stands_cut : k.stands at ≡ true
      stands_cut = kept.place.stands

      pub copies_cut : k.copies c ≡ 0 → k.copies at ≤ k.room
      copies_cut none_c = (let e = none_to_copy none_c in omega (arith, e))

      pub length_cut : 0 < length (refs k at)
      length_cut = (let n = Alike-length (refs h at) (refs k at) kept.alike in let within = slice_get_within (refs h at) i r read_h in omega (arith, n, within))

      -- nodes below the references before stay
      pub below_before : (j d : ℕ) (x : Ref) → slice_get (take i (refs h at)) j ≡ Some x → is_indirect x ≡ true → h.link at x.key ≡ loaded d → KeepsLeaves h k d
      below_before j d x read' ind' link' l hl =
          let at_j = take_from i (refs h at) j x read' in
          let order = in_order _ _ (refs h at) j i x r node.inside at_j.1 read_h at_j.0 in
          let kid = node.child x.key d link' in
          let bits_d = node.bits j d x at_j.1 ind' link' in
          let P : ℕ → Type 0 = λ m. (h.stands m ≡ true) × (h.root m ≡ h.root at) × (x.key ≤ h.low m) × (h.low m + 2 ^ h.bits m ≤ limit x) in
          let closed : (m n e : ℕ) → P m → h.link m n ≡ loaded e → P e = λ m n e p link''. let kid' = (walks.sound.node m p.0).child n e link'' in (kid'.stands, kid'.root ∙ p.1, omega (arith, kid'.above, p.2), omega (arith, kid'.within, p.3)) in
          let out : (m : ℕ) → P m → (Under h m c → ⊥) = λ m p u. let pos = pow_pos (h.bits m) in let lo = child.low in omega (arith, order, p.3, u.low, lo, pos) in
          let stay : (m : ℕ) → P m → Stays h k m = λ m p. Keeps-Stays h k m (cuts.tree m p.0 (p.1 ∙ sym child.root) (out m p)) in
          let start : P d = (kid.stands, kid.root, omega (arith, kid.low), omega (arith, kid.low, ap (λ z. 2 ^ z) bits_d)) in
          leaves_stay h k P closed stay start hl (refs k d) (stay d start).alike

      -- and loaded paths through them
      pub reach_before : {key d : ℕ} {o : Option Ref} (j : ℕ) (x : Ref) → slice_get (refs h at) j ≡ Some x → j < i → is_indirect x ≡ true → h.link at x.key ≡ loaded d → Reaches h key d o → Reaches k key d o
      reach_before {key} {d} {o} j x read' lt ind' link' reached =
          let order = in_order _ _ (refs h at) j i x r node.inside read' read_h lt in
          let kid = node.child x.key d link' in
          let bits_d = node.bits j d x read' ind' link' in
          let P : ℕ → Type 0 = λ m. (h.stands m ≡ true) × (h.root m ≡ h.root at) × (x.key ≤ h.low m) × (h.low m + 2 ^ h.bits m ≤ limit x) in
          let closed : (m n e : ℕ) → P m → h.link m n ≡ loaded e → P e = λ m n e p link''. let kid' = (walks.sound.node m p.0).child n e link'' in (kid'.stands, kid'.root ∙ p.1, omega (arith, kid'.above, p.2), omega (arith, kid'.within, p.3)) in
          let out : (m : ℕ) → P m → (Under h m c → ⊥) = λ m p u. let pos = pow_pos (h.bits m) in let lo = child.low in omega (arith, order, p.3, u.low, lo, pos) in
          let keep : (m : ℕ) → P m → Keeps h k m = λ m p. cuts.tree m p.0 (p.1 ∙ sym child.root) (out m p) in
          let start : P d = (kid.stands, kid.root, omega (arith, kid.low), omega (arith, kid.low, ap (λ z. 2 ^ z) bits_d)) in
          reaches_keeps h k P closed keep start reached

    -- the child has nothing below the size
    module _ (k : Forest) (last : Option Ref) (under : WalksUnder h k c) (touched : LoadsIn h k c size size) where
      whole : Walks f k
      whole = Walks-trans f h k walks under.walks

      pub ready_none : f.copies at ≤ 62 → Readied f k at size
      ready_none copies = readied k under.walks.sound under.walks.fixed (under.walks.stays at there.stands).place (λ m st root out. under.keeps m st (λ root' u. out u)) (λ m st root. Keeps-Renews h k m (under.keeps m st (λ root' u. root root'))) (λ m st st'. (under.walks.stays m st).place) touched (let a = whole.copies at stands in let b = under.walks.room in omega (arith, a, b, copies)) (let b = under.walks.room in omega (arith, b)) under.walks.spare

      pub under_none : WalksUnder f k at
      under_none = record {
        walks = whole;
        keeps = λ m st out.
            let differs : m ≡ at → ⊥ = λ e. out (ap f.root e) (subst (λ z. Under f z at) (sym e) (record { low = omega arith; high = omega arith })) in
            let first = loads.keeps m st differs in
            Keeps-trans f h k m first (under.keeps m first.place.stands (λ root u. out (sym first.place.root ∙ root ∙ child.root ∙ there.root) (up m st u)));
      }
        where
          up : (m : ℕ) → f.stands m ≡ true → Under h m c → Under f m at
          up m st u =
              let stay = (walks.stays m st).place in
              let here_at = there in
              let kid = child in
              record {
                low = omega (arith, u.low, kid.above, stay.low, here_at.low);
                high = omega (arith, u.high, kid.within, stay.low, ap (λ z. 2 ^ z) stay.bits, here_at.low, ap (λ z. 2 ^ z) here_at.bits);
              }

      pub touched_none : LoadsIn f k at size size
      touched_none = In-on f h k at c size size child_root (λ m st st'. (under.walks.stays m st).place) load_touched touched

      pub whole_none : Walks f k
      whole_none = whole

-- The leaves

module _ (f h : Forest) (at count size : ℕ) (last : Option Ref) (r : Ref) (sound : IsSound f) (stands : f.stands at ≡ true) (is : IfSome last (IsCutBlock size)) (holds_contents : HasContents f at) (pos : 0 < count) (read : slice_get (refs f at) (count - 1) ≡ Some r) (low : r.key < size) (past : (j : ℕ) (q : Ref) → slice_get (refs f at) j ≡ Some q → count ≤ j → size ≤ q.key) (ind : is_indirect r ≡ true) (in_r : holds size r ≡ true) (walks : Walks f h) (loads : Loads f h at r.key) (c : ℕ) (link : h.link at r.key ≡ loaded c) where
  stands_h : h.stands at ≡ true
  stands_h = (walks.stays at stands).place.stands

  read_at_h : slice_get (refs h at) (count - 1) ≡ Some r
  read_at_h = ap (λ (s : RefSet). slice_get s.refs (count - 1)) (walks.sets at stands) ∙ read

  contents_h : HasContents h at
  contents_h = contents_keep f h at sound walks.sound stands (walks.stays at stands).place walks.fixed holds_contents

  past_h : (j : ℕ) (q : Ref) → slice_get (refs h at) j ≡ Some q → count ≤ j → size ≤ q.key
  past_h j q read' le = past j q (ap (λ (s : RefSet). slice_get s.refs j) (sym (walks.sets at stands)) ∙ read') le

  parts_h : (l : List Ref) (p : Parted h at (count - 1) (refs h at) r l) → cut_to size last l ≡ p.before ++ cut_to size last p.own
  parts_h = cut_parts h at count size last r walks.sound stands_h is contents_h pos read_at_h low past_h

  pub leaves_cut : (k : Forest) → Cuts h k c size last → (l : List Ref) → LeavesOf f at l → HasLeaves k at (front count None (refs k at)) (cut_to size last l)
  leaves_cut k cuts l hl =
      let F : List Ref → List Ref = cut_to size last in
      let p = leaves_parted (Walks-leaves f h sound walks at stands l hl) (count - 1) r read_at_h in
      let keeps : Keeps h k at = kept f h at (count - 1) size r sound stands read ind in_r walks loads c link k last cuts in
      let q = like_at (refs h at) (refs k at) keeps.alike (count - 1) r read_at_h in
      let before : HasLeaves k at (take (count - 1) (refs k at)) p.before = leaves_move p.has_before (take (count - 1) (refs k at)) (Alike-take (count - 1) (refs h at) (refs k at) keeps.alike) (λ j x read' ind'. keeps.link x.key) (below_before f h at (count - 1) size r sound stands read ind in_r walks loads c link k last cuts) in
      let b = own_below r c p.has_own refl ind link in
      let kids : LeavesOf k c (F b.list) = cuts.leaves b.list b.leaves in
      let rising = leaves_rising kids _ _ (cuts.sound.node c cuts.place.stands).inside in
      let kid = (walks.sound.node at stands_h).child r.key c link in
      let bits = (walks.sound.node at stands_h).bits (count - 1) c r read_at_h ind link in
      let q_key : q.ref.key ≡ r.key = q.like.key in
      let q_bits : q.ref.keybits ≡ r.keybits = q.like.keybits in
      let lo : q.ref.key ≡ k.low c = q_key ∙ sym (cuts.place.low ∙ kid.low) in
      let hi : limit q.ref ≡ k.low c + 2 ^ k.bits c = (let e = lo in let e2 = ap (λ z. 2 ^ z) (q_bits ∙ sym (cuts.place.bits ∙ bits)) in omega (arith, e, e2)) in
      let inside : Rising q.ref.key (limit q.ref) (F b.list) = subst (λ z. Rising z (limit q.ref) (F b.list)) (sym lo) (subst (λ z. Rising (k.low c) z (F b.list)) (sym hi) rising) in
      let link_q : k.link at q.ref.key ≡ loaded c = ap (λ z. k.link at z) q_key ∙ (keeps.link r.key ∙ link) in
      let single : HasLeaves k at (q.ref ∷ []) (F b.list ++ []) = near (ap leads_on q.like.kind ∙ ind) link_q kids inside done in
      let own : F p.own ≡ F b.list ++ [] = ap F b.same ∙ cut_append size last b.list [] in
      let all : HasLeaves k at (take (count - 1) (refs k at) ++ (q.ref ∷ [])) (p.before ++ (F b.list ++ [])) = leaves_join before single in
      let now : F l ≡ p.before ++ (F b.list ++ []) = parts_h l p ∙ ap (λ (z : List Ref). p.before ++ z) own in
      let next : count ≡ suc (count - 1) = omega (arith, pos) in
      let refs_are : take count (refs k at) ≡ take (count - 1) (refs k at) ++ (q.ref ∷ []) = ap (λ n. take n (refs k at)) next ∙ take_next (refs k at) (count - 1) q.ref q.read in
      subst (λ z. HasLeaves k at z (F l)) (sym refs_are) (subst (λ z. HasLeaves k at (take (count - 1) (refs k at) ++ (q.ref ∷ [])) z) (sym now) all)

  pub past_cut : (k : Forest) → Cuts h k c size last → (key : ℕ) → size ≤ key → FrontLeft k at (front count None (refs k at)) size last key
  past_cut k cuts key le = by (holds key q.ref) refl
    where
      keeps : Keeps h k at
      keeps = kept f h at (count - 1) size r sound stands read ind in_r walks loads c link k last cuts

      q : LikeAt (refs k at) (count - 1) r
      q = like_at (refs h at) (refs k at) keeps.alike (count - 1) r read_at_h

      next : count ≡ suc (count - 1)
      next = omega (arith, pos)

      by : (b : Bool) → holds key q.ref ≡ b → FrontLeft k at (take count (refs k at)) size last key
      by true e =
          let it = cuts.past key le in
          let link_q : k.link at q.ref.key ≡ loaded c = ap (λ z. k.link at z) q.like.key ∙ (keeps.link r.key ∙ link) in
          record {
            found = it.found;
            path = leads {c = c} {r = q.ref} (count - 1) (taken_at count (refs k at) (count - 1) q.ref q.read (omega (arith, pos))) e (ap leads_on q.like.kind ∙ ind) link_q it.path;
            left = it.left;
          }
      by false e = nothing_left k at (take count (refs k at)) size last key (none_upto _ _ (refs k at) (count - 1) count size key q.ref next (cuts.sound.node at keeps.place.stands).inside q.read (let same = q.like.key in omega (arith, same, low)) le e)

  pub past_front : (k : Forest) → Walks h k → (key : ℕ) → size ≤ key → FrontLeft k at (front (count - 1) None (refs k at)) size last key
  past_front k after key le = nothing_left k at (take (count - 1) (refs k at)) size last key (none_before _ _ (refs k at) (count - 1) size key r (after.sound.node at (after.stays at stands_h).place.stands).inside (ap (λ (s : RefSet). slice_get s.refs (count - 1)) (after.sets at stands_h) ∙ read_at_h) low le)

  key_at : (key j : ℕ) (q : Ref) → key < kept_to size last → slice_get (refs h at) j ≡ Some q → holds key q ≡ true → j < count
  key_at key j q lt read' in_q = elim (cases_lt j count) as (λ _. j < count) [
    | inl less ↦ less
    | inr le ↦ absurd (let a = past_h j q read' le in let b = (holds_inside key q in_q).0 in let d = kept_le size last in omega (arith, a, b, d, lt))
  ]

  -- the child's own reference and node, by its place
  own_place : (j e : ℕ) (q : Ref) → j ≡ count - 1 → slice_get (refs h at) j ≡ Some q → h.link at q.key ≡ loaded e → (q ≡ r) × (e ≡ c)
  own_place j e q same read' link' =
      let there : slice_get (refs h at) (count - 1) ≡ Some q = subst (λ z. slice_get (refs h at) z ≡ Some q) same read' in
      let first = read_at_h in
      let it : q ≡ r = (cc) in
      let link_r : h.link at r.key ≡ loaded e = subst (λ (y : Ref). h.link at y.key ≡ loaded e) it link' in
      (it, loaded_same (sym link_r ∙ link))
    where
      loaded_same : {a b : ℕ} → loaded a ≡ loaded b → a ≡ b
      loaded_same e = (cc)

  module _ (k : Forest) (cuts : Cuts h k c size last) where
    keeps_at : Keeps h k at
    keeps_at = kept f h at (count - 1) size r sound stands read ind in_r walks loads c link k last cuts

    go : {key : ℕ} {o : Option Ref} → Reaches h key at o → key < kept_to size last → ReachesBy k key at (take count (refs k at)) o
    go {key} (nowhere miss) lt = misses (λ i q read'.
        let there = (take_from count (refs k at) i q read').1 in
        let back = like_at (refs k at) (refs h at) (Alike-sym (refs h at) (refs k at) keeps_at.alike) i q there in
        same_holds_back key q back.ref false back.like (miss i back.ref back.read))
    go {key} (here {r = x} i read' in_x k') lt =
        let it = like_at (refs h at) (refs k at) keeps_at.alike i x read' in
        let same : slice_get (refs k at) i ≡ Some x = subst (λ (y : Ref). slice_get (refs k at) i ≡ Some y) (it.like.leaf k') it.read in
        arrives {r = x} i (taken_at count (refs k at) i x same (key_at key i x lt read' in_x)) in_x k'
    go {key} {o} (below {c = d} {r = x} i read' in_x ind_x link_x rest) lt =
        let it = like_at (refs h at) (refs k at) keeps_at.alike i x read' in
        let less = key_at key i x lt read' in_x in
        let link_k : k.link at it.ref.key ≡ loaded d = ap (λ z. k.link at z) it.like.key ∙ (keeps_at.link x.key ∙ link_x) in
        let rest_k : Reaches k key d o = elim (same_or_not i (count - 1)) as (λ _. Reaches k key d o) [
          | inl same ↦ let own = own_place i d x same read' link_x in subst (λ z. Reaches k key z o) (sym own.1) (cuts.before key o lt (subst (λ z. Reaches h key z o) own.1 rest))
          | inr ne ↦ reach_before f h at (count - 1) size r sound stands read ind in_r walks loads c link k last cuts i x read' (omega (arith, less, ne)) ind_x link_x rest
        ] in
        leads {c = d} {r = it.ref} i (taken_at count (refs k at) i it.ref it.read less) (same_holds key x it.ref true it.like in_x) (ap leads_on it.like.kind ∙ ind_x) link_k rest_k

    pub before_cut : (key : ℕ) (o : Option Ref) → key < kept_to size last → Reaches f key at o → ReachesBy k key at (front count None (refs k at)) o
    before_cut key o lt reached = go (Reaches-walks sound walks stands reached) lt

  module _ (clear : (key : ℕ) (o : Option Ref) → key < size → Reaches h key c o → o ≡ None) where
    module _ (k : Forest) (after : Walks h k) where
      same_refs : take (count - 1) (refs h at) ≡ take (count - 1) (refs k at)
      same_refs = ap (λ (s : RefSet). take (count - 1) s.refs) (sym (after.sets at stands_h))

      go_front : {key : ℕ} {o : Option Ref} → Reaches h key at o → key < kept_to size last → ReachesBy k key at (take (count - 1) (refs h at)) o
      go_front (nowhere miss) lt = misses (λ i q read'. miss i q ((take_from (count - 1) (refs h at) i q read').1))
      go_front {key} (here {r = x} i read' in_x k') lt = elim (same_or_not i (count - 1)) as (λ _. ReachesBy k key at (take (count - 1) (refs h at)) (Some x)) [
        | inl same ↦
            let there : slice_get (refs h at) (count - 1) ≡ Some x = subst (λ z. slice_get (refs h at) z ≡ Some x) same read' in
            let first = read_at_h in
            let it : x ≡ r = (cc) in
            absurd (let clash : false ≡ true = sym k' ∙ (ap (λ (y : Ref). is_indirect y) it ∙ ind) in cc)
        | inr ne ↦ let less = key_at key i x lt read' in_x in arrives {r = x} i (taken_at (count - 1) (refs h at) i x read' (omega (arith, less, ne))) in_x k'
      ]
      go_front {key} {o} (below {c = d} {r = x} i read' in_x ind_x link_x rest) lt = elim (same_or_not i (count - 1)) as (λ _. ReachesBy k key at (take (count - 1) (refs h at)) o) [
        | inl same ↦
            let own = own_place i d x same read' link_x in
            let none = clear key o (let b = kept_le size last in omega (arith, b, lt)) (subst (λ z. Reaches h key z o) own.1 rest) in
            let inside = holds_inside key x in_x in
            subst (λ y. ReachesBy k key at (take (count - 1) (refs h at)) y) (sym none) (misses (λ j q read''.
            let it = take_from (count - 1) (refs h at) j q read'' in
            let order = in_order _ _ (refs h at) j i q x (walks.sound.node at stands_h).inside it.1 read' (let b = it.0 in omega (arith, same, b)) in
            outside_holds key q (inr (omega (arith, order, inside.0)))))
        | inr ne ↦
            let less = key_at key i x lt read' in_x in
            leads {c = d} {r = x} i (taken_at (count - 1) (refs h at) i x read' (omega (arith, less, ne))) in_x ind_x ((after.stays at stands_h).near x.key d link_x) (Reaches-walks walks.sound after (stands_below h walks.sound at x.key d stands_h link_x) rest)
      ]

      pub before_front : (key : ℕ) (o : Option Ref) → key < kept_to size last → Reaches f key at o → ReachesBy k key at (front (count - 1) None (refs k at)) o
      before_front key o lt reached = subst (λ rs. ReachesBy k key at rs o) same_refs (go_front (Reaches-walks sound walks stands reached) lt)

    go_none : {key : ℕ} {o : Option Ref} → Reaches h key at o → count ≡ 1 → key < size → o ≡ None
    go_none (nowhere miss) one_is lt = refl
    go_none {key} (here {r = x} i read' in_x k') one_is lt = elim (same_or_not i (count - 1)) as (λ _. Some x ≡ None) [
      | inl same ↦
          let there : slice_get (refs h at) (count - 1) ≡ Some x = subst (λ z. slice_get (refs h at) z ≡ Some x) same read' in
          let first = read_at_h in
          let it : x ≡ r = (cc) in
          absurd (let clash : false ≡ true = sym k' ∙ (ap (λ (y : Ref). is_indirect y) it ∙ ind) in cc)
      | inr ne ↦ absurd (let a = past_h i x read' (omega (arith, one_is, ne)) in let b = (holds_inside key x in_x).0 in omega (arith, a, b, lt))
    ]
    go_none {key} {o} (below {c = d} {r = x} i read' in_x ind_x link_x rest) one_is lt = elim (same_or_not i (count - 1)) as (λ _. o ≡ None) [
      | inl same ↦ let own = own_place i d x same read' link_x in clear key o lt (subst (λ z. Reaches h key z o) own.1 rest)
      | inr ne ↦ absurd (let a = past_h i x read' (omega (arith, one_is, ne)) in let b = (holds_inside key x in_x).0 in omega (arith, a, b, lt))
    ]

    pub clear_none : count ≡ 1 → (key : ℕ) (o : Option Ref) → key < size → Reaches f key at o → o ≡ None
    clear_none one_is key o lt reached = go_none (Reaches-walks sound walks stands reached) one_is lt

  module _ (none : (b : List Ref) → LeavesOf h c b → cut_to size last b ≡ []) where
    front_alone : (l : List Ref) (p : Parted h at (count - 1) (refs h at) r l) → cut_to size last l ≡ p.before
    front_alone l p =
        let F : List Ref → List Ref = cut_to size last in
        let b = own_below r c p.has_own refl ind link in
        let own : F p.own ≡ [] = ap F b.same ∙ (ap F (append-nil b.list) ∙ none b.list b.leaves) in
        parts_h l p ∙ (ap (λ (z : List Ref). p.before ++ z) own ∙ append-nil p.before)

    pub leaves_front : (k : Forest) → Walks h k → (l : List Ref) → LeavesOf f at l → HasLeaves k at (front (count - 1) None (refs k at)) (cut_to size last l)
    leaves_front k after l hl =
        let p = leaves_parted (Walks-leaves f h sound walks at stands l hl) (count - 1) r read_at_h in
        let here_k : HasLeaves k at (take (count - 1) (refs h at)) p.before = leaves_stay h k (λ m. h.stands m ≡ true) (stands_below h walks.sound) after.stays stands_h p.has_before (take (count - 1) (refs h at)) (Alike-refl (take (count - 1) (refs h at))) in
        let same : take (count - 1) (refs h at) ≡ take (count - 1) (refs k at) = ap (λ (s : RefSet). take (count - 1) s.refs) (sym (after.sets at stands_h)) in
        subst (λ z. HasLeaves k at z (cut_to size last l)) same (subst (λ z. HasLeaves k at (take (count - 1) (refs h at)) z) (sym (front_alone l p)) here_k)

    pub leaves_none : count ≡ 1 → (l : List Ref) → LeavesOf f at l → cut_to size last l ≡ []
    leaves_none one_is l hl =
        let p = leaves_parted (Walks-leaves f h sound walks at stands l hl) (count - 1) r read_at_h in
        let zero_is : count - 1 ≡ 0 = omega (arith, one_is) in
        let empty : take (count - 1) (refs h at) ≡ [] = ap (λ n. take n (refs h at)) zero_is in
        front_alone l p ∙ none_of p.has_before empty
