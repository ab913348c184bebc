-- Which nodes a cut changes, where the child below a reference was cut.
use Rattle.std.proofs.Common.{◌≡◌, ℕ, ◌+◌, ◌-◌, ◌<◌, ◌≤◌, ◌^◌, true, false, arith, sym, ◌∙◌, ap, length, Option, Some, None, subst, ◌⊎◌, inl, inr, slice_get, take, min}
use Rattle.std.proofs.lemmas.Nat.{pow_pos}
use Rattle.std.proofs.lemmas.Option.{slice_get_within}
use Rattle.std.proofs.lemmas.List.{length-take}
use Rattle.h2_ref.specs.declared.reference.Ref.{Ref}
use Rattle.h2_set.specs.Ranges.{limit, holds, is_indirect, leads_on}
use Rattle.h2_set.specs.RefSet.{RefSet}
use Rattle.h2_set.specs.Forest.{Forest, refs, loaded, IsChild, IsSoundNode, IsSound, IsRootOf}
use Rattle.h2_set.specs.Calls.{Alike, InPlace, Keeps, Renews, Walks, OnWay, inside, across, IsAbove, itself, by}
use Rattle.h2_set.specs.StayLaws.{Alike-trans, InPlace-trans, Walks-trans}
use Rattle.h2_set.specs.LeafLaws.{holds_inside}
use Rattle.h2_set.specs.PathLaws.{in_holds}
use Rattle.h2_set.specs.ChangeLaws.{same_or_not}
use Rattle.h2_set.specs.SplitLaws.{nested}
use Rattle.h2_set.specs.RenewLaws.{LikeAt, like_at, Alike-sym, Renews-trans}
use Rattle.h2_tree.specs.Changes.{LoadsIn, onward}
use Rattle.h2_inode.specs.NodeLaws.{named_stays}
use Rattle.h2_file.specs.Cutting.{KeepsFront, CutsNodes}
use Rattle.h2_file.proofs.Answering.{In-on}
use Rattle.h2_file.proofs.Parts.{Alike-take, take_from, taken_at}
use Rattle.h2_file.proofs.Trees.{IsWithin, descends_within}
use Rattle.h2_file.proofs.CutNodes.{leads_down, taken_whole, there_at}
use Rattle.h2_file.proofs.CutGone.{front_refs, front_length, stand_over, gone_over}

-- A node of which the child below one reference was cut, which is left its references up to that one

module _ (f h k g : Forest) (at count c size : ℕ) (last : Option Ref) (r : Ref) (walks : Walks f h) (touched : LoadsIn f h at size size) (stands : h.stands at ≡ true) (root_h : h.root at ≡ f.root at) (pos : 0 < count) (read : slice_get (refs h at) (count - 1) ≡ Some r) (ind : is_indirect r ≡ true) (in_r : holds size r ≡ true) (link : h.link at r.key ≡ loaded c) (nodes : CutsNodes h k c size last) (at_k : Keeps h k at) (sound_k : IsSound k) (copies_k : k.copies at ≡ 0) (keeps : KeepsFront k g at count None) (stay : (i : ℕ) (x : Ref) → slice_get (refs h at) i ≡ Some x → limit x ≤ size → i < count) where
  abbrev t : Forest
  t = nodes.walked

  at_t : InPlace h t at
  at_t = (nodes.walks.stays at stands).place

  node_t : IsSoundNode t at
  node_t = nodes.walks.sound.node at at_t.stands

  read_t : slice_get (refs t at) (count - 1) ≡ Some r
  read_t = ap (λ (s : RefSet). slice_get s.refs (count - 1)) (nodes.walks.sets at stands) ∙ read

  link_t : t.link at r.key ≡ loaded c
  link_t = (nodes.walks.stays at stands).near r.key c link

  kid : IsChild t at r.key c
  kid = node_t.child r.key c link_t

  bits_c : t.bits c ≡ r.keybits
  bits_c = node_t.bits (count - 1) c r read_t ind link_t

  within : IsWithin t c nodes.node
  within = descends_within nodes.walks.sound nodes.way kid.stands

  at_tk : InPlace t k at
  at_tk = nodes.still at at_t.stands at_k.place.stands

  node_tk : InPlace t k nodes.node
  node_tk = nodes.still nodes.node nodes.stands nodes.stays

  node_fewer : t.bits nodes.node < t.bits at
  node_fewer = (let a = within.bits in let b = kid.fewer in omega (arith, a, b))

  other_node : at ≡ nodes.node → ⊥
  other_node e = (let same = ap t.bits e in let fewer = node_fewer in omega (arith, same, fewer))

  -- what leads to the node leads to the one that is changed
  way_down : (m i : ℕ) (x : Ref) → t.stands m ≡ true → k.stands m ≡ true → slice_get (refs t m) i ≡ Some x → OnWay k m x at → OnWay t m x nodes.node
  way_down m i x st st' read_x (inside root ind_x in_x bits_x) =
      let place = nodes.still m st st' in
      let aligned = ((nodes.walks.sound.node m st).fits i x read_x).aligned in
      let held = holds_inside (k.low at) x in_x in
      let own = at_tk in
      let wide : t.bits at ≤ x.keybits = (let e = own.bits in omega (arith, bits_x, e)) in
      let low_is = own.low in
      let some = pow_pos (t.bits at) in
      let is_in : (x.key ≤ t.low at) × (t.low at + 2 ^ t.bits at ≤ limit x) = elim (nested (t.low at) (t.bits at) x.key x.keybits node_t.aligned aligned wide) as (λ _. (x.key ≤ t.low at) × (t.low at + 2 ^ t.bits at ≤ limit x)) [
        | inl it ↦ it
        | inr out ↦ elim out as (λ _. (x.key ≤ t.low at) × (t.low at + 2 ^ t.bits at ≤ limit x)) [
          | inl before ↦ absurd (omega (arith, before, held.0, low_is, some))
          | inr behind ↦ absurd (omega (arith, behind, held.1, low_is))
        ]
      ] in
      let it = within in
      let child = kid in
      let pos_n = pow_pos (t.bits nodes.node) in
      let in_n : holds (t.low nodes.node) x ≡ true = in_holds (t.low nodes.node) x (omega (arith, is_in.0, child.above, it.low)) (omega (arith, is_in.1, child.within, it.high, pos_n)) in
      inside (sym place.root ∙ (root ∙ (own.root ∙ (sym child.root ∙ sym it.root)))) ind_x in_n (omega (arith, it.bits, child.fewer, wide))
  way_down m i x st st' read_x (across key other in_x belongs) =
      let place = nodes.still m st st' in
      let own = at_tk in
      let it = within in
      let child = kid in
      across key (λ e. other (place.root ∙ (e ∙ (it.root ∙ (child.root ∙ sym own.root))))) in_x (it.belongs (t.root m) key ∙ (child.belongs (t.root m) key ∙ (sym (own.belongs (t.root m) key) ∙ subst (λ z. k.belongs at z key ≡ true) place.root belongs)))

  at_above : IsAbove t at nodes.node
  at_above =
      let it = within in
      let child = kid in
      let bits = bits_c in
      let pos_n = pow_pos (t.bits nodes.node) in
      let in_n : holds (t.low nodes.node) r ≡ true = in_holds (t.low nodes.node) r (omega (arith, child.low, it.low)) (omega (arith, child.low, it.high, pos_n, ap (λ z. 2 ^ z) bits)) in
      by (count - 1) r read_t (inside (sym child.root ∙ sym it.root) ind in_n (omega (arith, it.bits, bits)))

  above_down : (m : ℕ) → t.stands m ≡ true → k.stands m ≡ true → (IsAbove t m nodes.node → ⊥) → IsAbove k m at → ⊥
  above_down m st st' off (itself e) = off (subst (λ z. IsAbove t z nodes.node) (sym e) at_above)
  above_down m st st' off (by i x read_x way) =
      let same : k.set m ≡ t.set m = (nodes.others m st st' off).0 in
      let read_m : slice_get (refs t m) i ≡ Some x = subst (λ (s : RefSet). slice_get s.refs i ≡ Some x) same read_x in
      off (by i x read_m (way_down m i x st st' read_m way))

  -- the one that is changed isn't above the node
  node_off : IsAbove k nodes.node at → ⊥
  node_off (itself e) = other_node (sym e)
  node_off (by i x read_x (inside root ind_x in_x bits_x)) =
      let falls = ((sound_k.node nodes.node nodes.stays).fits i x read_x).falls ind_x in
      let a = node_tk.bits in
      let b = at_tk.bits in
      let fewer = node_fewer in
      omega (arith, falls, bits_x, a, b, fewer)
  node_off (by i x read_x (across key other in_x belongs)) = other (node_tk.root ∙ (within.root ∙ (kid.root ∙ sym at_tk.root)))

  q : LikeAt (refs k at) (count - 1) r
  q = like_at (refs h at) (refs k at) at_k.alike (count - 1) r read

  node_stays : g.stands nodes.node ≡ true
  node_stays =
      let it = within in
      let child = kid in
      let a = node_tk in
      let b = at_tk in
      let fewer = node_fewer in
      let like = q.like in
      let bits = bits_c in
      let key : q.ref.key ≡ t.low c = like.key ∙ sym child.low in
      let long : q.ref.keybits ≡ t.bits c = like.keybits ∙ sym bits in
      keeps.below nodes.node (count - 1) q.ref nodes.stays (a.root ∙ (it.root ∙ (child.root ∙ sym b.root))) (let e = a.bits in let e' = b.bits in omega (arith, e, e', fewer)) (taken_at count (refs k at) (count - 1) q.ref q.read (omega (arith, pos))) (ap leads_on like.kind ∙ ind) (let e = a.low in let lo = it.low in omega (arith, e, key, lo)) (let e = a.low in let e' = ap (λ z. 2 ^ z) a.bits in let hi = it.high in let len = ap (λ z. 2 ^ z) long in omega (arith, e, e', hi, key, len))

  at_exact : (i : ℕ) (x : Ref) → slice_get (refs t at) i ≡ Some x → i < length (refs g at) → (OnWay t at x nodes.node → ⊥) → slice_get (refs g at) i ≡ Some x
  at_exact i x read_x lt off =
      let is : refs g at ≡ take count (refs k at) = ap (λ (s : RefSet). s.refs) keeps.set in
      let n : length (refs g at) ≡ min count (length (refs k at)) = ap length is ∙ length-take count (refs k at) in
      let in_k : slice_get (refs k at) i ≡ Some x = nodes.exact at i x at_t.stands at_k.place.stands other_node read_x (omega (arith, lt, n)) off in
      subst (λ rs. slice_get rs i ≡ Some x) (sym is) (taken_at count (refs k at) i x in_k (omega (arith, lt, n)))

  exact_on : (m i : ℕ) (x : Ref) → t.stands m ≡ true → g.stands m ≡ true → (m ≡ nodes.node → ⊥) → slice_get (refs t m) i ≡ Some x → i < length (refs g m) → (OnWay t m x nodes.node → ⊥) → slice_get (refs g m) i ≡ Some x
  exact_on m i x st st' ne read_x lt off = elim (same_or_not m at) as (λ _. slice_get (refs g m) i ≡ Some x) [
    | inl e ↦ subst (λ z. slice_get (refs t z) i ≡ Some x → i < length (refs g z) → (OnWay t z x nodes.node → ⊥) → slice_get (refs g z) i ≡ Some x) (sym e) (at_exact i x) read_x lt off
    | inr nm ↦
        let there = keeps.none_new m st' in
        let n = keeps.lengths m there st' nm in
        let in_k : slice_get (refs k m) i ≡ Some x = nodes.exact m i x st there ne read_x (omega (arith, lt, n)) off in
        keeps.exact m i x there st' nm in_k (λ way. off (way_down m i x st there read_x way))
  ]

  at_left : (i : ℕ) (x : Ref) → slice_get (refs t at) i ≡ Some x → limit x ≤ size → i < length (refs g at)
  at_left i x read_x ends =
      let n : length (refs g at) ≡ min count (length (refs k at)) = ap (λ (s : RefSet). length s.refs) keeps.set ∙ length-take count (refs k at) in
      let a = nodes.left at i x at_t.stands at_k.place.stands read_x ends in
      let b = stay i x (ap (λ (s : RefSet). slice_get s.refs i) (sym (nodes.walks.sets at stands)) ∙ read_x) ends in
      omega (arith, n, a, b)

  left_on : (m i : ℕ) (x : Ref) → t.stands m ≡ true → g.stands m ≡ true → slice_get (refs t m) i ≡ Some x → limit x ≤ size → i < length (refs g m)
  left_on m i x st st' read_x ends = elim (same_or_not m at) as (λ _. i < length (refs g m)) [
    | inl e ↦ subst (λ z. slice_get (refs t z) i ≡ Some x → i < length (refs g z)) (sym e) (λ read'. at_left i x read' ends) read_x
    | inr nm ↦
        let there = keeps.none_new m st' in
        let n = keeps.lengths m there st' nm in
        let a = nodes.left m i x st there read_x ends in
        omega (arith, n, a)
  ]

  at_alike : Alike (refs t at) (refs k at)
  at_alike = subst (λ (s : RefSet). Alike s.refs (refs k at)) (sym (nodes.walks.sets at stands)) at_k.alike

  at_front : refs g at ≡ take count (refs k at)
  at_front = front_refs k g at count keeps

  front_size : length (refs g at) ≡ min count (length (refs k at))
  front_size = front_length k g at count keeps

  -- what is left

  renewed_over : (m : ℕ) → t.stands m ≡ true → (t.root m ≡ t.root at → ⊥) → Renews t g m
  renewed_over m st other =
      let first = nodes.renewed m st (λ e. other (e ∙ kid.root)) in
      Renews-trans t k g m first (keeps.above m first.place.stands (λ e. other (sym first.place.root ∙ (e ∙ at_tk.root))))

  alike_over : (m : ℕ) → t.stands m ≡ true → g.stands m ≡ true → t.root m ≡ t.root at → (m ≡ nodes.node → ⊥) → Alike (take (length (refs g m)) (refs t m)) (refs g m)
  alike_over m st st' root ne = elim (same_or_not m at) as (λ _. Alike (take (length (refs g m)) (refs t m)) (refs g m)) [
    | inl e ↦
        let n = length (refs g at) in
        let taken : take n (refs k at) ≡ refs g at = ap (λ z. take z (refs k at)) (ap length at_front) ∙ (taken_whole count (refs k at) ∙ sym at_front) in
        subst (λ z. Alike (take (length (refs g z)) (refs t z)) (refs g z)) (sym e) (subst (λ z. Alike (take n (refs t at)) z) taken (Alike-take n (refs t at) (refs k at) at_alike))
    | inr nm ↦
        let there = keeps.none_new m st' in
        let place = nodes.still m st there in
        let first = nodes.alike m st there (root ∙ sym kid.root) ne in
        let second = keeps.alike m there st' (place.root ∙ (root ∙ sym at_tk.root)) nm in
        subst (λ n. Alike (take n (refs t m)) (refs g m)) (sym (keeps.lengths m there st' nm)) (Alike-trans _ (refs k m) (refs g m) first second)
  ]

  link_over : (m i : ℕ) (x : Ref) → t.stands m ≡ true → g.stands m ≡ true → slice_get (refs g m) i ≡ Some x → is_indirect x ≡ true → g.link m x.key ≡ t.link m x.key
  link_over m i x st st' read_x ind_x = elim (same_or_not m at) as (λ _. g.link m x.key ≡ t.link m x.key) [
    | inl e ↦ subst (λ z. slice_get (refs g z) i ≡ Some x → g.link z x.key ≡ t.link z x.key) (sym e) (λ read'.
        let in_k = (take_from count (refs k at) i x (subst (λ rs. slice_get rs i ≡ Some x) at_front read')).1 in
        keeps.link i x read' ind_x ∙ nodes.link at i x at_t.stands at_k.place.stands in_k ind_x) read_x
    | inr nm ↦ elim (same_or_not (t.root m) (t.root at)) as (λ _. g.link m x.key ≡ t.link m x.key) [
      | inr other ↦ (renewed_over m st other).link x.key
      | inl root ↦
          let there = keeps.none_new m st' in
          let place = nodes.still m st there in
          let like = keeps.alike m there st' (place.root ∙ (root ∙ sym at_tk.root)) nm in
          let it = like_at (refs g m) (refs k m) (Alike-sym (refs k m) (refs g m) like) i x read_x in
          let first : k.link m it.ref.key ≡ t.link m it.ref.key = nodes.link m i it.ref st there it.read (ap leads_on it.like.kind ∙ ind_x) in
          keeps.links m x.key there st' nm ∙ subst (λ z. k.link m z ≡ t.link m z) it.like.key first
    ]
  ]

  kept_at : (i d : ℕ) (x : Ref) → slice_get (refs t at) i ≡ Some x → i < length (refs g at) → t.link at x.key ≡ loaded d → t.writable d ≡ true → slice_get (refs g at) i ≡ Some x
  kept_at i d x read_x lt link_d w =
      let l = front_size in
      let in_k : slice_get (refs k at) i ≡ Some x = nodes.kept at i d x at_t.stands at_k.place.stands other_node read_x (omega (arith, lt, l)) link_d w in
      subst (λ rs. slice_get rs i ≡ Some x) (sym at_front) (taken_at count (refs k at) i x in_k (omega (arith, lt, l)))

  kept_over : (m i d : ℕ) (x : Ref) → t.stands m ≡ true → g.stands m ≡ true → (m ≡ nodes.node → ⊥) → slice_get (refs t m) i ≡ Some x → i < length (refs g m) → t.link m x.key ≡ loaded d → t.writable d ≡ true → slice_get (refs g m) i ≡ Some x
  kept_over m i d x st st' ne read_x lt link_d w = elim (same_or_not m at) as (λ _. slice_get (refs g m) i ≡ Some x) [
    | inl e ↦ subst (λ z. slice_get (refs t z) i ≡ Some x → i < length (refs g z) → t.link z x.key ≡ loaded d → slice_get (refs g z) i ≡ Some x) (sym e) (λ a b c'. kept_at i d x a b c' w) read_x lt link_d
    | inr nm ↦
        let there = keeps.none_new m st' in
        let n = keeps.lengths m there st' nm in
        let in_k : slice_get (refs k m) i ≡ Some x = nodes.kept m i d x st there ne read_x (omega (arith, lt, n)) link_d w in
        let ind_x = leads_down t m i d x nodes.walks.sound st read_x link_d in
        let link_k : k.link m x.key ≡ loaded d = nodes.link m i x st there in_k ind_x ∙ link_d in
        let d_t = ((nodes.walks.sound.node m st).child x.key d link_d).stands in
        let d_k = ((sound_k.node m there).child x.key d link_k).stands in
        keeps.kept m i d x there st' nm in_k link_k ((nodes.still d d_t d_k).writable w)
  ]

  -- no root goes
  root_still : (m : ℕ) → t.stands m ≡ true → t.root m ≡ m → InPlace t k m
  root_still m st own = nodes.still m st (nodes.stand m st (λ past.
      let half = (nodes.walks.sound.node m st).half own in
      let slope = (nodes.walks.sound.node past.node past.stood).slope in
      let goes = past.behind in
      let fewer = goes.fewer in
      omega (arith, half, slope, fewer)))

  kept_leaf_at : (i d : ℕ) (x : Ref) → slice_get (refs t at) i ≡ Some x → i < length (refs g at) → is_indirect x ≡ false → IsRootOf t (t.root at) x.key d → t.writable d ≡ true → slice_get (refs g at) i ≡ Some x
  kept_leaf_at i d x read_x lt leaf is w =
      let l = front_size in
      let in_k : slice_get (refs k at) i ≡ Some x = nodes.kept_leaf at i d x at_t.stands at_k.place.stands other_node read_x (omega (arith, lt, l)) leaf is w in
      subst (λ rs. slice_get rs i ≡ Some x) (sym at_front) (taken_at count (refs k at) i x in_k (omega (arith, lt, l)))

  kept_leaf_over : (m i d : ℕ) (x : Ref) → t.stands m ≡ true → g.stands m ≡ true → (m ≡ nodes.node → ⊥) → slice_get (refs t m) i ≡ Some x → i < length (refs g m) → is_indirect x ≡ false → IsRootOf t (t.root m) x.key d → t.writable d ≡ true → slice_get (refs g m) i ≡ Some x
  kept_leaf_over m i d x st st' ne read_x lt leaf is w = elim (same_or_not m at) as (λ _. slice_get (refs g m) i ≡ Some x) [
    | inl e ↦ subst (λ z. slice_get (refs t z) i ≡ Some x → i < length (refs g z) → IsRootOf t (t.root z) x.key d → slice_get (refs g z) i ≡ Some x) (sym e) (λ a b c'. kept_leaf_at i d x a b leaf c' w) read_x lt is
    | inr nm ↦
        let there = keeps.none_new m st' in
        let n = keeps.lengths m there st' nm in
        let in_k : slice_get (refs k m) i ≡ Some x = nodes.kept_leaf m i d x st there ne read_x (omega (arith, lt, n)) leaf is w in
        let top = nodes.walks.sound.top m st in
        let d_k = root_still d is.stands is.root in
        let is_k : IsRootOf k (t.root m) x.key d = named_stays t k (t.root m) x.key d (root_still (t.root m) top.0 top.1) d_k is in
        keeps.kept_leaf m i d x there st' nm in_k leaf (subst (λ z. IsRootOf k z x.key d) (sym (nodes.still m st there).root) is_k) (d_k.writable w)
  ]

  dated_over : (m i : ℕ) (x y : Ref) → t.stands m ≡ true → g.stands m ≡ true → (m ≡ nodes.node → ⊥) → slice_get (refs t m) i ≡ Some x → slice_get (refs g m) i ≡ Some y → (y ≡ x) ⊎ (y.id ≡ t.epoch)
  dated_over m i x y st st' ne read_x read_y = elim (same_or_not m at) as (λ _. (y ≡ x) ⊎ (y.id ≡ t.epoch)) [
    | inl e ↦ subst (λ z. slice_get (refs t z) i ≡ Some x → slice_get (refs g z) i ≡ Some y → (y ≡ x) ⊎ (y.id ≡ t.epoch)) (sym e) (λ a b. nodes.dated at i x y at_t.stands at_k.place.stands other_node a ((take_from count (refs k at) i y (subst (λ rs. slice_get rs i ≡ Some y) at_front b)).1)) read_x read_y
    | inr nm ↦
        let there = keeps.none_new m st' in
        let n = keeps.lengths m there st' nm in
        let w = slice_get_within (refs g m) i y read_y in
        let mid = there_at (refs k m) i (omega (arith, n, w)) in
        let first = nodes.dated m i x mid.0 st there ne read_x mid.1 in
        elim (keeps.dated m i mid.0 y there st' nm mid.1 read_y) as (λ _. (y ≡ x) ⊎ (y.id ≡ t.epoch)) [
          | inl e ↦ subst (λ (z : Ref). (z ≡ x) ⊎ (z.id ≡ t.epoch)) (sym e) first
          | inr d ↦ inr (d ∙ nodes.epoch)
        ]
  ]

  pub nodes_over : CutsNodes f g at size last
  nodes_over = record {
    walked = t;
    walks = Walks-trans f h t walks nodes.walks;
    touched = In-on f h t at c size size (((walks.sound.node at stands).child r.key c link).root ∙ root_h) (λ m st st'. (nodes.walks.stays m st).place) touched nodes.touched;
    node = nodes.node;
    stands = nodes.stands;
    way = onward {c = c} {r = r} (count - 1) read_t in_r ind link_t nodes.way;
    stays = node_stays;
    count = nodes.count;
    put = nodes.put;
    given = nodes.given;
    set = (keeps.others nodes.node nodes.stays node_stays node_off).0 ∙ nodes.set;
    changes = nodes.changes;
    none_new = λ m st. nodes.none_new m (keeps.none_new m st);
    left = left_on;
    still = λ m st st'. InPlace-trans t k g m (nodes.still m st (keeps.none_new m st')) (keeps.still m st');
    stand = stand_over t k g at count nodes.walks.sound at_t.stands at_tk at_alike nodes.still nodes.stand nodes.gone keeps;
    gone = gone_over t k g at count nodes.walks.sound at_t.stands at_tk at_alike nodes.still nodes.stand nodes.gone keeps;
    link = link_over;
    alike = alike_over;
    renewed = renewed_over;
    exact = exact_on;
    kept = kept_over;
    kept_leaf = kept_leaf_over;
    dated = dated_over;
    epoch = keeps.fixed.epoch ∙ nodes.epoch;
    others = λ m st st' off.
        let there = keeps.none_new m st' in
        let first = nodes.others m st there off in
        let second = keeps.others m there st' (above_down m st there off) in
        (second.0 ∙ first.0, second.1 ∙ first.1);
    made = λ m st st' way. (keeps.still m st').writable (nodes.made m st (keeps.none_new m st') way);
    writable = keeps.writable;
    copies = keeps.copies;
    room = (let a = nodes.room in let b = keeps.room in let d = walks.room in omega (arith, a, b, d, copies_k));
  }
