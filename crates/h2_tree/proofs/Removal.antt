-- A reference that is taken out of the set of a node.
use Rattle.std.proofs.Common.{◌≡◌, ℕ, ◌+◌, ◌<◌, ◌≤◌, ◌^◌, true, arith, refl, sym, ◌∙◌, ap, List, length, Some, subst, ◌⊎◌, inl, inr, slice_get}
use Rattle.std.specs.List.{remove}
use Rattle.std.proofs.lemmas.Nat.{pow_pos}
use Rattle.std.proofs.lemmas.Option.{slice_get_within}
use Rattle.h2_ref.specs.declared.reference.Ref.{Ref}
use Rattle.h2_set.specs.Ranges.{limit, holds, without, is_indirect}
use Rattle.h2_set.specs.RefSet.{RefSet}
use Rattle.h2_set.specs.Forest.{Forest, refs, loaded, HasLeaves, LeavesOf, KeepsLeaves, IsSoundNode, IsSound}
use Rattle.h2_set.specs.Calls.{InPlace, Stays, Keeps, Alters, Stores, Storable, Loses, GoesBelow, GoesWith}
use Rattle.h2_set.specs.StayLaws.{Alike-refl, Fixed-trans, InPlace-trans, Walks-refl, leaves_stay}
use Rattle.h2_set.specs.LeafLaws.{holds_inside, place_above}
use Rattle.h2_set.specs.EditLaws.{set_cut, Rising-remove, length-remove_set, remove_from, remove_keeps, remove_lacks}
use Rattle.h2_set.specs.ChangeLaws.{Keeps-Stays, Keeps-trans, Same-Keeps, leaves_move, same_or_not}
use Rattle.h2_set.specs.SplitLaws.{nested, below_high}
use Rattle.h2_set.specs.RenewLaws.{Keeps-Renews, Renews-trans, Alike-length}
use Rattle.h2_set.specs.CutLaws.{leaves_cut, leaves_drop}
use Rattle.h2_tree.specs.Changes.{Under, LeadsOnly, itself, down, IsFree, arrived, GoesAway, below_it, named, Removes}
use Rattle.h2_tree.proofs.Going.{own_set, altered_place, changes_only, none_empty}
use Rattle.h2_tree.specs.PathLaws.{only_holds, only_path}
use Rattle.h2_tree.proofs.Only.{sole_leaves, only_reaches, only_altered}
use Rattle.h2_tree.proofs.Touching.{In-refl}
use Rattle.h2_set.specs.PathLaws.{same_holder}
use Rattle.h2_set.specs.PathLaws.{in_holds}

-- the set of node at without the reference at place i
abbrev pub set_without : Forest → ℕ → ℕ → RefSet
set_without h at i = let s = h.set at in record { refs = remove s.refs i; capacity = s.capacity }

-- what goes below a node lies in its range
goes_under : (h : Forest) (m at : ℕ) (s : RefSet) → IsSound h → h.stands m ≡ true → h.stands at ≡ true → GoesBelow h m at s → Under h m at
goes_under h m at s sound st stands goes =
    let node = sound.node at stands in
    let kid = sound.node m st in
    let inside = holds_inside (h.low m) goes.loses.lost goes.loses.held in
    let from = place_above _ _ (refs h at) goes.loses.place goes.loses.lost node.inside goes.loses.was in
    let to = below_high _ _ (refs h at) goes.loses.place goes.loses.lost node.inside goes.loses.was in
    elim (nested (h.low m) (h.bits m) (h.low at) (h.bits at) kid.aligned node.aligned (omega (arith, goes.fewer))) as (λ _. Under h m at) [
      | inl in_it ↦ record { low = in_it.0; high = in_it.1 }
      | inr out ↦ elim out as (λ _. Under h m at) [
        | inl before ↦ let pos = pow_pos (h.bits m) in absurd (omega (arith, before, inside.0, from, pos))
        | inr behind ↦ absurd (omega (arith, behind, inside.1, to))
      ]
    ]

-- the reference that leads to it
read_of : {h : Forest} {at i : ℕ} {leaf : Ref} → LeadsOnly h at i leaf → (q : Ref) × (slice_get (refs h at) i ≡ Some q)
read_of (itself {r = r} i read k) = (r, read)
read_of (down {r = r} i read k l o rest) = (r, read)

module _ (f h : Forest) (at i : ℕ) (leaf : Ref) (sound : IsSound f) (stands : f.stands at ≡ true) (alters : Alters f h at) (only : LeadsOnly f at i leaf) (free : IsFree f (f.root at) leaf.key) where
  here : Keeps f h at
  here = alters.tree at stands refl

  node : IsSoundNode h at
  node = alters.sound.node at here.place.stands

  only_h : LeadsOnly h at i leaf
  only_h = only_altered sound alters stands refl only

  abbrev pub s : RefSet
  s = set_without h at i

  abbrev q : Ref
  q = (read_of only_h).0

  read : slice_get (refs h at) i ≡ Some q
  read = (read_of only_h).1

  within : i < length (refs h at)
  within = slice_get_within (refs h at) i q read

  -- what the set lacks is that reference
  lost_is : (key : ℕ) → Loses h at s key → holds key q ≡ true
  lost_is key loses = elim (same_or_not loses.place i) as (λ _. holds key q ≡ true) [
    | inl same ↦
        let there : slice_get (refs h at) i ≡ Some loses.lost = subst (λ z. slice_get (refs h at) z ≡ Some loses.lost) same loses.was in
        let is : loses.lost ≡ q = cc (there, read) in
        subst (λ (y : Ref). holds key y ≡ true) is loses.held
    | inr differs ↦ let kept = remove_keeps (refs h at) i loses.place loses.lost loses.was differs in absurd (loses.lacks kept.0 loses.lost kept.1 refl refl)
  ]

  -- and what it names goes with it
  goes_with : (m : ℕ) → GoesWith h m at s → (h.belongs m (f.root at) leaf.key ≡ true) × (h.root m ≡ h.root at → ⊥)
  goes_with m goes =
      let it = only_reaches alters.sound here.place.stands only_h goes.key q goes.leaf read (lost_is goes.key goes.loses) goes.reaches in
      let key : goes.key ≡ leaf.key = sym goes.exact ∙ ap (λ (y : Ref). y.key) it in
      (subst (λ z. h.belongs m z leaf.key ≡ true) here.place.root (subst (λ z. h.belongs m (h.root at) z ≡ true) key goes.belongs), goes.other)

  -- a node stands where it stood
  stood : (m : ℕ) → h.stands m ≡ true → (f.stands m ≡ true) × InPlace f h m
  stood m st =
      let was = alters.none_new m st in (
        was,
        elim (same_or_not (f.root m) (f.root at)) as (λ _. InPlace f h m) [
          | inl same ↦ (alters.tree m was same).place
          | inr differs ↦ (alters.above m was differs).place
        ],
      )

  pub storable_without : (f.root at ≡ at) ⊎ (2 ≤ length (refs f at)) → Storable h at s
  storable_without more = record {
    capacity = refl;
    set = set_cut (h.set at) i node.set within;
    some = λ other.
        let n = length-remove_set (refs h at) i within in
        let same = Alike-length (refs f at) (refs h at) here.alike in
        elim more as (λ _. 0 < length s.refs) [
          | inl top ↦ absurd (other (here.place.root ∙ top))
          | inr two ↦ omega (arith, n, same, two)
        ];
    inside = Rising-remove _ _ (refs h at) i within node.inside;
    fits = λ j r read'. let it = remove_from (refs h at) i j r read' in node.fits it.0 r it.1;
    stood = λ j r read' ind. remove_from (refs h at) i j r read';
    free = λ m st goes.
        let was = stood m st in
        alters.fixed.held m ∙ free m was.0 (sym (was.1.belongs (f.root at) leaf.key) ∙ (goes_with m goes).0);
  }

  -- the leaves without the one
  cut_leaves : (l : List Ref) → LeavesOf h at l → HasLeaves h at s.refs (without leaf.key l)
  cut_leaves l hl = by only_h refl
    where
      by : {j : ℕ} → LeadsOnly h at j leaf → j ≡ i → HasLeaves h at s.refs (without leaf.key l)
      by (itself {r = r} j read' k) same = leaves_cut i r hl _ _ node.inside (subst (λ z. slice_get (refs h at) z ≡ Some r) same read') k
      by (down {c = c} {r = r} j read' k link one rest) same =
          let there : slice_get (refs h at) i ≡ Some r = subst (λ z. slice_get (refs h at) z ≡ Some r) same read' in
          let inside = holds_inside leaf.key r (only_holds alters.sound here.place.stands only_h r there) in
          leaves_drop i c r leaf hl _ _ node.inside there k link (λ b hb. sole_leaves rest refl one b hb) inside.0

  same : h.set at ≡ f.set at
  same = own_set f h at sound stands alters

  read_f : slice_get (refs f at) i ≡ Some q
  read_f = subst (λ (t : RefSet). slice_get t.refs i ≡ Some q) same read

  -- what the store lets go goes with the reference
  below_goes : (m : ℕ) → f.stands m ≡ true → GoesBelow h m at s → GoesAway f at i leaf m
  below_goes m st goes =
      let p = altered_place f h at alters m st in
      below_it q read_f (sym p.root ∙ goes.tree ∙ here.place.root) (omega (arith, goes.fewer, p.bits, here.place.bits)) (subst (λ z. holds z q ≡ true) p.low (lost_is (h.low m) goes.loses))

  with_goes : (m : ℕ) → f.stands m ≡ true → GoesWith h m at s → GoesAway f at i leaf m
  with_goes m st goes =
      let p = altered_place f h at alters m st in
      let it = goes_with m goes in
      named (λ e. it.1 (p.root ∙ e ∙ sym here.place.root)) (sym (p.belongs (f.root at) leaf.key) ∙ it.0)

  -- and all that goes with the reference the store lets go
  loses_it : (key : ℕ) → holds key q ≡ true → Loses h at s key
  loses_it key in_q = record {
    place = i;
    lost = q;
    was = read;
    lacks = λ j r read' same_key alike. remove_lacks _ _ (refs h at) i j q r node.inside read read' same_key;
    held = in_q;
  }

  away_goes : (m : ℕ) → f.stands m ≡ true → GoesAway f at i leaf m → GoesBelow h m at s ⊎ GoesWith h m at s
  away_goes m st (below_it r read' tree fewer in_r) =
      let p = altered_place f h at alters m st in
      let is : r ≡ q = cc (read', read_f) in
      inl (record {
        tree = p.root ∙ tree ∙ sym here.place.root;
        fewer = omega (arith, fewer, p.bits, here.place.bits);
        loses = loses_it (h.low m) (subst (λ (y : Ref). holds (h.low m) y ≡ true) is (subst (λ z. holds z r ≡ true) (sym p.low) in_r));
      })
  away_goes m st (named other belongs) =
      let p = altered_place f h at alters m st in
      inr (record {
        other = λ e. other (sym p.root ∙ e ∙ here.place.root);
        key = leaf.key;
        leaf = leaf;
        loses = loses_it leaf.key (only_holds alters.sound here.place.stands only_h q read);
        reaches = only_path alters.sound here.place.stands only_h;
        exact = refl;
        belongs = p.belongs (h.root at) leaf.key ∙ subst (λ z. f.belongs m z leaf.key ≡ true) (sym here.place.root) belongs;
      })

  pub removes : (g : Forest) → Stores h g at s → (f.root at ≡ at) ⊎ (2 ≤ length (refs f at)) → 62 ≤ f.room → f.copies at ≤ 62 → Removes f g at leaf
  removes g stores more enough copies =
      let P : ℕ → Type 0 = λ m. (f.stands m ≡ true) × (f.root m ≡ f.root at) in
      let closed : (m k c : ℕ) → P m → f.link m k ≡ loaded c → P c = λ m k c p link. let child = (sound.node m p.0).child k c link in (child.stands, child.root ∙ p.1) in
      let stay : (m : ℕ) → P m → Stays f h m = λ m p. Keeps-Stays f h m (alters.tree m p.0 p.1) in
      let others : (m : ℕ) → h.stands m ≡ true → h.root m ≡ h.root at → (m ≡ at → ⊥) → (GoesBelow h m at s → ⊥) → Keeps h g m = λ m st root ne not_below. Same-Keeps h g m (stores.others m st ne not_below (λ goes. goes.other root)) in
      record {
        sound = stores.sound;
        fixed = Fixed-trans f h g (λ m st st'. (altered_place f h at alters m st).stands) alters.fixed stores.fixed;
        place = InPlace-trans f h g at here.place stores.place;
        leaves = λ l hl.
            let l2 : LeavesOf h at l = leaves_stay f h P closed stay (stands, refl) hl (refs h at) here.alike in
            let keep = λ (j d : ℕ) (r : Ref) (read' : slice_get s.refs j ≡ Some r) (ind : is_indirect r ≡ true) (link : h.link at r.key ≡ loaded d).
            let old = remove_from (refs h at) i j r read' in
            let kid = node.child r.key d link in
            let bits_d = node.bits old.0 d r old.1 ind link in
            let Q : ℕ → Type 0 = λ m. (h.stands m ≡ true) × (h.root m ≡ h.root at) × (r.key ≤ h.low m) × (h.low m + 2 ^ h.bits m ≤ limit r) × (h.bits m < h.bits at) in
            let closed' : (m k e : ℕ) → Q m → h.link m k ≡ loaded e → Q e = λ m k e p link'. let kid' = (alters.sound.node m p.0).child k e link' in (kid'.stands, kid'.root ∙ p.1, omega (arith, kid'.above, p.2), omega (arith, kid'.within, p.3), omega (arith, kid'.fewer, p.4)) in
            let apart : (m : ℕ) → Q m → GoesBelow h m at s → ⊥ = λ m p goes.
            let pos = pow_pos (h.bits m) in
            let in_r = in_holds (h.low m) r p.2 (omega (arith, p.3, pos)) in
            let same = same_holder _ _ (h.low m) (refs h at) old.0 goes.loses.place r goes.loses.lost node.inside old.1 goes.loses.was in_r goes.loses.held in
            goes.loses.lacks j r read' (ap (λ (y : Ref). y.key) (sym same)) (ap (λ (y : Ref). is_indirect y) (sym same)) in
            let stay' : (m : ℕ) → Q m → Stays h g m = λ m p. Keeps-Stays h g m (others m p.0 p.1 (λ e. let same = ap h.bits e in omega (arith, p.4, same)) (apart m p)) in
            let start : Q d = (kid.stands, kid.root, omega (arith, kid.low), omega (arith, kid.low, ap (λ z. 2 ^ z) bits_d), kid.fewer) in
            let it : KeepsLeaves h g d = λ l hl. leaves_stay h g Q closed' stay' start hl (refs g d) (stay' d start).alike in
            it in
            let l4 : HasLeaves g at s.refs (without leaf.key l) = leaves_move (cut_leaves l l2) s.refs (Alike-refl s.refs) (λ j r read' ind. stores.link j r read' ind) keep in
            subst (λ (t : RefSet). HasLeaves g at t.refs (without leaf.key l)) (sym stores.set) l4;
        tree = λ m st root out.
            let k = alters.tree m st root in
            let ne : m ≡ at → ⊥ = λ e. out (subst (λ z. Under f z at) (sym e) (record { low = omega arith; high = omega arith })) in
            let not_below : GoesBelow h m at s → ⊥ = λ goes.
            let u = goes_under h m at s alters.sound k.place.stands here.place.stands goes in
            out (record { low = omega (arith, u.low, here.place.low, k.place.low); high = omega (arith, u.high, here.place.low, k.place.low, ap (λ z. 2 ^ z) here.place.bits, ap (λ z. 2 ^ z) k.place.bits) }) in
            Keeps-trans f h g m k (others m k.place.stands (k.place.root ∙ root ∙ sym here.place.root) ne not_below);
        above = λ m st root belongs.
            let k = alters.above m st root in
            let differs : h.root m ≡ h.root at → ⊥ = λ e. root (sym k.place.root ∙ e ∙ here.place.root) in
            let same = stores.others m k.place.stands (λ e. root (ap f.root e)) (λ goes. differs goes.tree) (λ goes. belongs (sym (k.place.belongs (f.root at) leaf.key) ∙ (goes_with m goes).0)) in
            Renews-trans f h g m k (Keeps-Renews h g m (Same-Keeps h g m same));
        goes = record {
          then = f;
          walks = Walks-refl f sound;
          touched = In-refl f at leaf.key leaf.key;
          node = at;
          stands = stands;
          way = arrived;
          place = i;
          only_leaf = only;
          more = more;
          set = stores.set ∙ ap (λ (t : RefSet). let w : RefSet = record { refs = remove t.refs i; capacity = t.capacity } in w) same;
          link = λ j r read' ind.
              let in_s : slice_get s.refs j ≡ Some r = subst (λ (t : RefSet). slice_get t.refs j ≡ Some r) stores.set read' in
              stores.link j r in_s ind ∙ here.link r.key;
          only = changes_only f h g at (GoesAway f at i leaf) alters stores.place (λ m st ne not_gone. stores.others m st ne (λ goes. not_gone (below_goes m (alters.none_new m st) goes)) (λ goes. not_gone (with_goes m (alters.none_new m st) goes)));
          gone = λ m st away. stores.gone m (altered_place f h at alters m st).stands (away_goes m st away);
          none_new = λ m st. alters.none_new m (stores.none_new m st);
          room = omega (arith, alters.room, stores.room);
          spare = stores.spare ∙ alters.spare;
        };
        filled = none_empty g stores.sound;
        room = omega (arith, enough, copies, alters.room, stores.room);
        room_falls = omega (arith, alters.room, stores.room);
        spare = stores.spare ∙ alters.spare;
      }

  -- the same of a copy of the set that was cut
  module _ (copy got : RefSet) (e1 : copy ≡ got) (e2 : got ≡ h.set at) where
    pub cut_within : i < length copy.refs
    cut_within = subst (λ (t : RefSet). i < length t.refs) (sym (e1 ∙ e2)) within

  module _ (copy got t : RefSet) (e1 : copy ≡ got) (e2 : got ≡ h.set at) (e3 : t ≡ record { refs = remove copy.refs i; capacity = copy.capacity }) where
    set_is : t ≡ s
    set_is = e3 ∙ ap (λ (z : RefSet). let w : RefSet = record { refs = remove z.refs i; capacity = z.capacity } in w) (e1 ∙ e2)

    pub storable_copy : (f.root at ≡ at) ⊎ (2 ≤ length (refs f at)) → Storable h at t
    storable_copy more = subst (Storable h at) (sym set_is) (storable_without more)

    pub removes_copy : (g : Forest) → Stores h g at t → (f.root at ≡ at) ⊎ (2 ≤ length (refs f at)) → 62 ≤ f.room → f.copies at ≤ 62 → Removes f g at leaf
    removes_copy g stores more enough copies = removes g (subst (Stores h g at) set_is stores) more enough copies
