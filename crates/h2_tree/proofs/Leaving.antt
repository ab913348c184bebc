-- Paths that stay loaded when a leaf goes out.
use Rattle.std.proofs.Common.{◌≡◌, ℕ, ◌+◌, ◌<◌, ◌≤◌, ◌^◌, inl, inr, Bool, true, false, arith, refl, sym, ◌∙◌, ap, Option, Some, None, subst, slice_get}
use Rattle.std.specs.List.{remove}
use Rattle.std.proofs.lemmas.Nat.{pow_pos}
use Rattle.h2_ref.specs.declared.reference.Ref.{Ref}
use Rattle.h2_set.specs.RefSet.{RefSet}
use Rattle.h2_set.specs.Ranges.{leads_on, limit, holds, NoneHolds, is_indirect}
use Rattle.h2_set.specs.Forest.{Forest, refs, loaded, IsSound, Reaches, nowhere, here, below}
use Rattle.h2_set.specs.Calls.{Keeps, Stays}
use Rattle.h2_set.specs.LeafLaws.{holds_inside, place_above}
use Rattle.h2_set.specs.SplitLaws.{below_high}
use Rattle.h2_set.specs.EditLaws.{remove_from, remove_keeps, remove_lacks}
use Rattle.h2_set.specs.ChangeLaws.{Keeps-Stays, same_or_not, apart_places}
use Rattle.h2_set.specs.RenewLaws.{like_at, Alike-sym}
use Rattle.h2_tree.specs.Changes.{ChangesOnly, LeadsOnly, itself, down, GoesAway, below_it, named, Descends, arrived, onward, Removes, KeepsPaths}
use Rattle.h2_tree.specs.PathLaws.{only_holds}
use Rattle.h2_tree.proofs.Only.{only_reaches}
use Rattle.h2_tree.proofs.Going.{Walks-prepares}
use Rattle.h2_tree.proofs.Paths.{reaches_prepared, ends_in}
use Rattle.h2_set.specs.PathLaws.{same_holder}
use Rattle.h2_set.specs.PathLaws.{same_holds, reaches_stay}

-- the leaf that a path leads to holds the key
reaches_holds : {f : Forest} {key at : ℕ} {r : Ref} → Reaches f key at (Some r) → holds key r ≡ true
reaches_holds (here i read in_r leaf) = in_r
reaches_holds (below i read in_r ind link rest) = reaches_holds rest

-- the reference that leads to one leaf alone
pub read_of : {h : Forest} {at i : ℕ} {leaf : Ref} → LeadsOnly h at i leaf → (q : Ref) × (slice_get (refs h at) i ≡ Some q)
read_of (itself {r = r} i read k) = (r, read)
read_of (down {r = r} i read k l o rest) = (r, read)

-- a node of the tree in the range of a reference, with fewer bits than b
record In (h : Forest) (n : ℕ) (x : Ref) (b m : ℕ) : Type 0 where
  stands : h.stands m ≡ true
  root : h.root m ≡ h.root n
  low : x.key ≤ h.low m
  high : h.low m + 2 ^ h.bits m ≤ limit x
  bits : h.bits m < b

module _ (h g : Forest) (n place : ℕ) (leaf : Ref) (sound : IsSound h) (stands_n : h.stands n ≡ true) (only_leaf : LeadsOnly h n place leaf) (set : let s = h.set n in g.set n ≡ record { refs = remove s.refs place; capacity = s.capacity }) (link : (i : ℕ) (r : Ref) → slice_get (refs g n) i ≡ Some r → is_indirect r ≡ true → g.link n r.key ≡ h.link n r.key) (only : ChangesOnly h g n (GoesAway h n place leaf)) where
  abbrev pub q : Ref
  q = (read_of only_leaf).0

  read_q : slice_get (refs h n) place ≡ Some q
  read_q = (read_of only_leaf).1

  set_is : refs g n ≡ remove (refs h n) place
  set_is = ap (λ (t : RefSet). t.refs) set

  -- what isn't in the range of the reference that is cut doesn't go
  not_away : (m : ℕ) → h.root m ≡ h.root n → (holds (h.low m) q ≡ true → ⊥) → GoesAway h n place leaf m → ⊥
  not_away m root out (below_it r read tree fewer in_r) =
      let same : r ≡ q = cc (read, read_q) in
      out (subst (λ (x : Ref). holds (h.low m) x ≡ true) same in_r)
  not_away m root out (named other belongs) = other root

  -- a path below a reference that is apart from the one that is cut stays
  range_stays : (x : Ref) (b : ℕ) → ((m : ℕ) → In h n x b m → (m ≡ n → ⊥) × (holds (h.low m) q ≡ true → ⊥)) → {key c : ℕ} {o : Option Ref} → In h n x b c → Reaches h key c o → Reaches g key c o
  range_stays x b clear start reached =
      let closed : (m k e : ℕ) → In h n x b m → h.link m k ≡ loaded e → In h n x b e = λ m k e p link'.
      let kid = (sound.node m p.stands).child k e link' in
      record { stands = kid.stands; root = kid.root ∙ p.root; low = omega (arith, kid.above, p.low); high = omega (arith, kid.within, p.high); bits = omega (arith, kid.fewer, p.bits) } in
      let stay : (m : ℕ) → In h n x b m → Stays h g m = λ m p. let it = clear m p in Keeps-Stays h g m (only.tree m p.stands p.root it.0 (not_away m p.root it.1)) in
      reaches_stay h g (In h n x b) closed stay start reached

  -- no reference but the one that is cut holds a key that it holds
  none_left : (key : ℕ) → holds key q ≡ true → NoneHolds key (refs g n)
  none_left key in_q i r read = by (holds key r) refl
    where
      by : (b : Bool) → holds key r ≡ b → holds key r ≡ false
      by false e = e
      by true e =
          let read' : slice_get (remove (refs h n) place) i ≡ Some r = subst (λ l. slice_get l i ≡ Some r) set_is read in
          let old = remove_from (refs h n) place i r read' in
          let node = sound.node n stands_n in
          let same : r ≡ q = same_holder _ _ key (refs h n) place old.0 q r node.inside read_q old.1 in_q e in
          absurd (remove_lacks _ _ (refs h n) place i q r node.inside read_q read' (ap (λ (x : Ref). x.key) same))

  -- through the reference that is cut only its leaf was reached
  cut_node : {key : ℕ} → holds key leaf ≡ false → holds key q ≡ true → (o : Option Ref) → Reaches h key n o → Reaches g key n o
  cut_node {key} out in_q None reached = nowhere (none_left key in_q)
  cut_node {key} out in_q (Some r) reached =
      let same : r ≡ leaf = only_reaches sound stands_n only_leaf key q r read_q in_q reached in
      let clash : true ≡ false = sym (reaches_holds reached) ∙ subst (λ (x : Ref). holds key x ≡ false) (sym same) out in
      cc

  kept_there : (i : ℕ) (r : Ref) → slice_get (refs h n) i ≡ Some r → (i ≡ place → ⊥) → (j : ℕ) × (slice_get (refs g n) j ≡ Some r)
  kept_there i r read ne =
      let it = remove_keeps (refs h n) place i r read ne in
      (it.0, subst (λ l. slice_get l it.0 ≡ Some r) (sym set_is) it.1)

  is_cut : (i : ℕ) (r : Ref) → i ≡ place → slice_get (refs h n) i ≡ Some r → r ≡ q
  is_cut i r e read = let there : slice_get (refs h n) place ≡ Some r = subst (λ z. slice_get (refs h n) z ≡ Some r) e read in cc (there, read_q)

  removed_node : {key : ℕ} {o : Option Ref} → holds key leaf ≡ false → {at : ℕ} → at ≡ n → Reaches h key at o → Reaches g key n o
  removed_node {key} out same (nowhere {at = at} miss) = nowhere (λ i r read.
      let old = remove_from (refs h n) place i r (subst (λ l. slice_get l i ≡ Some r) set_is read) in
      miss old.0 r (subst (λ z. slice_get (refs h z) old.0 ≡ Some r) (sym same) old.1))
  removed_node {key} out same (here {at = at} {r = r} i read in_r is_leaf) =
      let read_n : slice_get (refs h n) i ≡ Some r = subst (λ z. slice_get (refs h z) i ≡ Some r) same read in
      elim (same_or_not i place) as (λ _. Reaches g key n (Some r)) [
        | inl e ↦ cut_node out (subst (λ (x : Ref). holds key x ≡ true) (is_cut i r e read_n) in_r) (Some r) (here {r = r} i read_n in_r is_leaf)
        | inr ne ↦ let it = kept_there i r read_n ne in here {r = r} it.0 it.1 in_r is_leaf
      ]
  removed_node {key} {o} out same (below {at = at} {c = c} {r = r} i read in_r ind link' rest) =
      let read_n : slice_get (refs h n) i ≡ Some r = subst (λ z. slice_get (refs h z) i ≡ Some r) same read in
      let link_n : h.link n r.key ≡ loaded c = subst (λ z. h.link z r.key ≡ loaded c) same link' in
      elim (same_or_not i place) as (λ _. Reaches g key n o) [
        | inl e ↦ cut_node out (subst (λ (x : Ref). holds key x ≡ true) (is_cut i r e read_n) in_r) o (below {r = r} i read_n in_r ind link_n rest)
        | inr ne ↦
            let it = kept_there i r read_n ne in
            let node = sound.node n stands_n in
            let kid = node.child r.key c link_n in
            let bits_c = node.bits i c r read_n ind link_n in
            let start : In h n r (h.bits n) c = record { stands = kid.stands; root = kid.root; low = omega (arith, kid.low); high = omega (arith, kid.low, ap (λ z. 2 ^ z) bits_c); bits = kid.fewer } in
            let clear : (m : ℕ) → In h n r (h.bits n) m → (m ≡ n → ⊥) × (holds (h.low m) q ≡ true → ⊥) = λ m p. (
              λ e. (let fewer = p.bits in let equal = ap h.bits e in omega (arith, fewer, equal)),
              λ in_q.
                  let from = holds_inside (h.low m) q in_q in
                  let pos = pow_pos (h.bits m) in
                  elim (apart_places _ _ (refs h n) place i q r node.inside read_q read_n ne) as (λ _. ⊥) [
                    | inl before ↦ omega (arith, before, from.0, p.high, pos)
                    | inr behind ↦ omega (arith, behind, from.1, p.low)
                  ],
            ) in
            below {r = r} it.0 it.1 in_r ind (link it.0 r it.1 ind ∙ link_n) (range_stays r (h.bits n) clear start rest)
      ]

  -- a node above that one keeps its references
  above_keeps : (at c k : ℕ) → h.stands at ≡ true → h.link at k ≡ loaded c → h.root n ≡ h.root c → h.bits n ≤ h.bits c → Keeps h g at
  above_keeps at c k st link' root bits =
      let kid = (sound.node at st).child k c link' in
      let ne : at ≡ n → ⊥ = λ e. (let equal = ap h.bits e in omega (arith, equal, bits, kid.fewer)) in
      only.tree at st (sym (root ∙ kid.root)) ne (away (sym (root ∙ kid.root)) (omega (arith, bits, kid.fewer)))
    where
      away : h.root at ≡ h.root n → h.bits n < h.bits at → GoesAway h n place leaf at → ⊥
      away same more (below_it r read tree fewer in_r) = omega (arith, more, fewer)
      away same more (named other belongs) = other same

  -- the same from each node on the way to it
  removed_paths : {leaf_key key at m : ℕ} {o : Option Ref} → h.stands at ≡ true → m ≡ n → Descends h leaf_key at m → holds key leaf ≡ false → Reaches h key at o → Reaches g key at o
  removed_paths {leaf_key} {key} {o = o} st same (arrived {at = at}) out reached = subst (λ z. Reaches g key z o) (sym same) (removed_node out same reached)
  removed_paths {leaf_key} {key} {o = o} st same (onward {at = at} {c = c} {r = r} i read in_r ind link_c way) out reached =
      let node = sound.node at st in
      let kid = node.child r.key c link_c in
      let bits_c = node.bits i c r read ind link_c in
      let ends = ends_in sound kid.stands (subst (λ z. Descends h leaf_key c z) same way) in
      let kept : Keeps h g at = above_keeps at c r.key st link_c ends.root ends.bits in
      let inner = sound.node n stands_n in
      let q_low = place_above _ _ (refs h n) place q inner.inside read_q in
      let q_high = below_high _ _ (refs h n) place q inner.inside read_q in
      let on : (j : ℕ) (x : Ref) → slice_get (refs h at) j ≡ Some x → is_indirect x ≡ true → (d : ℕ) → h.link at x.key ≡ loaded d → Reaches h key d o → Reaches g key d o = λ j x read_x ind_x d link_d rest.
      elim (same_or_not j i) as (λ _. Reaches g key d o) [
        | inl e ↦
            let there : slice_get (refs h at) i ≡ Some x = subst (λ z. slice_get (refs h at) z ≡ Some x) e read_x in
            let is : x ≡ r = cc (there, read) in
            let link_r : h.link at r.key ≡ loaded d = subst (λ (y : Ref). h.link at y.key ≡ loaded d) is link_d in
            let dc : d ≡ c = cc (link_r, link_c) in
            subst (λ z. Reaches g key z o) (sym dc) (removed_paths kid.stands same way out (subst (λ z. Reaches h key z o) dc rest))
        | inr ne ↦
            let side = node.child x.key d link_d in
            let bits_d = node.bits j d x read_x ind_x link_d in
            let start : In h n x (h.bits at) d = record { stands = side.stands; root = side.root ∙ sym (ends.root ∙ kid.root); low = omega (arith, side.low); high = omega (arith, side.low, ap (λ z. 2 ^ z) bits_d); bits = side.fewer } in
            let apart = apart_places _ _ (refs h at) i j r x node.inside read read_x ne in
            let r_size = ap (λ z. 2 ^ z) bits_c in
            let clear : (m : ℕ) → In h n x (h.bits at) m → (m ≡ n → ⊥) × (holds (h.low m) q ≡ true → ⊥) = λ m p.
            let pos = pow_pos (h.bits m) in
            let pos_n = pow_pos (h.bits n) in (
              λ e. (let low_is = ap h.low e in let bits_is = ap (λ z. 2 ^ h.bits z) e in elim apart as (λ _. ⊥) [
                | inl before ↦ omega (arith, before, p.high, pos, low_is, ends.low, kid.low)
                | inr behind ↦ omega (arith, behind, p.low, low_is, ends.high, pos_n, kid.low, r_size)
              ]),
              λ in_q.
                  let from = holds_inside (h.low m) q in_q in
                  elim apart as (λ _. ⊥) [
                    | inl before ↦ omega (arith, before, p.high, pos, from.0, q_low, ends.low, kid.low)
                    | inr behind ↦ omega (arith, behind, p.low, from.1, q_high, ends.high, kid.low, r_size)
                  ],
            ) in
            range_stays x (h.bits at) clear start rest
      ] in
      through kept on reached
    where
      through : {z : ℕ} {p : Option Ref} → Keeps h g z → ((j : ℕ) (x : Ref) → slice_get (refs h z) j ≡ Some x → is_indirect x ≡ true → (d : ℕ) → h.link z x.key ≡ loaded d → Reaches h key d p → Reaches g key d p) → Reaches h key z p → Reaches g key z p
      through kept on (nowhere {at = z} miss) = nowhere (λ i y read.
          let it = like_at (refs g z) (refs h z) (Alike-sym (refs h z) (refs g z) kept.alike) i y read in
          same_holds key it.ref y false (sym it.like.key) (sym it.like.keybits) (miss i it.ref it.read))
      through kept on (here {at = z} {r = y} i read in_y is_leaf) =
          let it = like_at (refs h z) (refs g z) kept.alike i y read in
          here {r = y} i (it.read ∙ ap Some (it.like.leaf is_leaf)) in_y is_leaf
      through kept on (below {at = z} {c = d} {r = y} i read in_y ind link_d rest) =
          let it = like_at (refs h z) (refs g z) kept.alike i y read in
          let link' : g.link z it.ref.key ≡ loaded d = ap (g.link z) it.like.key ∙ kept.link y.key ∙ link_d in
          below {r = it.ref} i it.read (same_holds key y it.ref true it.like.key it.like.keybits in_y) (ap leads_on it.like.kind ∙ ind) link' (on i y read ind d link_d rest)

  -- the path of the leaf's key leads to none
  way_lacks : {key at m : ℕ} → h.stands at ≡ true → m ≡ n → holds key q ≡ true → Descends h key at m → Reaches g key at None
  way_lacks {key} st same in_q (arrived {at = at}) = subst (λ z. Reaches g key z None) (sym same) (nowhere (none_left key in_q))
  way_lacks {key} st same in_q (onward {at = at} {c = c} {r = r} i read in_r ind link_c way) =
      let kid = (sound.node at st).child r.key c link_c in
      let ends = ends_in sound kid.stands (subst (λ z. Descends h key c z) same way) in
      let kept : Keeps h g at = above_keeps at c r.key st link_c ends.root ends.bits in
      let it = like_at (refs h at) (refs g at) kept.alike i r read in
      let link' : g.link at it.ref.key ≡ loaded c = ap (g.link at) it.like.key ∙ kept.link r.key ∙ link_c in
      below {r = it.ref} i it.read (same_holds key r it.ref true it.like.key it.like.keybits in_r) (ap leads_on it.like.kind ∙ ind) link' (way_lacks kid.stands same in_q way)

pub removes_paths : (f g : Forest) (at : ℕ) (leaf : Ref) → IsSound f → f.stands at ≡ true → Removes f g at leaf → KeepsPaths f g at leaf
removes_paths f g at leaf sound stands rem key o out reached =
    let it = rem.goes in
    let p = Walks-prepares f it.then it.walks in
    removed_paths it.then g it.node it.place leaf it.walks.sound it.stands it.only_leaf it.set it.link it.only (it.walks.stays at stands).place.stands refl it.way out (reaches_prepared sound p stands reached)

pub removes_path : (f g : Forest) (at : ℕ) (leaf : Ref) → f.stands at ≡ true → Removes f g at leaf → Reaches g leaf.key at None
removes_path f g at leaf stands rem =
    let it = rem.goes in
    let read = read_of it.only_leaf in
    let in_q = only_holds it.walks.sound it.stands it.only_leaf read.0 read.1 in
    way_lacks it.then g it.node it.place leaf it.walks.sound it.stands it.only_leaf it.set it.link it.only (it.walks.stays at stands).place.stands refl in_q it.way
