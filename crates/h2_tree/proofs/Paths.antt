-- Paths that stay loaded when a leaf goes in.
use Rattle.std.proofs.Common.{◌≡◌, ℕ, ◌+◌, ◌<◌, ◌≤◌, ◌^◌, ◌⊎◌, inl, inr, true, false, arith, refl, sym, ◌∙◌, ap, List, [], ◌∷◌, Option, Some, None, subst, slice_get, slice_set, suc, zero}
use Rattle.std.specs.Prelude.{IfOk, Result, Ok, Err}
use Rattle.std.proofs.lemmas.Nat.{pow_pos}
use Rattle.std.proofs.lemmas.Option.{none-some}
use Rattle.h2_ref.specs.declared.reference.Ref.{Ref}
use Rattle.h2_ref.specs.declared.faults.Trouble.{Trouble}
use Rattle.h2_set.specs.RefSet.{RefSet}
use Rattle.h2_set.specs.Ranges.{leads_on, holds, put, NoneHolds, is_indirect}
use Rattle.h2_set.specs.Forest.{Forest, refs, loaded, IsSound, Reaches, nowhere, here, below}
use Rattle.h2_set.specs.Calls.{Stays}
use Rattle.h2_set.specs.PutLaws.{put_from, put_keeps}
use Rattle.h2_set.specs.ChangeLaws.{Keeps-Stays, same_or_not}
use Rattle.h2_set.specs.RenewLaws.{like_at, Alike-sym}
use Rattle.h2_tree.specs.Changes.{Prepares, ChangesOnly, Replaces, Places, Parts, TakesIn, replaced, placed, parted, Descends, arrived, onward, Inserts, KeepsPaths}
use Rattle.h2_tree.proofs.Edit.{set_from}
use Rattle.h2_set.specs.PathLaws.{in_holds}
use Rattle.h2_set.specs.PathLaws.{same_holds, reaches_stay}
use Rattle.h2_set.specs.EditPathLaws.{PartsRefs, parted_here, parted_below, parted_nowhere, put_has}

-- a path stays while nodes are loaded and made ready
pub reaches_prepared : {f g : Forest} {key at : ℕ} {o : Option Ref} → IsSound f → Prepares f g → f.stands at ≡ true → Reaches f key at o → Reaches g key at o
reaches_prepared {f} {g} sound p stands reached =
    reaches_stay f g (λ m. f.stands m ≡ true) (λ m k c st link. ((sound.node m st).child k c link).stands) p.stays stands reached

-- at other places nothing has changed
pub set_other : (rs : List Ref) (i j : ℕ) (leaf r : Ref) → slice_get rs j ≡ Some r → (j ≡ i → ⊥) → slice_get (slice_set rs i leaf) j ≡ Some r
set_other [] i j leaf r read ne = absurd (none-some r read)
set_other (x ∷ xs) zero zero leaf r read ne = absurd (ne refl)
set_other (x ∷ xs) zero (suc j) leaf r read ne = read
set_other (x ∷ xs) (suc i) zero leaf r read ne = read
set_other (x ∷ xs) (suc i) (suc j) leaf r read ne = set_other xs i j leaf r read (λ e. ne (ap suc e))

pub set_there : (rs : List Ref) (i : ℕ) (leaf q : Ref) → slice_get rs i ≡ Some q → slice_get (slice_set rs i leaf) i ≡ Some leaf
set_there [] i leaf q read = absurd (none-some q read)
set_there (x ∷ xs) zero leaf q read = refl
set_there (x ∷ xs) (suc i) leaf q read = set_there xs i leaf q read

module _ (h g : Forest) (n : ℕ) (leaf : Ref) (sound : IsSound h) (stands_n : h.stands n ≡ true) (only : ChangesOnly h g n (λ m. ⊥)) where
  -- a path below the node stays
  below_node : {key c : ℕ} {o : Option Ref} → h.stands c ≡ true → h.root c ≡ h.root n → h.bits c < h.bits n → Reaches h key c o → Reaches g key c o
  below_node st root fewer reached =
      let P : ℕ → Type 0 = λ m. (h.stands m ≡ true) × (h.root m ≡ h.root n) × (h.bits m < h.bits n) in
      let closed : (m k e : ℕ) → P m → h.link m k ≡ loaded e → P e = λ m k e p link. let kid = (sound.node m p.0).child k e link in (kid.stands, kid.root ∙ p.1, omega (arith, kid.fewer, p.2)) in
      let stay : (m : ℕ) → P m → Stays h g m = λ m p. Keeps-Stays h g m (only.tree m p.0 p.1 (λ e. let same = ap h.bits e in omega (arith, same, p.2)) (λ z. z)) in
      reaches_stay h g P closed stay (st, root, fewer) reached

  -- from the node itself, where each of its references but one with the leaf's range is still there, and no other but the leaf
  kept_node : {key : ℕ} {o : Option Ref} → holds key leaf ≡ false → ((i : ℕ) (r : Ref) → slice_get (refs g n) i ≡ Some r → (r ≡ leaf) ⊎ ((j : ℕ) × (slice_get (refs h n) j ≡ Some r))) → ((j : ℕ) (r : Ref) → slice_get (refs h n) j ≡ Some r → holds key r ≡ true → (i : ℕ) × (slice_get (refs g n) i ≡ Some r)) → ((i : ℕ) (r : Ref) → slice_get (refs g n) i ≡ Some r → is_indirect r ≡ true → g.link n r.key ≡ h.link n r.key) → {at : ℕ} → at ≡ n → Reaches h key at o → Reaches g key n o
  kept_node {key} out from keeps links same (nowhere {at = at} miss) = nowhere (λ i r read. elim (from i r read) as (λ _. holds key r ≡ false) [
    | inl new ↦ subst (λ (x : Ref). holds key x ≡ false) (sym new) out
    | inr old ↦ miss old.0 r (subst (λ z. slice_get (refs h z) old.0 ≡ Some r) (sym same) old.1)
  ])
  kept_node {key} out from keeps links same (here {at = at} {r = r} i read in_r is_leaf) =
      let it = keeps i r (subst (λ z. slice_get (refs h z) i ≡ Some r) same read) in_r in
      here {r = r} it.0 it.1 in_r is_leaf
  kept_node {key} {o} out from keeps links same (below {at = at} {c = c} {r = r} i read in_r ind link rest) =
      let it = keeps i r (subst (λ z. slice_get (refs h z) i ≡ Some r) same read) in_r in
      let link_n : h.link n r.key ≡ loaded c = subst (λ z. h.link z r.key ≡ loaded c) same link in
      let kid = (sound.node n stands_n).child r.key c link_n in
      let rest' : Reaches g key c o = below_node kid.stands kid.root kid.fewer rest in
      below {r = r} it.0 it.1 in_r ind (links it.0 r it.1 ind ∙ link_n) rest'

  replaced_node : {old : Ref} → Replaces h g n leaf old → {key : ℕ} {o : Option Ref} → holds key leaf ≡ false → Reaches h key n o → Reaches g key n o
  replaced_node {old} it {key} out reached =
      let set_is : refs g n ≡ slice_set (refs h n) it.place leaf = ap (λ (t : RefSet). t.refs) it.set in
      kept_node out (λ i r read. set_from leaf (refs h n) it.place i r (subst (λ l. slice_get l i ≡ Some r) set_is read)) (λ j r read in_r.
      let ne : j ≡ it.place → ⊥ = λ e.
      let there : slice_get (refs h n) it.place ≡ Some r = subst (λ z. slice_get (refs h n) z ≡ Some r) e read in
      let is : r ≡ old = cc (there, it.was) in
      let clash : true ≡ false = sym in_r ∙ same_holds key leaf r false (ap (λ (x : Ref). x.key) is ∙ it.key) (ap (λ (x : Ref). x.keybits) is ∙ it.keybits) out in
      cc in
      (j, subst (λ l. slice_get l j ≡ Some r) (sym set_is) (set_other (refs h n) it.place j leaf r read ne))) it.link refl reached

  placed_node : Places h g n leaf → {key : ℕ} {o : Option Ref} → holds key leaf ≡ false → Reaches h key n o → Reaches g key n o
  placed_node it {key} out reached =
      let set_is : refs g n ≡ put leaf (refs h n) = ap (λ (t : RefSet). t.refs) it.set in
      kept_node out (λ i r read. put_from leaf (refs h n) it.apart i r (subst (λ l. slice_get l i ≡ Some r) set_is read)) (λ j r read in_r.
      let there = put_keeps leaf (refs h n) it.apart j r read in
      (there.0, subst (λ l. slice_get l there.0 ≡ Some r) (sym set_is) there.1)) it.link refl reached

  -- the parts of a set that was split
  parts_refs : (it : Parts h g n leaf) → PartsRefs h g n it.node it.key it.bits (put leaf (refs h n)) it.ref
  parts_refs it = record {
    moved = ap (λ (t : RefSet). t.refs) it.moved;
    kept = ap (λ (t : RefSet). t.refs) it.set;
    indirect = it.indirect;
    ref_key = it.ref_key;
    ref_bits = it.ref_bits;
    link = it.link;
    sides = it.sides;
    below_moved = it.below_moved;
    below_kept = it.below_kept;
  }

  all_miss : (it : Parts h g n leaf) (key : ℕ) → holds key leaf ≡ false → NoneHolds key (refs h n) → NoneHolds key (put leaf (refs h n))
  all_miss it key out miss j r read = elim (put_from leaf (refs h n) it.apart j r read) as (λ _. holds key r ≡ false) [
    | inl new ↦ subst (λ (x : Ref). holds key x ≡ false) (sym new) out
    | inr old ↦ miss old.0 r old.1
  ]

  parted_node : (it : Parts h g n leaf) → {key : ℕ} {o : Option Ref} → holds key leaf ≡ false → {at : ℕ} → at ≡ n → Reaches h key at o → Reaches g key n o
  parted_node it {key} out same (nowhere {at = at} miss) = parted_nowhere h g n it.node it.key it.bits (put leaf (refs h n)) it.ref (parts_refs it) key (all_miss it key out (λ i r read. miss i r (subst (λ z. slice_get (refs h z) i ≡ Some r) (sym same) read)))
  parted_node it {key} out same (here {at = at} {r = r} i read in_r is_leaf) =
      let there = put_keeps leaf (refs h n) it.apart i r (subst (λ z. slice_get (refs h z) i ≡ Some r) same read) in
      parted_here h g n it.node it.key it.bits (put leaf (refs h n)) it.ref (parts_refs it) key there.0 r there.1 in_r is_leaf
  parted_node it {key} {o} out same (below {at = at} {c = c} {r = r} i read in_r ind link rest) =
      let there = put_keeps leaf (refs h n) it.apart i r (subst (λ z. slice_get (refs h z) i ≡ Some r) same read) in
      let link_n : h.link n r.key ≡ loaded c = subst (λ z. h.link z r.key ≡ loaded c) same link in
      let kid = (sound.node n stands_n).child r.key c link_n in
      let rest' : Reaches g key c o = below_node kid.stands kid.root kid.fewer rest in
      parted_below h g n it.node it.key it.bits (put leaf (refs h n)) it.ref (parts_refs it) key there.0 c r o there.1 in_r ind link_n rest'

  -- however the leaf went in, paths of other keys stay, and its own leads to it
  node_paths : {blocks : ℕ} {old : Option Ref} → TakesIn h g n leaf blocks old → {key : ℕ} {o : Option Ref} → holds key leaf ≡ false → Reaches h key n o → Reaches g key n o
  node_paths (replaced it) out reached = replaced_node it out reached
  node_paths (placed it) out reached = placed_node it out reached
  node_paths (parted it) out reached = parted_node it out refl reached

  node_has : {blocks : ℕ} {old : Option Ref} → TakesIn h g n leaf blocks old → is_indirect leaf ≡ false → Reaches g leaf.key n (Some leaf)
  node_has (replaced it) is_leaf =
      let pos = pow_pos leaf.keybits in
      let own = in_holds leaf.key leaf (omega arith) (omega (arith, pos)) in
      let set_is : refs g n ≡ slice_set (refs h n) it.place leaf = ap (λ (t : RefSet). t.refs) it.set in
      here {r = leaf} it.place (subst (λ l. slice_get l it.place ≡ Some leaf) (sym set_is) (set_there (refs h n) it.place leaf _ it.was)) own is_leaf
  node_has (placed it) is_leaf =
      let pos = pow_pos leaf.keybits in
      let own = in_holds leaf.key leaf (omega arith) (omega (arith, pos)) in
      let set_is : refs g n ≡ put leaf (refs h n) = ap (λ (t : RefSet). t.refs) it.set in
      let there = put_has leaf (refs h n) it.apart in
      here {r = leaf} there.0 (subst (λ l. slice_get l there.0 ≡ Some leaf) (sym set_is) there.1) own is_leaf
  node_has (parted it) is_leaf =
      let pos = pow_pos leaf.keybits in
      let own = in_holds leaf.key leaf (omega arith) (omega (arith, pos)) in
      let there = put_has leaf (refs h n) it.apart in
      parted_here h g n it.node it.key it.bits (put leaf (refs h n)) it.ref (parts_refs it) leaf.key there.0 leaf there.1 own is_leaf

  -- the same from any node of the tree
  tree_paths : {blocks : ℕ} {old : Option Ref} → TakesIn h g n leaf blocks old → {key at : ℕ} {o : Option Ref} → h.stands at ≡ true → h.root at ≡ h.root n → holds key leaf ≡ false → Reaches h key at o → Reaches g key at o
  tree_paths change {key} st root out (nowhere {at = at} miss) = elim (same_or_not at n) as (λ _. Reaches g key at None) [
    | inl same ↦ subst (λ z. Reaches g key z None) (sym same) (node_paths change out (subst (λ z. Reaches h key z None) same (nowhere {at = at} miss)))
    | inr ne ↦
        let kept = only.tree at st root ne (λ z. z) in
        nowhere (λ i q read.
        let it = like_at (refs g at) (refs h at) (Alike-sym (refs h at) (refs g at) kept.alike) i q read in
        same_holds key it.ref q false (sym it.like.key) (sym it.like.keybits) (miss i it.ref it.read))
  ]
  tree_paths change {key} st root out (here {at = at} {r = r} i read in_r is_leaf) = elim (same_or_not at n) as (λ _. Reaches g key at (Some r)) [
    | inl same ↦ subst (λ z. Reaches g key z (Some r)) (sym same) (node_paths change out (subst (λ z. Reaches h key z (Some r)) same (here {at = at} {r = r} i read in_r is_leaf)))
    | inr ne ↦
        let it = like_at (refs h at) (refs g at) (only.tree at st root ne (λ z. z)).alike i r read in
        here {r = r} i (it.read ∙ ap Some (it.like.leaf is_leaf)) in_r is_leaf
  ]
  tree_paths change {key} {o = o} st root out (below {at = at} {c = c} {r = r} i read in_r ind link rest) =
      let kid = (sound.node at st).child r.key c link in
      let rest' : Reaches g key c o = tree_paths change kid.stands (kid.root ∙ root) out rest in
      elim (same_or_not at n) as (λ _. Reaches g key at o) [
        | inl same ↦ subst (λ z. Reaches g key z o) (sym same) (node_paths change out (subst (λ z. Reaches h key z o) same (below {at = at} {c = c} {r = r} i read in_r ind link rest)))
        | inr ne ↦
            let kept = only.tree at st root ne (λ z. z) in
            let it = like_at (refs h at) (refs g at) kept.alike i r read in
            let link' : g.link at it.ref.key ≡ loaded c = ap (g.link at) it.like.key ∙ kept.link r.key ∙ link in
            below {r = it.ref} i it.read (same_holds key r it.ref true it.like.key it.like.keybits in_r) (ap leads_on it.like.kind ∙ ind) link' rest'
      ]

-- a walk down ends in a node of the tree, whose range lies in that of the first and is shorter, unless it is the first
pub record EndsIn (h : Forest) (at n : ℕ) : Type 0 where
  pub stands : h.stands n ≡ true
  pub root : h.root n ≡ h.root at
  pub bits : h.bits n ≤ h.bits at
  pub low : h.low at ≤ h.low n
  pub high : h.low n + 2 ^ h.bits n ≤ h.low at + 2 ^ h.bits at

pub ends_in : {h : Forest} {key at n : ℕ} → IsSound h → h.stands at ≡ true → Descends h key at n → EndsIn h at n
ends_in sound stands (arrived {at = at}) = record { stands = stands; root = refl; bits = omega arith; low = omega arith; high = omega arith }
ends_in {h} sound stands (onward {at = at} {c = c} {n = n} {r = r} i read in_r ind link way) =
    let kid = (sound.node at stands).child r.key c link in
    let rest = ends_in sound kid.stands way in
    record {
      stands = rest.stands;
      root = rest.root ∙ kid.root;
      bits = omega (arith, rest.bits, kid.fewer);
      low = omega (arith, rest.low, kid.above);
      high = omega (arith, rest.high, kid.within);
    }

-- the path of the leaf's key leads to it
way_has : {h g : Forest} {key at n : ℕ} {o : Option Ref} → IsSound h → ChangesOnly h g n (λ m. ⊥) → h.stands at ≡ true → Descends h key at n → Reaches g key n o → Reaches g key at o
way_has sound only stands (arrived {at = at}) has = has
way_has {h} {g} {key} {o = o} sound only stands (onward {at = at} {c = c} {n = n} {r = r} i read in_r ind link way) has =
    let kid = (sound.node at stands).child r.key c link in
    let ends = ends_in sound kid.stands way in
    let rest : Reaches g key c o = way_has sound only kid.stands way has in
    let ne : at ≡ n → ⊥ = λ e. (let same = ap h.bits e in omega (arith, same, ends.bits, kid.fewer)) in
    let kept = only.tree at stands (sym (ends.root ∙ kid.root)) ne (λ z. z) in
    let it = like_at (refs h at) (refs g at) kept.alike i r read in
    let link' : g.link at it.ref.key ≡ loaded c = ap (g.link at) it.like.key ∙ kept.link r.key ∙ link in
    below {r = it.ref} i it.read (same_holds key r it.ref true it.like.key it.like.keybits in_r) (ap leads_on it.like.kind ∙ ind) link' rest

pub inserts_paths : (f g : Forest) (at : ℕ) (leaf : Ref) (old : Option Ref) → IsSound f → f.stands at ≡ true → Inserts f g at leaf old → KeepsPaths f g at leaf
inserts_paths f g at leaf old sound stands ins key o out reached =
    let it = ins.goes in
    let there = (it.prepares.stays at stands).place.stands in
    let ends = ends_in it.prepares.sound there it.way in
    tree_paths it.then g it.node leaf it.prepares.sound it.stands it.only it.change there (sym ends.root) out (reaches_prepared sound it.prepares stands reached)

pub inserts_path : (f g : Forest) (at : ℕ) (leaf : Ref) (old : Option Ref) → f.stands at ≡ true → is_indirect leaf ≡ false → Inserts f g at leaf old → Reaches g leaf.key at (Some leaf)
inserts_path f g at leaf old stands is_leaf ins =
    let it = ins.goes in
    let there = (it.prepares.stays at stands).place.stands in
    way_has it.prepares.sound it.only there it.way (node_has it.then g it.node leaf it.prepares.sound it.stands it.only it.change is_leaf)

-- the same of whatever was answered
pub ok_paths : (f g : Forest) (at : ℕ) (leaf : Ref) (r : Result (Option Ref) Trouble) → IsSound f → f.stands at ≡ true → IfOk r (Inserts f g at leaf) → IfOk r (λ o. KeepsPaths f g at leaf)
ok_paths f g at leaf (Ok o) sound stands ins = inserts_paths f g at leaf o sound stands ins
ok_paths f g at leaf (Err e) sound stands ins = tt

pub ok_path : (f g : Forest) (at : ℕ) (leaf : Ref) (r : Result (Option Ref) Trouble) → f.stands at ≡ true → is_indirect leaf ≡ false → IfOk r (Inserts f g at leaf) → IfOk r (λ o. Reaches g leaf.key at (Some leaf))
ok_path f g at leaf (Ok o) stands is_leaf ins = inserts_path f g at leaf o stands is_leaf ins
ok_path f g at leaf (Err e) stands is_leaf ins = tt
