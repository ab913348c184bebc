-- The set of a node with a leaf more, or with a leaf replaced.
use Rattle.std.proofs.Common.{◌≡◌, ℕ, ◌+◌, ◌<◌, ◌≤◌, ◌^◌, Bool, true, false, arith, refl, sym, ◌∙◌, ap, List, [], ◌∷◌, length, Some, None, subst, ◌⊎◌, inl, inr, slice_get, slice_set, suc, zero}
use Rattle.std.proofs.lemmas.Option.{none-some, slice_get_within}
use Rattle.std.proofs.lemmas.Bool.{cases_lt}
use Rattle.h2_ref.specs.declared.reference.Ref.{Ref}
use Rattle.h2_set.specs.Ranges.{leads_on, limit, holds, NoneHolds, put, IsApart, is_indirect}
use Rattle.h2_set.specs.RefSet.{RefSet}
use Rattle.h2_set.specs.Forest.{Forest, refs, IsSoundNode, IsSound, Fits}
use Rattle.h2_set.specs.Calls.{Alters, Stores, Keeps}
use Rattle.h2_set.specs.EditLaws.{Rising-put, Rising-set, length-put, length-slice_set, set_put, set_swap}
use Rattle.h2_set.specs.ChangeLaws.{leaves_put, leaves_swap, apart_aligned, step_up}
use Rattle.h2_set.specs.LeafLaws.{holds_inside}
use Rattle.h2_set.specs.PutLaws.{put_from, put_keeps}
use Rattle.h2_set.specs.RenewLaws.{apart_alike, Alike-length, Alike-sym, like_at}
use Rattle.h2_tree.proofs.Store.{WithLeaf}
use Rattle.h2_tree.specs.Changes.{Takes, TakesIn, replaced, placed}
use Rattle.h2_tree.proofs.Going.{own_set}

pub with_put : (h : Forest) (at : ℕ) (leaf : Ref) → IsSoundNode h at → IsApart leaf (refs h at) → is_indirect leaf ≡ false → h.low at ≤ leaf.key → limit leaf ≤ h.low at + 2 ^ h.bits at → (let s = h.set at in length s.refs < s.capacity) → WithLeaf h at leaf (let s = h.set at in let t : RefSet = record { refs = put leaf s.refs; capacity = s.capacity } in t)
with_put h at leaf node a kind low high room = record {
  capacity = refl;
  set = set_put (h.set at) leaf node.set a (omega (arith, high, node.ends)) room;
  some = (let n = length-put leaf (refs h at) a in omega (arith, n));
  inside = Rising-put _ _ (refs h at) leaf node.inside a low high;
  from = put_from leaf (refs h at) a;
  keys = λ j r read. let it = put_keeps leaf (refs h at) a j r read in (it.0, r, it.1, refl, refl);
  leaves = λ l hl. leaves_put leaf hl _ _ node.inside a kind;
}

pub set_from : (leaf : Ref) (rs : List Ref) (at i : ℕ) (r : Ref) → slice_get (slice_set rs at leaf) i ≡ Some r → (r ≡ leaf) ⊎ ((j : ℕ) × (slice_get rs j ≡ Some r))
set_from leaf [] at i r read = absurd (none-some r read)
set_from leaf (x ∷ xs) zero zero r read = let same : leaf ≡ r = (cc) in inl (sym same)
set_from leaf (x ∷ xs) zero (suc i) r read = inr (suc i, read)
set_from leaf (x ∷ xs) (suc at) zero r read = inr (0, read)
set_from leaf (x ∷ xs) (suc at) (suc i) r read = elim (set_from leaf xs at i r read) as (λ _. (r ≡ leaf) ⊎ ((j : ℕ) × (slice_get (x ∷ xs) j ≡ Some r))) [
  | inl e ↦ inl e
  | inr w ↦ inr (suc w.0, w.1)
]

set_keys : (leaf : Ref) (rs : List Ref) (at : ℕ) (q : Ref) → slice_get rs at ≡ Some q → q.key ≡ leaf.key → is_indirect leaf ≡ is_indirect q → (j : ℕ) (r : Ref) → slice_get rs j ≡ Some r → (i : ℕ) × (p : Ref) × (slice_get (slice_set rs at leaf) i ≡ Some p) × (p.key ≡ r.key) × (is_indirect p ≡ is_indirect r)
set_keys leaf [] at q there key kind j r read = absurd (none-some r read)
set_keys leaf (x ∷ xs) zero q there key kind zero r read =
    let xq : x ≡ q = (cc) in
    let xr : x ≡ r = (cc) in
    (0, leaf, refl, sym key ∙ ap (λ (y : Ref). y.key) (sym xq ∙ xr), kind ∙ ap (λ (y : Ref). is_indirect y) (sym xq ∙ xr))
set_keys leaf (x ∷ xs) zero q there key kind (suc j) r read = (suc j, r, read, refl, refl)
set_keys leaf (x ∷ xs) (suc at) q there key kind zero r read = (0, r, read, refl, refl)
set_keys leaf (x ∷ xs) (suc at) q there key kind (suc j) r read = let it = set_keys leaf xs at q there key kind j r read in (suc it.0, it.1, it.2, it.3, it.4)

pub with_swap : (h : Forest) (at : ℕ) (leaf : Ref) (i : ℕ) (q : Ref) → IsSoundNode h at → is_indirect leaf ≡ false → slice_get (refs h at) i ≡ Some q → is_indirect q ≡ false → q.key ≡ leaf.key → q.keybits ≡ leaf.keybits → WithLeaf h at leaf (let s = h.set at in let t : RefSet = record { refs = slice_set s.refs i leaf; capacity = s.capacity } in t)
with_swap h at leaf i q node kind read qkind key bits = record {
  capacity = refl;
  set = set_swap (h.set at) i leaf q node.set read key bits;
  some = (let n = length-slice_set (refs h at) i leaf in let within = slice_get_within (refs h at) i q read in omega (arith, n, within));
  inside = Rising-set _ _ (refs h at) i leaf q node.inside read key bits;
  from = set_from leaf (refs h at) i;
  keys = set_keys leaf (refs h at) i q read key (kind ∙ sym qkind);
  leaves = λ l hl. leaves_swap leaf i q hl _ _ node.inside read qkind key kind;
}

-- a leaf that none of a node's ranges holds is apart from them
pub apart_node : (f : Forest) (at : ℕ) (leaf : Ref) → IsSoundNode f at → Takes f at leaf → NoneHolds leaf.key (refs f at) → IsApart leaf (refs f at)
apart_node f at leaf node takes miss i q read =
    let fits = node.fits i q read in
    apart_aligned leaf q takes.aligned fits.aligned (longer q (is_indirect q) refl fits) (miss i q read)
  where
    longer : (q : Ref) (b : Bool) → is_indirect q ≡ b → Fits f at q → leaf.keybits ≤ q.keybits
    longer q false e fits = omega (arith, fits.leaf e, takes.keybits)
    longer q true e fits = omega (arith, fits.wide e, takes.keybits)

-- a leaf whose range holds another's key has its range
pub same_leaf : (f : Forest) (at : ℕ) (leaf : Ref) (i : ℕ) (q : Ref) → IsSoundNode f at → Takes f at leaf → slice_get (refs f at) i ≡ Some q → holds leaf.key q ≡ true → is_indirect q ≡ false → (q.key ≡ leaf.key) × (q.keybits ≡ leaf.keybits)
same_leaf f at leaf i q node takes read in_q kind =
    let fits = node.fits i q read in
    let bits : q.keybits ≡ leaf.keybits = fits.leaf kind ∙ sym takes.keybits in
    let inside = holds_inside leaf.key q in_q in
    let same : q.key ≡ leaf.key = elim (cases_lt q.key leaf.key) as (λ _. q.key ≡ leaf.key) [
      | inl lt ↦ let up = step_up q.key leaf.key (2 ^ q.keybits) fits.aligned (rw bits takes.aligned) lt in absurd (omega (arith, inside.1, up))
      | inr le ↦ omega (arith, inside.0, le)
    ] in
    (same, bits)

-- what stands at place i is a leaf with the range of the new one
abbrev pub IsSameAt : List Ref → ℕ → Ref → Type 0
IsSameAt rs i leaf = (q : Ref) → slice_get rs i ≡ Some q → (is_indirect q ≡ false) × (q.key ≡ leaf.key) × (q.keybits ≡ leaf.keybits)

module _ (f h : Forest) (at : ℕ) (leaf : Ref) (sound : IsSound f) (stands : f.stands at ≡ true) (takes : Takes f at leaf) (alters : Alters f h at) where
  here : Keeps f h at
  here = alters.tree at stands refl

  node : IsSoundNode h at
  node = alters.sound.node at here.place.stands

  pub apart_altered : NoneHolds leaf.key (refs f at) → IsApart leaf (refs h at)
  apart_altered miss = apart_alike leaf (refs f at) (refs h at) here.alike (apart_node f at leaf (sound.node at stands) takes miss)

  pub room_altered : (let s = f.set at in length s.refs < s.capacity) → (let s = h.set at in length s.refs < s.capacity)
  room_altered room = omega (arith, room, Alike-length (refs f at) (refs h at) here.alike, alters.capacity at stands)

  pub put_altered : NoneHolds leaf.key (refs f at) → (let s = f.set at in length s.refs < s.capacity) → WithLeaf h at leaf (let s = h.set at in let t : RefSet = record { refs = put leaf s.refs; capacity = s.capacity } in t)
  put_altered miss room = with_put h at leaf node (apart_altered miss) takes.is_leaf (omega (arith, takes.low, here.place.low)) (rw (here.place.low, here.place.bits) takes.high) (room_altered room)

  pub same_altered : (i : ℕ) → IsSameAt (refs f at) i leaf → IsSameAt (refs h at) i leaf
  same_altered i same q read =
      let it = like_at (refs h at) (refs f at) (Alike-sym (refs f at) (refs h at) here.alike) i q read in
      let facts = same it.ref it.read in
      (ap leads_on (sym it.like.kind) ∙ facts.0, sym it.like.key ∙ facts.1, sym it.like.keybits ∙ facts.2)

  pub old_altered : (i : ℕ) (q : Ref) → IsSameAt (refs f at) i leaf → slice_get (refs h at) i ≡ Some q → slice_get (refs f at) i ≡ Some q
  old_altered i q same read =
      let it = like_at (refs h at) (refs f at) (Alike-sym (refs f at) (refs h at) here.alike) i q read in
      it.read ∙ ap Some (it.like.leaf (same_altered i same q read).0)

  pub swap_altered : (i : ℕ) (q : Ref) → IsSameAt (refs f at) i leaf → slice_get (refs h at) i ≡ Some q → WithLeaf h at leaf (let s = h.set at in let t : RefSet = record { refs = slice_set s.refs i leaf; capacity = s.capacity } in t)
  swap_altered i q same read =
      let facts = same_altered i same q read in
      with_swap h at leaf i q node takes.is_leaf read facts.0 facts.1 facts.2

  -- the same of a copy of the set that was put into
  pub put_copy : NoneHolds leaf.key (refs f at) → (let s = f.set at in length s.refs < s.capacity) → (copy got s : RefSet) → copy ≡ got → got ≡ h.set at → s ≡ record { refs = put leaf copy.refs; capacity = copy.capacity } → WithLeaf h at leaf s
  put_copy miss room copy got s e1 e2 e3 =
      let set_is = e3 ∙ ap (λ (s : RefSet). let t : RefSet = record { refs = put leaf s.refs; capacity = s.capacity } in t) (e1 ∙ e2) in
      subst (WithLeaf h at leaf) (sym set_is) (put_altered miss room)

  pub swap_copy : (i : ℕ) (q : Ref) → IsSameAt (refs f at) i leaf → (copy got s : RefSet) → copy ≡ got → got ≡ h.set at → s ≡ record { refs = slice_set copy.refs i leaf; capacity = copy.capacity } → slice_get copy.refs i ≡ Some q → WithLeaf h at leaf s
  swap_copy i q same copy got s e1 e2 e3 read =
      let set_is = e3 ∙ ap (λ (s : RefSet). let t : RefSet = record { refs = slice_set s.refs i leaf; capacity = s.capacity } in t) (e1 ∙ e2) in
      let read_h : slice_get (refs h at) i ≡ Some q = subst (λ (s : RefSet). slice_get s.refs i ≡ Some q) (e1 ∙ e2) read in
      subst (WithLeaf h at leaf) (sym set_is) (swap_altered i q same read_h)

  pub old_copy : (i : ℕ) (q : Ref) → IsSameAt (refs f at) i leaf → (copy got : RefSet) → copy ≡ got → got ≡ h.set at → slice_get copy.refs i ≡ Some q → slice_get (refs f at) i ≡ Some q
  old_copy i q same copy got e1 e2 read = old_altered i q same (subst (λ (s : RefSet). slice_get s.refs i ≡ Some q) (e1 ∙ e2) read)

  -- what is below indirect references of the new set is what was there
  links : (g : Forest) (s : RefSet) → Stores h g at s → (i : ℕ) (r : Ref) → slice_get (refs g at) i ≡ Some r → is_indirect r ≡ true → g.link at r.key ≡ f.link at r.key
  links g s stores i r read ind = stores.link i r (subst (λ (t : RefSet). slice_get t.refs i ≡ Some r) stores.set read) ind ∙ here.link r.key

  -- how a copy of the set that was put into takes the leaf in
  pub places : (g : Forest) → NoneHolds leaf.key (refs f at) → (let s = f.set at in length s.refs < s.capacity) → (copy got s : RefSet) → copy ≡ got → got ≡ h.set at → s ≡ record { refs = put leaf copy.refs; capacity = copy.capacity } → Stores h g at s → TakesIn f g at leaf 0 None
  places g miss room copy got s e1 e2 e3 stores =
      let same = own_set f h at sound stands alters in
      placed (record { none = miss; apart = apart_node f at leaf (sound.node at stands) takes miss; space = room; none_new = λ m st. alters.none_new m (stores.none_new m st); link = links g s stores; set = stores.set ∙ e3 ∙ ap (λ (s : RefSet). let t : RefSet = record { refs = put leaf s.refs; capacity = s.capacity } in t) (e1 ∙ e2 ∙ same) })

  pub replaces : (g : Forest) (i : ℕ) (q : Ref) → IsSameAt (refs f at) i leaf → (copy got s : RefSet) → copy ≡ got → got ≡ h.set at → s ≡ record { refs = slice_set copy.refs i leaf; capacity = copy.capacity } → slice_get copy.refs i ≡ Some q → Stores h g at s → TakesIn f g at leaf 0 (Some q)
  replaces g i q facts copy got s e1 e2 e3 read stores =
      let same = own_set f h at sound stands alters in
      let read_f : slice_get (refs f at) i ≡ Some q = subst (λ (s : RefSet). slice_get s.refs i ≡ Some q) (e1 ∙ e2 ∙ same) read in
      let it = facts q read_f in
      replaced (record {
        place = i;
        was = read_f;
        leaf_was = it.0;
        key = it.1;
        keybits = it.2;
        none_new = λ m st. alters.none_new m (stores.none_new m st);
        link = links g s stores;
        set = stores.set ∙ e3 ∙ ap (λ (s : RefSet). let t : RefSet = record { refs = slice_set s.refs i leaf; capacity = s.capacity } in t) (e1 ∙ e2 ∙ same);
      })
