-- From a node back to the root.
use Rattle.std.proofs.Common.{◌≡◌, ℕ, true, false, List, Option, Some, ◌<◌, sym, subst, arith, slice_get, ap, ◌∙◌}
use Rattle.h2_ref.specs.declared.reference.Ref.{Ref}
use Rattle.h2_set.specs.RefSet.{RefSet}
use Rattle.h2_set.specs.Ranges.{holds, find, is_indirect}
use Rattle.h2_set.specs.Forest.{Forest, refs, loaded, IsSound, Reaches, nowhere, here, below, LeavesOf}
use Rattle.h2_set.specs.Calls.{Walks}
use Rattle.h2_set.specs.StayLaws.{Walks-trans, Walks-leaves, Reaches-walks}
use Rattle.h2_set.specs.LeafLaws.{reaches_find}
use Rattle.h2_set.specs.PathLaws.{same_holder}

-- what the key reaches from node at, it reaches from the root, now and after any walk
pub record LeadsTo (f : Forest) (key root at : ℕ) : Type 0 where
  pub climb : (g : Forest) (o : Option Ref) → Walks f g → Reaches g key at o → Reaches g key root o

pub leads_start : (f : Forest) (key root : ℕ) → LeadsTo f key root root
leads_start f key root = record { climb = λ g o w h. h }

-- on to a child that a walk has loaded
pub leads_on : (f g : Forest) (key root at c i : ℕ) (r : Ref) → LeadsTo f key root at → Walks f g → f.stands at ≡ true → slice_get (refs f at) i ≡ Some r → holds key r ≡ true → is_indirect r ≡ true → g.link at r.key ≡ loaded c → LeadsTo g key root c
leads_on f g key root at c i r leads walk stands read holds ind link = record {
  climb = λ h o w reached.
      let whole = Walks-trans f g h walk w in
      let same : slice_get (refs h at) i ≡ Some r = ap (λ (s : RefSet). slice_get s.refs i) (whole.sets at stands) ∙ read in
      leads.climb h o whole (below {r = r} i same holds ind ((w.stays at (walk.stays at stands).place.stands).near r.key c link) reached);
}

-- the next node stands, and its bits are fewer
pub next_node : (f g : Forest) (at c i : ℕ) (r : Ref) → IsSound f → Walks f g → f.stands at ≡ true → slice_get (refs f at) i ≡ Some r → is_indirect r ≡ true → g.link at r.key ≡ loaded c → (g.stands c ≡ true) × (g.bits c < f.bits at)
next_node f g at c i r sound walk stands read ind link =
    let there = (walk.stays at stands).place.stands in
    let node = walk.sound.node at there in
    let same : slice_get (refs g at) i ≡ Some r = ap (λ (s : RefSet). slice_get s.refs i) (walk.sets at stands) ∙ read in
    let bits : g.bits c ≡ r.keybits = node.bits i c r same ind link in
    let falls : r.keybits < f.bits at = ((sound.node at stands).fits i r read).falls ind in
    ((node.child r.key c link).stands, omega arith)

-- and it belongs to the same tree
pub next_root : (f g : Forest) (at c k : ℕ) → Walks f g → f.stands at ≡ true → g.link at k ≡ loaded c → g.root c ≡ f.root at
next_root f g at c k walk stands link =
    let there = (walk.stays at stands).place in
    ((walk.sound.node at there.stands).child k c link).root ∙ there.root

-- what a walk reached is what the list had
pub found_in : (f g : Forest) (key root : ℕ) (o : Option Ref) → IsSound f → Walks f g → f.stands root ≡ true → Reaches g key root o → (l : List Ref) → LeavesOf f root l → o ≡ find key l
found_in f g key root o sound walk stands reached l h = reaches_find walk.sound reached (walk.stays root stands).place.stands l (Walks-leaves f g sound walk root stands l h)

-- where the key's path was loaded at the start, it leads through node at
pub record LedBack (f : Forest) (key root at : ℕ) : Type 0 where
  pub back : (o : Option Ref) → Reaches f key root o → (f.stands at ≡ true) × Reaches f key at o

pub led_start : (f : Forest) (key root : ℕ) → f.stands root ≡ true → LedBack f key root root
led_start f key root stands = record { back = λ o h. (stands, h) }

-- what a loaded path at a node leads on to
pub record Onward (f : Forest) (key at : ℕ) (r : Ref) (o : Option Ref) : Type 0 where
  pub next : ℕ
  pub link : f.link at r.key ≡ loaded next
  pub rest : Reaches f key next o

onward : {f : Forest} {key at : ℕ} {o : Option Ref} → IsSound f → Reaches f key at o → f.stands at ≡ true → (i : ℕ) (r : Ref) → slice_get (refs f at) i ≡ Some r → holds key r ≡ true → is_indirect r ≡ true → Onward f key at r o
onward sound (nowhere miss) stands i r read in_r ind = let clash : true ≡ false = sym in_r ∙ miss i r read in cc
onward {key = key} sound (here {at = at} {r = q} j read_q in_q leaf) stands i r read in_r ind =
    let same : r ≡ q = same_holder _ _ key _ j i q r (sound.node at stands).inside read_q read in_q in_r in
    let clash : false ≡ true = sym leaf ∙ ap (λ (x : Ref). is_indirect x) (sym same) ∙ ind in
    cc
onward {f} {key} sound (below {at = at} {c = c} {r = q} {o = o} j read_q in_q ind_q link rest) stands i r read in_r ind =
    let same : r ≡ q = same_holder _ _ key _ j i q r (sound.node at stands).inside read_q read in_q in_r in
    subst (λ (x : Ref). Onward f key at x o) (sym same) (record { next = c; link = link; rest = rest })

module _ (f h : Forest) (key root at i : ℕ) (r : Ref) (sound : IsSound f) (walk : Walks f h) (led : LedBack f key root at) (read : slice_get (refs h at) i ≡ Some r) (in_r : holds key r ≡ true) (ind : is_indirect r ≡ true) where
  step_on : (o : Option Ref) → Reaches f key root o → (f.stands at ≡ true) × Onward f key at r o
  step_on o reached =
      let it = led.back o reached in
      let read_f : slice_get (refs f at) i ≡ Some r = ap (λ (s : RefSet). slice_get s.refs i) (sym (walk.sets at it.0)) ∙ read in
      (it.0, onward sound it.1 it.0 i r read_f in_r ind)

  pub led_on : (g : Forest) (c : ℕ) → Walks h g → g.link at r.key ≡ loaded c → LedBack f key root c
  led_on g c next link = record {
    back = λ o reached.
        let it = step_on o reached in
        let whole = Walks-trans f h g walk next in
        let there : g.link at r.key ≡ loaded it.1.next = (whole.stays at it.0).near r.key it.1.next it.1.link in
        let same : it.1.next ≡ c = cc (there, link) in
        let child = (sound.node at it.0).child r.key it.1.next it.1.link in
        (subst (λ z. f.stands z ≡ true) same child.stands, subst (λ z. Reaches f key z o) same it.1.rest);
  }

  -- where the child wasn't loaded, the path was not
  pub not_led : ((q : Ref) (c : ℕ) → slice_get (refs h at) i ≡ Some q → h.link at q.key ≡ loaded c → ⊥) → (o : Option Ref) → Reaches f key root o → ⊥
  not_led unloaded o reached =
      let it = step_on o reached in
      unloaded r it.1.next read ((walk.stays at it.0).near r.key it.1.next it.1.link)

-- a path that is loaded leads on through the child, also after a walk
pub reaches_child : (f h : Forest) (key at i c : ℕ) (r : Ref) (o : Option Ref) → IsSound f → Walks f h → f.stands at ≡ true → slice_get (refs f at) i ≡ Some r → holds key r ≡ true → is_indirect r ≡ true → h.link at r.key ≡ loaded c → Reaches f key at o → Reaches h key c o
reaches_child f h key at i c r o sound walk stands read in_r ind link reached =
    let it = onward sound reached stands i r read in_r ind in
    let there = (walk.stays at stands).near r.key it.next it.link in
    let same : it.next ≡ c = cc (there, link) in
    subst (λ z. Reaches h key z o) same (Reaches-walks sound walk ((sound.node at stands).child r.key it.next it.link).stands it.rest)

-- where the child isn't loaded, neither is the path
pub reaches_loaded : (f : Forest) (key at i : ℕ) (r : Ref) (o : Option Ref) → IsSound f → f.stands at ≡ true → slice_get (refs f at) i ≡ Some r → holds key r ≡ true → is_indirect r ≡ true → ((q : Ref) (c : ℕ) → slice_get (refs f at) i ≡ Some q → f.link at q.key ≡ loaded c → ⊥) → Reaches f key at o → ⊥
reaches_loaded f key at i r o sound stands read in_r ind unloaded reached =
    let it = onward sound reached stands i r read in_r ind in
    unloaded r it.next read it.link
