-- The leaves to which nodes belong, once another set is stored, and all that storing leaves.
use Rattle.std.proofs.Common.{◌≡◌, ℕ, true, false, arith, refl, sym, ◌∙◌, ap, Option, Some, None, subst, ◌⊎◌, inl, inr, slice_get, nat_eq}
use Rattle.std.proofs.lemmas.Nat.{pow_pos}
use Rattle.h2_ref.specs.declared.reference.Ref.{Ref}
use Rattle.h2_ref.specs.declared.reference.Kind.TheVariants.{Inode}
use Rattle.h2_set.specs.Ranges.{holds, is_indirect}
use Rattle.h2_set.specs.RefSet.{RefSet}
use Rattle.h2_set.specs.Forest.{Forest, refs, loaded, IsSound, IsSoundNode, HasOwner, Reaches, nowhere, here, below}
use Rattle.h2_set.specs.Calls.{Fixed, Same, GoesBelow, GoesWith, Stores}
use Rattle.h2_set.specs.ChangeLaws.{same_or_not}
use Rattle.h2_memory_sets.specs.View.{names_same, any_of}
use Rattle.h2_memory_sets.proofs.Lists.{same_key}
use Rattle.h2_memory_sets.proofs.Nesting.{in_holds}
use Rattle.h2_memory_sets.proofs.Parting.{alike, one_of}
use Rattle.h2_memory_sets.proofs.Passing.{any_true, any_some, and_parts, same_named, one_sort}
use Rattle.h2_memory_sets.proofs.Settled.{stood, same_all, same_top, sound_of}
use Rattle.h2_memory_sets.proofs.Storing.{DiffersByStore, Suits, tested, refs_here, not_goes, at_now, now_stays, kid_stays, link_same, not_below, root_now, near_stays, kept, here_node, other_node, parent_now, held_now}

module _ (f g : Forest) (at : ℕ) (s : RefSet) (d : DiffersByStore f g at s) (sound : IsSound f) (stands : f.stands at ≡ true) (suits : Suits f g at s) where
  -- a leaf that names an inode is reached still, or another in its place
  record Reached (key n : ℕ) : Type 0 where
    leaf : Ref
    key_is : leaf.key ≡ key
    kind_is : leaf.kind ≡ Inode
    path : Reaches g key n (Some leaf)

  -- a reference of the set in the place of another
  record Instead (r : Ref) : Type 0 where
    place : ℕ
    ref : Ref
    read : slice_get s.refs place ≡ Some ref
    key : ref.key ≡ r.key
    sort : is_indirect ref ≡ is_indirect r

  -- the leaf to which a node that stays belongs
  module _ (m t key : ℕ) (st : f.stands m ≡ true) (bel : f.belongs m t key ≡ true) (other : f.root m ≡ t → ⊥) (stay : d.goes m ≡ false) where
    instead : (i : ℕ) (r leaf : Ref) → slice_get (refs f at) i ≡ Some r → holds key r ≡ true → f.root at ≡ t → leaf.key ≡ key → Reaches f key at (Some leaf) → Instead r
    instead i r leaf read in_r root exact path = elim (tested (any_of (names_same r) s.refs)) as (λ _. Instead r) [
      | inl yes' ↦
          let it = any_true (names_same r) s.refs yes' in
          let p = and_parts (nat_eq it.ref.key r.key) _ it.passes in
          record { place = it.place; ref = it.ref; read = it.read; key = alike _ _ p.0; sort = one_sort (is_indirect r) (is_indirect it.ref) p.1 }
      | inr none ↦
          let goes : GoesWith f m at s = record {
            other = λ e. other (e ∙ root);
            key = key;
            leaf = leaf;
            loses = record { place = i; lost = r; was = read; lacks = λ j q got k sort. let clash : true ≡ false = sym (any_some (names_same r) s.refs j q got (same_named r q k sort)) ∙ none in cc; held = in_r };
            reaches = path;
            exact = exact;
            belongs = subst (λ z. f.belongs m z key ≡ true) (sym root) bel;
          } in
          let clash : true ≡ false = sym (d.goes_all m st (inr goes)) ∙ stay in
          absurd (cc)
    ]

    there : (j : ℕ) (r : Ref) → slice_get s.refs j ≡ Some r → slice_get (refs g at) j ≡ Some r
    there j r read = rw (refs_here f g at s d sound stands) read

    here_at : (i : ℕ) (r : Ref) → slice_get (refs f at) i ≡ Some r → holds key r ≡ true → is_indirect r ≡ false → r.key ≡ key → f.root at ≡ t → Reached key at
    here_at i r read in_r leafy exact root =
        let it = instead i r r read in_r root exact (here {r = r} i read in_r leafy) in
        let key_is : it.ref.key ≡ key = it.key ∙ exact in
        let leafy' : is_indirect it.ref ≡ false = it.sort ∙ leafy in
        let pos = pow_pos it.ref.keybits in
        record {
          leaf = it.ref;
          key_is = key_is;
          kind_is = suits.kinds m key it.place it.ref st (subst (λ z. f.belongs m z key ≡ true) (sym root) bel) it.read leafy';
          path = here {r = it.ref} it.place (there it.place it.ref it.read) (in_holds key it.ref (omega (arith, key_is)) (omega (arith, key_is, pos))) leafy';
        }

    -- a reference that leads on is still there, and what is below it stays
    record Onward (c : ℕ) : Type 0 where
      stays : d.goes c ≡ false
      up : Reached key c → Reached key at

    onward : (i c : ℕ) (r leaf : Ref) → slice_get (refs f at) i ≡ Some r → holds key r ≡ true → is_indirect r ≡ true → f.link at r.key ≡ loaded c → leaf.key ≡ key → f.root at ≡ t → Reaches f key at (Some leaf) → Onward c
    onward i c r leaf read in_r ind link exact root path =
        let it = instead i r leaf read in_r root exact path in
        let ind' : is_indirect it.ref ≡ true = it.sort ∙ ind in
        let old = suits.stood it.place it.ref it.read ind' in
        let same : it.ref ≡ r = same_key _ _ (refs f at) old.0 i it.ref r (sound.node at stands).inside old.1 read it.key in
        let link' : f.link at it.ref.key ≡ loaded c = ap (f.link at) it.key ∙ link in
        record {
          stays = near_stays f g at s d sound stands suits it.place c it.ref it.read ind' link';
          up = λ below'. record {
            leaf = below'.leaf;
            key_is = below'.key_is;
            kind_is = below'.kind_is;
            path = below {r = it.ref} it.place (there it.place it.ref it.read) (ap (holds key) same ∙ in_r) ind' (kept f g at s d sound stands suits it.place it.ref it.read ind' ∙ link') below'.path;
          };
        }

    set_same : (n : ℕ) → (n ≡ at → ⊥) → (i : ℕ) (r : Ref) → slice_get (refs f n) i ≡ Some r → slice_get (refs g n) i ≡ Some r
    set_same n ne i r read = ap (λ (x : RefSet). slice_get x.refs i) (d.there n ne) ∙ read

    reach : {n : ℕ} {o : Option Ref} (leaf : Ref) → o ≡ Some leaf → leaf.key ≡ key → leaf.kind ≡ Inode → f.stands n ≡ true → f.root n ≡ t → d.goes n ≡ false → Reaches f key n o → Reached key n
    reach leaf is exact kind st_n root_n stay_n (nowhere miss) = absurd (let clash : None ≡ Some leaf = is in cc)
    reach leaf is exact kind st_n root_n stay_n (here {at = n} {r = r} i read in_r leafy) =
        let same : r ≡ leaf = one_of r leaf is in
        let key_is : r.key ≡ key = ap (λ (z : Ref). z.key) same ∙ exact in
        elim (same_or_not n at) as (λ _. Reached key n) [
          | inl e ↦ subst (Reached key) (sym e) (here_at i r (subst (λ z. slice_get (refs f z) i ≡ Some r) e read) in_r leafy key_is (subst (λ z. f.root z ≡ t) e root_n))
          | inr ne ↦ record { leaf = r; key_is = key_is; kind_is = ap (λ (z : Ref). z.kind) same ∙ kind; path = here {r = r} i (set_same n ne i r read) in_r leafy }
        ]
    reach {o = o} leaf is exact kind st_n root_n stay_n (below {at = n} {c = c} {r = r} i read in_r ind link rest) =
        let kid = (sound.node n st_n).child r.key c link in
        elim (same_or_not n at) as (λ _. Reached key n) [
          | inl e ↦
              let read' : slice_get (refs f at) i ≡ Some r = subst (λ z. slice_get (refs f z) i ≡ Some r) e read in
              let link' : f.link at r.key ≡ loaded c = subst (λ z. f.link z r.key ≡ loaded c) e link in
              let on = onward i c r leaf read' in_r ind link' exact (subst (λ z. f.root z ≡ t) e root_n) (subst (Reaches f key at) is (below {r = r} i read' in_r ind link' rest)) in
              subst (Reached key) (sym e) (on.up (reach leaf is exact kind kid.stands (kid.root ∙ root_n) on.stays rest))
          | inr ne ↦
              let it = reach leaf is exact kind kid.stands (kid.root ∙ root_n) (kid_stays f g at s d sound stands n r.key c st_n ne stay_n link) rest in
              record { leaf = it.leaf; key_is = it.key_is; kind_is = it.kind_is; path = below {r = r} i (set_same n ne i r read) in_r ind (link_same f g at s d sound stands n st_n ne stay_n r.key ∙ link) it.path }
        ]

  -- what stays belongs to what stays
  owners : (m t k : ℕ) → g.stands m ≡ true → g.belongs m t k ≡ true → HasOwner g m t k
  owners m t k now b =
      let st = d.none_new m now in
      let stay = now_stays f g at s d sound stands m now in
      let p = d.loose.place m st now in
      let bel : f.belongs m t k ≡ true = sym (p.belongs t k) ∙ b in
      let h = sound.owner m t k st bel in
      let top : d.goes t ≡ false = not_goes f g at s d sound stands t h.stands (λ why. elim why as (λ _. ⊥) [
        | inl goes ↦ not_below f g at s d sound stands t h.stands h.root goes
        | inr w ↦
            let far : f.belongs m (f.root at) w.key ≡ true = sound.chain m t k (f.root at) w.key st bel w.belongs in
            let goes : GoesWith f m at s = record {
              other = (sound.owner m (f.root at) w.key st far).other;
              key = w.key;
              leaf = w.leaf;
              loses = w.loses;
              reaches = w.reaches;
              exact = w.exact;
              belongs = far;
            } in
            let clash : true ≡ false = sym (d.goes_all m st (inr goes)) ∙ stay in
            cc
      ]) in
      let there : g.stands t ≡ true = d.stays t top ∙ h.stands in
      let it = reach m t k st bel h.other stay h.leaf refl h.key_is h.kind_is h.stands h.root top h.path in
      record {
        other = λ e. h.other (sym p.root ∙ e);
        stands = there;
        root = (d.loose.place t h.stands there).root ∙ h.root;
        leaf = it.leaf;
        key_is = it.key_is;
        kind_is = it.kind_is;
        path = it.path;
      }

  pub still : IsSound g
  still = sound_of f g d.loose sound
      (λ m now. elim (same_or_not m at) as (λ _. IsSoundNode g m) [
        | inl e ↦ subst (IsSoundNode g) (sym e) (here_node f g at s d sound stands suits)
        | inr ne ↦ other_node f g at s d sound stands suits m now ne
      ])
      (λ m now. let st = d.none_new m now in same_top f g d.loose m sound st now (root_now f g at s d sound stands m st (now_stays f g at s d sound stands m now)))
      (parent_now f g at s d sound stands suits) (held_now f g at s d sound stands suits) owners
      (λ m now. stood (d.none_new m now))

  pub others : (m : ℕ) → f.stands m ≡ true → (m ≡ at → ⊥) → (GoesBelow f m at s → ⊥) → (GoesWith f m at s → ⊥) → Same f g m
  others m st ne off with' =
      let stay = not_goes f g at s d sound stands m st (λ why. elim why as (λ _. ⊥) [
        | inl it ↦ off it
        | inr it ↦ with' it
      ]) in
      same_all f g d.loose m st (d.stays m stay ∙ st) (d.there m ne) (link_same f g at s d sound stands m st ne stay)

  pub gone : (m : ℕ) → f.stands m ≡ true → GoesBelow f m at s ⊎ GoesWith f m at s → g.stands m ≡ false
  gone m st why = d.gone m (d.goes_all m st why)

  pub stores : Fixed f g → Stores f g at s
  stores fixed = record {
    sound = still;
    fixed = fixed;
    set = d.here;
    place = d.loose.place at stands (at_now f g at s d sound stands);
    copies = d.loose.copies at stands (at_now f g at s d sound stands);
    link = kept f g at s d sound stands suits;
    others = others;
    gone = gone;
    none_new = d.none_new;
    spare = d.spare;
    room = d.room;
    failed = d.failed;
    bad = d.bad;
    met = d.met;
  }
