-- A node that is loaded.
use Rattle.std.proofs.Common.{◌≡◌, ℕ, ◌+◌, ◌≤◌, ◌^◌, true, false, arith, refl, sym, ◌∙◌, ap, List, [], ◌∷◌, Option, Some, subst, ◌⊎◌, inl, inr, slice_get, suc}
use Rattle.h2_ref.specs.declared.reference.Ref.{Ref}
use Rattle.h2_set.specs.Ranges.{Rising, limit, is_indirect}
use Rattle.h2_set.specs.RefSet.{RefSet, IsRefSet}
use Rattle.h2_set.specs.Forest.{Forest, refs, loaded, told, untold, IsSound, IsSoundNode, IsChild, NamesBelow, Fits, HasParent, HasOwner}
use Rattle.h2_set.specs.Calls.{InPlace, Stays, Keeps, Walks, Loads, Below, Alike}
use Rattle.h2_set.specs.ChangeLaws.{same_or_not, Keeps-Stays}
use Rattle.h2_set.specs.LeafLaws.{place_above}
use Rattle.h2_set.specs.SplitLaws.{below_high}
use Rattle.h2_set.specs.StayLaws.{Alike-refl}
use Rattle.h2_memory_sets.specs.declared.node.Node.{Node}
use Rattle.h2_memory_sets.specs.Owners.{allows_of}
use Rattle.h2_memory_sets.specs.View.{leaf_bits_of, AllFitBelow}
use Rattle.h2_memory_sets.proofs.Lists.{same_key}
use Rattle.h2_memory_sets.proofs.Settled.{Settled, KeepsRules, CameOf, stood, like, keeps_rules, owners_stay, fits_in, child_in, placed, same_node, same_keeps, same_top, sound_of}

-- two forests of which the second has one node loaded that the first hasn't
pub record DiffersByLoad (f g : Forest) (at c : ℕ) (r : Ref) : Type 0 where
  pub settled : Settled f g
  pub fresh : f.stands c ≡ false
  pub under : f.root at ≡ c → ⊥
  pub new : g.stands c ≡ true
  pub stands : (m : ℕ) → (m ≡ c → ⊥) → g.stands m ≡ true → f.stands m ≡ true
  pub root : g.root c ≡ f.root at
  pub low : g.low c ≡ r.key
  pub bits : g.bits c ≡ r.keybits
  pub clean : g.writable c ≡ false
  pub copies : g.copies c ≡ f.copies at + 1
  pub set : IsRefSet (g.set c)
  -- it was judged by the rules of the root
  pub rules : Option Node
  pub rules_leaf : leaf_bits_of rules ≡ f.leaf_bits (f.root at)
  pub rules_allow : (q : Ref) → allows_of rules q ≡ true → f.allows (f.root at) q ≡ true
  pub fits : AllFitBelow r rules (g.set c)
  pub belongs : (t k : ℕ) → g.belongs c t k ≡ f.belongs at t k
  pub there : (m : ℕ) → f.stands m ≡ true → g.set m ≡ f.set m
  pub link : (m k : ℕ) → f.stands m ≡ true → (m ≡ at → k ≡ r.key → ⊥) → g.link m k ≡ f.link m k
  pub child : g.link at r.key ≡ loaded c
  pub was : f.link at r.key ≡ untold
  pub bare : (k d : ℕ) → g.link c k ≡ loaded d → ⊥
  pub spare : g.spare ≡ f.spare
  pub room : g.room ≡ f.room

-- references between two keys, in order
between_rest : (low high high' : ℕ) (rs : List Ref) → Rising low high rs → ((i : ℕ) (r : Ref) → slice_get rs i ≡ Some r → limit r ≤ high') → low ≤ high' → Rising low high' rs
between_rest low high high' [] h all le = le
between_rest low high high' (r ∷ rs) h all le = (h.0, between_rest (limit r) high high' rs h.1 (λ i q read. all (suc i) q read) (all 0 r refl))

Rising-between : (low low' high high' : ℕ) (rs : List Ref) → Rising low high rs → ((i : ℕ) (r : Ref) → slice_get rs i ≡ Some r → low' ≤ r.key) → ((i : ℕ) (r : Ref) → slice_get rs i ≡ Some r → limit r ≤ high') → low' ≤ high' → Rising low' high' rs
Rising-between low low' high high' [] h from to le = le
Rising-between low low' high high' (r ∷ rs) h from to le = (from 0 r refl, between_rest (limit r) high high' rs h.1 (λ i q read. to (suc i) q read) (to 0 r refl))

module _ (f g : Forest) (at c i : ℕ) (r : Ref) (d : DiffersByLoad f g at c r) (sound : IsSound f) (stands : f.stands at ≡ true) (read : slice_get (refs f at) i ≡ Some r) (ind : is_indirect r ≡ true) where
  node : IsSoundNode f at
  node = sound.node at stands

  fits : Fits f at r
  fits = node.fits i r read

  starts : f.low at ≤ r.key
  starts = place_above _ _ (refs f at) i r node.inside read

  ends : limit r ≤ f.low at + 2 ^ f.bits at
  ends = below_high _ _ (refs f at) i r node.inside read

  stays : (m : ℕ) → f.stands m ≡ true → g.stands m ≡ true
  stays = d.settled.stands

  place : (m : ℕ) → f.stands m ≡ true → InPlace f g m
  place m st = d.settled.loose.place m st (stays m st)

  rules : KeepsRules f g (f.root at)
  rules = keeps_rules f g d.settled sound at stands

  refs_same : (m : ℕ) → f.stands m ≡ true → refs g m ≡ refs f m
  refs_same m st = ap (λ (t : RefSet). t.refs) (d.there m st)

  at_start : (e : ℕ) → g.link at r.key ≡ loaded e → c ≡ e
  at_start e l = let it : loaded c ≡ loaded e = sym d.child ∙ l in cc

  fresh_child : IsChild g at r.key c
  fresh_child =
      let p = place at stands in
      record {
        stands = d.new;
        root = d.root ∙ sym p.root;
        low = d.low;
        above = rw (p.low, d.low) starts;
        within = rw (p.low, d.low, p.bits, d.bits) ends;
        fewer = rw (p.bits, d.bits) (fits.falls ind);
        copies = (let s = d.settled.loose in rw (d.clean, s.copies at stands (stays at stands)) d.copies);
        belongs = λ t k. d.belongs t k ∙ sym (p.belongs t k);
      }

  here_child : (k e : ℕ) → g.link at k ≡ loaded e → IsChild g at k e
  here_child k e l = elim (same_or_not k r.key) as (λ _. IsChild g at k e) [
    | inr ne ↦ let kid = node.child k e (sym (d.link at k stands (λ _ q. ne q)) ∙ l) in child_in f g d.settled.loose at k e stands (stays at stands) (stays e kid.stands) kid
    | inl same ↦
        let it : c ≡ e = at_start e (ap (g.link at) (sym same) ∙ l) in
        subst (λ z. IsChild g at z e) (sym same) (subst (IsChild g at r.key) it fresh_child)
  ]

  here_named : (k e : ℕ) → g.link at k ≡ loaded e → NamesBelow (refs f at) k
  here_named k e l = elim (same_or_not k r.key) as (λ _. NamesBelow (refs f at) k) [
    | inr ne ↦ node.named k e (sym (d.link at k stands (λ _ q. ne q)) ∙ l)
    | inl same ↦ record { place = i; ref = r; read = read; indirect = ind; key = sym same }
  ]

  here_bits : (j e : ℕ) (q : Ref) → slice_get (refs f at) j ≡ Some q → is_indirect q ≡ true → g.link at q.key ≡ loaded e → g.bits e ≡ q.keybits
  here_bits j e q got q_ind l = elim (same_or_not q.key r.key) as (λ _. g.bits e ≡ q.keybits) [
    | inr ne ↦
        let l' : f.link at q.key ≡ loaded e = sym (d.link at q.key stands (λ _ k. ne k)) ∙ l in
        let kid = node.child q.key e l' in
        (place e kid.stands).bits ∙ node.bits j e q got q_ind l'
    | inl same ↦
        let it : c ≡ e = at_start e (ap (g.link at) (sym same) ∙ l) in
        let one : q ≡ r = same_key _ _ (refs f at) j i q r node.inside got read same in
        ap g.bits (sym it) ∙ d.bits ∙ ap (λ (z : Ref). z.keybits) (sym one)
  ]

  here_node : IsSoundNode g at
  here_node =
      let p = place at stands in
      let same = refs_same at stands in
      placed f g d.settled.loose at stands (stays at stands) node (record {
        set = rw (d.there at stands) node.set;
        capacity = ap (λ (t : RefSet). t.capacity) (d.there at stands);
        inside = rw (same, p.low, p.bits) node.inside;
        fits = λ j q got. fits_in f g d.settled.loose at q stands (stays at stands) rules (node.fits j q (rw same at got));
        some = λ top. rw same (node.some (λ e. top (p.root ∙ e)));
        child = here_child;
        named = λ k e l. rw same (here_named k e l);
        bits = λ j e q got q_ind l. here_bits j e q (rw same at got) q_ind l;
      })

  new_fits : (j : ℕ) (q : Ref) → slice_get (refs g c) j ≡ Some q → Fits g c q
  new_fits j q got =
      let h = d.fits.each j q got in
      let grain : g.leaf_bits (g.root c) ≡ f.leaf_bits (f.root at) = ap g.leaf_bits d.root ∙ d.settled.loose.leaf_bits (f.root at) rules.stood rules.stands in
      record {
        held = h.held;
        aligned = h.aligned;
        class = h.class;
        leaf = λ k. h.leaf k ∙ d.rules_leaf ∙ sym grain;
        allowed = λ k. ap (λ n. g.allows n q) d.root ∙ rules.allows q (d.rules_allow q (h.allowed k));
        wide = λ k. rw grain (let it = h.wide k in rw d.rules_leaf at it);
        some_bits = h.some_bits;
        falls = λ k. rw d.bits h.fewer;
      }

  new_node : IsSoundNode g c
  new_node =
      let fewer = fits.falls ind in
      let slope = node.slope in
      let top = node.ends in
      let stop = ends in
      record {
        set = d.set;
        root_capacity = λ top. absurd (d.under (sym d.root ∙ top));
        block_capacity = λ _. d.fits.capacity;
        inside = rw (d.low, d.bits) (Rising-between 0 r.key (2 ^ 64) (limit r) (refs g c) d.set.rising (λ j q got. (d.fits.each j q got).low) (λ j q got. (d.fits.each j q got).high) (omega arith));
        aligned = rw (d.low, d.bits) fits.aligned;
        ends = rw (d.low, d.bits) (omega (arith, top, stop));
        fits = new_fits;
        some = λ _. d.fits.some;
        child = λ k e l. absurd (d.bare k e l);
        named = λ k e l. absurd (d.bare k e l);
        bits = λ j e q got q_ind l. absurd (d.bare q.key e l);
        top = λ top. absurd (d.under (sym d.root ∙ top));
        half = λ top. absurd (d.under (sym d.root ∙ top));
        slope = rw (d.copies, d.bits) (omega (arith, fewer, slope));
      }

  pub keeps : (m : ℕ) → f.stands m ≡ true → (m ≡ at → ⊥) → Keeps f g m
  keeps m st ne = same_keeps f g d.settled m st (d.there m st) (λ k. d.link m k st (λ e _. ne e))

  here_stays : Stays f g at
  here_stays = record {
    place = place at stands;
    alike = subst (λ (t : RefSet). Alike (refs f at) t.refs) (sym (d.there at stands)) (Alike-refl (refs f at));
    near = λ k e l. elim (same_or_not k r.key) as (λ _. g.link at k ≡ loaded e) [
      | inr ne ↦ d.link at k stands (λ _ q. ne q) ∙ l
      | inl same ↦ let clash : untold ≡ loaded e = sym d.was ∙ ap (f.link at) (sym same) ∙ l in absurd (cc)
    ];
    far = λ k ls l. elim (same_or_not k r.key) as (λ _. Below g at k ls) [
      | inr ne ↦ inl (d.link at k stands (λ _ q. ne q) ∙ l)
      | inl same ↦ let clash : untold ≡ told ls = sym d.was ∙ ap (f.link at) (sym same) ∙ l in absurd (cc)
    ];
  }

  pub loads : Loads f g at r.key
  loads = record {
    keeps = keeps;
    link = λ j ne. d.link at j stands (λ _ q. ne q);
    new = λ m st. elim (same_or_not m c) as (λ _. (f.stands m ≡ true) ⊎ (g.link at r.key ≡ loaded m)) [
      | inl e ↦ inr (d.child ∙ ap loaded (sym e))
      | inr ne ↦ inl (d.stands m ne st)
    ];
  }

  new_top : (g.stands (g.root c) ≡ true) × (g.root (g.root c) ≡ g.root c)
  new_top =
      let t = sound.top at stands in
      let q = place (f.root at) t.0 in
      (ap g.stands d.root ∙ q.stands, ap g.root d.root ∙ q.root ∙ t.1 ∙ sym d.root)

  old_parent : (m : ℕ) → f.stands m ≡ true → (g.root m ≡ m → ⊥) → HasParent g m
  old_parent m old ne =
      let p = place m old in
      let h = sound.parent m old (λ e. ne (p.root ∙ e)) in
      let off : h.parent ≡ at → f.low m ≡ r.key → ⊥ = λ e q. (let clash : untold ≡ loaded m = sym d.was ∙ ap (f.link at) (sym q) ∙ ap (λ z. f.link z (f.low m)) (sym e) ∙ h.link in cc) in
      record { parent = h.parent; stands = stays h.parent h.stands; link = ap (g.link h.parent) p.low ∙ d.link h.parent (f.low m) h.stands off ∙ h.link }

  all_stay : (m : ℕ) → f.stands m ≡ true → Stays f g m
  all_stay m st = elim (same_or_not m at) as (λ _. Stays f g m) [
    | inl e ↦ subst (Stays f g) (sym e) here_stays
    | inr off ↦ Keeps-Stays f g m (keeps m st off)
  ]

  -- what was loaded belongs to what the node above it does
  owners : (m t k : ℕ) → g.stands m ≡ true → g.belongs m t k ≡ true → HasOwner g m t k
  owners m t k st b = elim (same_or_not m c) as (λ _. HasOwner g m t k) [
    | inr ne ↦ owners_stay f g d.settled sound all_stay m t k (d.stands m ne st) b
    | inl e ↦
        let p = place at stands in
        let h = owners_stay f g d.settled sound all_stay at t k stands (p.belongs t k ∙ sym (d.belongs t k) ∙ subst (λ z. g.belongs z t k ≡ true) e b) in
        record { other = λ same. h.other (p.root ∙ sym d.root ∙ sym (ap g.root e) ∙ same); stands = h.stands; root = h.root; leaf = h.leaf; key_is = h.key_is; kind_is = h.kind_is; path = h.path }
  ]

  came : (m : ℕ) → g.stands m ≡ true → CameOf f g d.settled.loose m
  came m st = elim (same_or_not m c) as (λ _. CameOf f g d.settled.loose m) [
    | inr ne ↦ stood (d.stands m ne st)
    | inl e ↦ like at stands (stays at stands) (ap g.root e ∙ d.root ∙ sym (place at stands).root) (λ t k. ap (λ z. g.belongs z t k) e ∙ d.belongs t k ∙ sym ((place at stands).belongs t k))
  ]

  pub walks : Walks f g
  walks = record {
    sound = sound_of f g d.settled.loose sound
        (λ m st. elim (same_or_not m c) as (λ _. IsSoundNode g m) [
          | inl e ↦ subst (IsSoundNode g) (sym e) new_node
          | inr ne ↦ elim (same_or_not m at) as (λ _. IsSoundNode g m) [
            | inl e ↦ subst (IsSoundNode g) (sym e) here_node
            | inr off ↦ let old = d.stands m ne st in same_node f g d.settled.loose m old st (keeps_rules f g d.settled sound m old) (sound.node m old) (d.there m old) (λ k. d.link m k old (λ e _. off e)) (λ k e l. stays e ((sound.node m old).child k e l).stands)
          ]
        ])
        (λ m st. elim (same_or_not m c) as (λ _. (g.stands (g.root m) ≡ true) × (g.root (g.root m) ≡ g.root m)) [
          | inl e ↦ subst (λ z. (g.stands (g.root z) ≡ true) × (g.root (g.root z) ≡ g.root z)) (sym e) new_top
          | inr ne ↦ let old = d.stands m ne st in same_top f g d.settled.loose m sound old st (stays (f.root m) (sound.top m old).0)
        ])
        (λ m st ne. elim (same_or_not m c) as (λ _. HasParent g m) [
          | inl e ↦ subst (HasParent g) (sym e) (record { parent = at; stands = stays at stands; link = ap (g.link at) d.low ∙ d.child })
          | inr off ↦ old_parent m (d.stands m off st) ne
        ])
        (λ m h. stays m (sound.held m h).0)
        owners
        came;
    fixed = d.settled.fixed;
    stays = all_stay;
    roots = λ m st own. elim (same_or_not m c) as (λ _. f.stands m ≡ true) [
      | inl e ↦ absurd (d.under (sym d.root ∙ subst (λ z. g.root z ≡ z) e own))
      | inr ne ↦ d.stands m ne st
    ];
    clean = λ m fresh st. elim (same_or_not m c) as (λ _. g.writable m ≡ false) [
      | inl e ↦ ap g.writable e ∙ d.clean
      | inr ne ↦ let clash : true ≡ false = sym (d.stands m ne st) ∙ fresh in absurd (cc)
    ];
    sets = λ m st. d.there m st;
    writable = λ m st. d.settled.loose.writable m st (stays m st);
    copies = λ m st. d.settled.loose.copies m st (stays m st);
    spare = d.spare;
    room = d.room;
  }
