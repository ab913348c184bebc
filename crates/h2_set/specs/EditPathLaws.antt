-- Loaded paths through a node whose set is split or stored.
use Rattle.std.proofs.Common.{◌≡◌, ℕ, ◌+◌, ◌<◌, ◌≤◌, ◌^◌, Bool, true, false, arith, refl, sym, ◌∙◌, ap, cond, List, [], ◌∷◌, Option, Some, None, subst, ◌⊎◌, inl, inr, slice_get, suc, zero}
use Rattle.std.specs.Prelude.{filter, not}
use Rattle.std.proofs.lemmas.Nat.{pow_pos}
use Rattle.std.proofs.lemmas.Option.{none-some}
use Rattle.h2_ref.specs.declared.reference.Ref.{Ref}
use Rattle.h2_set.specs.declared.set.Split.{Split}
use Rattle.h2_set.specs.RefSet.{RefSet}
use Rattle.h2_set.specs.Ranges.{leads_on, limit, holds, lies, put, Apart, IsApart, Sides, NoneHolds, is_indirect}
use Rattle.h2_set.specs.Forest.{Forest, refs, loaded, IsSound, IsSoundNode, Reaches, nowhere, here, below}
use Rattle.h2_set.specs.Calls.{Stays, Same, MadeFrom, Makes}
use Rattle.h2_set.specs.LeafLaws.{holds_inside}
use Rattle.h2_set.specs.EditLaws.{before_apart, behind_apart, apart_tail}
use Rattle.h2_set.specs.PutLaws.{put_from, put_keeps}
use Rattle.h2_set.specs.PartLaws.{lies_inside}
use Rattle.h2_set.specs.MadeLaws.{parts_node}
use Rattle.h2_set.specs.StayLaws.{Same-Stays, stands_below}
use Rattle.h2_set.specs.ChangeLaws.{same_or_not}
use Rattle.h2_set.specs.RenewLaws.{like_at, Alike-sym}
use Rattle.h2_set.specs.PathLaws.{in_holds, same_holds, reaches_along}

pub filter_from : (p : Ref → Bool) (l : List Ref) (i : ℕ) (r : Ref) → slice_get (filter p l) i ≡ Some r → (p r ≡ true) × ((j : ℕ) × (slice_get l j ≡ Some r))
filter_from p [] i r read = absurd (none-some r read)
filter_from p (x ∷ xs) i r read = head (p x) refl i read (filter_from p xs)
  where
    head : (b : Bool) → p x ≡ b → (i : ℕ) → slice_get (cond b (x ∷ filter p xs) (filter p xs)) i ≡ Some r → ((i : ℕ) (q : Ref) → slice_get (filter p xs) i ≡ Some q → (p q ≡ true) × ((j : ℕ) × (slice_get xs j ≡ Some q))) → (p r ≡ true) × ((j : ℕ) × (slice_get (x ∷ xs) j ≡ Some r))
    head true e zero read' more = let same : x ≡ r = (cc) in (ap p (sym same) ∙ e, (0, read'))
    head true e (suc i) read' more = let it = more i r read' in (it.0, (suc it.1.0, it.1.1))
    head false e i read' more = let it = more i r read' in (it.0, (suc it.1.0, it.1.1))

pub filter_has : (p : Ref → Bool) (l : List Ref) (j : ℕ) (r : Ref) → slice_get l j ≡ Some r → p r ≡ true → (i : ℕ) × (slice_get (filter p l) i ≡ Some r)
filter_has p [] j r read e = absurd (none-some r read)
filter_has p (x ∷ xs) zero r read e = let same : x ≡ r = (cc) in rw (same, e) (0, refl)
filter_has p (x ∷ xs) (suc j) r read e = head (p x) (filter_has p xs j r read e)
  where
    head : (b : Bool) → (i : ℕ) × (slice_get (filter p xs) i ≡ Some r) → (i : ℕ) × (slice_get (cond b (x ∷ filter p xs) (filter p xs)) i ≡ Some r)
    head true it = (suc it.0, it.1)
    head false it = it

-- what is put in stands there
pub put_has : (leaf : Ref) (rs : List Ref) → IsApart leaf rs → (i : ℕ) × (slice_get (put leaf rs) i ≡ Some leaf)
put_has leaf [] a = (0, refl)
put_has leaf (x ∷ xs) a = elim (a 0 x refl) as (λ _. (i : ℕ) × (slice_get (put leaf (x ∷ xs)) i ≡ Some leaf)) [
  | inl lower ↦ rw (before_apart leaf x lower) (0, refl)
  | inr upper ↦
      let e = behind_apart leaf x upper in
      let it = put_has leaf xs (apart_tail leaf x xs a) in
      rw (e.0, e.1) (suc it.0, it.1)
]

-- The paths of one key from any node of P, where each node of P but one stays, and at that one the path stays.
module _ (f g : Forest) (key at : ℕ) (sound : IsSound f) (P : ℕ → Type 0) (stands : (m : ℕ) → P m → f.stands m ≡ true) (closed : (m i c : ℕ) (r : Ref) → P m → slice_get (refs f m) i ≡ Some r → holds key r ≡ true → f.link m r.key ≡ loaded c → P c) (stay : (m : ℕ) → P m → (m ≡ at → ⊥) → Stays f g m) where
  -- below the node they stay
  pub below_stays : {c : ℕ} {o : Option Ref} → P c → f.bits c < f.bits at → Reaches f key c o → Reaches g key c o
  below_stays p fewer reached =
      let Q : ℕ → Type 0 = λ m. P m × (f.bits m < f.bits at) in
      let closed' : (m i e : ℕ) (r : Ref) → Q m → slice_get (refs f m) i ≡ Some r → holds key r ≡ true → f.link m r.key ≡ loaded e → Q e = λ m i e r q read in_r link. (closed m i e r q.0 read in_r link, omega (arith, ((sound.node m (stands m q.0)).child r.key e link).fewer, q.1)) in
      let stay' : (m : ℕ) → Q m → Stays f g m = λ m q. stay m q.0 (λ e. let same = ap f.bits e in omega (arith, same, q.1)) in
      reaches_along f g key Q closed' stay' (p, fewer) reached

  pub reaches_edit : {m : ℕ} {o : Option Ref} → (P at → Reaches f key at o → Reaches g key at o) → P m → Reaches f key m o → Reaches g key m o
  reaches_edit own p (nowhere {at = m} miss) = elim (same_or_not m at) as (λ _. Reaches g key m None) [
    | inl same ↦ subst (λ z. Reaches g key z None) (sym same) (own (subst P same p) (subst (λ z. Reaches f key z None) same (nowhere {at = m} miss)))
    | inr ne ↦ nowhere (λ i q read.
        let it = like_at (refs g m) (refs f m) (Alike-sym (refs f m) (refs g m) (stay m p ne).alike) i q read in
        same_holds key it.ref q false (sym it.like.key) (sym it.like.keybits) (miss i it.ref it.read))
  ]
  reaches_edit own p (here {at = m} {r = r} i read in_r leaf) = elim (same_or_not m at) as (λ _. Reaches g key m (Some r)) [
    | inl same ↦ subst (λ z. Reaches g key z (Some r)) (sym same) (own (subst P same p) (subst (λ z. Reaches f key z (Some r)) same (here {at = m} {r = r} i read in_r leaf)))
    | inr ne ↦
        let it = like_at (refs f m) (refs g m) (stay m p ne).alike i r read in
        here {r = r} i (it.read ∙ ap Some (it.like.leaf leaf)) in_r leaf
  ]
  reaches_edit {o = o} own p (below {at = m} {c = c} {r = r} i read in_r ind link rest) =
      let rest' : Reaches g key c o = reaches_edit own (closed m i c r p read in_r link) rest in
      elim (same_or_not m at) as (λ _. Reaches g key m o) [
        | inl same ↦ subst (λ z. Reaches g key z o) (sym same) (own (subst P same p) (subst (λ z. Reaches f key z o) same (below {at = m} {c = c} {r = r} i read in_r ind link rest)))
        | inr ne ↦
            let it = like_at (refs f m) (refs g m) (stay m p ne).alike i r read in
            let link' : g.link m it.ref.key ≡ loaded c = ap (g.link m) it.like.key ∙ (stay m p ne).near r.key c link in
            below {r = it.ref} i it.read (same_holds key r it.ref true it.like.key it.like.keybits in_r) (ap leads_on it.like.kind ∙ ind) link' rest'
      ]

  -- The set of the node is s now, and what was below its references is so still: the path of a key stays where the
  -- reference that holds the key does, or where there was none and is none.
  pub stored_path : {m : ℕ} {o : Option Ref} (s : RefSet) → g.set at ≡ s → ((i : ℕ) (r : Ref) → slice_get s.refs i ≡ Some r → is_indirect r ≡ true → g.link at r.key ≡ f.link at r.key) → ((i : ℕ) (r : Ref) → slice_get (refs f at) i ≡ Some r → holds key r ≡ true → (j : ℕ) × (slice_get s.refs j ≡ Some r)) → (NoneHolds key (refs f at) → NoneHolds key s.refs) → P m → Reaches f key m o → Reaches g key m o
  stored_path {m} {o} s set link keeps none p reached = reaches_edit own p reached
    where
      there : (j : ℕ) (r : Ref) → slice_get s.refs j ≡ Some r → slice_get (refs g at) j ≡ Some r
      there j r read = subst (λ (t : RefSet). slice_get t.refs j ≡ Some r) (sym set) read

      own_at : {z : ℕ} {a : Option Ref} → z ≡ at → P at → Reaches f key z a → Reaches g key at a
      own_at same p_at (nowhere {at = z} miss) =
          let misses = none (subst (λ y. NoneHolds key (refs f y)) same miss) in
          nowhere (subst (λ (t : RefSet). NoneHolds key t.refs) (sym set) misses)
      own_at same p_at (here {at = z} {r = r} i read in_r leaf) =
          let it = keeps i r (subst (λ y. slice_get (refs f y) i ≡ Some r) same read) in_r in
          here {r = r} it.0 (there it.0 r it.1) in_r leaf
      own_at same p_at (below {at = z} {c = c} {r = r} i read in_r ind link' rest) =
          let it = keeps i r (subst (λ y. slice_get (refs f y) i ≡ Some r) same read) in_r in
          let link_at : f.link at r.key ≡ loaded c = subst (λ y. f.link y r.key ≡ loaded c) same link' in
          let kid = (sound.node at (stands at p_at)).child r.key c link_at in
          below {r = r} it.0 (there it.0 r it.1) in_r ind (link it.0 r it.1 ind ∙ link_at) (below_stays (closed at i c r p_at (subst (λ y. slice_get (refs f y) i ≡ Some r) same read) in_r link_at) kid.fewer rest)

      own : P at → Reaches f key at o → Reaches g key at o
      own p_at reached' = own_at refl p_at reached'

-- the references `all` were parted: those of the range stand in node c, to which one of node n leads, and n has the others
pub record PartsRefs (f g : Forest) (n c key bits : ℕ) (all : List Ref) (ref : Ref) : Type 0 where
  pub moved : refs g c ≡ filter (lies key bits) all
  pub kept : refs g n ≡ put ref (filter (λ q. not (lies key bits q)) all)
  pub indirect : is_indirect ref ≡ true
  pub ref_key : ref.key ≡ key
  pub ref_bits : ref.keybits ≡ bits
  pub link : g.link n key ≡ loaded c
  pub sides : (i : ℕ) (r : Ref) → slice_get all i ≡ Some r → Sides key bits r
  pub below_moved : (k : ℕ) → key ≤ k → k < key + 2 ^ bits → g.link c k ≡ f.link n k
  pub below_kept : (k : ℕ) → (k < key) ⊎ (key + 2 ^ bits ≤ k) → g.link n k ≡ f.link n k

module _ (f g : Forest) (n c key bits : ℕ) (all : List Ref) (ref : Ref) (it : PartsRefs f g n c key bits all ref) where
  -- the references outside of the range
  abbrev outer : List Ref
  outer = filter (λ q. not (lies key bits q)) all

  ref_limit : limit ref ≡ key + 2 ^ bits
  ref_limit = rw (it.ref_key, it.ref_bits) refl

  not_in : (q : Ref) → not (lies key bits q) ≡ true → lies key bits q ≡ false
  not_in q e = by (lies key bits q) e
    where
      by : (b : Bool) → not b ≡ true → b ≡ false
      by false e' = refl
      by true e' = let clash : false ≡ true = e' in cc

  ref_apart : IsApart ref outer
  ref_apart i q read =
      let there = filter_from (λ x. not (lies key bits x)) all i q read in
      elim (it.sides there.1.0 q there.1.1) as (λ _. Apart ref q) [
        | inl in_it ↦ let clash : true ≡ false = sym in_it ∙ not_in q there.0 in cc
        | inr out ↦ elim out as (λ _. Apart ref q) [
          | inl before ↦ inr (omega (arith, before, it.ref_key))
          | inr behind ↦ inl (omega (arith, behind, ref_limit))
        ]
      ]

  ref_there : (i : ℕ) × (slice_get (refs g n) i ≡ Some ref)
  ref_there = let there = put_has ref outer ref_apart in (there.0, subst (λ l. slice_get l there.0 ≡ Some ref) (sym it.kept) there.1)

  link_ref : g.link n ref.key ≡ loaded c
  link_ref = ap (g.link n) it.ref_key ∙ it.link

  ref_holds : (k : ℕ) (r : Ref) → lies key bits r ≡ true → holds k r ≡ true → holds k ref ≡ true
  ref_holds k r in_it in_r =
      let inside = lies_inside key bits r in_it in
      let there = holds_inside k r in_r in
      in_holds k ref (omega (arith, inside.0, there.0, it.ref_key)) (omega (arith, inside.1, there.1, ref_limit))

  -- from the node by a leaf among them
  pub parted_here : (k j : ℕ) (r : Ref) → slice_get all j ≡ Some r → holds k r ≡ true → is_indirect r ≡ false → Reaches g k n (Some r)
  parted_here k j r read in_r is_leaf = by (lies key bits r) refl
    where
      by : (b : Bool) → lies key bits r ≡ b → Reaches g k n (Some r)
      by true e =
          let there = filter_has (lies key bits) all j r read e in
          let moved : slice_get (refs g c) there.0 ≡ Some r = subst (λ l. slice_get l there.0 ≡ Some r) (sym it.moved) there.1 in
          below {r = ref} ref_there.0 ref_there.1 (ref_holds k r e in_r) it.indirect link_ref (here {r = r} there.0 moved in_r is_leaf)
      by false e =
          let there = filter_has (λ q. not (lies key bits q)) all j r read (ap not e) in
          let kept = put_keeps ref outer ref_apart there.0 r there.1 in
          here {r = r} kept.0 (subst (λ l. slice_get l kept.0 ≡ Some r) (sym it.kept) kept.1) in_r is_leaf

  -- by one of them that leads on
  pub parted_below : (k j d : ℕ) (r : Ref) (o : Option Ref) → slice_get all j ≡ Some r → holds k r ≡ true → is_indirect r ≡ true → f.link n r.key ≡ loaded d → Reaches g k d o → Reaches g k n o
  parted_below k j d r o read in_r ind link rest = by (lies key bits r) refl
    where
      by : (b : Bool) → lies key bits r ≡ b → Reaches g k n o
      by true e =
          let there = filter_has (lies key bits) all j r read e in
          let moved : slice_get (refs g c) there.0 ≡ Some r = subst (λ l. slice_get l there.0 ≡ Some r) (sym it.moved) there.1 in
          let inside = lies_inside key bits r e in
          let pos = pow_pos r.keybits in
          let link' : g.link c r.key ≡ loaded d = it.below_moved r.key inside.0 (omega (arith, inside.1, pos)) ∙ link in
          below {r = ref} ref_there.0 ref_there.1 (ref_holds k r e in_r) it.indirect link_ref (below {r = r} there.0 moved in_r ind link' rest)
      by false e =
          let there = filter_has (λ q. not (lies key bits q)) all j r read (ap not e) in
          let kept = put_keeps ref outer ref_apart there.0 r there.1 in
          let pos = pow_pos r.keybits in
          let outside : (r.key < key) ⊎ (key + 2 ^ bits ≤ r.key) = elim (it.sides j r read) as (λ _. (r.key < key) ⊎ (key + 2 ^ bits ≤ r.key)) [
            | inl in_it ↦ let clash : true ≡ false = sym in_it ∙ e in cc
            | inr out ↦ elim out as (λ _. (r.key < key) ⊎ (key + 2 ^ bits ≤ r.key)) [
              | inl before ↦ inl (omega (arith, before, pos))
              | inr behind ↦ inr behind
            ]
          ] in
          below {r = r} kept.0 (subst (λ l. slice_get l kept.0 ≡ Some r) (sym it.kept) kept.1) in_r ind (it.below_kept r.key outside ∙ link) rest

  -- and to none where none of them holds the key
  pub parted_nowhere : (k : ℕ) → NoneHolds k all → Reaches g k n None
  parted_nowhere k miss = by (holds k ref) refl
    where
      by : (b : Bool) → holds k ref ≡ b → Reaches g k n None
      by true e = below {r = ref} ref_there.0 ref_there.1 e it.indirect link_ref (nowhere (λ i r read.
          let there = filter_from (lies key bits) all i r (subst (λ l. slice_get l i ≡ Some r) it.moved read) in
          miss there.1.0 r there.1.1))
      by false e = nowhere (λ i r read. elim (put_from ref outer ref_apart i r (subst (λ l. slice_get l i ≡ Some r) it.kept read)) as (λ _. holds k r ≡ false) [
        | inl new ↦ subst (λ (x : Ref). holds k x ≡ false) (sym new) e
        | inr old ↦ let there = filter_from (λ q. not (lies key bits q)) all old.0 r old.1 in miss there.1.0 r there.1.1
      ])

-- making a node keeps the path of each key that had a leaf, or that isn't in the range of the leaf that goes in
pub made_path : (f g : Forest) (at c : ℕ) (leaf ref : Ref) (key bits : ℕ) → IsSound f → f.stands at ≡ true → IsApart leaf (refs f at) → PartsRefs f g at c key bits (put leaf (refs f at)) ref → ((m : ℕ) → f.stands m ≡ true → (m ≡ at → ⊥) → Same f g m) → (k m : ℕ) (o : Option Ref) → f.stands m ≡ true → (o ≡ None → holds k leaf ≡ false) → Reaches f k m o → Reaches g k m o
made_path f g at c leaf ref key bits sound stands apart parts others k m o st out reached =
    let stay : (n : ℕ) → f.stands n ≡ true → (n ≡ at → ⊥) → Stays f g n = λ n st' ne. Same-Stays f g n (others n st' ne) in
    reaches_edit f g k at sound (λ n. f.stands n ≡ true) (λ n p. p) (λ n i d r p read in_r link. stands_below f sound n r.key d p link) stay (λ p. own refl p out) st reached
  where
    all_miss : NoneHolds k (refs f at) → holds k leaf ≡ false → NoneHolds k (put leaf (refs f at))
    all_miss miss off j r read = elim (put_from leaf (refs f at) apart j r read) as (λ _. holds k r ≡ false) [
      | inl new ↦ subst (λ (x : Ref). holds k x ≡ false) (sym new) off
      | inr old ↦ miss old.0 r old.1
    ]

    own : {z : ℕ} {a : Option Ref} → z ≡ at → f.stands at ≡ true → (a ≡ None → holds k leaf ≡ false) → Reaches f k z a → Reaches g k at a
    own same p off (nowhere {at = z} miss) = parted_nowhere f g at c key bits (put leaf (refs f at)) ref parts k (all_miss (subst (λ y. NoneHolds k (refs f y)) same miss) (off refl))
    own same p off (here {at = z} {r = r} i read in_r is_leaf) =
        let there = put_keeps leaf (refs f at) apart i r (subst (λ y. slice_get (refs f y) i ≡ Some r) same read) in
        parted_here f g at c key bits (put leaf (refs f at)) ref parts k there.0 r there.1 in_r is_leaf
    own {a = a} same p off (below {at = z} {c = d} {r = r} i read in_r ind link rest) =
        let there = put_keeps leaf (refs f at) apart i r (subst (λ y. slice_get (refs f y) i ≡ Some r) same read) in
        let link_at : f.link at r.key ≡ loaded d = subst (λ y. f.link y r.key ≡ loaded d) same link in
        let kid = (sound.node at p).child r.key d link_at in
        let rest' : Reaches g k d a = below_stays f g k at sound (λ n. f.stands n ≡ true) (λ n q. q) (λ n j' e r' q read' in_r' link'. stands_below f sound n r'.key e q link') (λ n st' ne. Same-Stays f g n (others n st' ne)) kid.stands kid.fewer rest in
        parted_below f g at c key bits (put leaf (refs f at)) ref parts k there.0 d r a there.1 in_r ind link_at rest'

-- what a made node parts
pub makes_parts : (f g : Forest) (at c : ℕ) (leaf : Ref) (set : RefSet) (s : Split) → IsSoundNode f at → (made : MadeFrom f at leaf set s) → (makes : Makes f g at c set s) → PartsRefs f g at c s.key s.keybits (put leaf (refs f at)) makes.ref
makes_parts f g at c leaf set s node made makes = record {
  moved = ap (λ (t : RefSet). t.refs) (makes.moved ∙ made.moved);
  kept = ap (λ (t : RefSet). t.refs) makes.now ∙ ap (put makes.ref) made.kept;
  indirect = makes.indirect;
  ref_key = makes.key;
  ref_bits = makes.keybits;
  link = makes.child;
  sides = (parts_node f at leaf set s node made).sides;
  below_moved = makes.below_moved;
  below_kept = makes.below_kept;
}

pub makes_path : (f g : Forest) (at c : ℕ) (leaf : Ref) (set : RefSet) (s : Split) → IsSound f → f.stands at ≡ true → MadeFrom f at leaf set s → Makes f g at c set s → (k m : ℕ) (o : Option Ref) → f.stands m ≡ true → (o ≡ None → holds k leaf ≡ false) → Reaches f k m o → Reaches g k m o
makes_path f g at c leaf set s sound stands made makes k m o st out reached = made_path f g at c leaf makes.ref s.key s.keybits sound stands made.apart (makes_parts f g at c leaf set s (sound.node at stands) made makes) makes.others k m o st out reached
