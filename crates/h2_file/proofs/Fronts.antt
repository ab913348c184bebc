-- A node whose set is cut to its first references.
use Rattle.std.proofs.Common.{◌≡◌, ℕ, ◌+◌, ◌-◌, ◌%◌, ◌<◌, ◌≤◌, ◌^◌, Bool, true, false, arith, refl, sym, ◌∙◌, ap, List, [], ◌∷◌, length, Option, Some, None, subst, ◌⊎◌, inl, inr, slice_get, slice_set, take, suc, zero, min}
use Rattle.std.specs.Prelude.{IfSome}
use Rattle.std.proofs.lemmas.Nat.{pow_pos}
use Rattle.std.proofs.lemmas.Bool.{cases_lt}
use Rattle.std.proofs.lemmas.Option.{none-some, slice_get_within}
use Rattle.std.proofs.lemmas.List.{length-take}
use Rattle.h2_ref.specs.declared.reference.Ref.{Ref}
use Rattle.h2_ref.specs.declared.reference.Kind.{Kind}
use Rattle.h2_ref.specs.declared.reference.Kind.TheVariants.{Content}
use Rattle.h2_set.specs.Ranges.{Rising, limit, holds, is_indirect, leads_on}
use Rattle.h2_set.specs.RefSet.{RefSet}
use Rattle.h2_set.specs.Forest.{Forest, refs, loaded, HasLeaves, KeepsLeaves, Fits, IsSoundNode, IsSound, Reaches, nowhere, here, below}
use Rattle.h2_set.specs.Calls.{InPlace, Stays, Keeps, IsAlike, Alike, Alters, Stores, Storable, Same, GoesBelow, itself}
use Rattle.h2_set.specs.StayLaws.{Alike-refl, Fixed-trans, InPlace-trans, leaves_stay}
use Rattle.h2_set.specs.LeafLaws.{holds_inside, place_above}
use Rattle.h2_set.specs.EditLaws.{Rising-set, length-slice_set}
use Rattle.h2_set.specs.ChangeLaws.{Keeps-Stays, Keeps-trans, Same-Keeps, leaves_move, same_or_not, apart_places}
use Rattle.h2_set.specs.SplitLaws.{nested, below_high}
use Rattle.h2_set.specs.RenewLaws.{Keeps-Renews, Renews-trans, Alike-sym, like_at}
use Rattle.h2_tree.specs.Changes.{Under}
use Rattle.h2_file.specs.Blocks.{HasContents}
use Rattle.h2_file.specs.Cutting.{front, FitsLast, ReachesBy, misses, arrives, leads, GoesBehind, KeepsFront}
use Rattle.h2_file.proofs.Altered.{own_set, altered_place, altered_link, altered_length, off_set, nothing_goes, contents_keep}
use Rattle.h2_file.proofs.Parts.{take_from, set_from, taken_at, Rising-take, in_order}

-- Loaded paths through nodes that keep what they have

pub same_holds : (key : ℕ) (r q : Ref) (b : Bool) → IsAlike r q → holds key r ≡ b → holds key q ≡ b
same_holds key r q b like e = rw (like.key, like.keybits) e

pub same_holds_back : (key : ℕ) (r q : Ref) (b : Bool) → IsAlike r q → holds key q ≡ b → holds key r ≡ b
same_holds_back key r q b like e = rw (like.key, like.keybits) at e

pub reaches_keeps : (f g : Forest) (P : ℕ → Type 0) → ((m k c : ℕ) → P m → f.link m k ≡ loaded c → P c) → ((m : ℕ) → P m → Keeps f g m) → {key n : ℕ} {o : Option Ref} → P n → Reaches f key n o → Reaches g key n o
reaches_keeps f g P closed keep {key = key} p (nowhere {at = n} miss) = nowhere (λ i r read. let it = like_at (refs g n) (refs f n) (Alike-sym (refs f n) (refs g n) (keep n p).alike) i r read in same_holds_back key r it.ref false it.like (miss i it.ref it.read))
reaches_keeps f g P closed keep p (here {at = n} {r = r} i read in_r k) =
    let it = like_at (refs f n) (refs g n) (keep n p).alike i r read in
    here {r = r} i (subst (λ (y : Ref). slice_get (refs g n) i ≡ Some y) (it.like.leaf k) it.read) in_r k
reaches_keeps f g P closed keep {key = key} p (below {at = n} {c = c} {r = r} i read in_r ind link rest) =
    let it = like_at (refs f n) (refs g n) (keep n p).alike i r read in
    let link' : g.link n it.ref.key ≡ loaded c = ap (λ z. g.link n z) it.like.key ∙ ((keep n p).link r.key ∙ link) in
    below {r = it.ref} i it.read (same_holds key r it.ref true it.like in_r) (ap leads_on it.like.kind ∙ ind) link' (reaches_keeps f g P closed keep (closed n r.key c p link) rest)

-- Its first references

pub front_length : (count : ℕ) (last : Option Ref) (rs : List Ref) → length (front count last rs) ≡ min count (length rs)
front_length count None rs = length-take count rs
front_length count (Some q) rs = length-slice_set (take count rs) (count - 1) q ∙ length-take count rs

front_from : (count : ℕ) (last : Option Ref) (rs : List Ref) (i : ℕ) (r : Ref) → slice_get (front count last rs) i ≡ Some r → (last ≡ Some r) ⊎ (slice_get rs i ≡ Some r)
front_from count None rs i r read = inr ((take_from count rs i r read).1)
front_from count (Some q) rs i r read = elim (set_from (take count rs) (count - 1) q i r read) as (λ _. (Some q ≡ Some r) ⊎ (slice_get rs i ≡ Some r)) [
  | inl same ↦ inl (ap Some (sym same))
  | inr there ↦ inr ((take_from count rs i r there).1)
]

Rising-front : (low high count : ℕ) (last : Option Ref) (rs : List Ref) → IfSome last (FitsLast rs count) → Rising low high rs → Rising low high (front count last rs)
Rising-front low high count None rs fits h = Rising-take low high count rs h
Rising-front low high count (Some q) rs fits h = (let pos = fits.some in Rising-set low high (take count rs) (count - 1) q fits.ref (Rising-take low high count rs h) (taken_at count rs (count - 1) fits.ref fits.read (omega (arith, pos))) fits.key fits.keybits)

set_here : (xs : List Ref) (n : ℕ) (q : Ref) → n < length xs → slice_get (slice_set xs n q) n ≡ Some q
set_here [] n q lt = absurd (omega (arith, lt))
set_here (x ∷ xs) zero q lt = refl
set_here (x ∷ xs) (suc n) q lt = set_here xs n q (omega (arith, lt))

set_other : (xs : List Ref) (n i : ℕ) (q r : Ref) → (i ≡ n → ⊥) → slice_get xs i ≡ Some r → slice_get (slice_set xs n q) i ≡ Some r
set_other [] n i q r ne read = absurd (none-some r read)
set_other (x ∷ xs) zero zero q r ne read = absurd (ne refl)
set_other (x ∷ xs) zero (suc i) q r ne read = read
set_other (x ∷ xs) (suc n) zero q r ne read = read
set_other (x ∷ xs) (suc n) (suc i) q r ne read = set_other xs n i q r (λ e. ne (ap suc e)) read

-- each of the first references is left, or one of its key in its place
record LeftAs (qs : List Ref) (i : ℕ) (r : Ref) : Type 0 where
  ref : Ref
  read : slice_get qs i ≡ Some ref
  key : ref.key ≡ r.key
  leads : is_indirect ref ≡ is_indirect r

content_leaf : (k : Kind) → k ≡ Content → leads_on k ≡ false
content_leaf k e = rw e refl

held_on : {a b : ℕ} (r : Ref) → a ≡ b → holds a r ≡ true → holds b r ≡ true
held_on r e h = subst (λ z. holds z r ≡ true) e h

front_left : (count : ℕ) (last : Option Ref) (rs : List Ref) → IfSome last (FitsLast rs count) → (i : ℕ) (r : Ref) → slice_get rs i ≡ Some r → i < count → LeftAs (front count last rs) i r
front_left count None rs fits i r read lt = record { ref = r; read = taken_at count rs i r read lt; key = refl; leads = refl }
front_left count (Some q) rs fits i r read lt = elim (same_or_not i (count - 1)) as (λ _. LeftAs (slice_set (take count rs) (count - 1) q) i r) [
  | inl e ↦
      let there : slice_get rs (count - 1) ≡ Some r = subst (λ z. slice_get rs z ≡ Some r) e read in
      let first = fits.read in
      let is : fits.ref ≡ r = (cc) in
      let taken = taken_at count rs i r read lt in
      let within = slice_get_within (take count rs) i r taken in
      record {
        ref = q;
        read = subst (λ z. slice_get (slice_set (take count rs) (count - 1) q) z ≡ Some q) (sym e) (set_here (take count rs) (count - 1) q (omega (arith, within, e)));
        key = sym fits.key ∙ ap (λ (y : Ref). y.key) is;
        leads = content_leaf q.kind fits.kind ∙ sym fits.leaf_was ∙ ap (λ (y : Ref). is_indirect y) is;
      }
  | inr ne ↦ record { ref = r; read = set_other (take count rs) (count - 1) i q r ne (taken_at count rs i r read lt); key = refl; leads = refl }
]

-- and of those behind them none
front_lost : (low high count : ℕ) (last : Option Ref) (rs : List Ref) → IfSome last (FitsLast rs count) → Rising low high rs → (place : ℕ) (lost : Ref) → slice_get rs place ≡ Some lost → count ≤ place → (i : ℕ) (r : Ref) → slice_get (front count last rs) i ≡ Some r → r.key ≡ lost.key → ⊥
front_lost low high count None rs fits rising place lost was behind i r read key =
    let it = take_from count rs i r read in
    let order = in_order low high rs i place r lost rising it.1 was (let b = it.0 in omega (arith, b, behind)) in
    let pos = pow_pos r.keybits in
    omega (arith, order, pos, key)
front_lost low high count (Some q) rs fits rising place lost was behind i r read key = elim (set_from (take count rs) (count - 1) q i r read) as (λ _. ⊥) [
  | inl same ↦
      let order = in_order low high rs (count - 1) place fits.ref lost rising fits.read was (let pos = fits.some in omega (arith, pos, behind)) in
      let pos = pow_pos (let x = fits.ref in x.keybits) in
      let e = ap (λ (y : Ref). y.key) same in
      let k = fits.key in
      omega (arith, order, pos, key, e, k)
  | inr there ↦
      let it = take_from count rs i r there in
      let order = in_order low high rs i place r lost rising it.1 was (let b = it.0 in omega (arith, b, behind)) in
      let pos = pow_pos r.keybits in
      omega (arith, order, pos, key)
]

module _ (f h : Forest) (at count : ℕ) (last : Option Ref) (sound : IsSound f) (stands : f.stands at ≡ true) (alters : Alters f h at) (holds : HasContents f at) (fits : IfSome last (FitsLast (refs f at) count)) where
  here_at : Keeps f h at
  here_at = alters.tree at stands refl

  node : IsSoundNode h at
  node = alters.sound.node at here_at.place.stands

  same : h.set at ≡ f.set at
  same = own_set f h at sound stands alters

  holds_h : HasContents h at
  holds_h = contents_keep f h at sound alters.sound stands here_at.place alters.fixed holds

  pub fits_h : IfSome last (FitsLast (refs h at) count)
  fits_h = subst (λ (s : RefSet). IfSome last (FitsLast s.refs count)) (sym same) fits

  abbrev pub s : RefSet
  s = let t = h.set at in record { refs = front count last t.refs; capacity = t.capacity }

  -- the last one fits where that which it replaces did
  last_fits : (last' : Option Ref) → IfSome last' (FitsLast (refs h at) count) → (r : Ref) → last' ≡ Some r → Fits h at r × (is_indirect r ≡ false)
  last_fits None is r e = absurd (none-some r e)
  last_fits (Some q) is r e =
      let it : q ≡ r = (cc) in
      let old = node.fits (count - 1) is.ref is.read in
      let leaf : is_indirect q ≡ false = content_leaf q.kind is.kind in
      let no : is_indirect q ≡ true → ⊥ = λ ind. (let clash : true ≡ false = sym ind ∙ leaf in cc) in
      let key = is.key in
      let bits = is.keybits in
      let aligned : q.key % 2 ^ q.keybits ≡ 0 = rw (is.key, is.keybits) at old.aligned in
      let class : (q.key < 2 ^ 62) ⊎ (2 ^ 63 ≤ q.key) = rw is.key at old.class in
      subst (λ (y : Ref). Fits h at y × (is_indirect y ≡ false)) it (
        record {
          held = λ ind. absurd (no ind);
          aligned = aligned;
          class = class;
          leaf = λ _. sym bits ∙ old.leaf is.leaf_was;
          allowed = λ _. holds_h.kinds_all q is.kind is.held;
          wide = λ ind. absurd (no ind);
          some_bits = λ ind. absurd (no ind);
          falls = λ ind. absurd (no ind);
        },
        leaf,
      )

  pub storable : (f.root at ≡ at) ⊎ ((0 < count) × (0 < length (refs f at))) → Storable h at s
  storable some = record {
    capacity = refl;
    set = record {
      rising = Rising-front 0 (2 ^ 64) count last (refs h at) fits_h node.set.rising;
      fits = (let n = front_length count last (refs h at) in let m = node.set.fits in omega (arith, n, m));
      known = node.set.known;
    };
    some = λ other. elim some as (λ _. 0 < length s.refs) [
      | inl top ↦ absurd (other (here_at.place.root ∙ top))
      | inr both ↦ let n = front_length count last (refs h at) in let m : length (refs h at) ≡ length (refs f at) = ap (λ (t : RefSet). length t.refs) same in omega (arith, n, m, both.0, both.1)
    ];
    inside = Rising-front _ _ count last (refs h at) fits_h node.inside;
    fits = λ i r read. elim (front_from count last (refs h at) i r read) as (λ _. Fits h at r) [
      | inl is ↦ (last_fits last fits_h r is).0
      | inr there ↦ node.fits i r there
    ];
    stood = λ i r read ind. elim (front_from count last (refs h at) i r read) as (λ _. (j : ℕ) × (slice_get (refs h at) j ≡ Some r)) [
      | inl is ↦ absurd (let clash : true ≡ false = sym ind ∙ (last_fits last fits_h r is).1 in cc)
      | inr there ↦ (i, there)
    ];
    free = λ m st goes. absurd (nothing_goes h at s alters.sound holds_h m st goes);
  }

  -- what goes below the node lies in its range
  goes_under : (m : ℕ) → h.stands m ≡ true → GoesBelow h m at s → Under h m at
  goes_under m st goes =
      let kid = alters.sound.node m st in
      let held = holds_inside (h.low m) goes.loses.lost goes.loses.held in
      let from = place_above _ _ (refs h at) goes.loses.place goes.loses.lost node.inside goes.loses.was in
      let to = below_high _ _ (refs h at) goes.loses.place goes.loses.lost node.inside goes.loses.was in
      elim (nested (h.low m) (h.bits m) (h.low at) (h.bits at) kid.aligned node.aligned (omega (arith, goes.fewer))) as (λ _. Under h m at) [
        | inl in_it ↦ record { low = in_it.0; high = in_it.1 }
        | inr out ↦ elim out as (λ _. Under h m at) [
          | inl before ↦ let pos = pow_pos (h.bits m) in absurd (omega (arith, before, held.0, from, pos))
          | inr behind ↦ absurd (omega (arith, behind, held.1, to))
        ]
      ]

  module _ (g : Forest) (stores : Stores h g at s) where
    others : (m : ℕ) → h.stands m ≡ true → (m ≡ at → ⊥) → (GoesBelow h m at s → ⊥) → Keeps h g m
    others m st ne not_below = Same-Keeps h g m (stores.others m st ne not_below (nothing_goes h at s alters.sound holds_h m st))

    -- a node that still stands is the same
    same_on : (m : ℕ) → f.stands m ≡ true → g.stands m ≡ true → (m ≡ at → ⊥) → Same h g m
    same_on m st st' ne =
        let there = (altered_place f h at alters m st).stands in
        stores.others m there ne (λ goes. let clash : true ≡ false = sym st' ∙ stores.gone m there (inl goes) in cc) (nothing_goes h at s alters.sound holds_h m there)

    -- the nodes below a reference
    abbrev BelowRef : Ref → ℕ → Type 0
    BelowRef r m = (h.stands m ≡ true) × (h.root m ≡ h.root at) × (r.key ≤ h.low m) × (h.low m + 2 ^ h.bits m ≤ limit r) × (h.bits m < h.bits at)

    closed_below : (r : Ref) (m k e : ℕ) → BelowRef r m → h.link m k ≡ loaded e → BelowRef r e
    closed_below r m k e p link = let kid = (alters.sound.node m p.0).child k e link in (kid.stands, kid.root ∙ p.1, omega (arith, kid.above, p.2), omega (arith, kid.within, p.3), omega (arith, kid.fewer, p.4))

    stood : (i : ℕ) (r : Ref) → slice_get s.refs i ≡ Some r → is_indirect r ≡ true → (j : ℕ) × (slice_get (refs h at) j ≡ Some r)
    stood i r read ind = elim (front_from count last (refs h at) i r read) as (λ _. (j : ℕ) × (slice_get (refs h at) j ≡ Some r)) [
      | inl is ↦ absurd (let clash : true ≡ false = sym ind ∙ (last_fits last fits_h r is).1 in cc)
      | inr there ↦ (i, there)
    ]

    -- of one that stays, they stay
    keeps_below : (i : ℕ) (r : Ref) → slice_get s.refs i ≡ Some r → is_indirect r ≡ true → (m : ℕ) → BelowRef r m → Keeps h g m
    keeps_below i r read ind m p = others m p.0 (λ e. let same_bits = ap h.bits e in omega (arith, p.4, same_bits)) (λ goes.
        let old = stood i r read ind in
        let pos = pow_pos (h.bits m) in
        let held = holds_inside (h.low m) goes.loses.lost goes.loses.held in
        let is : goes.loses.lost ≡ r = elim (same_or_not goes.loses.place old.0) as (λ _. goes.loses.lost ≡ r) [
          | inl e ↦ let there : slice_get (refs h at) old.0 ≡ Some goes.loses.lost = subst (λ z. slice_get (refs h at) z ≡ Some goes.loses.lost) e goes.loses.was in let b = old.1 in cc
          | inr ne ↦ elim (apart_places _ _ (refs h at) old.0 goes.loses.place r goes.loses.lost node.inside old.1 goes.loses.was ne) as (λ _. goes.loses.lost ≡ r) [
            | inl lower ↦ absurd (omega (arith, lower, held.1, p.2))
            | inr upper ↦ absurd (omega (arith, upper, held.0, p.3, pos))
          ]
        ] in
        goes.loses.lacks i r read (ap (λ (y : Ref). y.key) (sym is)) (ap (λ (y : Ref). is_indirect y) (sym is)))

    starts_below : (i d : ℕ) (r : Ref) → slice_get s.refs i ≡ Some r → is_indirect r ≡ true → h.link at r.key ≡ loaded d → BelowRef r d
    starts_below i d r read ind link =
        let old = stood i r read ind in
        let kid = node.child r.key d link in
        let bits_d = node.bits old.0 d r old.1 ind link in
        (kid.stands, kid.root, omega (arith, kid.low), omega (arith, kid.low, ap (λ z. 2 ^ z) bits_d), kid.fewer)

    below_stays : (i d : ℕ) (r : Ref) → slice_get s.refs i ≡ Some r → is_indirect r ≡ true → h.link at r.key ≡ loaded d → KeepsLeaves h g d
    below_stays i d r read ind link l hl =
        let stay : (m : ℕ) → BelowRef r m → Stays h g m = λ m p. Keeps-Stays h g m (keeps_below i r read ind m p) in
        let start = starts_below i d r read ind link in
        leaves_stay h g (BelowRef r) (closed_below r) stay start hl (refs g d) (stay d start).alike

    paths_front : (key : ℕ) (o : Option Ref) → ReachesBy f key at s.refs o → Reaches g key at o
    paths_front key o (misses miss) = nowhere (λ i r read. miss i r (subst (λ (t : RefSet). slice_get t.refs i ≡ Some r) stores.set read))
    paths_front key o (arrives {r = r} i read in_r k) = here {r = r} i (subst (λ (t : RefSet). slice_get t.refs i ≡ Some r) (sym stores.set) read) in_r k
    paths_front key o (leads {c = c} {r = r} i read in_r ind link rest) =
        let P : ℕ → Type 0 = λ m. (f.stands m ≡ true) × (f.root m ≡ f.root at) in
        let closed : (m k e : ℕ) → P m → f.link m k ≡ loaded e → P e = λ m k e p link'. let kid = (sound.node m p.0).child k e link' in (kid.stands, kid.root ∙ p.1) in
        let kid = (sound.node at stands).child r.key c link in
        let in_h : Reaches h key c o = reaches_keeps f h P closed (λ m p. alters.tree m p.0 p.1) (kid.stands, kid.root) rest in
        let link_h : h.link at r.key ≡ loaded c = here_at.link r.key ∙ link in
        let in_g : Reaches g key c o = reaches_keeps h g (BelowRef r) (closed_below r) (keeps_below i r read ind) (starts_below i c r read ind link_h) in_h in
        below {r = r} i (subst (λ (t : RefSet). slice_get t.refs i ≡ Some r) (sym stores.set) read) in_r ind (stores.link i r read ind ∙ link_h) in_g

    -- what goes below the node goes below a reference that is lost
    behind : (m : ℕ) → f.stands m ≡ true → GoesBelow h m at s → GoesBehind f at count m
    behind m st goes =
        let place = altered_place f h at alters m st in
        let own = here_at.place in
        let lost = goes.loses.lost in
        record {
          place = goes.loses.place;
          ref = lost;
          read = subst (λ (t : RefSet). slice_get t.refs goes.loses.place ≡ Some lost) same goes.loses.was;
          behind = elim (cases_lt goes.loses.place count) as (λ _. count ≤ goes.loses.place) [
            | inr le ↦ le
            | inl lt ↦ let it = front_left count last (refs h at) fits_h goes.loses.place lost goes.loses.was lt in absurd (goes.loses.lacks goes.loses.place it.ref it.read it.key it.leads)
          ];
          tree = sym place.root ∙ goes.tree ∙ own.root;
          fewer = (let a = place.bits in let b = own.bits in let fewer = goes.fewer in omega (arith, a, b, fewer));
          held = held_on lost place.low goes.loses.held;
        }

    ahead : (m : ℕ) → f.stands m ≡ true → GoesBehind f at count m → GoesBelow h m at s
    ahead m st goes =
        let place = altered_place f h at alters m st in
        let own = here_at.place in
        let was : slice_get (refs h at) goes.place ≡ Some goes.ref = subst (λ (t : RefSet). slice_get t.refs goes.place ≡ Some goes.ref) (sym same) goes.read in
        record {
          tree = place.root ∙ goes.tree ∙ sym own.root;
          fewer = (let a = place.bits in let b = own.bits in let fewer = goes.fewer in omega (arith, a, b, fewer));
          loses = record {
            place = goes.place;
            lost = goes.ref;
            was = was;
            lacks = λ i r read key ind. front_lost _ _ count last (refs h at) fits_h node.inside goes.place goes.ref was goes.behind i r read key;
            held = held_on goes.ref (sym place.low) goes.held;
          };
        }

    pub keeps_front : KeepsFront f g at count last
    keeps_front = record {
      sound = stores.sound;
      fixed = Fixed-trans f h g (λ m st st'. (altered_place f h at alters m st).stands) alters.fixed stores.fixed;
      place = InPlace-trans f h g at here_at.place stores.place;
      leaves = λ l hl.
          let P : ℕ → Type 0 = λ m. (f.stands m ≡ true) × (f.root m ≡ f.root at) in
          let closed : (m k c : ℕ) → P m → f.link m k ≡ loaded c → P c = λ m k c p link. let child = (sound.node m p.0).child k c link in (child.stands, child.root ∙ p.1) in
          let stay : (m : ℕ) → P m → Stays f h m = λ m p. Keeps-Stays f h m (alters.tree m p.0 p.1) in
          let same_front : front count last (refs f at) ≡ s.refs = ap (λ (t : RefSet). front count last t.refs) (sym same) in
          let in_f : HasLeaves f at s.refs l = subst (λ rs. HasLeaves f at rs l) same_front hl in
          let in_h : HasLeaves h at s.refs l = leaves_stay f h P closed stay (stands, refl) in_f s.refs (Alike-refl s.refs) in
          let in_g : HasLeaves g at s.refs l = leaves_move in_h s.refs (Alike-refl s.refs) (λ j r read ind. stores.link j r read ind) below_stays in
          subst (λ (t : RefSet). HasLeaves g at t.refs l) (sym stores.set) in_g;
      paths = λ key o reached. paths_front key o (subst (λ rs. ReachesBy f key at rs o) (ap (λ (t : RefSet). front count last t.refs) (sym same)) reached);
      tree = λ m st root out.
          let k = alters.tree m st root in
          let ne : m ≡ at → ⊥ = λ e. out (subst (λ z. Under f z at) (sym e) (record { low = omega arith; high = omega arith })) in
          let not_below : GoesBelow h m at s → ⊥ = λ goes.
          let u = goes_under m k.place.stands goes in
          out (record { low = omega (arith, u.low, here_at.place.low, k.place.low); high = omega (arith, u.high, here_at.place.low, k.place.low, ap (λ z. 2 ^ z) here_at.place.bits, ap (λ z. 2 ^ z) k.place.bits) }) in
          Keeps-trans f h g m k (others m k.place.stands ne not_below);
      above = λ m st root.
          let k = alters.above m st root in
          let ne : m ≡ at → ⊥ = λ e. root (ap f.root e) in
          let not_below : GoesBelow h m at s → ⊥ = λ goes. root (sym k.place.root ∙ goes.tree ∙ here_at.place.root) in
          Renews-trans f h g m k (Keeps-Renews h g m (others m k.place.stands ne not_below));
      none_new = λ m st. alters.none_new m (stores.none_new m st);
      still = λ m st.
          let there = stores.none_new m st in
          let first = altered_place f h at alters m (alters.none_new m there) in
          elim (same_or_not m at) as (λ _. InPlace f g m) [
            | inl e ↦ InPlace-trans f h g m first (subst (InPlace h g) (sym e) stores.place)
            | inr ne ↦ InPlace-trans f h g m first (others m there ne (λ goes. let clash : true ≡ false = sym st ∙ stores.gone m there (inl goes) in cc)).place
          ];
      set = stores.set ∙ ap (λ (t : RefSet). let w : RefSet = record { refs = front count last t.refs; capacity = t.capacity } in w) same;
      below = λ m i r st root fewer read ind low high.
          let place = (alters.tree m st root).place in
          let own = here_at.place in
          let read_h : slice_get s.refs i ≡ Some r = subst (λ (t : RefSet). slice_get (front count last t.refs) i ≡ Some r) (sym same) read in
          (keeps_below i r read_h ind m (place.stands, place.root ∙ root ∙ sym own.root, omega (arith, low, place.low), omega (arith, high, place.low, ap (λ z. 2 ^ z) place.bits), omega (arith, fewer, place.bits, own.bits))).place.stands;
      exact = λ m i r st st' ne read off. subst (λ (t : RefSet). slice_get t.refs i ≡ Some r) (sym (same_on m st st' ne).set) (alters.exact m i r st read off);
      lengths = λ m st st' ne. ap (λ (t : RefSet). length t.refs) (same_on m st st' ne).set ∙ altered_length f h at alters m st;
      others = λ m st st' off.
          let it = same_on m st st' (λ e. off (itself e)) in
          (it.set ∙ off_set f h at m st alters off, it.writable ∙ alters.others m st off);
      made = λ m st st' way. elim (same_or_not m at) as (λ _. g.writable m ≡ true) [
        | inl e ↦ subst (λ z. g.writable z ≡ true) (sym e) (stores.place.writable alters.writable)
        | inr ne ↦ (same_on m st st' ne).place.writable (alters.made m st way)
      ];
      link = λ i r read ind. stores.link i r (subst (λ (t : RefSet). slice_get t.refs i ≡ Some r) stores.set read) ind ∙ here_at.link r.key;
      links = λ m k st st' ne. (same_on m st st' ne).link k ∙ altered_link f h at alters m k st;
      alike = λ m st st' root ne. subst (λ (t : RefSet). Alike (refs f m) t.refs) (sym (same_on m st st' ne).set) (alters.tree m st root).alike;
      stand = λ m st stays. elim (same_or_not m at) as (λ _. g.stands m ≡ true) [
        | inl e ↦ subst (λ z. g.stands z ≡ true) (sym e) stores.place.stands
        | inr ne ↦ (others m (altered_place f h at alters m st).stands ne (λ goes. stays (behind m st goes))).place.stands
      ];
      gone = λ m st goes. stores.gone m (altered_place f h at alters m st).stands (inl (ahead m st goes));
      kept = λ m i c r st st' ne read link w. subst (λ (t : RefSet). slice_get t.refs i ≡ Some r) (sym (same_on m st st' ne).set) (alters.kept m i c r st read link w);
      kept_leaf = λ m i c r st st' ne read leaf is w. subst (λ (t : RefSet). slice_get t.refs i ≡ Some r) (sym (same_on m st st' ne).set) (alters.kept_leaf m i c r st read leaf is w);
      dated = λ m i r q st st' ne read now. alters.dated m i r q st read (subst (λ (t : RefSet). slice_get t.refs i ≡ Some q) (same_on m st st' ne).set now);
      writable = stores.place.writable alters.writable;
      copies = stores.copies ∙ alters.copies;
      room = omega (arith, alters.room, stores.room);
      spare = stores.spare ∙ alters.spare;
    }

  -- the same of the set that the code made
  module _ (set got : RefSet) (e1 : got ≡ h.set at) (e2 : set ≡ record { refs = front count last got.refs; capacity = got.capacity }) where
    set_is : set ≡ s
    set_is = e2 ∙ ap (λ (t : RefSet). let w : RefSet = record { refs = front count last t.refs; capacity = t.capacity } in w) e1

    pub storable_made : (f.root at ≡ at) ⊎ ((0 < count) × (0 < length (refs f at))) → Storable h at set
    storable_made some = subst (Storable h at) (sym set_is) (storable some)

    pub keeps_made : (g : Forest) → Stores h g at set → KeepsFront f g at count last
    keeps_made g stores = keeps_front g (subst (Stores h g at) set_is stores)
