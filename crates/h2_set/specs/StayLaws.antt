-- Leaves stay where nodes stay.
use Rattle.std.proofs.Common.{◌≡◌, ℕ, ◌≤◌, Bool, true, false, arith, refl, sym, ◌∙◌, ap, List, [], ◌∷◌, ◌++◌, Option, subst, inl, inr, slice_get}
use Rattle.h2_num.specs.Causes.{Rose}
use Rattle.h2_ref.specs.declared.reference.Ref.{Ref}
use Rattle.h2_ref.specs.declared.faults.Trouble.{Trouble}
use Rattle.h2_ref.specs.declared.faults.Trouble.TheVariants.{Failed, Bad, NoMemory}
use Rattle.h2_set.specs.Ranges.{Rising, limit, leads_on}
use Rattle.h2_set.specs.RefSet.{RefSet}
use Rattle.h2_set.specs.Forest.{loaded, Forest, refs, HasLeaves, done, one, near, far, KeepsLeaves, IsSound, Reaches, nowhere, here, below}
use Rattle.h2_set.specs.Calls.{IsAlike, Alike, Below, Fixed, InPlace, Stays, Same, Walks, Unchanged, ReadiesOnly, HasCause}

IsAlike-refl : (r : Ref) → IsAlike r r
IsAlike-refl r = record { kind = refl; key = refl; keybits = refl; radix = refl; dirent = refl; leaf = λ _. refl }

pub Alike-refl : (rs : List Ref) → Alike rs rs
Alike-refl [] = tt
Alike-refl (r ∷ rs) = (IsAlike-refl r, Alike-refl rs)

IsAlike-trans : (r q p : Ref) → IsAlike r q → IsAlike q p → IsAlike r p
IsAlike-trans r q p a b = record {
  kind = b.kind ∙ a.kind;
  key = b.key ∙ a.key;
  keybits = b.keybits ∙ a.keybits;
  radix = b.radix ∙ a.radix;
  dirent = b.dirent ∙ a.dirent;
  leaf = λ e. b.leaf (ap leads_on a.kind ∙ e) ∙ a.leaf e;
}

pub Alike-trans : (rs qs ps : List Ref) → Alike rs qs → Alike qs ps → Alike rs ps
Alike-trans [] [] [] a b = tt
Alike-trans [] [] (p ∷ ps) a b = b
Alike-trans [] (q ∷ qs) ps a b = absurd a
Alike-trans (r ∷ rs) [] ps a b = absurd a
Alike-trans (r ∷ rs) (q ∷ qs) [] a b = absurd b
Alike-trans (r ∷ rs) (q ∷ qs) (p ∷ ps) a b = (IsAlike-trans r q p a.0 b.0, Alike-trans rs qs ps a.1 b.1)

pub Fixed-refl : (f : Forest) → Fixed f f
Fixed-refl f = record { leaf_bits = λ m st st'. refl; allows = λ m r st st'. refl; held = λ m. refl; name = λ r. refl; epoch = refl; failed = omega arith; bad = omega arith }

-- what stands before and after stands in between
abbrev pub StandsBetween : Forest → Forest → Forest → Type 0
StandsBetween f g h = (m : ℕ) → f.stands m ≡ true → h.stands m ≡ true → g.stands m ≡ true

pub Fixed-trans : (f g h : Forest) → StandsBetween f g h → Fixed f g → Fixed g h → Fixed f h
Fixed-trans f g h between a b = record {
  leaf_bits = λ m st st'. let there = between m st st' in b.leaf_bits m there st' ∙ a.leaf_bits m st there;
  allows = λ m r st st'. let there = between m st st' in b.allows m r there st' ∙ a.allows m r st there;
  held = λ m. b.held m ∙ a.held m;
  name = λ r. b.name r ∙ a.name r;
  epoch = b.epoch ∙ a.epoch;
  failed = omega (arith, a.failed, b.failed);
  bad = omega (arith, a.bad, b.bad);
}

pub InPlace-refl : (f : Forest) (m : ℕ) → f.stands m ≡ true → InPlace f f m
InPlace-refl f m stands = record { stands = stands; root = refl; low = refl; bits = refl; belongs = λ t k. refl; writable = λ e. e }

pub InPlace-trans : (f g h : Forest) (m : ℕ) → InPlace f g m → InPlace g h m → InPlace f h m
InPlace-trans f g h m a b = record {
  stands = b.stands;
  root = b.root ∙ a.root;
  low = b.low ∙ a.low;
  bits = b.bits ∙ a.bits;
  belongs = λ t k. b.belongs t k ∙ a.belongs t k;
  writable = λ e. b.writable (a.writable e);
}

-- a range that reads the same
same_range : (q r : Ref) (l : List Ref) → q.key ≡ r.key → q.keybits ≡ r.keybits → Rising r.key (limit r) l → Rising q.key (limit q) l
same_range q r l key bits h = rw (key, bits) h

module _ (f g : Forest) (P : ℕ → Type 0) (closed : (m k c : ℕ) → P m → f.link m k ≡ loaded c → P c) (stay : (m : ℕ) → P m → Stays f g m) where
  pub leaves_stay : {at : ℕ} {rs l : List Ref} → P at → HasLeaves f at rs l → (qs : List Ref) → Alike rs qs → HasLeaves g at qs l
  leaves_stay p done [] a = done
  leaves_stay p done (q ∷ qs) a = absurd a
  leaves_stay p (one leaf rest) [] a = absurd a
  leaves_stay {at} p (one {r = r} {rs = rs} {l = l} leaf rest) (q ∷ qs) a =
      let tail : HasLeaves g at qs l = leaves_stay p rest qs a.1 in
      rw (a.0.leaf leaf) (one leaf tail)
  leaves_stay p (near ind link kids inside rest) [] a = absurd a
  leaves_stay {at} p (near {c = c} {r = r} {below = b} {l = l} ind link kids inside rest) (q ∷ qs) a =
      let pc : P c = closed at r.key c p link in
      let tail : HasLeaves g at qs l = leaves_stay p rest qs a.1 in
      let kids' : HasLeaves g c (refs g c) b = leaves_stay pc kids (refs g c) (stay c pc).alike in
      let link' : g.link at q.key ≡ loaded c = rw a.0.key ((stay at p).near r.key c link) in
      near (ap leads_on a.0.kind ∙ ind) link' kids' (same_range q r b a.0.key a.0.keybits inside) tail
  leaves_stay p (far ind link inside rest) [] a = absurd a
  leaves_stay {at} p (far {r = r} {below = b} {l = l} ind link inside rest) (q ∷ qs) a =
      let tail : HasLeaves g at qs l = leaves_stay p rest qs a.1 in
      let inside' = same_range q r b a.0.key a.0.keybits inside in
      elim ((stay at p).far r.key b link) as (λ _. HasLeaves g at (q ∷ qs) (b ++ l)) [
        | inl e ↦ far (ap leads_on a.0.kind ∙ ind) (rw a.0.key e) inside' tail
        | inr w ↦ near (ap leads_on a.0.kind ∙ ind) (rw a.0.key w.1) w.2 inside' tail
      ]

-- what stands is closed downwards
pub stands_below : (f : Forest) → IsSound f → (m k c : ℕ) → f.stands m ≡ true → f.link m k ≡ loaded c → f.stands c ≡ true
stands_below f sound m k c stands link = ((sound.node m stands).child k c link).stands

-- where every node stays, so do the leaves of each
pub leaves_stay_all : (f g : Forest) → IsSound f → ((m : ℕ) → f.stands m ≡ true → Stays f g m) → (at : ℕ) → f.stands at ≡ true → KeepsLeaves f g at
leaves_stay_all f g sound stay at stands l h = leaves_stay f g (λ m. f.stands m ≡ true) (stands_below f sound) stay stands h (refs g at) (stay at stands).alike

pub Stays-refl : (f : Forest) (m : ℕ) → f.stands m ≡ true → Stays f f m
Stays-refl f m stands = record { place = InPlace-refl f m stands; alike = Alike-refl (refs f m); near = λ k c e. e; far = λ k l e. inl e }

pub Stays-trans : (f g h : Forest) → IsSound g → ((m : ℕ) → g.stands m ≡ true → Stays g h m) → (m : ℕ) → Stays f g m → Stays f h m
Stays-trans f g h sound all m a =
    let b = all m a.place.stands in
    record {
      place = InPlace-trans f g h m a.place b.place;
      alike = Alike-trans (refs f m) (refs g m) (refs h m) a.alike b.alike;
      near = λ k c e. b.near k c (a.near k c e);
      far = λ k l e. elim (a.far k l e) as (λ _. Below h m k l) [
        | inl e' ↦ b.far k l e'
        | inr w ↦ inr (w.0, b.near k w.0 w.1, leaves_stay_all g h sound all w.0 (stands_below g sound m k w.0 a.place.stands w.1) l w.2)
      ];
    }

pub Walks-refl : (f : Forest) → IsSound f → Walks f f
Walks-refl f sound = record { sound = sound; fixed = Fixed-refl f; stays = λ m stands. Stays-refl f m stands; roots = λ m stands root. stands; clean = λ m out stands. let clash : false ≡ true = sym out ∙ stands in cc; sets = λ m stands. refl; writable = λ m stands. refl; copies = λ m stands. refl; spare = refl; room = refl }

pub Walks-trans : (f g h : Forest) → Walks f g → Walks g h → Walks f h
Walks-trans f g h a b = record {
  sound = b.sound;
  fixed = Fixed-trans f g h (λ m st st'. (a.stays m st).place.stands) a.fixed b.fixed;
  stays = λ m stands. Stays-trans f g h a.sound b.stays m (a.stays m stands);
  roots = λ m stands root. let middle = b.roots m stands root in a.roots m middle (sym (b.stays m middle).place.root ∙ root);
  clean = λ m out stands. clean_after m (g.stands m) refl out stands;
  sets = λ m stands. b.sets m (a.stays m stands).place.stands ∙ a.sets m stands;
  writable = λ m stands. b.writable m (a.stays m stands).place.stands ∙ a.writable m stands;
  copies = λ m stands. b.copies m (a.stays m stands).place.stands ∙ a.copies m stands;
  spare = b.spare ∙ a.spare;
  room = b.room ∙ a.room;
}
  where
    clean_after : (m : ℕ) (there : Bool) → g.stands m ≡ there → f.stands m ≡ false → h.stands m ≡ true → h.writable m ≡ false
    clean_after m true e out stands = b.writable m e ∙ a.clean m out e
    clean_after m false e out stands = b.clean m e stands

-- a walk keeps the leaves of each node that stands
pub Walks-leaves : (f g : Forest) → IsSound f → Walks f g → (at : ℕ) → f.stands at ≡ true → KeepsLeaves f g at
Walks-leaves f g sound walk at stands = leaves_stay_all f g sound walk.stays at stands

-- a path that is loaded stays loaded, and leads to the same
pub Reaches-walks : {f g : Forest} {key at : ℕ} {o : Option Ref} → IsSound f → Walks f g → f.stands at ≡ true → Reaches f key at o → Reaches g key at o
Reaches-walks {key = key} sound walk stands (nowhere {at = at} miss) = nowhere (λ i r read. miss i r (ap (λ (s : RefSet). slice_get s.refs i) (sym (walk.sets at stands)) ∙ read))
Reaches-walks sound walk stands (here {at = at} {r = r} i read in_r leaf) = here {r = r} i (ap (λ (s : RefSet). slice_get s.refs i) (walk.sets at stands) ∙ read) in_r leaf
Reaches-walks {f} sound walk stands (below {at = at} {c = c} {r = r} i read in_r ind link rest) = below {r = r} i (ap (λ (s : RefSet). slice_get s.refs i) (walk.sets at stands) ∙ read) in_r ind ((walk.stays at stands).near r.key c link) (Reaches-walks sound walk (stands_below f sound at r.key c stands link) rest)

-- a node of which nothing has changed stays
pub Same-Stays : (f g : Forest) (m : ℕ) → Same f g m → Stays f g m
Same-Stays f g m same = record {
  place = same.place;
  alike = subst (λ (s : RefSet). Alike (refs f m) s.refs) (sym same.set) (Alike-refl (refs f m));
  near = λ k c e. same.link k ∙ e;
  far = λ k l e. inl (same.link k ∙ e);
}

-- where nothing has changed, nothing but loads took place
pub Unchanged-walks : (f g : Forest) → Unchanged f g → Walks f g
Unchanged-walks f g u = record {
  sound = u.sound;
  fixed = u.fixed;
  stays = λ m stands. Same-Stays f g m (u.same m stands);
  roots = λ m stands root. u.none_new m stands;
  clean = λ m out stands. let clash : false ≡ true = sym out ∙ u.none_new m stands in cc;
  sets = λ m stands. (u.same m stands).set;
  writable = λ m stands. (u.same m stands).writable;
  copies = λ m stands. (u.same m stands).copies;
  spare = u.spare;
  room = u.room;
}

-- where only spare may have grown, and has not, nothing has changed
pub Readies-unchanged : (f g : Forest) → ReadiesOnly f g → g.spare ≡ f.spare → Unchanged f g
Readies-unchanged f g r spare = record { sound = r.sound; fixed = r.fixed; same = r.same; none_new = r.none_new; spare = spare; room = r.room }

-- where only spare has grown, the leaves of each node stay
pub Readies-leaves : (f g : Forest) → IsSound f → ReadiesOnly f g → (at : ℕ) → f.stands at ≡ true → KeepsLeaves f g at
Readies-leaves f g sound r at stands = leaves_stay_all f g sound (λ m st. Same-Stays f g m (r.same m st)) at stands

rose_from : (a b c : ℕ) → a ≤ b → Rose b c → Rose a c
rose_from a b c le h = omega (arith, le, h)

-- what was the cause from a later forest on was it from an earlier one on
pub cause_from : (f g h : Forest) (e : Trouble) → f.failed ≤ g.failed → f.bad ≤ g.bad → HasCause g h e → HasCause f h e
cause_from f g h Failed failed bad cause = rose_from f.failed g.failed h.failed failed cause
cause_from f g h (Bad place why) failed bad cause = (rose_from f.bad g.bad h.bad bad cause.0, cause.1)
cause_from f g h NoMemory failed bad cause = tt
