-- A file whose root is made writable, and whose body of bytes becomes an empty set.
use Rattle.std.proofs.Common.{◌≡◌, ℕ, true, arith, refl, sym, ◌∙◌, ap, List, [], Option, Some, None, subst, inl, inr, slice_get}
use Rattle.std.proofs.lemmas.Option.{none-some}
use Rattle.h2_ref.specs.declared.reference.Ref.{Ref}
use Rattle.h2_set.specs.RefSet.{RefSet}
use Rattle.h2_set.specs.Forest.{Forest, refs, loaded, HasLeaves, done, LeavesOf, KeepsLeaves, IsSound, Reaches, nowhere, here, below}
use Rattle.h2_set.specs.Calls.{InPlace, Stays, Same, Renews, Alters, Loses}
use Rattle.h2_set.specs.StayLaws.{InPlace-trans, leaves_stay}
use Rattle.h2_set.specs.ChangeLaws.{Keeps-Stays, Same-Keeps, same_or_not}
use Rattle.h2_set.specs.PathLaws.{alters_path}
use Rattle.h2_set.specs.RenewLaws.{Keeps-Renews, Renews-trans}
use Rattle.h2_tree.specs.OtherTrees.{KeepsOtherLeaves, same_leaves, leaves_trans, off_leaf}
use Rattle.h2_inode.specs.Nodes.{Replaces, Replaceable}
use Rattle.h2_inode.specs.declared.kind.InodeKind.TheVariants.{File}
use Rattle.h2_file.specs.Linking.{empty_set, Opens, body_of_refs, body_of_bytes}
use Rattle.h2_file.proofs.Altered.{altered_place}
use Rattle.h2_file.proofs.CutLevels.{none_of}

pub record Opened (f g : Forest) (at : ℕ) : Type 0 where
  pub sound : IsSound g
  pub place : InPlace f g at
  pub leaves : KeepsLeaves f g at
  pub paths : (key : ℕ) (o : Option Ref) → Reaches f key at o → Reaches g key at o
  pub still : (m : ℕ) → f.stands m ≡ true → InPlace f g m
  pub others : (m : ℕ) → f.stands m ≡ true → (f.root m ≡ at → ⊥) → Renews f g m
  pub exact : KeepsOtherLeaves f g at
  pub leaf_bits : (m : ℕ) → f.stands m ≡ true → g.leaf_bits m ≡ f.leaf_bits m
  pub allows : (m : ℕ) (r : Ref) → f.stands m ≡ true → (m ≡ at → ⊥) → g.allows m r ≡ f.allows m r
  pub held : (m : ℕ) → g.held m ≡ f.held m
  pub name : (r : Ref) → g.name r ≡ f.name r
  pub epoch : g.epoch ≡ f.epoch
  pub failed : g.failed ≡ f.failed
  pub bad : g.bad ≡ f.bad
  pub writable : g.writable at ≡ true
  pub none_new : (m : ℕ) → g.stands m ≡ true → f.stands m ≡ true
  pub room : g.room ≡ f.room
  pub spare : g.spare ≡ f.spare

module _ (f h : Forest) (at : ℕ) (sound : IsSound f) (stands : f.stands at ≡ true) (top : f.root at ≡ at) (alters : Alters f h at) where
  place_h : (m : ℕ) → f.stands m ≡ true → InPlace f h m
  place_h m st = altered_place f h at alters m st

  own_copies : f.copies at ≡ 0
  own_copies = (sound.node at stands).top top

  pub altered : Opened f h at
  altered = record {
    sound = alters.sound;
    place = place_h at stands;
    leaves = λ l hl.
        let P : ℕ → Type 0 = λ m. (f.stands m ≡ true) × (f.root m ≡ f.root at) in
        let closed : (m k c : ℕ) → P m → f.link m k ≡ loaded c → P c = λ m k c p link. let child = (sound.node m p.0).child k c link in (child.stands, child.root ∙ p.1) in
        let stay : (m : ℕ) → P m → Stays f h m = λ m p. Keeps-Stays f h m (alters.tree m p.0 p.1) in
        leaves_stay f h P closed stay (stands, refl) hl (refs h at) (stay at (stands, refl)).alike;
    paths = λ key o reached. alters_path sound alters stands refl reached;
    still = place_h;
    others = λ m st root. alters.above m st (λ e. root (e ∙ top));
    exact = λ m i r st other read leaf free. alters.exact m i r st read (off_leaf f m at i r sound st stands read leaf other free);
    leaf_bits = λ m st. alters.fixed.leaf_bits m st (place_h m st).stands;
    allows = λ m r st ne. alters.fixed.allows m r st (place_h m st).stands;
    held = alters.fixed.held;
    name = alters.fixed.name;
    epoch = alters.fixed.epoch;
    failed = alters.failed;
    bad = alters.bad;
    writable = alters.writable;
    none_new = alters.none_new;
    room = (let a = alters.room in let b = own_copies in omega (arith, a, b));
    spare = alters.spare;
  }

empty_path : {h : Forest} {key at : ℕ} {o : Option Ref} → Reaches h key at o → refs h at ≡ [] → o ≡ None
empty_path (nowhere miss) e = refl
empty_path (here {r = r} i read in_r leaf) e = absurd (none-some r (subst (λ (rs : List Ref). slice_get rs i ≡ Some r) e read))
empty_path (below {r = r} i read in_r ind link rest) e = absurd (none-some r (subst (λ (rs : List Ref). slice_get rs i ≡ Some r) e read))

-- a set without references may be given anew
module _ (h : Forest) (at : ℕ) (bare : (let s = h.set at in s ≡ empty_set)) where
  no_refs : refs h at ≡ []
  no_refs = ap (λ (s : RefSet). s.refs) bare

  none_lost : (key : ℕ) → Loses h at empty_set key → ⊥
  none_lost key loses = none-some loses.lost (subst (λ (rs : List Ref). slice_get rs loses.place ≡ Some loses.lost) no_refs loses.was)

  pub empty_replaceable : Replaceable h at File empty_set
  empty_replaceable = record {
    capacity = refl;
    set = record { rising = omega arith; fits = omega arith; known = inl refl };
    inside = omega arith;
    fits = λ i r read. absurd (none-some r read);
    stood = λ i r read ind. absurd (none-some r read);
    free = λ m st goes. absurd (none_lost goes.key goes.loses);
  }

  module _ (g : Forest) (sound : IsSound h) (stands : h.stands at ≡ true) (top : h.root at ≡ at) (writable : h.writable at ≡ true) (changes : Replaces h g at empty_set) where
    same_on : (m : ℕ) → h.stands m ≡ true → (m ≡ at → ⊥) → Same h g m
    same_on m st ne = changes.others m st ne (λ goes. none_lost (h.low m) goes.loses) (λ goes. none_lost goes.key goes.loses)

    place_g : (m : ℕ) → h.stands m ≡ true → InPlace h g m
    place_g m st = elim (same_or_not m at) as (λ _. InPlace h g m) [
      | inl e ↦ subst (InPlace h g) (sym e) changes.place
      | inr ne ↦ (same_on m st ne).place
    ]

    refs_g : refs g at ≡ []
    refs_g = ap (λ (s : RefSet). s.refs) changes.set

    pub emptied : Opened h g at
    emptied = record {
      sound = changes.sound;
      place = changes.place;
      leaves = λ l hl. subst (LeavesOf g at) (sym (none_of hl no_refs)) (subst (λ (rs : List Ref). HasLeaves g at rs []) (sym refs_g) done);
      paths = λ key o reached. subst (Reaches g key at) (sym (empty_path reached no_refs)) (nowhere (λ i r read. absurd (none-some r (subst (λ (rs : List Ref). slice_get rs i ≡ Some r) refs_g read))));
      still = place_g;
      others = λ m st root. Keeps-Renews h g m (Same-Keeps h g m (same_on m st (λ e. root (ap h.root e ∙ top))));
      exact = same_leaves h g at (λ m st other. (same_on m st (λ e. other (ap h.root e))).set);
      leaf_bits = λ m st. changes.leaf_bits m st (place_g m st).stands;
      allows = λ m r st ne. changes.allows m r st (place_g m st).stands ne;
      held = changes.held;
      name = changes.name;
      epoch = changes.epoch;
      failed = changes.failed;
      bad = changes.bad;
      writable = changes.place.writable writable;
      none_new = changes.none_new;
      room = changes.room;
      spare = changes.spare;
    }

opened_on : (f h g : Forest) (at : ℕ) → f.root at ≡ at → Opened f h at → Opened h g at → Opened f g at
opened_on f h g at top a b = record {
  sound = b.sound;
  place = InPlace-trans f h g at a.place b.place;
  leaves = λ l hl. b.leaves l (a.leaves l hl);
  paths = λ key o reached. b.paths key o (a.paths key o reached);
  still = λ m st. let there = a.still m st in InPlace-trans f h g m there (b.still m there.stands);
  others = λ m st root. let there = a.others m st root in Renews-trans f h g m there (b.others m there.place.stands (λ e. root (sym there.place.root ∙ e)));
  exact = leaves_trans f h g at a.place (λ m st other. a.still m st) a.exact b.exact;
  leaf_bits = λ m st. b.leaf_bits m (a.still m st).stands ∙ a.leaf_bits m st;
  allows = λ m r st ne. b.allows m r (a.still m st).stands ne ∙ a.allows m r st ne;
  held = λ m. b.held m ∙ a.held m;
  name = λ r. b.name r ∙ a.name r;
  epoch = b.epoch ∙ a.epoch;
  failed = b.failed ∙ a.failed;
  bad = b.bad ∙ a.bad;
  writable = b.writable;
  none_new = λ m st. a.none_new m (b.none_new m st);
  room = b.room ∙ a.room;
  spare = b.spare ∙ a.spare;
}

pub opened_all : {f g : Forest} {at : ℕ} → Opens f at g → IsSound f → f.stands at ≡ true → f.root at ≡ at → Opened f g at
opened_all {f} {g} {at} (body_of_refs alters) sound stands top = altered f g at sound stands top alters
opened_all {f} {g} {at} (body_of_bytes {h = h} alters bare changes) sound stands top =
    let first = altered f h at sound stands top alters in
    opened_on f h g at top first (emptied h at bare g alters.sound first.place.stands (first.place.root ∙ top) alters.writable changes)
