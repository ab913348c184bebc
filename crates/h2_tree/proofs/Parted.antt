-- A leaf that goes into a set which is split for it.
use Rattle.std.proofs.Common.{◌≡◌, ℕ, ◌+◌, ◌≤◌, ◌^◌, Bool, true, false, arith, refl, sym, ◌∙◌, ap, List, length, Some, None, slice_get, subst, ◌⊎◌, inl, inr}
use Rattle.h2_ref.specs.declared.reference.Ref.{Ref}
use Rattle.h2_set.specs.declared.set.Split.{Split}
use Rattle.std.specs.Prelude.{filter, not}
use Rattle.h2_set.specs.Ranges.{Rising, limit, put, lies, Sides, NoneHolds, IsApart, AllAligned, IsOneClass}
use Rattle.h2_set.specs.RefSet.{RefSet, IsSplitOf, with_rest}
use Rattle.h2_set.specs.Forest.{Forest, refs, loaded, HasLeaves, LeavesOf, IsSoundNode, IsSound}
use Rattle.h2_set.specs.Calls.{Stays, Keeps, Alters, MadeFrom, Makes}
use Rattle.h2_set.specs.StayLaws.{leaves_stay, Fixed-trans, InPlace-trans}
use Rattle.h2_set.specs.EditLaws.{Rising-put}
use Rattle.h2_set.specs.ChangeLaws.{Keeps-Stays, Keeps-trans, Same-Keeps, below_keeps, leaves_put}
use Rattle.h2_set.specs.PartLaws.{Divides, halves, inner_of}
use Rattle.h2_set.specs.RenewLaws.{Keeps-Renews, Renews-trans, Alike-length}
use Rattle.h2_set.specs.MadeLaws.{PartsNode, parts_node, put_aligned, put_class}
use Rattle.h2_tree.specs.Changes.{Under, Takes, TakesIn, arrived, Inserts}
use Rattle.h2_tree.specs.Changes.{parted as parted_by}
use Rattle.h2_tree.proofs.Going.{own_set, altered_place, changes_only, Prepares-refl, none_empty}
use Rattle.h2_tree.proofs.Store.{all_still, leaf_fits, alters_still}
use Rattle.h2_tree.proofs.Touching.{In-refl}
use Rattle.h2_tree.proofs.Edit.{apart_altered, apart_node}

module _ (f h g : Forest) (at c : ℕ) (leaf : Ref) (set : RefSet) (s : Split) (sound : IsSound f) (stands : f.stands at ≡ true) (takes : Takes f at leaf) (alters : Alters f h at) (made : MadeFrom h at leaf set s) (makes : Makes h g at c set s) where
  here : Keeps f h at
  here = alters.tree at stands refl

  node : IsSoundNode h at
  node = alters.sound.node at here.place.stands

  parting : PartsNode h at leaf s.key s.keybits
  parting = parts_node h at leaf set s node made

  divides : Divides h g at c s.key s.keybits
  divides = record {
    moved = makes.below_moved;
    kept = makes.below_kept;
    keep = λ k d link.
        let child = node.child k d link in
        below_keeps h g at alters.sound (λ m st root ne. Same-Keeps h g m (makes.others m st ne)) d child.stands child.root child.fewer;
  }

  new_refs : refs g at ≡ put makes.ref (with_rest s.rest set.refs)
  new_refs = ap (λ (t : RefSet). t.refs) makes.now

  moved_refs : refs g c ≡ inner_of s.key s.keybits (put leaf (refs h at))
  moved_refs = ap (λ (t : RefSet). t.refs) (makes.moved ∙ made.moved)

  same : h.set at ≡ f.set at
  same = own_set f h at sound stands alters

  not_there : f.stands c ≡ false
  not_there = by (f.stands c) refl
    where
      by : (b : Bool) → f.stands c ≡ b → f.stands c ≡ false
      by false e = e
      by true e = let clash : true ≡ false = sym (alters_still f h at alters c e) ∙ makes.fresh in cc

  takes_in : NoneHolds leaf.key (refs f at) → TakesIn f g at leaf 1 None
  takes_in miss = parted_by (record {
    none = miss;
    apart = apart_node f at leaf (sound.node at stands) takes miss;
    sides = subst (λ (t : RefSet). (i : ℕ) (r : Ref) → slice_get (put leaf t.refs) i ≡ Some r → Sides s.key s.keybits r) same parting.sides;
    below_moved = λ k le lt. makes.below_moved k le lt ∙ here.link k;
    below_kept = λ k out. makes.below_kept k out ∙ here.link k;
    full = subst (λ (t : RefSet). length t.refs ≡ t.capacity) same made.full;
    key = s.key;
    bits = s.keybits;
    split = subst (λ (t : RefSet). IsSplitOf (put leaf t.refs) s.key s.keybits) same made.split;
    node = c;
    fresh = not_there;
    moved = subst (λ (t : RefSet). g.set c ≡ record { refs = filter (lies s.key s.keybits) (put leaf t.refs); capacity = 32 }) same (makes.moved ∙ made.moved);
    new_writable = makes.new_writable;
    none_new = λ m st. elim (makes.none_new m st) as (λ _. (m ≡ c) ⊎ (f.stands m ≡ true)) [
      | inl new ↦ inl new
      | inr was ↦ inr (alters.none_new m was)
    ];
    ref = makes.ref;
    indirect = makes.indirect;
    ref_key = makes.key;
    ref_bits = makes.keybits;
    dated = makes.dated ∙ alters.fixed.epoch;
    link = makes.child;
    set =
        let kept = ap (λ (z : List Ref). let t : RefSet = record { refs = put makes.ref z; capacity = set.capacity } in t) made.kept in
        let sized = ap (λ (z : ℕ). let t : RefSet = record { refs = put makes.ref (filter (λ q. not (lies s.key s.keybits q)) (put leaf (refs h at))); capacity = z } in t) made.capacity in
        subst (λ (t : RefSet). g.set at ≡ record { refs = put makes.ref (filter (λ q. not (lies s.key s.keybits q)) (put leaf t.refs)); capacity = t.capacity }) same (makes.now ∙ kept ∙ sized);
  })

  pub parted : NoneHolds leaf.key (refs f at) → 63 ≤ f.room → Inserts f g at leaf None
  parted miss enough =
      let P : ℕ → Type 0 = λ m. (f.stands m ≡ true) × (f.root m ≡ f.root at) in
      let closed : (m k c : ℕ) → P m → f.link m k ≡ loaded c → P c = λ m k c p link. let child = (sound.node m p.0).child k c link in (child.stands, child.root ∙ p.1) in
      let stay : (m : ℕ) → P m → Stays f h m = λ m p. Keeps-Stays f h m (alters.tree m p.0 p.1) in
      let high = h.low at + 2 ^ h.bits at in
      let rising : Rising (h.low at) high (put leaf (refs h at)) = Rising-put (h.low at) high (refs h at) leaf node.inside made.apart made.low made.high in
      record {
        sound = makes.sound;
        fixed = Fixed-trans f h g (λ m st st'. (altered_place f h at alters m st).stands) alters.fixed makes.fixed;
        place = InPlace-trans f h g at here.place makes.place;
        leaves = λ l hl.
            let l2 : LeavesOf h at l = leaves_stay f h P closed stay (stands, refl) hl (refs h at) here.alike in
            let all : HasLeaves h at (put leaf (refs h at)) (put leaf l) = leaves_put leaf l2 (h.low at) high node.inside made.apart made.leaf in
            let it = halves c s.key s.keybits (h.low at) high makes.ref divides makes.indirect makes.key makes.keybits makes.child all rising parting.range_high parting.sides moved_refs in
            subst (λ z. HasLeaves g at z (put leaf l)) (sym new_refs) (rw made.kept it);
        tree = λ m st root out.
            let k = alters.tree m st root in
            let ne : m ≡ at → ⊥ = λ e. out (subst (λ z. Under f z at) (sym e) (record { low = omega arith; high = omega arith })) in
            Keeps-trans f h g m k (Same-Keeps h g m (makes.others m k.place.stands ne));
        above = λ m st root.
            let k = alters.above m st root in
            let ne : m ≡ at → ⊥ = λ e. root (ap f.root e) in
            Renews-trans f h g m k (Keeps-Renews h g m (Same-Keeps h g m (makes.others m k.place.stands ne)));
        still = all_still f h g at alters makes.place (λ m st ne. Same-Keeps h g m (makes.others m st ne));
        room = (let slope = (sound.node at stands).slope in omega (arith, enough, slope, parting.fewer, here.place.bits, alters.room, makes.room));
        goes = record {
          then = f;
          prepares = Prepares-refl f sound;
          touched = In-refl f at leaf.key leaf.key;
          node = at;
          stands = stands;
          way = arrived;
          blocks = 1;
          change = takes_in miss;
          only = changes_only f h g at (λ m. ⊥) alters makes.place (λ m st ne not_gone. makes.others m st ne);
          room = omega (arith, alters.room, makes.room);
          spare = omega (arith, alters.spare, makes.spare);
          grown = λ one. refl;
        };
        filled = none_empty g makes.sound;
        room_falls = omega (arith, alters.room, makes.room);
        spare = omega (arith, alters.spare, makes.spare);
      }

-- what a split of a copy of the altered set gives is what a node is made from
module _ (f h : Forest) (at : ℕ) (leaf : Ref) (sound : IsSound f) (stands : f.stands at ≡ true) (takes : Takes f at leaf) (alters : Alters f h at) (miss : NoneHolds leaf.key (refs f at)) where
  placed : Keeps f h at
  placed = alters.tree at stands refl

  pub set_full : (let t = f.set at in length t.refs ≡ t.capacity) → (let t = h.set at in length t.refs ≡ t.capacity)
  set_full full = omega (arith, full, Alike-length (refs f at) (refs h at) placed.alike, alters.capacity at stands)

  low_h : h.low at ≤ leaf.key
  low_h = omega (arith, takes.low, placed.place.low)

  high_h : limit leaf ≤ h.low at + 2 ^ h.bits at
  high_h = rw (placed.place.low, placed.place.bits) takes.high

  sound_h : IsSoundNode h at
  sound_h = alters.sound.node at placed.place.stands

  apart_h : IsApart leaf (refs h at)
  apart_h = apart_altered f h at leaf sound stands takes alters miss

  pub leaf_small : limit leaf ≤ 2 ^ 64
  leaf_small = omega (arith, high_h, sound_h.ends)

  -- the copy is the altered set
  module _ (copy got : RefSet) (e1 : copy ≡ got) (e2 : got ≡ h.set at) where
    refs_are : copy.refs ≡ refs h at
    refs_are = ap (λ (t : RefSet). t.refs) (e1 ∙ e2)

    pub copy_apart : IsApart leaf copy.refs
    copy_apart = subst (IsApart leaf) (sym refs_are) apart_h

    pub copy_full : (let t = f.set at in length t.refs ≡ t.capacity) → length copy.refs ≡ copy.capacity
    copy_full full = subst (λ (t : RefSet). length t.refs ≡ t.capacity) (sym (e1 ∙ e2)) (set_full full)

    pub copy_aligned : AllAligned (put leaf copy.refs)
    copy_aligned = subst (λ l. AllAligned (put leaf l)) (sym refs_are) (put_aligned h at leaf sound_h apart_h (leaf_fits f h at leaf sound stands takes alters) low_h high_h)

    pub copy_class : IsOneClass (put leaf copy.refs)
    copy_class = subst (λ l. IsOneClass (put leaf l)) (sym refs_are) (put_class h at leaf sound_h apart_h (leaf_fits f h at leaf sound stands takes alters) low_h high_h)

    pub made_from : (set : RefSet) (s : Split) → (let t = f.set at in length t.refs ≡ t.capacity) → IsSplitOf (put leaf copy.refs) s.key s.keybits → s.moved ≡ record { refs = filter (lies s.key s.keybits) (put leaf copy.refs); capacity = 32 } → with_rest s.rest set.refs ≡ filter (λ q. not (lies s.key s.keybits q)) (put leaf copy.refs) → set.capacity ≡ copy.capacity → MadeFrom h at leaf set s
    made_from set s full split moved kept capacity = record {
      apart = apart_h;
      fits = leaf_fits f h at leaf sound stands takes alters;
      leaf = takes.is_leaf;
      low = low_h;
      high = high_h;
      full = set_full full;
      split = subst (λ l. IsSplitOf (put leaf l) s.key s.keybits) refs_are split;
      moved = subst (λ l. s.moved ≡ record { refs = filter (lies s.key s.keybits) (put leaf l); capacity = 32 }) refs_are moved;
      kept = subst (λ l. with_rest s.rest set.refs ≡ filter (λ q. not (lies s.key s.keybits q)) (put leaf l)) refs_are kept;
      capacity = capacity ∙ ap (λ (t : RefSet). t.capacity) (e1 ∙ e2);
    }

-- room and a spare node are left for the block that a split makes
pub part_space : (f h : Forest) (at : ℕ) (leaf : Ref) (set : RefSet) (s : Split) → IsSound f → f.stands at ≡ true → Alters f h at → MadeFrom h at leaf set s → 1 ≤ f.spare → 63 ≤ f.room → (1 ≤ h.spare) × (1 ≤ h.room)
part_space f h at leaf set s sound stands alters made spare room =
    let kept = alters.tree at stands refl in
    let parting = parts_node h at leaf set s (alters.sound.node at kept.place.stands) made in
    let slope = (sound.node at stands).slope in
    (omega (arith, alters.spare, spare), omega (arith, slope, alters.room, room, parting.fewer, kept.place.bits))
