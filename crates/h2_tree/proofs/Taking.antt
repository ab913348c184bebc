-- What is answered when a leaf is taken out, from node to node.
use Rattle.std.proofs.Common.{◌≡◌, ℕ, ◌<◌, ◌^◌, Bool, true, false, nat_eq, arith, refl, sym, ◌∙◌, ap, List, [], ◌∷◌, length, Option, Some, None, subst, cond}
use Rattle.std.proofs.lemmas.Bool.Decides.{nat_tests}
use Rattle.std.proofs.lemmas.Nat.{pow_pos}
use Rattle.std.proofs.lemmas.Option.{slice_get_within}
use Rattle.h2_ref.specs.declared.reference.Ref.{Ref}
use Rattle.h2_set.specs.Ranges.{Rising, limit, holds, find, at_key}
use Rattle.h2_set.specs.Forest.{Forest, refs, loaded, LeavesOf, IsSound}
use Rattle.h2_set.specs.Calls.{Walks, Loads}
use Rattle.h2_set.specs.StayLaws.{Walks-refl, Walks-trans, Walks-leaves, Fixed-trans, InPlace-trans}
use Rattle.h2_set.specs.LeafLaws.{leaves_rising, holds_inside, reaches_find}
use Rattle.h2_set.specs.ChangeLaws.{Keeps-refl, Keeps-trans}
use Rattle.h2_set.specs.RenewLaws.{Keeps-Renews, Renews-trans}
use Rattle.h2_tree.specs.Changes.{Under, WalksUnder, LeadsOnly, itself, down, IsFree, LoadsIn, Removes}
use Rattle.h2_tree.specs.PathLaws.{only_path}
use Rattle.h2_tree.proofs.Touching.{In-trans}
use Rattle.h2_set.specs.PathLaws.{in_holds}

-- the leaf that was found, where it has the very key
abbrev pub keyed : ℕ → Option Ref → Option Ref
keyed key None = None
keyed key (Some r) = cond (nat_eq r.key key) (Some r) None

at_key_above : (key low high : ℕ) (l : List Ref) → Rising low high l → key < low → at_key key l ≡ None
at_key_above key low high [] h lt = refl
at_key_above key low high (r ∷ l) h lt =
    let pos = pow_pos r.keybits in
    let other : nat_eq r.key key ≡ false = (let above = h.0 in grind (arith, nat_tests)) in
    rw other (at_key_above key (limit r) high l h.1 (omega (arith, h.0, lt, pos)))

not_same_key : (key : ℕ) (r : Ref) (b : Bool) → nat_eq r.key key ≡ b → holds key r ≡ false → nat_eq r.key key ≡ false
not_same_key key r false e out = e
not_same_key key r true e out =
    let same : r.key ≡ key = grind (arith, nat_tests) in
    let pos = pow_pos r.keybits in
    let clash : true ≡ false = sym (in_holds key r (omega (arith, same)) (omega (arith, same, pos))) ∙ out in
    cc

pub at_key_find : (key low high : ℕ) (l : List Ref) → Rising low high l → at_key key l ≡ keyed key (find key l)
at_key_find key low high [] h = refl
at_key_find key low high (r ∷ l) h = step (holds key r) refl (at_key_find key (limit r) high l h.1)
  where
    step : (b : Bool) → holds key r ≡ b → at_key key l ≡ keyed key (find key l) → cond (nat_eq r.key key) (Some r) (at_key key l) ≡ keyed key (cond b (Some r) (find key l))
    step true in_r ih = let inside = holds_inside key r in_r in ap (cond (nat_eq r.key key) (Some r)) (at_key_above key (limit r) high l h.1 inside.1)
    step false out ih =
        let other : nat_eq r.key key ≡ false = not_same_key key r (nat_eq r.key key) refl out in
        rw other ih

pub at_key_none : (key low high : ℕ) (l : List Ref) → Rising low high l → find key l ≡ None → at_key key l ≡ None
at_key_none key low high l h e = at_key_find key low high l h ∙ ap (keyed key) e

pub at_key_other : (key low high : ℕ) (l : List Ref) (r : Ref) → Rising low high l → find key l ≡ Some r → (r.key ≡ key → ⊥) → at_key key l ≡ None
at_key_other key low high l r h e ne =
    let other : nat_eq r.key key ≡ false = differs (nat_eq r.key key) refl in
    at_key_find key low high l h ∙ ap (keyed key) e ∙ rw other refl
  where
    differs : (b : Bool) → nat_eq r.key key ≡ b → nat_eq r.key key ≡ false
    differs false e = e
    differs true e = absurd (ne (grind (arith, nat_tests)))

pub at_key_some : (key low high : ℕ) (l : List Ref) (r : Ref) → Rising low high l → find key l ≡ Some r → r.key ≡ key → at_key key l ≡ Some r
at_key_some key low high l r h e is =
    let same : nat_eq r.key key ≡ true = grind (arith, nat_tests) in
    at_key_find key low high l h ∙ ap (keyed key) e ∙ rw same refl

-- the leaf that a reference leads to alone is the one with its key
pub only_at_key : (f : Forest) (at i : ℕ) (leaf : Ref) → IsSound f → f.stands at ≡ true → LeadsOnly f at i leaf → (l : List Ref) → LeavesOf f at l → at_key leaf.key l ≡ Some leaf
only_at_key f at i leaf sound stands only l hl =
    let rising = leaves_rising hl _ _ (sound.node at stands).inside in
    at_key_some leaf.key _ _ l leaf rising (sym (reaches_find sound (only_path sound stands only) stands l hl)) refl

-- where a node has one reference, it is at the first place
pub only_first : (f : Forest) (at i : ℕ) (leaf : Ref) → length (refs f at) ≡ 1 → LeadsOnly f at i leaf → LeadsOnly f at 0 leaf
only_first f at i leaf one only = subst (λ z. LeadsOnly f at z leaf) (place_of only) only
  where
    place_of : {j : ℕ} → LeadsOnly f at j leaf → j ≡ 0
    place_of (itself {r = r} j read k) = let within = slice_get_within (refs f at) j r read in omega (arith, within, one)
    place_of (down {r = r} j read k l o rest) = let within = slice_get_within (refs f at) j r read in omega (arith, within, one)

pub under_refl : (f : Forest) (at : ℕ) → f.stands at ≡ true → IsSound f → WalksUnder f f at
under_refl f at stands sound = record { walks = Walks-refl f sound; keeps = λ m st out. Keeps-refl f m st }

pub itself_under : (f : Forest) (at : ℕ) → Under f at at
itself_under f at = record { low = omega arith; high = omega arith }

-- a load at one key of node at
pub under_load : (f h : Forest) (at k : ℕ) → Walks f h → Loads f h at k → WalksUnder f h at
under_load f h at k walks loads = record {
  walks = walks;
  keeps = λ m st out. loads.keeps m st (λ e. out (ap f.root e) (subst (λ z. Under f z at) (sym e) (itself_under f at)));
}

-- walks under a child are walks under the node
pub under_child : (f h g : Forest) (at k c : ℕ) → f.stands at ≡ true → WalksUnder f h at → h.link at k ≡ loaded c → WalksUnder h g c → WalksUnder f g at
under_child f h g at k c stands first link second =
    let there = (first.walks.stays at stands).place in
    let child = (first.walks.sound.node at there.stands).child k c link in
    record {
      walks = Walks-trans f h g first.walks second.walks;
      keeps = λ m st out.
          let kept = first.keeps m st out in
          Keeps-trans f h g m kept (second.keeps m kept.place.stands (λ root u. out (sym kept.place.root ∙ root ∙ child.root ∙ there.root) (record {
            low = omega (arith, u.low, child.above, kept.place.low, there.low);
            high = omega (arith, u.high, child.within, kept.place.low, ap (λ z. 2 ^ z) kept.place.bits, there.low, ap (λ z. 2 ^ z) there.bits);
          })));
    }

-- a removal after loads under the node
pub removes_after : (f h g : Forest) (at : ℕ) (leaf : Ref) → IsSound f → f.stands at ≡ true → WalksUnder f h at → LoadsIn f h at leaf.key leaf.key → Removes h g at leaf → Removes f g at leaf
removes_after f h g at leaf sound stands walk touched rem =
    let there = (walk.walks.stays at stands).place in
    record {
      sound = rem.sound;
      fixed = Fixed-trans f h g (λ m st st'. (walk.walks.stays m st).place.stands) walk.walks.fixed rem.fixed;
      place = InPlace-trans f h g at there rem.place;
      leaves = λ l hl. rem.leaves l (Walks-leaves f h sound walk.walks at stands l hl);
      tree = λ m st root out.
          let k = walk.keeps m st (λ r u. out u) in
          Keeps-trans f h g m k (rem.tree m k.place.stands (k.place.root ∙ root ∙ sym there.root) (λ u. out (record {
            low = omega (arith, u.low, k.place.low, there.low);
            high = omega (arith, u.high, k.place.low, ap (λ z. 2 ^ z) k.place.bits, there.low, ap (λ z. 2 ^ z) there.bits);
          })));
      above = λ m st root belongs.
          let k = walk.keeps m st (λ r u. root r) in
          Renews-trans f h g m (Keeps-Renews f h m k) (rem.above m k.place.stands (λ e. root (sym k.place.root ∙ e ∙ there.root)) (λ e. belongs (sym (k.place.belongs (f.root at) leaf.key) ∙ subst (λ z. h.belongs m z leaf.key ≡ true) there.root e)));
      goes = (let it = rem.goes in record {
        then = it.then;
        walks = Walks-trans f h it.then walk.walks it.walks;
        touched = In-trans f h it.then at at leaf.key leaf.key there.root it.walks touched it.touched;
        node = it.node;
        stands = it.stands;
        way = it.way;
        place = it.place;
        only_leaf = it.only_leaf;
        more = it.more;
        set = it.set;
        link = it.link;
        only = it.only;
        gone = it.gone;
        none_new = it.none_new;
        room = omega (arith, it.room, walk.walks.room);
        spare = it.spare ∙ walk.walks.spare;
      });
      filled = rem.filled;
      room = omega (arith, rem.room, walk.walks.room);
      room_falls = omega (arith, rem.room_falls, walk.walks.room);
      spare = rem.spare ∙ walk.walks.spare;
    }

-- nothing that belongs to the key's leaf is held after a walk
pub free_after : (f h : Forest) (top key : ℕ) → IsSound f → Walks f h → IsFree f top key → IsFree h top key
free_after f h top key sound walks free m st belongs = by (f.held m) refl
  where
    by : (b : Bool) → f.held m ≡ b → h.held m ≡ false
    by false e = walks.fixed.held m ∙ e
    by true e =
        let was = (sound.held m e).0 in
        let stay = (walks.stays m was).place in
        walks.fixed.held m ∙ free m was (sym (stay.belongs top key) ∙ belongs)
