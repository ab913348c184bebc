-- An insertion after spare nodes were made ready.
use Rattle.std.proofs.Common.{◌≡◌, ℕ, ◌<◌, ◌≤◌, ◌^◌, true, arith, sym, ◌∙◌, ap, length, Option, subst, inl, inr}
use Rattle.std.proofs.lemmas.Bool.{cases_lt}
use Rattle.h2_ref.specs.declared.reference.Ref.{Ref}
use Rattle.h2_set.specs.Ranges.{NoneHolds}
use Rattle.h2_set.specs.RefSet.{RefSet, IsRefSet}
use Rattle.h2_set.specs.Forest.{Forest, refs, IsSound}
use Rattle.h2_set.specs.Calls.{ReadiesOnly}
use Rattle.h2_set.specs.StayLaws.{Fixed-trans, InPlace-trans, Readies-leaves}
use Rattle.h2_set.specs.ChangeLaws.{Same-Keeps, Keeps-trans}
use Rattle.h2_set.specs.RenewLaws.{Keeps-Renews, Renews-trans}
use Rattle.h2_tree.specs.Changes.{Takes, Inserts}
use Rattle.h2_tree.proofs.Going.{Prepares-trans, Readies-prepares}
use Rattle.h2_tree.proofs.Touching.{In-prepared, none_in}

module _ (f h : Forest) (at : ℕ) (leaf : Ref) (stands : f.stands at ≡ true) (ready : ReadiesOnly f h) where
  pub takes_after : IsSound f → Takes f at leaf → Takes h at leaf
  takes_after sound takes =
      let place = (ready.same at stands).place in
      let top = (sound.top at stands).0 in
      let top' = (ready.same (f.root at) top).place.stands in
      record {
        is_leaf = takes.is_leaf;
        allowed = ap (λ z. h.allows z leaf) place.root ∙ ready.fixed.allows (f.root at) leaf top top' ∙ takes.allowed;
        aligned = takes.aligned;
        class = takes.class;
        keybits = takes.keybits ∙ sym (ready.fixed.leaf_bits (f.root at) top top') ∙ ap h.leaf_bits (sym place.root);
        low = omega (arith, takes.low, place.low);
        high = rw (place.low, place.bits) takes.high;
      }

  pub none_after : NoneHolds leaf.key (refs f at) → NoneHolds leaf.key (refs h at)
  none_after miss = subst (λ (s : RefSet). NoneHolds leaf.key s.refs) (sym (ready.same at stands).set) miss

  pub inserts_after : (1 ≤ f.spare → h.spare ≡ f.spare) → (g : Forest) (old : Option Ref) → IsSound f → Inserts h g at leaf old → Inserts f g at leaf old
  inserts_after still g old sound ins =
      let keeps = λ (m : ℕ) (st : f.stands m ≡ true). Same-Keeps f h m (ready.same m st) in
      let place = (ready.same at stands).place in
      record {
        sound = ins.sound;
        fixed = Fixed-trans f h g (λ m st st'. (ready.same m st).place.stands) ready.fixed ins.fixed;
        place = InPlace-trans f h g at place ins.place;
        leaves = λ l hl. ins.leaves l (Readies-leaves f h sound ready at stands l hl);
        tree = λ m st root out.
            let k = keeps m st in
            Keeps-trans f h g m k (ins.tree m k.place.stands (k.place.root ∙ root ∙ sym place.root) (λ u. out (record { low = omega (arith, u.low, place.low, k.place.low); high = omega (arith, u.high, place.low, k.place.low, ap (λ z. 2 ^ z) place.bits, ap (λ z. 2 ^ z) k.place.bits) })));
        above = λ m st root.
            let k = keeps m st in
            Renews-trans f h g m (Keeps-Renews f h m k) (ins.above m k.place.stands (λ e. root (sym k.place.root ∙ e ∙ place.root)));
        still = λ m st. let k = (keeps m st).place in InPlace-trans f h g m k (ins.still m k.stands);
        goes = (let it = ins.goes in record {
          then = it.then;
          prepares = Prepares-trans f h it.then (Readies-prepares f h ready) it.prepares;
          touched = In-prepared f h it.then at at leaf.key leaf.key place.root it.prepares (none_in f h at leaf.key leaf.key ready.none_new) it.touched;
          node = it.node;
          stands = it.stands;
          way = it.way;
          blocks = it.blocks;
          change = it.change;
          only = it.only;
          room = omega (arith, it.room, ready.room);
          spare = it.spare;
          grown = λ one. it.grown (omega (arith, one, still one)) ∙ still one;
        });
        filled = ins.filled;
        room = omega (arith, ins.room, ready.room);
        room_falls = omega (arith, ins.room_falls, ready.room);
        spare = omega (arith, ins.spare, ready.spare);
      }

pub full_after : (f h : Forest) (at : ℕ) → f.stands at ≡ true → ReadiesOnly f h → (let t = f.set at in length t.refs ≡ t.capacity) → (let t = h.set at in length t.refs ≡ t.capacity)
full_after f h at stands ready full = subst (λ (t : RefSet). length t.refs ≡ t.capacity) (sym (ready.same at stands).set) full

-- a set that isn't full has room
pub not_full : (s : RefSet) → IsRefSet s → (length s.refs ≡ s.capacity → ⊥) → length s.refs < s.capacity
not_full s set full = elim (cases_lt (length s.refs) s.capacity) as (λ _. length s.refs < s.capacity) [
  | inl lt ↦ lt
  | inr ge ↦ absurd (full (omega (arith, ge, set.fits)))
]

pub ready_spare : (n : ℕ) (P : Type 0) → (1 ≤ n → P) → (P → ⊥) → n ≡ 0
ready_spare n P enough refused = elim (cases_lt 0 n) as (λ _. n ≡ 0) [
  | inl some ↦ absurd (refused (enough some))
  | inr le ↦ omega (arith, le)
]
