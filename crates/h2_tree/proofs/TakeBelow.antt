-- What taking a leaf out below a node is to the node.
use Rattle.std.proofs.Common.{◌≡◌, ℕ, ◌≤◌, ◌^◌, true, arith, sym, ◌∙◌, ap, List, Option, Some, None, subst, slice_get}
use Rattle.h2_ref.specs.declared.reference.Ref.{Ref}
use Rattle.h2_set.specs.RefSet.{RefSet}
use Rattle.h2_set.specs.Ranges.{holds, at_key, is_indirect}
use Rattle.h2_set.specs.Forest.{Forest, refs, loaded, LeavesOf, IsSoundNode, IsSound, below}
use Rattle.h2_set.specs.Calls.{Walks, Loads, Stays}
use Rattle.h2_set.specs.StayLaws.{Walks-trans, Walks-leaves}
use Rattle.h2_set.specs.LeafLaws.{leaves_rising, find_below}
use Rattle.h2_set.specs.ChangeLaws.{Keeps-trans}
use Rattle.h2_tree.specs.Changes.{Under, WalksUnder, LeadsOnly, down, IsFree, LoadsIn, LacksLeaf, Removes, TakesOut, PathUnloaded}
use Rattle.h2_tree.specs.declared.removing.Taken.{Taken}
use Rattle.h2_tree.specs.declared.removing.Taken.TheVariants.{Nothing, Out, Sole}
use Rattle.h2_tree.proofs.Climb.{reaches_child}
use Rattle.h2_tree.proofs.Taking.{keyed, at_key_find, only_at_key, under_load, under_child, removes_after, free_after}
use Rattle.h2_tree.proofs.RemoveBelow.{remove_below}
use Rattle.h2_tree.proofs.Touching.{In-trans, in_path}

-- walks under a node, one after the other
pub under_on : (f h g : Forest) (at : ℕ) → f.stands at ≡ true → WalksUnder f h at → WalksUnder h g at → WalksUnder f g at
under_on f h g at stands first second =
    let there = (first.walks.stays at stands).place in
    record {
      walks = Walks-trans f h g first.walks second.walks;
      keeps = λ m st out.
          let kept = first.keeps m st out in
          Keeps-trans f h g m kept (second.keeps m kept.place.stands (λ root u. out (sym kept.place.root ∙ root ∙ there.root) (record {
            low = omega (arith, u.low, kept.place.low, there.low);
            high = omega (arith, u.high, kept.place.low, ap (λ z. 2 ^ z) kept.place.bits, there.low, ap (λ z. 2 ^ z) there.bits);
          })));
    }

-- a load at a node that lies under the first one
pub under_step : (f h g : Forest) (root at k : ℕ) → f.stands root ≡ true → WalksUnder f h root → h.root at ≡ f.root root → Under h at root → Walks h g → Loads h g at k → WalksUnder f g root
under_step f h g root at k stands first tree inside walks loads =
    let there = (first.walks.stays root stands).place in
    under_on f h g root stands first (record {
      walks = walks;
      keeps = λ m st out. loads.keeps m st (λ e. out (ap h.root e ∙ tree ∙ sym there.root) (subst (λ z. Under h z root) (sym e) inside));
    })

-- and its child lies under it too
pub under_next : (f h : Forest) (root at c k : ℕ) → Walks f h → f.stands root ≡ true → f.stands at ≡ true → h.link at k ≡ loaded c → Under f at root → Under h c root
under_next f h root at c k walks st_root stands link inside =
    let top = (walks.stays root st_root).place in
    let there = (walks.stays at stands).place in
    let child = (walks.sound.node at there.stands).child k c link in
    record {
      low = omega (arith, inside.low, child.above, top.low, there.low);
      high = omega (arith, inside.high, child.within, top.low, ap (λ z. 2 ^ z) top.bits, there.low, ap (λ z. 2 ^ z) there.bits);
    }

-- what was taken out after loads under the node
pub takes_after : (f h g : Forest) (at key : ℕ) → IsSound f → f.stands at ≡ true → WalksUnder f h at → LoadsIn f h at key key → (t : Taken) → TakesOut h g at key t → TakesOut f g at key t
takes_after f h g at key sound stands walk touched Nothing taken = (under_on f h g at stands walk taken.0, λ l hl. taken.1 l (Walks-leaves f h sound walk.walks at stands l hl), In-trans f h g at at key key (walk.walks.stays at stands).place.root taken.0.walks touched taken.2, taken.3)
takes_after f h g at key sound stands walk touched (Out leaf) taken = (removes_after f h g at leaf sound stands walk (subst (λ z. LoadsIn f h at z z) (sym taken.1) touched) taken.0, taken.1, λ l hl. taken.2 l (Walks-leaves f h sound walk.walks at stands l hl))
takes_after f h g at key sound stands walk touched (Sole leaf) taken = (under_on f h g at stands walk taken.0, taken.1, taken.2, taken.3, In-trans f h g at at key key (walk.walks.stays at stands).place.root taken.0.walks touched taken.4)

-- the same by another name of the key
pub takes_key : (f g : Forest) (at a b : ℕ) → a ≡ b → (t : Taken) → TakesOut f g at a t → TakesOut f g at b t
takes_key f g at a b e t taken = subst (λ z. TakesOut f g at z t) e taken

module _ (f h : Forest) (at i c key : ℕ) (q : Ref) (sound : IsSound f) (stands : f.stands at ≡ true) (read : slice_get (refs f at) i ≡ Some q) (ind : is_indirect q ≡ true) (in_q : holds key q ≡ true) (walks : Walks f h) (loads : Loads f h at q.key) (link : h.link at q.key ≡ loaded c) where
  there : Stays f h at
  there = walks.stays at stands

  node : IsSoundNode h at
  node = walks.sound.node at there.place.stands

  read_h : slice_get (refs h at) i ≡ Some q
  read_h = ap (λ (s : RefSet). slice_get s.refs i) (walks.sets at stands) ∙ read

  under : WalksUnder f h at
  under = under_load f h at q.key walks loads

  pub touched_child : LoadsIn f h at key key
  touched_child = in_path f h at i q key stands read ind in_q walks loads

  pub touched_err : (g : Forest) → Walks h g → LoadsIn h g c key key → LoadsIn f g at key key
  touched_err g walks' touched = In-trans f h g at c key key ((node.child q.key c link).root ∙ there.place.root) walks' touched_child touched

  -- where the child's path leads to no leaf of the key, that of the node leads to none
  lacks_below : (g : Forest) → Walks h g → LacksLeaf g c key → LacksLeaf g at key
  lacks_below g walks' lacks = record {
    found = lacks.found;
    path = below {r = q} i (ap (λ (s : RefSet). slice_get s.refs i) (walks'.sets at there.place.stands) ∙ read_h) in_q ind ((walks'.stays at there.place.stands).near q.key c link) lacks.path;
    other = lacks.other;
  }

  at_below : (o : Option Ref) → ((b : List Ref) → LeavesOf h c b → at_key key b ≡ o) → (l : List Ref) → LeavesOf f at l → at_key key l ≡ o
  at_below o inner l hl =
      let it = find_below key _ _ i c q (Walks-leaves f h sound walks at stands l hl) node.inside read_h in_q ind link in
      let kid = walks.sound.node c (node.child q.key c link).stands in
      let whole = at_key_find key _ _ l (leaves_rising hl _ _ (sound.node at stands).inside) in
      let part = at_key_find key _ _ it.kids (leaves_rising it.leaves _ _ kid.inside) in
      whole ∙ (ap (keyed key) it.same ∙ sym part) ∙ inner it.kids it.leaves

  pub nothing_below : (g : Forest) → TakesOut h g c key Nothing → TakesOut f g at key Nothing
  nothing_below g taken = (under_child f h g at q.key c stands under link taken.0, at_below None taken.1, touched_err g taken.0.walks taken.2, lacks_below g taken.0.walks taken.3)

  pub out_below : (g : Forest) (leaf : Ref) → TakesOut h g c key (Out leaf) → TakesOut f g at key (Out leaf)
  out_below g leaf taken = (remove_below f h at i c leaf q sound stands read ind (rw taken.1 in_q) walks loads link g taken.0, taken.1, at_below (Some leaf) taken.2)

  -- where the child has but this leaf, the reference to it leads to this leaf alone
  pub under_sole : (g : Forest) (leaf : Ref) → TakesOut h g c key (Sole leaf) → WalksUnder f g at
  under_sole g leaf taken = under_child f h g at q.key c stands under link taken.0

  pub only_sole : (g : Forest) (leaf : Ref) → TakesOut h g c key (Sole leaf) → LeadsOnly g at i leaf
  only_sole g leaf taken =
      let stay = taken.0.walks.stays at there.place.stands in
      down {r = q} i (ap (λ (s : RefSet). slice_get s.refs i) (taken.0.walks.sets at there.place.stands) ∙ read_h) ind (stay.near q.key c link) taken.1 taken.2

  pub free_sole : (g : Forest) (leaf : Ref) → TakesOut h g c key (Sole leaf) → IsFree f (f.root at) key → IsFree g (g.root at) leaf.key
  free_sole g leaf taken free =
      let whole = (under_sole g leaf taken).walks in
      let root = (whole.stays at stands).place.root in
      rw (root, taken.3) (free_after f g (f.root at) key sound whole free)

  pub room_sole : (g : Forest) (leaf : Ref) → TakesOut h g c key (Sole leaf) → (f.copies at ≤ 62) × (62 ≤ f.room) → (g.copies at ≤ 62) × (62 ≤ g.room)
  room_sole g leaf taken room =
      let whole = (under_sole g leaf taken).walks in
      (omega (arith, whole.copies at stands, room.0), omega (arith, whole.room, room.1))

  pub taken_sole : (g g' : Forest) (leaf : Ref) (t : Taken) → TakesOut h g c key (Sole leaf) → TakesOut g g' at leaf.key t → TakesOut f g' at key t
  taken_sole g g' leaf t taken after = takes_after f g g' at key sound stands (under_sole g leaf taken) (touched_err g taken.0.walks taken.4) t (takes_key g g' at leaf.key key taken.3 t after)

  -- what the call on the child owes
  pub child_free : IsFree f (f.root at) key → IsFree h (h.root c) key
  child_free free =
      let root : h.root c ≡ f.root at = (node.child q.key c link).root ∙ there.place.root in
      rw root (free_after f h (f.root at) key sound walks free)

  pub child_room : (f.copies at ≤ 62) × (62 ≤ f.room) → (h.copies c ≤ 62) × (62 ≤ h.room)
  child_room room =
      let child = node.child q.key c link in
      let bits = node.bits i c q read_h ind link in
      let some = (node.fits i q read_h).some_bits ind in
      let slope = (walks.sound.node c child.stands).slope in
      (omega (arith, bits, some, slope), omega (arith, walks.room, room.1))

  pub unloaded_path : PathUnloaded h c key → PathUnloaded f at key
  unloaded_path path o reached = path o (reaches_child f h key at i c q o sound walks stands read in_q ind link reached)

-- at the root, where the one leaf goes
module _ (f g : Forest) (at key : ℕ) (leaf : Ref) (sound : IsSound f) (stands : f.stands at ≡ true) where
  pub root_answer : TakesOut f g at key (Sole leaf) → (l : List Ref) → LeavesOf f at l → Some leaf ≡ at_key key l
  root_answer taken l hl =
      let there = (taken.0.walks.stays at stands).place.stands in
      let it = only_at_key g at 0 leaf taken.0.walks.sound there taken.2 l (Walks-leaves f g sound taken.0.walks at stands l hl) in
      sym (subst (λ z. at_key z l ≡ Some leaf) taken.3 it)

  module _ (top : f.root at ≡ at) where
    pub root_room : TakesOut f g at key (Sole leaf) → 62 ≤ f.room → (g.copies at ≤ 62) × (62 ≤ g.room)
    root_room taken room =
        let node = sound.node at stands in
        (omega (arith, node.top top, taken.0.walks.copies at stands), omega (arith, room, taken.0.walks.room))

    pub root_free : TakesOut f g at key (Sole leaf) → IsFree f at key → IsFree g (g.root at) leaf.key
    root_free taken free =
        let root : g.root at ≡ at = (taken.0.walks.stays at stands).place.root ∙ top in
        rw (root, taken.3) (free_after f g at key sound taken.0.walks free)

pub root_removes : (f h g : Forest) (at key : ℕ) (leaf : Ref) → IsSound f → f.stands at ≡ true → TakesOut f h at key (Sole leaf) → Removes h g at leaf → Removes f g at leaf
root_removes f h g at key leaf sound stands taken rem = removes_after f h g at leaf sound stands taken.0 (subst (λ z. LoadsIn f h at z z) (sym taken.3) taken.4) rem
