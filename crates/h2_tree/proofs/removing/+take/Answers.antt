use Rattle.std.proofs.Common.{◌≡◌, true, false, Some, None, slice_get, arith, ap, sym, ◌∙◌, subst}
use Rattle.std.proofs.lemmas.Option.{none-some, same_Some}
use Rattle.h2_ref.specs.declared.reference.Ref.{Ref}
use Rattle.h2_set.specs.Ranges.{is_indirect}
use Rattle.h2_set.specs.Forest.{refs, nowhere, here}
use Rattle.h2_set.specs.StayLaws.{Walks-trans}
use Rattle.h2_set.specs.LeafLaws.{find_none, find_here, leaves_rising}
use Rattle.h2_tree.specs.AnswerLaws.{always_err, beside_on}
use Rattle.h2_tree.proofs.Climb.{next_root, reaches_loaded}
use Rattle.h2_tree.proofs.Touching.{In-refl, In-trans, in_path}
use Rattle.h2_tree.specs.Changes.{TakesOut, itself}
use Rattle.h2_tree.specs.declared.removing.Taken.TheVariants.{Nothing, Out, Sole}
use Rattle.h2_tree.proofs.Taking.{under_refl, at_key_none, at_key_other}
use Rattle.h2_tree.proofs.RemoveBelow.{child_stands, child_fewer}
use Rattle.h2_tree.proofs.TakeBelow.{nothing_below, out_below, under_sole, only_sole, free_sole, room_sole, taken_sole, child_free, child_room, unloaded_path}
use Rattle.h2_tree.proofs.Known.{child_good, good_above, carried_good}
use Rattle.h2_set.specs.MetLaws.{MeetsNone-refl, MeetsNone-trans, handed_met_only}
use Rattle.h2_tree.proofs.removing.+take.Goals as goal

pub returns-in_default-clause-taken : goal.returns-in_default-clause-taken
returns-in_default-clause-taken g t c = (
  under_refl _ _ c.requires.stands c.requires.sound,
  λ l hl.
      let node = c.requires.sound.node c.args.at.0 c.requires.stands in
      at_key_none c.args.key _ _ l (leaves_rising hl _ _ node.inside) (find_none c.args.key hl (rw c.get-set.ensures at c.in_default.ensures.absent)),
  In-refl _ _ _ _,
  record { found = None; path = nowhere (rw c.get-set.ensures at c.in_default.ensures.absent); other = λ r e is. none-some r e },
)

pub returns-then-found-key-clause-taken : goal.returns-then-found-key-clause-taken
returns-then-found-key-clause-taken g t c =
    let f = g.N.Sets.forest c.args.n.now in
    let read : slice_get (refs f c.args.at.0) c.in-Some.i ≡ Some c.at.result.now = rw c.get-set.ensures at c.at.ensures in
    let in_r = c.in-Some.ensures.found.holds _ c.at.ensures in
    let leaf : is_indirect c.at.result.now ≡ false = sym c.is_indirect.ensures ∙ c.if-not-is_indirect.true in (
      under_refl _ _ c.requires.stands c.requires.sound,
      λ l hl.
          let node = c.requires.sound.node c.args.at.0 c.requires.stands in
          at_key_other c.args.key _ _ l c.at.result.now (leaves_rising hl _ _ node.inside) (find_here c.args.key _ _ c.in-Some.i c.at.result.now hl node.inside read in_r leaf) (omega (arith, c.if-found-key.true)),
      In-refl _ _ _ _,
      record {
        found = Some c.at.result.now;
        path = here c.in-Some.i read in_r leaf;
        other = λ r e is. let same : c.at.result.now.key ≡ r.key = ap (λ (x : Ref). x.key) (same_Some c.at.result.now r e) in omega (arith, c.if-found-key.true, same, is);
      },
    )

pub cut_unless_sole-requires-clause-only : goal.cut_unless_sole-requires-clause-only
cut_unless_sole-requires-clause-only g t c =
    let f = g.N.Sets.forest c.args.n.now in
    let read : slice_get (refs f c.args.at.0) c.in-Some.i ≡ Some c.at.result.now = rw c.get-set.ensures at c.at.ensures in
    let in_r = c.in-Some.ensures.found.holds _ c.at.ensures in
    let leaf : is_indirect c.at.result.now ≡ false = sym c.is_indirect.ensures ∙ c.if-not-is_indirect.true in
    itself c.in-Some.i read leaf

pub returns-in_err-child-clause-unloaded : goal.returns-in_err-child-clause-unloaded
returns-in_err-child-clause-unloaded g t c =
    let f = g.N.Sets.forest c.args.n.now in
    let read : slice_get (refs f c.args.at.0) c.in-Some.i ≡ Some c.at.result.now = rw c.get-set.ensures at c.at.ensures in
    let in_r = c.in-Some.ensures.found.holds _ c.at.ensures in
    let ind : is_indirect c.at.result.now ≡ true = sym c.is_indirect.ensures ∙ c.if-not-is_indirect.false in
    always_err c.from_residual.result (λ o reached. reaches_loaded f c.args.key c.args.at.0 c.in-Some.i c.at.result.now o c.requires.sound c.requires.stands read in_r ind c.in_err-child.ensures.unloaded reached)

pub returns-in_err-child-clause-good : goal.returns-in_err-child-clause-good
returns-in_err-child-clause-good g t c =
    let f = g.N.Sets.forest c.args.n.now in
    let read : slice_get (refs f c.args.at.0) c.in-Some.i ≡ Some c.at.result.now = rw c.get-set.ensures at c.at.ensures in
    let ind : is_indirect c.at.result.now ≡ true = sym c.is_indirect.ensures ∙ c.if-not-is_indirect.false in
    carried_good _ _ c.from_residual.result c.in_err-child.field-0.0 c.from_residual.ensures.1 (child_good f c.args.at.0 c.in-Some.i c.at.result.now c.in_err-child.field-0.0 read ind c.in_err-child.ensures.unloaded c.in_err-child.ensures.good)

pub returns-in_err-leaf-clause-good : goal.returns-in_err-leaf-clause-good
returns-in_err-leaf-clause-good g t c =
    let f = g.N.Sets.forest c.args.n.now in
    let read : slice_get (refs f c.args.at.0) c.in-Some.i ≡ Some c.at.result.now = rw c.get-set.ensures at c.at.ensures in
    let ind : is_indirect c.at.result.now ≡ true = sym c.is_indirect.ensures ∙ c.if-not-is_indirect.false in
    let child = c.in_ok-child.ensures in
    carried_good _ _ c.from_residual-in_err-leaf.result c.in_err-leaf.field-0.0 c.from_residual-in_err-leaf.ensures.1 (good_above f _ c.args.at.0 c.in-Some.i c.in_ok-child.child.0 c.at.result.now c.requires.sound child.walks c.requires.stands read ind (child.ok _ read) c.in_err-leaf.field-0.0 c.in_err-leaf.ensures.good)

pub returns-in_err-child-clause-touched : goal.returns-in_err-child-clause-touched
returns-in_err-child-clause-touched g t c =
    let f = g.N.Sets.forest c.args.n.now in
    let read : slice_get (refs f c.args.at.0) c.in-Some.i ≡ Some c.at.result.now = rw c.get-set.ensures at c.at.ensures in
    let in_r = c.in-Some.ensures.found.holds _ c.at.ensures in
    let ind : is_indirect c.at.result.now ≡ true = sym c.is_indirect.ensures ∙ c.if-not-is_indirect.false in
    let child = c.in_err-child.ensures in
    always_err c.from_residual.result (in_path _ _ c.args.at.0 c.in-Some.i c.at.result.now _ c.requires.stands read ind in_r child.walks (child.loads _ read))

pub returns-in_err-leaf-clause-touched : goal.returns-in_err-leaf-clause-touched
returns-in_err-leaf-clause-touched g t c =
    let f = g.N.Sets.forest c.args.n.now in
    let read : slice_get (refs f c.args.at.0) c.in-Some.i ≡ Some c.at.result.now = rw c.get-set.ensures at c.at.ensures in
    let in_r = c.in-Some.ensures.found.holds _ c.at.ensures in
    let ind : is_indirect c.at.result.now ≡ true = sym c.is_indirect.ensures ∙ c.if-not-is_indirect.false in
    let child = c.in_ok-child.ensures in
    always_err c.from_residual-in_err-leaf.result (In-trans _ _ _ c.args.at.0 c.in_ok-child.child.0 _ _ (next_root _ _ _ _ c.at.result.now.key child.walks c.requires.stands (child.ok _ read)) c.in_err-leaf.ensures.walks (in_path _ _ c.args.at.0 c.in-Some.i c.at.result.now _ c.requires.stands read ind in_r child.walks (child.loads _ read)) c.in_err-leaf.ensures.touched)

pub returns-in-Sole-clause-later : goal.returns-in-Sole-clause-later
returns-in-Sole-clause-later g t c = g.met.N.Sets.later_later _ _ _ (g.met.N.Sets.later_later _ _ _ c.in_ok-child.ensures.later c.in_ok-leaf.ensures.later) c.cut_unless_sole-in-Sole.ensures.later

pub returns-in-Out-clause-later : goal.returns-in-Out-clause-later
returns-in-Out-clause-later g t c = g.met.N.Sets.later_later _ _ _ c.in_ok-child.ensures.later c.in_ok-leaf.ensures.later

pub take-requires : goal.take-requires
take-requires g t c κs within =
    let f = g.N.Sets.forest c.args.n.now in
    let read : slice_get (refs f c.args.at.0) c.in-Some.i ≡ Some c.at.result.now = rw c.get-set.ensures at c.at.ensures in
    let in_r = c.in-Some.ensures.found.holds _ c.at.ensures in
    let ind : is_indirect c.at.result.now ≡ true = sym c.is_indirect.ensures ∙ c.if-not-is_indirect.false in
    let child = c.in_ok-child.ensures in
    let fewer = child_fewer _ _ _ _ _ c.args.key c.at.result.now c.requires.sound c.requires.stands read ind in_r child.walks (child.loads _ read) (child.ok _ read) in
    (omega (arith, fewer, c.decreases), (within.0, (within.1, (child.walks.sound, (child_stands _ _ _ _ _ c.args.key c.at.result.now c.requires.sound c.requires.stands read ind in_r child.walks (child.loads _ read) (child.ok _ read), (child_room _ _ _ _ _ c.args.key c.at.result.now c.requires.sound c.requires.stands read ind in_r child.walks (child.loads _ read) (child.ok _ read) c.requires.room, child_free _ _ _ _ _ c.args.key c.at.result.now c.requires.sound c.requires.stands read ind in_r child.walks (child.loads _ read) (child.ok _ read) c.requires.free))))))

pub returns-in_err-leaf-clause-walks : goal.returns-in_err-leaf-clause-walks
returns-in_err-leaf-clause-walks g t c =
    let child = c.in_ok-child.ensures in
    always_err c.from_residual-in_err-leaf.result (Walks-trans _ _ _ child.walks c.in_err-leaf.ensures.walks)

pub returns-in_err-leaf-clause-unloaded : goal.returns-in_err-leaf-clause-unloaded
returns-in_err-leaf-clause-unloaded g t c =
    let f = g.N.Sets.forest c.args.n.now in
    let read : slice_get (refs f c.args.at.0) c.in-Some.i ≡ Some c.at.result.now = rw c.get-set.ensures at c.at.ensures in
    let in_r = c.in-Some.ensures.found.holds _ c.at.ensures in
    let ind : is_indirect c.at.result.now ≡ true = sym c.is_indirect.ensures ∙ c.if-not-is_indirect.false in
    let child = c.in_ok-child.ensures in
    always_err c.from_residual-in_err-leaf.result (unloaded_path _ _ _ _ _ c.args.key c.at.result.now c.requires.sound c.requires.stands read ind in_r child.walks (child.loads _ read) (child.ok _ read) c.in_err-leaf.ensures.unloaded)

pub cut_unless_sole-requires-in-Sole-clause-only : goal.cut_unless_sole-requires-in-Sole-clause-only
cut_unless_sole-requires-in-Sole-clause-only g t c =
    let f = g.N.Sets.forest c.args.n.now in
    let read : slice_get (refs f c.args.at.0) c.in-Some.i ≡ Some c.at.result.now = rw c.get-set.ensures at c.at.ensures in
    let in_r = c.in-Some.ensures.found.holds _ c.at.ensures in
    let ind : is_indirect c.at.result.now ≡ true = sym c.is_indirect.ensures ∙ c.if-not-is_indirect.false in
    let child = c.in_ok-child.ensures in
    let taken : TakesOut (g.N.Sets.forest c.load_child.new.n) (g.N.Sets.forest c.take.new.n) c.in_ok-child.child.0 c.args.key (Sole c.in-Sole.leaf) = subst (λ t. TakesOut (g.N.Sets.forest c.load_child.new.n) (g.N.Sets.forest c.take.new.n) c.in_ok-child.child.0 c.args.key t) c.in-Sole.is c.in_ok-leaf.ensures.taken in
    only_sole _ _ _ _ _ c.args.key c.at.result.now c.requires.sound c.requires.stands read ind in_r child.walks (child.loads _ read) (child.ok _ read) _ c.in-Sole.leaf taken

pub cut_unless_sole-requires-in-Sole-clause-free : goal.cut_unless_sole-requires-in-Sole-clause-free
cut_unless_sole-requires-in-Sole-clause-free g t c =
    let f = g.N.Sets.forest c.args.n.now in
    let read : slice_get (refs f c.args.at.0) c.in-Some.i ≡ Some c.at.result.now = rw c.get-set.ensures at c.at.ensures in
    let in_r = c.in-Some.ensures.found.holds _ c.at.ensures in
    let ind : is_indirect c.at.result.now ≡ true = sym c.is_indirect.ensures ∙ c.if-not-is_indirect.false in
    let child = c.in_ok-child.ensures in
    let taken : TakesOut (g.N.Sets.forest c.load_child.new.n) (g.N.Sets.forest c.take.new.n) c.in_ok-child.child.0 c.args.key (Sole c.in-Sole.leaf) = subst (λ t. TakesOut (g.N.Sets.forest c.load_child.new.n) (g.N.Sets.forest c.take.new.n) c.in_ok-child.child.0 c.args.key t) c.in-Sole.is c.in_ok-leaf.ensures.taken in
    free_sole _ _ _ _ _ c.args.key c.at.result.now c.requires.sound c.requires.stands read ind in_r child.walks (child.loads _ read) (child.ok _ read) _ c.in-Sole.leaf taken c.requires.free

pub cut_unless_sole-requires-in-Sole-clause-room : goal.cut_unless_sole-requires-in-Sole-clause-room
cut_unless_sole-requires-in-Sole-clause-room g t c =
    let f = g.N.Sets.forest c.args.n.now in
    let read : slice_get (refs f c.args.at.0) c.in-Some.i ≡ Some c.at.result.now = rw c.get-set.ensures at c.at.ensures in
    let in_r = c.in-Some.ensures.found.holds _ c.at.ensures in
    let ind : is_indirect c.at.result.now ≡ true = sym c.is_indirect.ensures ∙ c.if-not-is_indirect.false in
    let child = c.in_ok-child.ensures in
    let taken : TakesOut (g.N.Sets.forest c.load_child.new.n) (g.N.Sets.forest c.take.new.n) c.in_ok-child.child.0 c.args.key (Sole c.in-Sole.leaf) = subst (λ t. TakesOut (g.N.Sets.forest c.load_child.new.n) (g.N.Sets.forest c.take.new.n) c.in_ok-child.child.0 c.args.key t) c.in-Sole.is c.in_ok-leaf.ensures.taken in
    room_sole _ _ _ _ _ c.args.key c.at.result.now c.requires.sound c.requires.stands read ind in_r child.walks (child.loads _ read) (child.ok _ read) _ c.in-Sole.leaf taken c.requires.room

pub cut_unless_sole-requires-in-Sole-clause-stands : goal.cut_unless_sole-requires-in-Sole-clause-stands
cut_unless_sole-requires-in-Sole-clause-stands g t c =
    let f = g.N.Sets.forest c.args.n.now in
    let read : slice_get (refs f c.args.at.0) c.in-Some.i ≡ Some c.at.result.now = rw c.get-set.ensures at c.at.ensures in
    let in_r = c.in-Some.ensures.found.holds _ c.at.ensures in
    let ind : is_indirect c.at.result.now ≡ true = sym c.is_indirect.ensures ∙ c.if-not-is_indirect.false in
    let child = c.in_ok-child.ensures in
    let taken : TakesOut (g.N.Sets.forest c.load_child.new.n) (g.N.Sets.forest c.take.new.n) c.in_ok-child.child.0 c.args.key (Sole c.in-Sole.leaf) = subst (λ t. TakesOut (g.N.Sets.forest c.load_child.new.n) (g.N.Sets.forest c.take.new.n) c.in_ok-child.child.0 c.args.key t) c.in-Sole.is c.in_ok-leaf.ensures.taken in
    ((under_sole _ _ _ _ _ c.args.key c.at.result.now c.requires.sound c.requires.stands read ind in_r child.walks (child.loads _ read) (child.ok _ read) _ c.in-Sole.leaf taken).walks.stays c.args.at.0 c.requires.stands).place.stands

pub cut_unless_sole-requires-in-Sole-clause-sound : goal.cut_unless_sole-requires-in-Sole-clause-sound
cut_unless_sole-requires-in-Sole-clause-sound g t c =
    let f = g.N.Sets.forest c.args.n.now in
    let read : slice_get (refs f c.args.at.0) c.in-Some.i ≡ Some c.at.result.now = rw c.get-set.ensures at c.at.ensures in
    let in_r = c.in-Some.ensures.found.holds _ c.at.ensures in
    let ind : is_indirect c.at.result.now ≡ true = sym c.is_indirect.ensures ∙ c.if-not-is_indirect.false in
    let child = c.in_ok-child.ensures in
    let taken : TakesOut (g.N.Sets.forest c.load_child.new.n) (g.N.Sets.forest c.take.new.n) c.in_ok-child.child.0 c.args.key (Sole c.in-Sole.leaf) = subst (λ t. TakesOut (g.N.Sets.forest c.load_child.new.n) (g.N.Sets.forest c.take.new.n) c.in_ok-child.child.0 c.args.key t) c.in-Sole.is c.in_ok-leaf.ensures.taken in
    taken.0.walks.sound

pub returns-in-Sole-clause-taken : goal.returns-in-Sole-clause-taken
returns-in-Sole-clause-taken g t c =
    let f = g.N.Sets.forest c.args.n.now in
    let read : slice_get (refs f c.args.at.0) c.in-Some.i ≡ Some c.at.result.now = rw c.get-set.ensures at c.at.ensures in
    let in_r = c.in-Some.ensures.found.holds _ c.at.ensures in
    let ind : is_indirect c.at.result.now ≡ true = sym c.is_indirect.ensures ∙ c.if-not-is_indirect.false in
    let child = c.in_ok-child.ensures in
    let taken : TakesOut (g.N.Sets.forest c.load_child.new.n) (g.N.Sets.forest c.take.new.n) c.in_ok-child.child.0 c.args.key (Sole c.in-Sole.leaf) = subst (λ t. TakesOut (g.N.Sets.forest c.load_child.new.n) (g.N.Sets.forest c.take.new.n) c.in_ok-child.child.0 c.args.key t) c.in-Sole.is c.in_ok-leaf.ensures.taken in
    taken_sole _ _ _ _ _ c.args.key c.at.result.now c.requires.sound c.requires.stands read ind in_r child.walks (child.loads _ read) (child.ok _ read) _ _ c.in-Sole.leaf _ taken c.cut_unless_sole-in-Sole.ensures.taken

pub returns-in-Out-clause-taken : goal.returns-in-Out-clause-taken
returns-in-Out-clause-taken g t c =
    let f = g.N.Sets.forest c.args.n.now in
    let read : slice_get (refs f c.args.at.0) c.in-Some.i ≡ Some c.at.result.now = rw c.get-set.ensures at c.at.ensures in
    let in_r = c.in-Some.ensures.found.holds _ c.at.ensures in
    let ind : is_indirect c.at.result.now ≡ true = sym c.is_indirect.ensures ∙ c.if-not-is_indirect.false in
    let child = c.in_ok-child.ensures in
    let taken : TakesOut (g.N.Sets.forest c.load_child.new.n) (g.N.Sets.forest c.take.new.n) c.in_ok-child.child.0 c.args.key (Out c.in-Out.leaf) = subst (λ t. TakesOut (g.N.Sets.forest c.load_child.new.n) (g.N.Sets.forest c.take.new.n) c.in_ok-child.child.0 c.args.key t) c.in-Out.is c.in_ok-leaf.ensures.taken in
    out_below _ _ _ _ _ c.args.key c.at.result.now c.requires.sound c.requires.stands read ind in_r child.walks (child.loads _ read) (child.ok _ read) _ c.in-Out.leaf taken

pub returns-in-Nothing-clause-taken : goal.returns-in-Nothing-clause-taken
returns-in-Nothing-clause-taken g t c =
    let f = g.N.Sets.forest c.args.n.now in
    let read : slice_get (refs f c.args.at.0) c.in-Some.i ≡ Some c.at.result.now = rw c.get-set.ensures at c.at.ensures in
    let in_r = c.in-Some.ensures.found.holds _ c.at.ensures in
    let ind : is_indirect c.at.result.now ≡ true = sym c.is_indirect.ensures ∙ c.if-not-is_indirect.false in
    let child = c.in_ok-child.ensures in
    let taken : TakesOut (g.N.Sets.forest c.load_child.new.n) (g.N.Sets.forest c.take.new.n) c.in_ok-child.child.0 c.args.key (Nothing) = subst (λ t. TakesOut (g.N.Sets.forest c.load_child.new.n) (g.N.Sets.forest c.take.new.n) c.in_ok-child.child.0 c.args.key t) c.in-Nothing.is c.in_ok-leaf.ensures.taken in
    nothing_below _ _ _ _ _ c.args.key c.at.result.now c.requires.sound c.requires.stands read ind in_r child.walks (child.loads _ read) (child.ok _ read) _ taken

pub returns-in_err-leaf-clause-beside : goal.returns-in_err-leaf-clause-beside
returns-in_err-leaf-clause-beside g t c =
    beside_on _ _ _ _ _ _ (λ m st. (c.in_ok-child.ensures.walks.stays m st).place.stands) c.in_ok-child.ensures.beside c.in_err-leaf.ensures.beside

pub returns-in-Out-clause-beside : goal.returns-in-Out-clause-beside
returns-in-Out-clause-beside g t c =
    beside_on _ _ _ _ _ _ (λ m st. (c.in_ok-child.ensures.walks.stays m st).place.stands) c.in_ok-child.ensures.beside c.in_ok-leaf.ensures.beside

pub returns-in-Nothing-clause-beside : goal.returns-in-Nothing-clause-beside
returns-in-Nothing-clause-beside g t c =
    beside_on _ _ _ _ _ _ (λ m st. (c.in_ok-child.ensures.walks.stays m st).place.stands) c.in_ok-child.ensures.beside c.in_ok-leaf.ensures.beside

pub returns-in-Sole-clause-beside : goal.returns-in-Sole-clause-beside
returns-in-Sole-clause-beside g t c =
    let f = g.N.Sets.forest c.args.n.now in
    let read : slice_get (refs f c.args.at.0) c.in-Some.i ≡ Some c.at.result.now = rw c.get-set.ensures at c.at.ensures in
    let in_r = c.in-Some.ensures.found.holds _ c.at.ensures in
    let ind : is_indirect c.at.result.now ≡ true = sym c.is_indirect.ensures ∙ c.if-not-is_indirect.false in
    let child = c.in_ok-child.ensures in
    let taken : TakesOut (g.N.Sets.forest c.load_child.new.n) (g.N.Sets.forest c.take.new.n) c.in_ok-child.child.0 c.args.key (Sole c.in-Sole.leaf) = subst (λ t. TakesOut (g.N.Sets.forest c.load_child.new.n) (g.N.Sets.forest c.take.new.n) c.in_ok-child.child.0 c.args.key t) c.in-Sole.is c.in_ok-leaf.ensures.taken in
    let first = beside_on _ _ _ _ _ _ (λ m st. (c.in_ok-child.ensures.walks.stays m st).place.stands) c.in_ok-child.ensures.beside c.in_ok-leaf.ensures.beside in
    let whole = (under_sole _ _ _ _ _ c.args.key c.at.result.now c.requires.sound c.requires.stands read ind in_r child.walks (child.loads _ read) (child.ok _ read) _ c.in-Sole.leaf taken).walks in
    beside_on _ _ _ _ _ _ (λ m st. (whole.stays m st).place.stands) first c.cut_unless_sole-in-Sole.ensures.beside

pub returns-in_err-child-clause-met_only : goal.returns-in_err-child-clause-met_only
returns-in_err-child-clause-met_only g t c = handed_met_only _ _ _ c.from_residual.result c.in_err-child.field-0.0 c.from_residual.ensures.1 (MeetsNone-refl _) c.in_err-child.ensures.met_only

pub returns-in_err-leaf-clause-met_only : goal.returns-in_err-leaf-clause-met_only
returns-in_err-leaf-clause-met_only g t c = handed_met_only _ _ _ c.from_residual-in_err-leaf.result c.in_err-leaf.field-0.0 c.from_residual-in_err-leaf.ensures.1 c.in_ok-child.ensures.none_met c.in_err-leaf.ensures.met_only

pub returns-in-Sole-clause-none_met : goal.returns-in-Sole-clause-none_met
returns-in-Sole-clause-none_met g t c = MeetsNone-trans _ _ _ (MeetsNone-trans _ _ _ c.in_ok-child.ensures.none_met c.in_ok-leaf.ensures.none_met) c.cut_unless_sole-in-Sole.ensures.none_met

pub returns-in-Out-clause-none_met : goal.returns-in-Out-clause-none_met
returns-in-Out-clause-none_met g t c = MeetsNone-trans _ _ _ c.in_ok-child.ensures.none_met c.in_ok-leaf.ensures.none_met

pub returns-in-Nothing-clause-none_met : goal.returns-in-Nothing-clause-none_met
returns-in-Nothing-clause-none_met g t c = MeetsNone-trans _ _ _ c.in_ok-child.ensures.none_met c.in_ok-leaf.ensures.none_met
