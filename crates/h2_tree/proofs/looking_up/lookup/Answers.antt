use Rattle.std.proofs.Common.{◌≡◌, ◌∙◌, refl, sym, true, false, Some, slice_get}
use Rattle.h2_set.specs.Ranges.{is_indirect}
use Rattle.h2_set.specs.Forest.{refs, nowhere, here}
use Rattle.h2_set.specs.StayLaws.{Walks-refl, Walks-trans}
use Rattle.h2_tree.proofs.Climb.{next_root, leads_start, leads_on, next_node, found_in, led_start, led_on, not_led}
use Rattle.h2_tree.proofs.Touching.{In-refl, In-trans, in_path}
use Rattle.h2_tree.proofs.Taking.{itself_under, under_refl}
use Rattle.h2_tree.proofs.TakeBelow.{under_step, under_next}
use Rattle.h2_tree.specs.AnswerLaws.{always_err, beside_same, beside_on}
use Rattle.h2_tree.proofs.Known.{child_known, child_good, carried_good}
use Rattle.h2_set.specs.MetLaws.{MeetsNone-refl, MeetsNone-trans, handed_met_only}
use Rattle.h2_tree.proofs.looking_up.lookup.Goals as goal

pub loop-i-init : goal.loop-i-init
loop-i-init g c = record {
  walks = Walks-refl _ c.requires.sound;
  under = under_refl _ _ c.requires.stands c.requires.sound;
  inside = itself_under _ _;
  touched = In-refl _ _ _ _;
  stands = c.requires.stands;
  tree = refl;
  leads = leads_start _ _ _;
  known = λ l has. (l, has);
  led = led_start _ _ _ c.requires.stands;
  beside = beside_same _ _;
  later = g.met.N.Sets.same_later _;
  none_met = MeetsNone-refl _;
}

pub returns-in_default-clause-path : goal.returns-in_default-clause-path
returns-in_default-clause-path g c =
    c.loop-i.invariant.leads.climb _ _ (Walks-refl _ c.loop-i.invariant.walks.sound) (nowhere (rw c.get-set.ensures at c.in_default.ensures.absent))

pub returns-then-not-is_indirect-clause-path : goal.returns-then-not-is_indirect-clause-path
returns-then-not-is_indirect-clause-path g c =
    let leaf : is_indirect c.at.result.now ≡ false = sym c.is_indirect.ensures ∙ c.if-not-is_indirect.true in
    c.loop-i.invariant.leads.climb _ _ (Walks-refl _ c.loop-i.invariant.walks.sound) (here c.in-Some.i (rw c.get-set.ensures at c.at.ensures) (c.in-Some.ensures.found.holds _ c.at.ensures) leaf)

pub returns-in_default-clause-found : goal.returns-in_default-clause-found
returns-in_default-clause-found g c = found_in _ _ _ _ _ c.requires.sound c.loop-i.invariant.walks c.requires.stands (returns-in_default-clause-path g c)

pub returns-then-not-is_indirect-clause-found : goal.returns-then-not-is_indirect-clause-found
returns-then-not-is_indirect-clause-found g c = found_in _ _ _ _ _ c.requires.sound c.loop-i.invariant.walks c.requires.stands (returns-then-not-is_indirect-clause-path g c)

pub returns-in_err-at-clause-walks : goal.returns-in_err-at-clause-walks
returns-in_err-at-clause-walks g c = Walks-trans _ _ _ c.loop-i.invariant.walks c.in_err-at.ensures.walks

pub returns-in_err-at-clause-under : goal.returns-in_err-at-clause-under
returns-in_err-at-clause-under g c =
    let f = g.N.Sets.forest c.loop-i.n in
    let now = c.loop-i.invariant in
    let child = c.in_err-at.ensures in
    let read : slice_get (refs f c.loop-i.at.0) c.in-Some.i ≡ Some c.at.result.now = rw c.get-set.ensures at c.at.ensures in
    under_step _ f _ c.args.root.0 c.loop-i.at.0 c.at.result.now.key c.requires.stands now.under now.tree now.inside child.walks (child.loads _ read)

pub returns-in_err-at-clause-tree : goal.returns-in_err-at-clause-tree
returns-in_err-at-clause-tree g c =
    let f = g.N.Sets.forest c.loop-i.n in
    let now = c.loop-i.invariant in
    let child = c.in_err-at.ensures in
    let ind : is_indirect c.at.result.now ≡ true = sym c.is_indirect.ensures ∙ c.if-not-is_indirect.false in
    let read : slice_get (refs f c.loop-i.at.0) c.in-Some.i ≡ Some c.at.result.now = rw c.get-set.ensures at c.at.ensures in
    In-trans _ _ _ c.args.root.0 c.loop-i.at.0 _ _ now.tree child.walks now.touched (in_path f _ _ _ c.at.result.now _ now.stands read ind (c.in-Some.ensures.found.holds _ c.at.ensures) child.walks (child.loads _ read))

pub returns-in_err-at-clause-touched : goal.returns-in_err-at-clause-touched
returns-in_err-at-clause-touched g c = (returns-in_err-at-clause-tree g c).touched

pub returns-in_default-clause-touched : goal.returns-in_default-clause-touched
returns-in_default-clause-touched g c = c.loop-i.invariant.touched.touched

pub returns-then-not-is_indirect-clause-touched : goal.returns-then-not-is_indirect-clause-touched
returns-then-not-is_indirect-clause-touched g c = c.loop-i.invariant.touched.touched

pub returns-in_err-at-clause-unloaded : goal.returns-in_err-at-clause-unloaded
returns-in_err-at-clause-unloaded g c =
    let f = g.N.Sets.forest c.loop-i.n in
    let now = c.loop-i.invariant in
    let ind : is_indirect c.at.result.now ≡ true = sym c.is_indirect.ensures ∙ c.if-not-is_indirect.false in
    let read : slice_get (refs f c.loop-i.at.0) c.in-Some.i ≡ Some c.at.result.now = rw c.get-set.ensures at c.at.ensures in
    always_err c.from_residual.result (not_led _ _ _ _ _ c.in-Some.i c.at.result.now c.requires.sound now.walks now.led read (c.in-Some.ensures.found.holds _ c.at.ensures) ind c.in_err-at.ensures.unloaded)

pub returns-in_err-at-clause-good : goal.returns-in_err-at-clause-good
returns-in_err-at-clause-good g c =
    let f = g.N.Sets.forest c.loop-i.n in
    let now = c.loop-i.invariant in
    let ind : is_indirect c.at.result.now ≡ true = sym c.is_indirect.ensures ∙ c.if-not-is_indirect.false in
    let read : slice_get (refs f c.loop-i.at.0) c.in-Some.i ≡ Some c.at.result.now = rw c.get-set.ensures at c.at.ensures in
    carried_good _ _ c.from_residual.result c.in_err-at.field-0.0 c.from_residual.ensures.1 (λ l has bad.
    let it = now.known l has in
    child_good f c.loop-i.at.0 c.in-Some.i c.at.result.now c.in_err-at.field-0.0 read ind c.in_err-at.ensures.unloaded c.in_err-at.ensures.good it.0 it.1 bad)

pub returns-in_err-at-clause-beside : goal.returns-in_err-at-clause-beside
returns-in_err-at-clause-beside g c = beside_on _ _ _ _ _ _ (λ m st. (c.loop-i.invariant.walks.stays m st).place.stands) c.loop-i.invariant.beside c.in_err-at.ensures.beside

pub loop-i-smaller : goal.loop-i-smaller
loop-i-smaller g c =
    let f = g.N.Sets.forest c.loop-i.n in
    let ind : is_indirect c.at.result.now ≡ true = sym c.is_indirect.ensures ∙ c.if-not-is_indirect.false in
    let read : slice_get (refs f c.loop-i.at.0) c.in-Some.i ≡ Some c.at.result.now = rw c.get-set.ensures at c.at.ensures in
    (next_node f _ _ _ _ c.at.result.now c.loop-i.invariant.walks.sound c.in_ok-at.ensures.walks c.loop-i.invariant.stands read ind (c.in_ok-at.ensures.ok _ read)).1

pub loop-i-preserved : goal.loop-i-preserved
loop-i-preserved g c =
    let f = g.N.Sets.forest c.loop-i.n in
    let now = c.loop-i.invariant in
    let child = c.in_ok-at.ensures in
    let ind : is_indirect c.at.result.now ≡ true = sym c.is_indirect.ensures ∙ c.if-not-is_indirect.false in
    let read : slice_get (refs f c.loop-i.at.0) c.in-Some.i ≡ Some c.at.result.now = rw c.get-set.ensures at c.at.ensures in
    record {
      walks = Walks-trans _ _ _ now.walks child.walks;
      under = under_step _ f _ c.args.root.0 c.loop-i.at.0 c.at.result.now.key c.requires.stands now.under now.tree now.inside child.walks (child.loads _ read);
      inside = under_next f _ c.args.root.0 c.loop-i.at.0 _ c.at.result.now.key child.walks (now.walks.stays c.args.root.0 c.requires.stands).place.stands now.stands (child.ok _ read) now.inside;
      touched = In-trans _ _ _ c.args.root.0 c.loop-i.at.0 _ _ now.tree child.walks now.touched (in_path f _ _ _ c.at.result.now _ now.stands read ind (c.in-Some.ensures.found.holds _ c.at.ensures) child.walks (child.loads _ read));
      tree = next_root f _ _ _ c.at.result.now.key child.walks now.stands (child.ok _ read) ∙ now.tree;
      stands = (next_node f _ _ _ _ c.at.result.now now.walks.sound child.walks now.stands read ind (child.ok _ read)).0;
      leads = leads_on f _ _ _ _ _ _ c.at.result.now now.leads child.walks now.stands read (c.in-Some.ensures.found.holds _ c.at.ensures) ind (child.ok _ read);
      known = λ l has. let it = now.known l has in child_known f _ c.loop-i.at.0 c.in-Some.i c.in_ok-at.at.0 c.at.result.now now.walks.sound child.walks now.stands read ind (child.ok _ read) it.0 it.1;
      led = led_on _ _ _ _ _ c.in-Some.i c.at.result.now c.requires.sound now.walks now.led read (c.in-Some.ensures.found.holds _ c.at.ensures) ind _ _ child.walks (child.ok _ read);
      beside = beside_on _ _ _ _ _ _ (λ m st. (now.walks.stays m st).place.stands) now.beside child.beside;
      later = g.met.N.Sets.later_later _ _ _ now.later child.later;
      none_met = MeetsNone-trans _ _ _ now.none_met child.none_met;
    }

pub returns-in_err-at-clause-met_only : goal.returns-in_err-at-clause-met_only
returns-in_err-at-clause-met_only g c = handed_met_only _ _ _ c.from_residual.result c.in_err-at.field-0.0 c.from_residual.ensures.1 c.loop-i.invariant.none_met c.in_err-at.ensures.met_only
