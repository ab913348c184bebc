use Rattle.std.proofs.Common.{◌≡◌, ◌⊎◌, inl, inr, ◌∙◌, sym, arith, ap, refl, true, false, List, ◌++◌, Some, subst, slice_get, length}
use Rattle.std.specs.Prelude.{filter}
use Rattle.std.proofs.lemmas.List.{append-nil, take_all}
use Rattle.h2_ref.specs.declared.reference.Ref.{Ref}
use Rattle.h2_set.specs.Ranges.{is_indirect}
use Rattle.h2_set.specs.RefSet.{RefSet}
use Rattle.h2_set.specs.Forest.{refs, HasLeaves}
use Rattle.h2_set.specs.StayLaws.{Walks-refl, Walks-trans}
use Rattle.h2_tree.specs.Changes.{is_between, touches, RangeUnloaded, missing, deeper}
use Rattle.h2_tree.proofs.Touching.{In-refl, In-trans, in_load, unloaded_back, skip_step, always_unloaded, carried_err}
use Rattle.h2_ref.specs.declared.faults.Trouble.TheVariants.{NoMemory}
use Rattle.h2_tree.specs.Listing.{Adds}
use Rattle.h2_tree.proofs.Climb.{next_node, next_root}
use Rattle.h2_tree.proofs.Gathering.{adds_none, adds_more, adds_skipped, adds_taken, adds_entered}
use Rattle.h2_tree.specs.AnswerLaws.{beside_same, beside_on}
use Rattle.h2_tree.proofs.Collect.{no_leaves, collected_more, leaf_step, child_step}
use Rattle.h2_tree.proofs.Known.{child_good, good_above, good_before, no_memory_good, carried_good}
use Rattle.h2_tree.proofs.listing.+collect.Goals as goal
use Rattle.h2_set.specs.MetLaws.{MeetsNone-refl, MeetsNone-trans, handed_met_only, no_memory_met}
use Rattle.h2_tree.proofs.listing.+collect.Goals.{then-touches+then-is_indirect+in_ok-child+in_ok-collect, then-touches+else-is_indirect+in_ok-take_leaf, else-touches}

pub loop-i-init : goal.loop-i-init
loop-i-init g t c = record {
  walks = Walks-refl _ c.requires.sound;
  touched = In-refl _ _ _ _;
  beside = beside_same _ _;
  later = g.met.N.Sets.same_later _;
  none_met = MeetsNone-refl _;
  gathered = adds_none _ _ _ _ _;
  told = λ front h.
      let none = no_leaves h refl in
      sym (ap (λ (z : List Ref). c.args.out.now.items ++ filter (is_between c.args.from c.args.to) z) none ∙ append-nil c.args.out.now.items);
}

pub returns-in_err-child-clause-walks : goal.returns-in_err-child-clause-walks
returns-in_err-child-clause-walks g t c = Walks-trans _ _ _ c.loop-i.invariant.walks c.in_err-child.ensures.walks

pub returns-in_err-child-clause-beside : goal.returns-in_err-child-clause-beside
returns-in_err-child-clause-beside g t c = beside_on _ _ _ _ _ _ (λ m st. (c.loop-i.invariant.walks.stays m st).place.stands) c.loop-i.invariant.beside c.in_err-child.ensures.beside

pub returns-in_err-collect-clause-walks : goal.returns-in_err-collect-clause-walks
returns-in_err-collect-clause-walks g t c = Walks-trans _ _ _ (Walks-trans _ _ _ c.loop-i.invariant.walks c.in_ok-child.ensures.walks) c.in_err-collect.ensures.walks

pub returns-in_err-collect-clause-beside : goal.returns-in_err-collect-clause-beside
returns-in_err-collect-clause-beside g t c =
    let first = beside_on _ _ _ _ _ _ (λ m st. (c.loop-i.invariant.walks.stays m st).place.stands) c.loop-i.invariant.beside c.in_ok-child.ensures.beside in
    let whole = Walks-trans _ _ _ c.loop-i.invariant.walks c.in_ok-child.ensures.walks in
    beside_on _ _ _ _ _ _ (λ m st. (whole.stays m st).place.stands) first c.in_err-collect.ensures.beside

pub collect-requires : goal.collect-requires
collect-requires g t c κs within =
    let f = g.N.Sets.forest c.loop-i.n in
    let walks = c.loop-i.invariant.walks in
    let child = c.in_ok-child.ensures in
    let there = walks.stays c.args.at.0 c.requires.stands in
    let ind : is_indirect c.at.result.now ≡ true = sym c.is_indirect.ensures ∙ c.if-is_indirect.true in
    let read : slice_get (refs f c.args.at.0) c.loop-i.i ≡ Some c.at.result.now = subst (λ (s : RefSet). slice_get s.refs c.loop-i.i ≡ Some c.at.result.now) c.get-in-loop-i.ensures c.at.ensures in
    let next = next_node f _ c.args.at.0 _ c.loop-i.i c.at.result.now walks.sound child.walks there.place.stands read ind (child.ok _ read) in
    (omega (arith, next.1, there.place.bits, c.decreases), (within.0, (within.1, (child.walks.sound, next.0))))

pub loop-i-preserved : goal.loop-i-preserved
loop-i-preserved g t c =
    let f0 = g.N.Sets.forest c.args.n.now in
    let f = g.N.Sets.forest c.loop-i.n in
    let inv = c.loop-i.invariant in
    let p = is_between c.args.from c.args.to in
    let r = c.at.result.now in
    let i = c.loop-i.i in
    let at = c.args.at.0 in
    let read : slice_get (refs f at) i ≡ Some r = subst (λ (s : RefSet). slice_get s.refs i ≡ Some r) c.get-in-loop-i.ensures c.at.ensures in
    let read0 : slice_get (refs f0 at) i ≡ Some r = subst (λ (s : RefSet). slice_get s.refs i ≡ Some r) (c.get-in-loop-i.ensures ∙ inv.walks.sets at c.requires.stands) c.at.ensures in
    let there = (inv.walks.stays at c.requires.stands).place.stands in
    elim c.if-touches.branch [
      | else-touches w ↦
          let off : touches c.args.from c.args.to r ≡ false = sym c.touches.ensures ∙ w.if-touches.false in
          rw (w.n-is, w.out-is) (record {
            walks = inv.walks;
            touched = inv.touched;
            beside = inv.beside;
            later = inv.later;
            none_met = inv.none_met;
            gathered = adds_more f f c.args.from c.args.to at i (refs f0 at) c.args.out.now.items c.loop-i.out.items c.loop-i.out.items r inv.walks.sound (Walks-refl f inv.walks.sound) there inv.gathered read0 (adds_skipped f c.args.from c.args.to at c.loop-i.out.items r off);
            told = collected_more f0 at i p c.args.out.now.items c.loop-i.out.items c.loop-i.out.items r inv.told read0 (skip_step f0 at c.args.from c.args.to c.loop-i.out.items r off);
          })
      | then-touches+else-is_indirect+in_ok-take_leaf w ↦
          let leaf : is_indirect r ≡ false = sym w.is_indirect.ensures ∙ w.if-is_indirect.false in
          rw (w.n-is, w.out-is) (record {
            walks = inv.walks;
            touched = inv.touched;
            beside = inv.beside;
            later = inv.later;
            none_met = inv.none_met;
            gathered = adds_more f f c.args.from c.args.to at i (refs f0 at) c.args.out.now.items c.loop-i.out.items w.take_leaf.new.out.items r inv.walks.sound (Walks-refl f inv.walks.sound) there inv.gathered read0 (adds_taken f c.args.from c.args.to at c.loop-i.out.items w.take_leaf.new.out.items r leaf w.in_ok-take_leaf.ensures.ok);
            told = collected_more f0 at i p c.args.out.now.items c.loop-i.out.items w.take_leaf.new.out.items r inv.told read0 (leaf_step f0 at p c.loop-i.out.items w.take_leaf.new.out.items r leaf w.in_ok-take_leaf.ensures.ok);
          })
      | then-touches+then-is_indirect+in_ok-child+in_ok-collect w ↦
          let child = w.in_ok-child.ensures in
          let rest = w.in_ok-collect.ensures in
          let ind : is_indirect r ≡ true = sym w.is_indirect.ensures ∙ w.if-is_indirect.true in
          let on : touches c.args.from c.args.to r ≡ true = sym c.touches.ensures ∙ w.if-touches.true in
          let loaded_walk = Walks-trans _ _ _ inv.walks child.walks in
          let root = (inv.walks.stays at c.requires.stands).place.root in
          let loaded_touched = In-trans _ _ _ at at _ _ root child.walks inv.touched (in_load _ _ at i r _ _ there read ind on child.walks (child.loads r read)) in
          let root_child = next_root _ _ at w.in_ok-child.child.0 r.key child.walks there (child.ok r read) ∙ root in
          rw (w.n-is, w.out-is) (record {
            walks = Walks-trans _ _ _ loaded_walk rest.walks;
            touched = In-trans _ _ _ at w.in_ok-child.child.0 _ _ root_child rest.walks loaded_touched rest.touched;
            beside = beside_on _ _ _ _ _ _ (λ m st. (loaded_walk.stays m st).place.stands) (beside_on _ _ _ _ _ _ (λ m st. (inv.walks.stays m st).place.stands) inv.beside child.beside) rest.beside;
            later = g.met.N.Sets.later_later _ _ _ (g.met.N.Sets.later_later _ _ _ inv.later child.later) rest.later;
            none_met = MeetsNone-trans _ _ _ (MeetsNone-trans _ _ _ inv.none_met child.none_met) rest.none_met;
            gathered = (let mid = (child.walks.stays at there).place.stands in let link = (rest.walks.stays at mid).near r.key w.in_ok-child.child.0 (child.ok _ read) in adds_more f _ c.args.from c.args.to at i (refs f0 at) c.args.out.now.items c.loop-i.out.items w.collect.new.out.items r inv.walks.sound (Walks-trans _ _ _ child.walks rest.walks) there inv.gathered read0 (adds_entered _ c.args.from c.args.to at w.in_ok-child.child.0 c.loop-i.out.items w.collect.new.out.items r ind link rest.gathers));
            told = collected_more f0 at i p c.args.out.now.items c.loop-i.out.items w.collect.new.out.items r inv.told read0 (child_step f0 _ at _ p c.loop-i.out.items w.collect.new.out.items r c.requires.sound loaded_walk c.requires.stands ind (child.ok _ read) rest.ok);
          })
    ]

pub returns-in_err-collect-clause-later : goal.returns-in_err-collect-clause-later
returns-in_err-collect-clause-later g t c = g.met.N.Sets.later_later _ _ _ (g.met.N.Sets.later_later _ _ _ c.loop-i.invariant.later c.in_ok-child.ensures.later) c.in_err-collect.ensures.later

pub returns-clause-gathers : goal.returns-clause-gathers
returns-clause-gathers g t c =
    let f = g.N.Sets.forest c.args.n.now in
    let at = c.args.at.0 in
    let len : c.len-len.result ≡ length (refs f at) = c.len-len.ensures.len ∙ ap (λ (s : RefSet). length s.refs) c.get.ensures in
    let whole = take_all c.loop-i.i (refs f at) (omega (arith, c.loop-i-test.false, len)) ∙ ap (λ (s : RefSet). s.refs) (sym (c.loop-i.invariant.walks.sets at c.requires.stands)) in
    subst (λ z. Adds (g.N.Sets.forest c.loop-i.n) c.args.from c.args.to at z c.args.out.now.items c.loop-i.out.items) whole c.loop-i.invariant.gathered

pub returns-clause-ok : goal.returns-clause-ok
returns-clause-ok g t c = λ l hl.
    let f = g.N.Sets.forest c.args.n.now in
    let at = c.args.at.0 in
    let len : c.len-len.result ≡ length (refs f at) = c.len-len.ensures.len ∙ ap (λ (s : RefSet). length s.refs) c.get.ensures in
    let whole = take_all c.loop-i.i (refs f at) (omega (arith, c.loop-i-test.false, len)) in
    c.loop-i.invariant.told l (subst (λ z. HasLeaves f at z l) (sym whole) hl)

pub returns-in_err-child-clause-touched : goal.returns-in_err-child-clause-touched
returns-in_err-child-clause-touched g t c =
    let f = g.N.Sets.forest c.loop-i.n in
    let inv = c.loop-i.invariant in
    let child = c.in_err-child.ensures in
    let ind : is_indirect c.at.result.now ≡ true = sym c.is_indirect.ensures ∙ c.if-is_indirect.true in
    let on : touches c.args.from c.args.to c.at.result.now ≡ true = sym c.touches.ensures ∙ c.if-touches.true in
    let read : slice_get (refs f c.args.at.0) c.loop-i.i ≡ Some c.at.result.now = subst (λ (s : RefSet). slice_get s.refs c.loop-i.i ≡ Some c.at.result.now) c.get-in-loop-i.ensures c.at.ensures in
    let there = (inv.walks.stays c.args.at.0 c.requires.stands).place.stands in
    let root = (inv.walks.stays c.args.at.0 c.requires.stands).place.root in
    In-trans _ _ _ c.args.at.0 c.args.at.0 _ _ root child.walks inv.touched (in_load _ _ c.args.at.0 c.loop-i.i c.at.result.now _ _ there read ind on child.walks (child.loads c.at.result.now read))

pub returns-in_err-child-clause-unloaded : goal.returns-in_err-child-clause-unloaded
returns-in_err-child-clause-unloaded g t c =
    let f = g.N.Sets.forest c.loop-i.n in
    let inv = c.loop-i.invariant in
    let child = c.in_err-child.ensures in
    let ind : is_indirect c.at.result.now ≡ true = sym c.is_indirect.ensures ∙ c.if-is_indirect.true in
    let on : touches c.args.from c.args.to c.at.result.now ≡ true = sym c.touches.ensures ∙ c.if-touches.true in
    let read : slice_get (refs f c.args.at.0) c.loop-i.i ≡ Some c.at.result.now = subst (λ (s : RefSet). slice_get s.refs c.loop-i.i ≡ Some c.at.result.now) c.get-in-loop-i.ensures c.at.ensures in
    always_unloaded c.from_residual.result (unloaded_back c.requires.sound inv.walks c.requires.stands (missing c.loop-i.i read ind on (λ d link. child.unloaded c.at.result.now d read link)))

pub returns-in_err-child-clause-good : goal.returns-in_err-child-clause-good
returns-in_err-child-clause-good g t c =
    let f = g.N.Sets.forest c.loop-i.n in
    let inv = c.loop-i.invariant in
    let ind : is_indirect c.at.result.now ≡ true = sym c.is_indirect.ensures ∙ c.if-is_indirect.true in
    let read : slice_get (refs f c.args.at.0) c.loop-i.i ≡ Some c.at.result.now = subst (λ (s : RefSet). slice_get s.refs c.loop-i.i ≡ Some c.at.result.now) c.get-in-loop-i.ensures c.at.ensures in
    carried_good _ _ c.from_residual.result c.in_err-child.field-0.0 c.from_residual.ensures.1 (good_before _ f c.args.at.0 c.in_err-child.field-0.0 c.requires.sound inv.walks c.requires.stands (child_good f c.args.at.0 c.loop-i.i c.at.result.now c.in_err-child.field-0.0 read ind c.in_err-child.ensures.unloaded c.in_err-child.ensures.good))

pub returns-in_err-collect-clause-good : goal.returns-in_err-collect-clause-good
returns-in_err-collect-clause-good g t c =
    let f = g.N.Sets.forest c.loop-i.n in
    let inv = c.loop-i.invariant in
    let child = c.in_ok-child.ensures in
    let ind : is_indirect c.at.result.now ≡ true = sym c.is_indirect.ensures ∙ c.if-is_indirect.true in
    let read : slice_get (refs f c.args.at.0) c.loop-i.i ≡ Some c.at.result.now = subst (λ (s : RefSet). slice_get s.refs c.loop-i.i ≡ Some c.at.result.now) c.get-in-loop-i.ensures c.at.ensures in
    let there = (inv.walks.stays c.args.at.0 c.requires.stands).place.stands in
    carried_good _ _ c.from_residual-in_err-collect.result c.in_err-collect.field-0.0 c.from_residual-in_err-collect.ensures.1 (good_before _ f c.args.at.0 c.in_err-collect.field-0.0 c.requires.sound inv.walks c.requires.stands (good_above f _ c.args.at.0 c.loop-i.i c.in_ok-child.child.0 c.at.result.now inv.walks.sound child.walks there read ind (child.ok _ read) c.in_err-collect.field-0.0 c.in_err-collect.ensures.good))

pub returns-in_err-take_leaf-clause-good : goal.returns-in_err-take_leaf-clause-good
returns-in_err-take_leaf-clause-good g t c = carried_good _ _ c.from_residual-in_err-take_leaf.result c.in_err-take_leaf.field-0.0 c.from_residual-in_err-take_leaf.ensures.1 (no_memory_good _ _ c.in_err-take_leaf.field-0.0 c.in_err-take_leaf.ensures.err)

pub returns-in_err-collect-clause-touched : goal.returns-in_err-collect-clause-touched
returns-in_err-collect-clause-touched g t c =
    let f = g.N.Sets.forest c.loop-i.n in
    let inv = c.loop-i.invariant in
    let child = c.in_ok-child.ensures in
    let rest = c.in_err-collect.ensures in
    let ind : is_indirect c.at.result.now ≡ true = sym c.is_indirect.ensures ∙ c.if-is_indirect.true in
    let on : touches c.args.from c.args.to c.at.result.now ≡ true = sym c.touches.ensures ∙ c.if-touches.true in
    let read : slice_get (refs f c.args.at.0) c.loop-i.i ≡ Some c.at.result.now = subst (λ (s : RefSet). slice_get s.refs c.loop-i.i ≡ Some c.at.result.now) c.get-in-loop-i.ensures c.at.ensures in
    let there = (inv.walks.stays c.args.at.0 c.requires.stands).place.stands in
    let root = (inv.walks.stays c.args.at.0 c.requires.stands).place.root in
    let first = In-trans _ _ _ c.args.at.0 c.args.at.0 _ _ root child.walks inv.touched (in_load _ _ c.args.at.0 c.loop-i.i c.at.result.now _ _ there read ind on child.walks (child.loads c.at.result.now read)) in
    let root_child = next_root _ _ c.args.at.0 c.in_ok-child.child.0 c.at.result.now.key child.walks there (child.ok c.at.result.now read) ∙ root in
    In-trans _ _ _ c.args.at.0 c.in_ok-child.child.0 _ _ root_child rest.walks first rest.touched

pub returns-in_err-collect-clause-unloaded : goal.returns-in_err-collect-clause-unloaded
returns-in_err-collect-clause-unloaded g t c =
    let f = g.N.Sets.forest c.loop-i.n in
    let inv = c.loop-i.invariant in
    let child = c.in_ok-child.ensures in
    let ind : is_indirect c.at.result.now ≡ true = sym c.is_indirect.ensures ∙ c.if-is_indirect.true in
    let on : touches c.args.from c.args.to c.at.result.now ≡ true = sym c.touches.ensures ∙ c.if-touches.true in
    let read : slice_get (refs f c.args.at.0) c.loop-i.i ≡ Some c.at.result.now = subst (λ (s : RefSet). slice_get s.refs c.loop-i.i ≡ Some c.at.result.now) c.get-in-loop-i.ensures c.at.ensures in
    let there = (inv.walks.stays c.args.at.0 c.requires.stands).place.stands in
    let loaded_walk = Walks-trans _ _ _ inv.walks child.walks in
    let node = child.walks.sound.node c.args.at.0 (child.walks.stays c.args.at.0 there).place.stands in
    let read_h = ap (λ (s : RefSet). slice_get s.refs c.loop-i.i) (child.walks.sets c.args.at.0 there) ∙ read in
    carried_err c.from_residual-in_err-collect.result c.in_err-collect.field-0.0 c.from_residual-in_err-collect.ensures.1 (elim c.in_err-collect.ensures.unloaded as (λ _. (c.in_err-collect.field-0.0 ≡ NoMemory) ⊎ RangeUnloaded (g.N.Sets.forest c.args.n.now) c.args.from c.args.to c.args.at.0) [
      | inl none ↦ inl none
      | inr u ↦ inr (unloaded_back c.requires.sound loaded_walk c.requires.stands (deeper c.loop-i.i read_h ind on (child.ok c.at.result.now read) u))
    ])

pub returns-in_err-child-clause-met_only : goal.returns-in_err-child-clause-met_only
returns-in_err-child-clause-met_only g t c = handed_met_only _ _ _ c.from_residual.result c.in_err-child.field-0.0 c.from_residual.ensures.1 c.loop-i.invariant.none_met c.in_err-child.ensures.met_only

pub returns-in_err-collect-clause-met_only : goal.returns-in_err-collect-clause-met_only
returns-in_err-collect-clause-met_only g t c = handed_met_only _ _ _ c.from_residual-in_err-collect.result c.in_err-collect.field-0.0 c.from_residual-in_err-collect.ensures.1 (MeetsNone-trans _ _ _ c.loop-i.invariant.none_met c.in_ok-child.ensures.none_met) c.in_err-collect.ensures.met_only

pub returns-in_err-take_leaf-clause-met_only : goal.returns-in_err-take_leaf-clause-met_only
returns-in_err-take_leaf-clause-met_only g t c = handed_met_only _ _ _ c.from_residual-in_err-take_leaf.result c.in_err-take_leaf.field-0.0 c.from_residual-in_err-take_leaf.ensures.1 c.loop-i.invariant.none_met (no_memory_met _ _ c.in_err-take_leaf.field-0.0 c.in_err-take_leaf.ensures.err (MeetsNone-refl _))
