use Rattle.std.proofs.Common.{arith}
use Rattle.std.proofs.lemmas.Option.{slice_get_within}
use Rattle.h2_set.specs.StayLaws.{Walks-refl, Walks-trans}
use Rattle.h2_tree.specs.AnswerLaws.{always_err, beside_on, beside_same}
use Rattle.h2_file.proofs.Loaded.{apart_refl, apart_on, Each-refl, each_on, one_loaded, unloaded_before, at_place, loaded_more}
use Rattle.h2_file.proofs.Known.{good_before, carried_good}
use Rattle.h2_set.specs.MetLaws.{MeetsNone-refl, MeetsNone-trans, handed_met_only}
use Rattle.h2_file.proofs.linking.load_paths.Goals as goal

pub loop-at-init : goal.loop-at-init
loop-at-init g c = record {
  walks = Walks-refl _ c.requires.sound;
  touched = Each-refl _ _ _;
  apart = apart_refl _ _;
  beside = beside_same _ _;
  later = g.met.N.Sets.same_later _;
  none_met = MeetsNone-refl _;
  loaded = λ j r read lt. absurd (omega (arith, lt));
}

pub lookup-requires-clause-stands : goal.lookup-requires-clause-stands
lookup-requires-clause-stands g c = (c.loop-at.invariant.walks.stays c.args.root.0 c.requires.stands).place.stands

pub loop-at-preserved : goal.loop-at-preserved
loop-at-preserved g c =
    let inv = c.loop-at.invariant in
    let step = c.in_ok-lookup.ensures in
    let read = at_place c.args.refs.now c.loop-at.at _ c.loop-at-test.true in
    record {
      walks = Walks-trans _ _ _ inv.walks step.walks;
      touched = each_on _ _ _ _ _ (inv.walks.stays c.args.root.0 c.requires.stands).place.root (λ m st. (step.walks.stays m st).place) inv.touched (one_loaded _ _ _ _ c.loop-at.at _ read step.tree);
      apart = apart_on _ _ _ c.args.root.0 (inv.walks.stays c.args.root.0 c.requires.stands).place.root inv.apart step.under;
      beside = beside_on _ _ _ _ _ _ (λ m st. (inv.walks.stays m st).place.stands) inv.beside step.beside;
      later = g.met.N.Sets.later_later _ _ _ inv.later step.later;
      none_met = MeetsNone-trans _ _ _ inv.none_met step.none_met;
      loaded = loaded_more _ _ _ c.args.refs.now c.loop-at.at _ _ inv.walks.sound (inv.walks.stays c.args.root.0 c.requires.stands).place.stands step.walks read step.path inv.loaded;
    }

pub returns-in_err-lookup-clause-walks : goal.returns-in_err-lookup-clause-walks
returns-in_err-lookup-clause-walks g c = Walks-trans _ _ _ c.loop-at.invariant.walks c.in_err-lookup.ensures.walks

pub returns-in_err-lookup-clause-touched : goal.returns-in_err-lookup-clause-touched
returns-in_err-lookup-clause-touched g c =
    let step = c.in_err-lookup.ensures in
    let read = at_place c.args.refs.now c.loop-at.at _ c.loop-at-test.true in
    each_on _ _ _ _ _ (c.loop-at.invariant.walks.stays c.args.root.0 c.requires.stands).place.root (λ m st. (step.walks.stays m st).place) c.loop-at.invariant.touched (one_loaded _ _ _ _ c.loop-at.at _ read step.tree)

pub returns-in_err-lookup-clause-apart : goal.returns-in_err-lookup-clause-apart
returns-in_err-lookup-clause-apart g c = apart_on _ _ _ c.args.root.0 (c.loop-at.invariant.walks.stays c.args.root.0 c.requires.stands).place.root c.loop-at.invariant.apart c.in_err-lookup.ensures.under

pub returns-in_err-lookup-clause-unloaded : goal.returns-in_err-lookup-clause-unloaded
returns-in_err-lookup-clause-unloaded g c =
    let read = at_place c.args.refs.now c.loop-at.at _ c.loop-at-test.true in
    always_err c.from_residual.result (record { place = c.loop-at.at; ref = _; read = read; unloaded = unloaded_before _ _ _ _ c.requires.sound c.requires.stands c.loop-at.invariant.walks c.in_err-lookup.ensures.unloaded })

pub returns-in_err-lookup-clause-beside : goal.returns-in_err-lookup-clause-beside
returns-in_err-lookup-clause-beside g c = beside_on _ _ _ _ _ _ (λ m st. (c.loop-at.invariant.walks.stays m st).place.stands) c.loop-at.invariant.beside c.in_err-lookup.ensures.beside

pub returns-clause-loaded : goal.returns-clause-loaded
returns-clause-loaded g c = λ i r read. c.loop-at.invariant.loaded i r read (let w = slice_get_within c.args.refs.now i r read in let out = c.loop-at-test.false in omega (arith, w, out))

pub returns-in_err-lookup-clause-good : goal.returns-in_err-lookup-clause-good
returns-in_err-lookup-clause-good g c = carried_good _ _ c.from_residual.result c.in_err-lookup.field-0.0 c.from_residual.ensures.1 (good_before _ _ c.args.root.0 c.in_err-lookup.field-0.0 c.requires.sound c.loop-at.invariant.walks c.requires.stands c.in_err-lookup.ensures.good)

pub returns-in_err-lookup-clause-met_only : goal.returns-in_err-lookup-clause-met_only
returns-in_err-lookup-clause-met_only g c = handed_met_only _ _ _ c.from_residual.result c.in_err-lookup.field-0.0 c.from_residual.ensures.1 c.loop-at.invariant.none_met c.in_err-lookup.ensures.met_only
