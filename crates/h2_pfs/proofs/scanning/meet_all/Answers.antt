use Rattle.std.proofs.Common.{◌≡◌, ◌⊎◌, inl, inr, arith, ◌∙◌, sym, ap, subst, List, [], ◌∷◌, ◌++◌, length, take}
use Rattle.std.specs.Prelude.{map}
use Rattle.h2_ref.specs.declared.faults.Trouble.{Trouble}
use Rattle.h2_ref.specs.declared.faults.Trouble.TheVariants.{NoMemory}
use Rattle.h2_set.specs.Calls.{IsBad}
use Rattle.h2_inode.specs.Nodes.{held_by}
use Rattle.h2_inode.specs.VisitLaws.{visits_trans, visits_leaf}
use Rattle.h2_inode.specs.Access.{OneByOne}
use Rattle.h2_inode.specs.Loaded.{as_before}
use Rattle.h2_inode.specs.LoadedLaws.{alike_trans}
use Rattle.h2_pfs.specs.declared.met.Met.{Met}
use Rattle.h2_pfs.specs.Mets.{met_of}
use Rattle.h2_pfs.specs.Meets.{MetBy, AreKnown, InodeMissing}
use Rattle.h2_tree.specs.AnswerLaws.{beside_same, beside_on}
use Rattle.h2_pfs.proofs.Answering.{carried_err}
use Rattle.h2_pfs.proofs.Members.{whole_front, at_place, map_more}
use Rattle.h2_pfs.proofs.Growing.{front_met, named_no_more}
use Rattle.h2_pfs.proofs.Loading.{none_loads, leaves_stand, loads_trans}
use Rattle.h2_pfs.proofs.Visiting.{visits_same, visits_unloaded, known_stays}
use Rattle.h2_set.specs.MetLaws.{MeetsNone-refl, MeetsNone-trans, handed_met_only}
use Rattle.h2_pfs.proofs.scanning.meet_all.Goals as goal

pub loop-i-init : goal.loop-i-init
loop-i-init g c = record {
  visits = visits_same _ c.requires.sound;
  loads = none_loads _ _ c.args.root.0 (λ m st. st);
  alike = as_before;
  beside = beside_same _ _;
  later = g.met.N.Sets.same_later _;
  none_met = MeetsNone-refl _;
  met = ([], tt, c.new-out.ensures.items);
  named = λ j d r le read named. named;
}

pub meet-requires-clause-leaf : goal.meet-requires-clause-leaf
meet-requires-clause-leaf g c =
    let read = at_place c.args.leaves.now c.loop-i.i _ c.loop-i-test.true in
    visits_leaf _ _ _ _ c.requires.sound c.loop-i.invariant.visits (c.requires.leaves.each _ _ read)

pub returns-in_err-met-clause-visits : goal.returns-in_err-met-clause-visits
returns-in_err-met-clause-visits g c = visits_trans _ _ _ c.loop-i.invariant.visits c.in_err-met.ensures.visits

pub returns-in_err-met-clause-alike : goal.returns-in_err-met-clause-alike
returns-in_err-met-clause-alike g c = alike_trans c.loop-i.invariant.alike c.in_err-met.ensures.alike

pub returns-in_err-met-clause-loads : goal.returns-in_err-met-clause-loads
returns-in_err-met-clause-loads g c =
    let inv = c.loop-i.invariant in
    let stands = leaves_stand _ c.args.root.0 c.loop-i.i c.args.leaves.now c.requires.leaves c.loop-i-test.true in
    loads_trans _ _ _ c.args.root.0 inv.visits.sound (inv.visits.stays c.args.root.0 stands).place.stands c.in_err-met.ensures.visits inv.loads c.in_err-met.ensures.loads

pub returns-in_err-met-clause-unloaded : goal.returns-in_err-met-clause-unloaded
returns-in_err-met-clause-unloaded g c =
    let read = at_place c.args.leaves.now c.loop-i.i _ c.loop-i-test.true in
    let leaf = c.requires.leaves.each _ _ read in
    let Cause = λ (e : Trouble). (e ≡ NoMemory) ⊎ InodeMissing (g.N.Sets.forest c.args.n.now) (g.N.Sets.forest c.args.n.now) c.args.root.0 in
    carried_err Cause c.from_residual.result c.in_err-met.field-0.0 c.from_residual.ensures.1 (elim c.in_err-met.ensures.unloaded as (λ _. Cause c.in_err-met.field-0.0) [
      | inl none ↦ inl none
      | inr unloaded ↦ inr (record { leaf = _; is_leaf = leaf; unloaded = visits_unloaded _ _ _ _ c.loop-i.invariant.visits leaf.stands unloaded })
    ])

pub returns-in_err-met-clause-good : goal.returns-in_err-met-clause-good
returns-in_err-met-clause-good g c =
    let f = g.N.Sets.forest c.args.n.now in
    let old = g.N.Sets.beside c.args.n.now in
    let was = g.N.Nodes.told c.args.n.now in
    let top = c.args.root.0 in
    let inv = c.loop-i.invariant in
    let e = c.in_err-met.field-0.0 in
    let read = at_place c.args.leaves.now c.loop-i.i _ c.loop-i-test.true in
    let leaf = c.requires.leaves.each _ _ read in
    let Good = λ (x : Trouble). AreKnown f (held_by g.N.Nodes.fields old) was top c.args.leaves.now → IsBad x → ⊥ in
    carried_err Good c.from_residual.result e c.from_residual.ensures.1 (λ known bad.
    let it = known c.loop-i.i _ read in
    c.in_err-met.ensures.good it.0 it.1 (known_stays g.N.Nodes.fields f _ old _ was _ top _ it.0 it.1 inv.visits inv.beside leaf.stands (g.met.N.Nodes.told_later _ _ inv.later) (λ d named. inv.named c.loop-i.i d _ (omega arith) read named) it.2) bad)

pub returns-in-Err-clause-good : goal.returns-in-Err-clause-good
returns-in-Err-clause-good g c = λ known bad. bad

pub returns-in_err-met-clause-beside : goal.returns-in_err-met-clause-beside
returns-in_err-met-clause-beside g c = beside_on _ _ _ _ _ _ (λ m st. (c.loop-i.invariant.visits.stays m st).place.stands) c.loop-i.invariant.beside c.in_err-met.ensures.beside

pub returns-in-Err-clause-visits : goal.returns-in-Err-clause-visits
returns-in-Err-clause-visits g c = visits_trans _ _ _ c.loop-i.invariant.visits c.in_ok-met.ensures.visits

pub returns-in-Err-clause-alike : goal.returns-in-Err-clause-alike
returns-in-Err-clause-alike g c = alike_trans c.loop-i.invariant.alike c.in_ok-met.ensures.alike

pub returns-in-Err-clause-loads : goal.returns-in-Err-clause-loads
returns-in-Err-clause-loads g c =
    let inv = c.loop-i.invariant in
    let stands = leaves_stand _ c.args.root.0 c.loop-i.i c.args.leaves.now c.requires.leaves c.loop-i-test.true in
    loads_trans _ _ _ c.args.root.0 inv.visits.sound (inv.visits.stays c.args.root.0 stands).place.stands c.in_ok-met.ensures.visits inv.loads c.in_ok-met.ensures.loads

pub loop-i-preserved : goal.loop-i-preserved
loop-i-preserved g c =
    let inv = c.loop-i.invariant in
    let met = c.in_ok-met.ensures in
    let read = at_place c.args.leaves.now c.loop-i.i _ c.loop-i-test.true in
    let leaf = c.requires.leaves.each _ _ read in
    let rising = c.requires.leaves.rising in
    let p = met.met.0 in
    let pfss = inv.met.0 in
    let all = front_met g.N.Nodes.fields _ _ _ _ _ _ _ (g.N.Nodes.told c.loop-i.n) c.args.root.0 c.loop-i.i met.seeks.0 c.args.leaves.now pfss _ p rising read leaf inv.visits inv.beside (g.met.N.Nodes.told_later _ _ inv.later) inv.named met.seeks.1 met.beside inv.met.1 met.met.1 in
    let items : c.push.new.self.items ≡ map met_of (pfss ++ p ∷ []) = c.in-Ok.ensures.items ∙ ap (λ (z : List Met). z ++ c.in_ok-met.met ∷ []) inv.met.2 ∙ ap (λ (z : Met). map met_of pfss ++ z ∷ []) met.met.2 ∙ sym (map_more met_of pfss p) in
    record {
      visits = visits_trans _ _ _ inv.visits met.visits;
      loads = loads_trans _ _ _ c.args.root.0 inv.visits.sound (inv.visits.stays c.args.root.0 leaf.stands).place.stands met.visits inv.loads met.loads;
      alike = alike_trans inv.alike met.alike;
      beside = beside_on _ _ _ _ _ _ (λ m st. (inv.visits.stays m st).place.stands) inv.beside met.beside;
      later = g.met.N.Sets.later_later _ _ _ inv.later met.later;
      none_met = MeetsNone-trans _ _ _ inv.none_met met.none_met;
      met = (pfss ++ p ∷ [], all, items);
      named = named_no_more _ _ _ c.args.root.0 c.loop-i.i met.seeks.0 c.args.leaves.now _ rising read leaf inv.visits met.seeks.1 inv.named;
    }

pub returns-clause-met : goal.returns-clause-met
returns-clause-met g c =
    let met = c.loop-i.invariant.met in
    let all : c.loop-i.i ≡ length c.args.leaves.now = omega (arith, c.loop-i-test.false, c.loop-i.auto.i-end) in
    let rest = subst (λ k. OneByOne (MetBy (g.N.Sets.forest c.args.n.now) (g.N.Sets.forest c.loop-i.n) (held_by g.N.Nodes.fields (g.N.Sets.beside c.args.n.now)) (held_by g.N.Nodes.fields (g.N.Sets.beside c.loop-i.n)) (g.N.Nodes.told c.args.n.now) c.args.root.0) (take k c.args.leaves.now) met.0) all met.1 in
    (met.0, whole_front _ c.args.leaves.now met.0 rest, met.2)

pub returns-in_err-met-clause-met_only : goal.returns-in_err-met-clause-met_only
returns-in_err-met-clause-met_only g c = handed_met_only _ _ _ c.from_residual.result c.in_err-met.field-0.0 c.from_residual.ensures.1 c.loop-i.invariant.none_met c.in_err-met.ensures.met_only

pub returns-in-Err-clause-met_only : goal.returns-in-Err-clause-met_only
returns-in-Err-clause-met_only g c = MeetsNone-trans _ _ _ c.loop-i.invariant.none_met c.in_ok-met.ensures.none_met
