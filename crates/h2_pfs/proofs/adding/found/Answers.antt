use Rattle.std.proofs.Common.{inl, inr, arith, subst, None}
use Rattle.h2_set.specs.StayLaws.{Readies-unchanged}
use Rattle.h2_tree.specs.Changes.{Inserts}
use Rattle.h2_inode.specs.Nodes.{Visits}
use Rattle.h2_inode.specs.VisitLaws.{unchanged_visits}
use Rattle.h2_inode.specs.Loaded.{StandsAlike, view_of}
use Rattle.h2_inode.specs.AlikeLaws.{unchanged_alike}
use Rattle.h2_pfs.specs.Meets.{LoadsPfss}
use Rattle.h2_pfs.proofs.Loading.{none_loads}
use Rattle.h2_tree.specs.AnswerLaws.{always_err, beside_on}
use Rattle.h2_pfs.proofs.Planted.{ready_path, ready_takes, none_before, new_unloaded, founds}
use Rattle.h2_set.specs.Calls.{MeetsNone}
use Rattle.h2_set.specs.MetLaws.{MeetsNone-trans}
use Rattle.h2_pfs.proofs.adding.found.Goals as goal

pub returns-in_err-ready-clause-visits : goal.returns-in_err-ready-clause-visits
returns-in_err-ready-clause-visits g c = always_err c.from_residual.result (unchanged_visits _ _ (Readies-unchanged _ _ c.in_err-ready.ensures.same c.in_err-ready.ensures.err))

pub returns-in_err-ready-clause-alike : goal.returns-in_err-ready-clause-alike
returns-in_err-ready-clause-alike g c =
    let ready = c.in_err-ready.ensures in
    always_err c.from_residual.result (unchanged_alike g.N.Nodes.fields _ _ _ _ _ _ c.requires.sound (Readies-unchanged _ _ ready.same ready.err) ready.beside (g.met.N.Nodes.told_later _ _ ready.later))

pub returns-in_err-ready-clause-loads : goal.returns-in_err-ready-clause-loads
returns-in_err-ready-clause-loads g c = always_err c.from_residual.result (none_loads _ _ c.args.root.0 c.in_err-ready.ensures.same.none_new)

pub insert-requires-clause-takes : goal.insert-requires-clause-takes
insert-requires-clause-takes g c =
    let super = c.requires.super_root in
    ready_takes _ _ c.args.root.0 c.args.leaf super.root super.stands c.in_ok-ready.ensures.same c.requires.takes

pub returns-in-Err-clause-visits : goal.returns-in-Err-clause-visits
returns-in-Err-clause-visits g c =
    let ready = c.in_ok-ready.ensures in
    let path = ready_path _ _ c.args.leaf.key c.args.root.0 None c.requires.sound c.requires.super_root.stands ready.same c.requires.path in
    elim c.in-Err.ensures.unloaded as (λ _. Visits (g.N.Sets.forest c.args.n.now) (g.N.Sets.forest c.insert.new.n)) [
      | inl none ↦ absurd (none None path)
      | inr spent ↦ absurd (omega (arith, spent, ready.ok))
    ]

pub returns-in-Err-clause-alike : goal.returns-in-Err-clause-alike
returns-in-Err-clause-alike g c =
    let ready = c.in_ok-ready.ensures in
    let path = ready_path _ _ c.args.leaf.key c.args.root.0 None c.requires.sound c.requires.super_root.stands ready.same c.requires.path in
    let fields = g.N.Nodes.fields in
    elim c.in-Err.ensures.unloaded as (λ _. StandsAlike (view_of fields (g.N.Sets.forest c.args.n.now) (g.N.Sets.beside c.args.n.now) (g.N.Nodes.told c.args.n.now)) (view_of fields (g.N.Sets.forest c.insert.new.n) (g.N.Sets.beside c.insert.new.n) (g.N.Nodes.told c.insert.new.n))) [
      | inl none ↦ absurd (none None path)
      | inr spent ↦ absurd (omega (arith, spent, ready.ok))
    ]

pub returns-in-Err-clause-loads : goal.returns-in-Err-clause-loads
returns-in-Err-clause-loads g c =
    let ready = c.in_ok-ready.ensures in
    let path = ready_path _ _ c.args.leaf.key c.args.root.0 None c.requires.sound c.requires.super_root.stands ready.same c.requires.path in
    elim c.in-Err.ensures.unloaded as (λ _. LoadsPfss (g.N.Sets.forest c.args.n.now) (g.N.Sets.forest c.insert.new.n) c.args.root.0) [
      | inl none ↦ absurd (none None path)
      | inr spent ↦ absurd (omega (arith, spent, ready.ok))
    ]

pub plant-requires-clause-unloaded : goal.plant-requires-clause-unloaded
plant-requires-clause-unloaded g c =
    let ready = c.in_ok-ready.ensures in
    let h = g.N.Sets.forest c.ready.new.self in
    let k = g.N.Sets.forest c.insert.new.n in
    let top = c.args.root.0 in
    let stands = (ready.same.same top c.requires.super_root.stands).place.stands in
    let path = ready_path _ h c.args.leaf.key top None c.requires.sound c.requires.super_root.stands ready.same c.requires.path in
    let none = none_before h k top c.args.leaf c.in-Ok.field-0 ready.same.sound stands path c.in-Ok.ensures.ok in
    new_unloaded h k top c.args.leaf stands (subst (Inserts h k top c.args.leaf) none c.in-Ok.ensures.ok)

pub returns-clause-founds : goal.returns-clause-founds
returns-clause-founds g c =
    let ready = c.in_ok-ready.ensures in
    let h = g.N.Sets.forest c.ready.new.self in
    let k = g.N.Sets.forest c.insert.new.n in
    let top = c.args.root.0 in
    let stands = (ready.same.same top c.requires.super_root.stands).place.stands in
    let path = ready_path _ h c.args.leaf.key top None c.requires.sound c.requires.super_root.stands ready.same c.requires.path in
    let none = none_before h k top c.args.leaf c.in-Ok.field-0 ready.same.sound stands path c.in-Ok.ensures.ok in
    founds _ h k (g.N.Sets.forest c.plant.new.self) _ top c.plant.result.0 c.args.leaf c.args.inode ready.same ready.ok ready.still (subst (Inserts h k top c.args.leaf) none c.in-Ok.ensures.ok) c.in-Ok.ensures.paths c.in-Ok.ensures.path c.plant.ensures.plants c.plant.ensures.inode

pub returns-clause-beside : goal.returns-clause-beside
returns-clause-beside g c =
    let ready = c.in_ok-ready.ensures in
    let first = beside_on _ _ _ _ _ _ (λ m st. (ready.same.same m st).place.stands) ready.beside c.in-Ok.ensures.beside in
    beside_on _ _ _ _ _ _ (λ m st. (c.in-Ok.ensures.ok.still m (ready.same.same m st).place.stands).stands) first c.plant.ensures.beside

pub returns-clause-later : goal.returns-clause-later
returns-clause-later g c = g.met.N.Sets.later_later _ _ _ (g.met.N.Sets.later_later _ _ _ c.in_ok-ready.ensures.later c.in-Ok.ensures.later) c.plant.ensures.later

pub returns-in_err-ready-clause-none_met : goal.returns-in_err-ready-clause-none_met
returns-in_err-ready-clause-none_met g c = record { failed = c.in_err-ready.ensures.same.failed; bad = c.in_err-ready.ensures.same.bad; met = c.in_err-ready.ensures.same.met }

pub returns-in-Err-clause-none_met : goal.returns-in-Err-clause-none_met
returns-in-Err-clause-none_met g c =
    let ready = c.in_ok-ready.ensures in
    let path = ready_path _ _ c.args.leaf.key c.args.root.0 None c.requires.sound c.requires.super_root.stands ready.same c.requires.path in
    elim c.in-Err.ensures.unloaded as (λ _. MeetsNone (g.N.Sets.forest c.args.n.now) (g.N.Sets.forest c.insert.new.n)) [
      | inl none ↦ absurd (none None path)
      | inr spent ↦ absurd (omega (arith, spent, ready.ok))
    ]

pub returns-clause-none_met : goal.returns-clause-none_met
returns-clause-none_met g c =
    let ready = c.in_ok-ready.ensures.same in
    let plants = c.plant.ensures.plants in
    MeetsNone-trans _ _ _ (MeetsNone-trans _ _ _ (record { failed = ready.failed; bad = ready.bad; met = ready.met }) c.in-Ok.ensures.none_met) (record { failed = plants.failed; bad = plants.bad; met = plants.met })
