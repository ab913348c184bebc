use Rattle.std.proofs.Common.{refl, subst, sym}
use Rattle.std.specs.Vec.{with_item}
use Rattle.h2_command.specs.Lawful.{Lawful}
use Rattle.h2_script.specs.LawfulScripts.{IsLawfulScript}
use Rattle.h2_script.proofs.Places.{one_taken, command_taken, lawful_place, lawful_left}
use Rattle.h2_script.proofs.script.Script.take.Goals as goal

pub returns-clause-command : goal.returns-clause-command
returns-clause-command c = command_taken c.self.inside.phases.items c.args.self.now c.args.phase c.args.i c.index_mut.result.now c.index_mut-place.result.now c.replace.result c.self.view_is c.requires.phase c.requires.place c.index_mut.ensures.value c.index_mut-place.ensures.value c.replace.ensures.value

pub returns-clause-lawful : goal.returns-clause-lawful
returns-clause-lawful c =
    let same = command_taken c.self.inside.phases.items c.args.self.now c.args.phase c.args.i c.index_mut.result.now c.index_mut-place.result.now c.replace.result c.self.view_is c.requires.phase c.requires.place c.index_mut.ensures.value c.index_mut-place.ensures.value c.replace.ensures.value in
    subst Lawful (sym same) (lawful_place c.args.self.now c.args.phase c.args.i (0, c.replace.result) (subst IsLawfulScript c.self.view_is c.self.invariant) c.requires.phase c.requires.place).1

pub returns-clause-left : goal.returns-clause-left
returns-clause-left c = one_taken c.self.inside.phases.items c.args.self.now c.args.phase c.args.i c.index_mut.result.now _ c.index_mut-place.result.now c.replace.new.dest c.replace.result c.self.view_is c.requires.phase c.requires.place c.index_mut.ensures.value c.index_mut-place.ensures.value c.replace.ensures.after refl

pub invariant_of-self : goal.invariant_of-self
invariant_of-self c =
    let left = with_item c.index_mut.result.now c.args.i (c.index_mut-place.result.now.0, c.replace.new.dest) in
    let same = one_taken c.self.inside.phases.items c.args.self.now c.args.phase c.args.i c.index_mut.result.now left c.index_mut-place.result.now c.replace.new.dest c.replace.result c.self.view_is c.requires.phase c.requires.place c.index_mut.ensures.value c.index_mut-place.ensures.value c.replace.ensures.after refl in
    subst IsLawfulScript (sym same) (lawful_left c.args.self.now c.args.phase c.args.i (0, c.replace.result) (subst IsLawfulScript c.self.view_is c.self.invariant) c.requires.phase c.requires.place)
