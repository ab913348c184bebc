use Rattle.std.proofs.Common.{◌∙◌, ap}
use Rattle.h2_set.specs.RefSet.{RefSet}
use Rattle.h2_tree.proofs.Store.{alters_still, enough_room}
use Rattle.h2_tree.proofs.Parted.{parted, leaf_small, copy_apart, copy_full, copy_aligned, copy_class, made_from, part_space}
use Rattle.h2_tree.specs.AnswerLaws.{beside_on}
use Rattle.h2_tree.proofs.inserting.part.Goals as goal

pub alter-requires-clause-room : goal.alter-requires-clause-room
alter-requires-clause-room g c = enough_room _ _ c.requires.sound c.requires.stands c.requires.room

pub split-split-requires-clause-full : goal.split-split-requires-clause-full
split-split-requires-clause-full g c = copy_full _ _ _ _ c.requires.sound c.requires.stands c.requires.takes c.alter.ensures.alters c.requires.none _ _ c.copy-set.ensures.same c.get.ensures c.requires.full

pub split-split-requires-clause-apart : goal.split-split-requires-clause-apart
split-split-requires-clause-apart g c = copy_apart _ _ _ _ c.requires.sound c.requires.stands c.requires.takes c.alter.ensures.alters c.requires.none _ _ c.copy-set.ensures.same c.get.ensures

pub split-split-requires-clause-small : goal.split-split-requires-clause-small
split-split-requires-clause-small g c = leaf_small _ _ _ _ c.requires.sound c.requires.stands c.requires.takes c.alter.ensures.alters c.requires.none

pub split-split-requires-clause-aligned : goal.split-split-requires-clause-aligned
split-split-requires-clause-aligned g c = copy_aligned _ _ _ _ c.requires.sound c.requires.stands c.requires.takes c.alter.ensures.alters c.requires.none _ _ c.copy-set.ensures.same c.get.ensures

pub split-split-requires-clause-class : goal.split-split-requires-clause-class
split-split-requires-clause-class g c = copy_class _ _ _ _ c.requires.sound c.requires.stands c.requires.takes c.alter.ensures.alters c.requires.none _ _ c.copy-set.ensures.same c.get.ensures

pub make-requires-clause-split : goal.make-requires-clause-split
make-requires-clause-split g c = (c.args.leaf, made_from _ _ _ _ c.requires.sound c.requires.stands c.requires.takes c.alter.ensures.alters c.requires.none _ _ c.copy-set.ensures.same c.get.ensures _ _ c.requires.full c.split-split.ensures.split c.split-split.ensures.moved c.split-split.ensures.kept (ap (λ (t : RefSet). t.capacity) c.split-split.ensures.stays))

pub make-requires-clause-space : goal.make-requires-clause-space
make-requires-clause-space g c = part_space _ _ _ _ _ _ c.requires.sound c.requires.stands c.alter.ensures.alters (make-requires-clause-split g c).1 c.requires.spare c.requires.room

pub returns-clause-inserts : goal.returns-clause-inserts
returns-clause-inserts g c = parted _ _ _ _ _ _ _ _ c.requires.sound c.requires.stands c.requires.takes c.alter.ensures.alters (made_from _ _ _ _ c.requires.sound c.requires.stands c.requires.takes c.alter.ensures.alters c.requires.none _ _ c.copy-set.ensures.same c.get.ensures _ _ c.requires.full c.split-split.ensures.split c.split-split.ensures.moved c.split-split.ensures.kept (ap (λ (t : RefSet). t.capacity) c.split-split.ensures.stays)) c.make.ensures.makes c.requires.none c.requires.room

pub returns-clause-beside : goal.returns-clause-beside
returns-clause-beside g c = beside_on _ _ _ _ _ _ (alters_still _ _ _ c.alter.ensures.alters) c.alter.ensures.beside c.make.ensures.beside

pub returns-clause-none_met : goal.returns-clause-none_met
returns-clause-none_met g c = record { failed = c.make.ensures.makes.failed ∙ c.alter.ensures.alters.failed; bad = c.make.ensures.makes.bad ∙ c.alter.ensures.alters.bad; met = c.make.ensures.makes.met ∙ c.alter.ensures.alters.met }
