use Rattle.std.proofs.Common.{◌∙◌, arith, refl}
use Rattle.h2_set.specs.RenewLaws.{Alike-length}
use Rattle.h2_tree.proofs.Store.{storable, inserts, alters_still, enough_room}
use Rattle.h2_tree.proofs.Edit.{same_altered, old_copy, swap_copy, replaces}
use Rattle.h2_tree.specs.AnswerLaws.{beside_on}
use Rattle.h2_tree.proofs.inserting.replace.Goals as goal

pub alter-requires-clause-room : goal.alter-requires-clause-room
alter-requires-clause-room g c = enough_room _ _ c.requires.sound c.requires.stands c.requires.room

pub swap-old-requires-clause-within : goal.swap-old-requires-clause-within
swap-old-requires-clause-within g c =
    let kept = c.alter.ensures.alters.tree c.args.at.0 c.requires.stands refl in
    rw (c.copy-set.ensures.same, c.get.ensures) (omega (arith, c.requires.there, Alike-length _ _ kept.alike))

pub swap-old-requires-clause-same : goal.swap-old-requires-clause-same
swap-old-requires-clause-same g c = λ q read.
    let facts = same_altered _ _ _ _ c.requires.sound c.requires.stands c.requires.takes c.alter.ensures.alters c.args.i c.requires.same q (rw (c.copy-set.ensures.same, c.get.ensures) at read) in
    (facts.1, facts.2)

pub store-requires-clause-storable : goal.store-requires-clause-storable
store-requires-clause-storable g c = storable _ _ _ _ _ c.requires.sound c.requires.stands c.requires.takes c.alter.ensures.alters (swap_copy _ _ _ _ c.requires.sound c.requires.stands c.requires.takes c.alter.ensures.alters c.args.i c.swap-old.result c.requires.same _ _ _ c.copy-set.ensures.same c.get.ensures c.swap-old.ensures.new c.swap-old.ensures.old)

pub returns-clause-inserts : goal.returns-clause-inserts
returns-clause-inserts g c = inserts _ _ _ _ _ c.requires.sound c.requires.stands c.requires.takes c.alter.ensures.alters (swap_copy _ _ _ _ c.requires.sound c.requires.stands c.requires.takes c.alter.ensures.alters c.args.i c.swap-old.result c.requires.same _ _ _ c.copy-set.ensures.same c.get.ensures c.swap-old.ensures.new c.swap-old.ensures.old) _ _ (replaces _ _ _ _ c.requires.sound c.requires.stands c.requires.takes c.alter.ensures.alters _ c.args.i c.swap-old.result c.requires.same _ _ _ c.copy-set.ensures.same c.get.ensures c.swap-old.ensures.new c.swap-old.ensures.old c.store.ensures.stores) c.requires.room c.store.ensures.stores

pub returns-clause-old : goal.returns-clause-old
returns-clause-old g c = old_copy _ _ _ _ c.requires.sound c.requires.stands c.requires.takes c.alter.ensures.alters c.args.i c.swap-old.result c.requires.same _ _ c.copy-set.ensures.same c.get.ensures c.swap-old.ensures.old

pub returns-clause-beside : goal.returns-clause-beside
returns-clause-beside g c = beside_on _ _ _ _ _ _ (alters_still _ _ _ c.alter.ensures.alters) c.alter.ensures.beside c.store.ensures.beside

pub returns-clause-none_met : goal.returns-clause-none_met
returns-clause-none_met g c = record { failed = c.store.ensures.stores.failed ∙ c.alter.ensures.alters.failed; bad = c.store.ensures.stores.bad ∙ c.alter.ensures.alters.bad; met = c.store.ensures.stores.met ∙ c.alter.ensures.alters.met }
