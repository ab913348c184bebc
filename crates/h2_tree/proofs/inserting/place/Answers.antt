use Rattle.std.proofs.Common.{◌∙◌, arith, refl}
use Rattle.h2_tree.proofs.Store.{storable, inserts, alters_still, enough_room}
use Rattle.h2_tree.proofs.Edit.{apart_altered, room_altered, put_copy, places}
use Rattle.h2_tree.proofs.Parted.{leaf_small}
use Rattle.h2_tree.specs.AnswerLaws.{beside_on}
use Rattle.h2_tree.proofs.inserting.place.Goals as goal

pub alter-requires-clause-room : goal.alter-requires-clause-room
alter-requires-clause-room g c = enough_room _ _ c.requires.sound c.requires.stands c.requires.room

pub put-requires-clause-apart : goal.put-requires-clause-apart
put-requires-clause-apart g c = rw (c.copy-set.ensures.same, c.get.ensures) (apart_altered _ _ _ _ c.requires.sound c.requires.stands c.requires.takes c.alter.ensures.alters c.requires.none)

pub put-requires-clause-small : goal.put-requires-clause-small
put-requires-clause-small g c = leaf_small _ _ _ _ c.requires.sound c.requires.stands c.requires.takes c.alter.ensures.alters c.requires.none

pub store-requires-clause-storable : goal.store-requires-clause-storable
store-requires-clause-storable g c = storable _ _ _ _ _ c.requires.sound c.requires.stands c.requires.takes c.alter.ensures.alters (put_copy _ _ _ _ c.requires.sound c.requires.stands c.requires.takes c.alter.ensures.alters c.requires.none c.requires.space _ _ _ c.copy-set.ensures.same c.get.ensures (c.in-Placed.ensures.placed refl))

pub unreachable-requires : goal.unreachable-requires
unreachable-requires g c =
    let room = room_altered _ _ _ _ c.requires.sound c.requires.stands c.requires.takes c.alter.ensures.alters c.requires.space in
    let full = rw (c.copy-set.ensures.same, c.get.ensures) at (c.in-Full.ensures.answer.0 refl) in
    omega (arith, room, full)

pub returns-clause-inserts : goal.returns-clause-inserts
returns-clause-inserts g c = inserts _ _ _ _ _ c.requires.sound c.requires.stands c.requires.takes c.alter.ensures.alters (put_copy _ _ _ _ c.requires.sound c.requires.stands c.requires.takes c.alter.ensures.alters c.requires.none c.requires.space _ _ _ c.copy-set.ensures.same c.get.ensures (c.in-Placed.ensures.placed refl)) _ _ (places _ _ _ _ c.requires.sound c.requires.stands c.requires.takes c.alter.ensures.alters _ c.requires.none c.requires.space _ _ _ c.copy-set.ensures.same c.get.ensures (c.in-Placed.ensures.placed refl) c.store.ensures.stores) c.requires.room c.store.ensures.stores

pub returns-clause-beside : goal.returns-clause-beside
returns-clause-beside g c = beside_on _ _ _ _ _ _ (alters_still _ _ _ c.alter.ensures.alters) c.alter.ensures.beside c.store.ensures.beside

pub returns-clause-none_met : goal.returns-clause-none_met
returns-clause-none_met g c = record { failed = c.store.ensures.stores.failed ∙ c.alter.ensures.alters.failed; bad = c.store.ensures.stores.bad ∙ c.alter.ensures.alters.bad; met = c.store.ensures.stores.met ∙ c.alter.ensures.alters.met }
