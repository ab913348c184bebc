use Rattle.h2_file.proofs.Fronts.{fits_h, storable_made, keeps_made}
use Rattle.std.proofs.Common.{◌∙◌}
use Rattle.h2_file.proofs.cutting.keep_front.Goals as goal

pub front-set-requires : goal.front-set-requires
front-set-requires g c = rw c.get.ensures (fits_h _ _ _ _ _ c.requires.sound c.requires.stands c.alter.ensures.alters c.requires.contents c.requires.last)

pub store-requires-clause-storable : goal.store-requires-clause-storable
store-requires-clause-storable g c = storable_made _ _ _ _ _ c.requires.sound c.requires.stands c.alter.ensures.alters c.requires.contents c.requires.last _ _ c.get.ensures c.front-set.ensures c.requires.some

pub returns-clause-kept : goal.returns-clause-kept
returns-clause-kept g c = keeps_made _ _ _ _ _ c.requires.sound c.requires.stands c.alter.ensures.alters c.requires.contents c.requires.last _ _ c.get.ensures c.front-set.ensures _ c.store.ensures.stores

pub returns-clause-none_met : goal.returns-clause-none_met
returns-clause-none_met g c = record { failed = c.store.ensures.stores.failed ∙ c.alter.ensures.alters.failed; bad = c.store.ensures.stores.bad ∙ c.alter.ensures.alters.bad; met = c.store.ensures.stores.met ∙ c.alter.ensures.alters.met }
