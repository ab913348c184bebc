use Rattle.std.proofs.Common.{◌∙◌, arith}
use Rattle.h2_tree.proofs.Removal.{cut_within, storable_copy, removes_copy}
use Rattle.h2_tree.proofs.Store.{alters_still}
use Rattle.h2_tree.specs.AnswerLaws.{beside_on}
use Rattle.h2_tree.proofs.removing.cut_at.Goals as goal

pub alter-requires-clause-room : goal.alter-requires-clause-room
alter-requires-clause-room g c = omega (arith, c.requires.room.0, c.requires.room.1)

pub cut-requires : goal.cut-requires
cut-requires g c = cut_within _ _ _ c.args.i c.requires.only.0 c.requires.sound c.requires.stands c.alter.ensures.alters c.requires.only.1 c.requires.only.2 _ _ c.copy-set.ensures.same c.get.ensures

pub store-requires-clause-storable : goal.store-requires-clause-storable
store-requires-clause-storable g c = storable_copy _ _ _ c.args.i c.requires.only.0 c.requires.sound c.requires.stands c.alter.ensures.alters c.requires.only.1 c.requires.only.2 _ _ _ c.copy-set.ensures.same c.get.ensures c.cut.ensures.new c.requires.more

pub returns-clause-removes : goal.returns-clause-removes
returns-clause-removes g c = λ leaf only free. removes_copy _ _ _ c.args.i leaf c.requires.sound c.requires.stands c.alter.ensures.alters only free _ _ _ c.copy-set.ensures.same c.get.ensures c.cut.ensures.new _ c.store.ensures.stores c.requires.more c.requires.room.1 c.requires.room.0

pub returns-clause-beside : goal.returns-clause-beside
returns-clause-beside g c = beside_on _ _ _ _ _ _ (alters_still _ _ _ c.alter.ensures.alters) c.alter.ensures.beside c.store.ensures.beside

pub returns-clause-none_met : goal.returns-clause-none_met
returns-clause-none_met g c = record { failed = c.store.ensures.stores.failed ∙ c.alter.ensures.alters.failed; bad = c.store.ensures.stores.bad ∙ c.alter.ensures.alters.bad; met = c.store.ensures.stores.met ∙ c.alter.ensures.alters.met }
