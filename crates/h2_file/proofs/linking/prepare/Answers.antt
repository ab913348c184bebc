use Rattle.h2_set.specs.StayLaws.{Readies-unchanged, Unchanged-walks, Walks-trans}
use Rattle.h2_tree.specs.AnswerLaws.{beside_on}
use Rattle.h2_file.proofs.Linked.{walked_readied}
use Rattle.h2_file.proofs.Loaded.{apart_readied, each_on, none_loaded, loaded_on, readied_paths}
use Rattle.h2_set.specs.MetLaws.{MeetsNone-trans}
use Rattle.h2_file.proofs.linking.prepare.Goals as goal

pub returns-in-Ok-clause-prepares : goal.returns-in-Ok-clause-prepares
returns-in-Ok-clause-prepares g c = walked_readied _ _ _ c.in_ok-load_paths.ensures.walks c.ready.ensures.same

pub returns-in-Ok-clause-loaded : goal.returns-in-Ok-clause-loaded
returns-in-Ok-clause-loaded g c =
    let walks = c.in_ok-load_paths.ensures.walks in
    loaded_on _ _ _ _ (readied_paths _ _ c.args.root.0 walks.sound (walks.stays c.args.root.0 c.requires.stands).place.stands c.ready.ensures.same) c.in_ok-load_paths.ensures.loaded

pub returns-in-Ok-clause-touched : goal.returns-in-Ok-clause-touched
returns-in-Ok-clause-touched g c = each_on _ _ _ _ _ (c.in_ok-load_paths.ensures.walks.stays c.args.root.0 c.requires.stands).place.root (λ m st. (c.ready.ensures.same.same m st).place) c.in_ok-load_paths.ensures.touched (none_loaded _ _ _ _ c.ready.ensures.same.none_new)

pub returns-in-Err-clause-touched : goal.returns-in-Err-clause-touched
returns-in-Err-clause-touched g c = each_on _ _ _ _ _ (c.in_ok-load_paths.ensures.walks.stays c.args.root.0 c.requires.stands).place.root (λ m st. (c.ready.ensures.same.same m st).place) c.in_ok-load_paths.ensures.touched (none_loaded _ _ _ _ c.ready.ensures.same.none_new)

pub returns-in-Err-clause-walks : goal.returns-in-Err-clause-walks
returns-in-Err-clause-walks g c = Walks-trans _ _ _ c.in_ok-load_paths.ensures.walks (Unchanged-walks _ _ (Readies-unchanged _ _ c.in-Err.ensures.same c.in-Err.ensures.err))

pub returns-in-Ok-clause-beside : goal.returns-in-Ok-clause-beside
returns-in-Ok-clause-beside g c = beside_on _ _ _ _ _ _ (λ m st. (c.in_ok-load_paths.ensures.walks.stays m st).place.stands) c.in_ok-load_paths.ensures.beside c.ready.ensures.beside

pub returns-in-Err-clause-beside : goal.returns-in-Err-clause-beside
returns-in-Err-clause-beside g c = beside_on _ _ _ _ _ _ (λ m st. (c.in_ok-load_paths.ensures.walks.stays m st).place.stands) c.in_ok-load_paths.ensures.beside c.ready.ensures.beside

pub returns-in-Ok-clause-apart : goal.returns-in-Ok-clause-apart
returns-in-Ok-clause-apart g c = apart_readied _ _ _ c.args.root.0 c.in_ok-load_paths.ensures.apart c.ready.ensures.same

pub returns-in-Err-clause-apart : goal.returns-in-Err-clause-apart
returns-in-Err-clause-apart g c = apart_readied _ _ _ c.args.root.0 c.in_ok-load_paths.ensures.apart c.ready.ensures.same

pub returns-in-Ok-clause-none_met : goal.returns-in-Ok-clause-none_met
returns-in-Ok-clause-none_met g c = MeetsNone-trans _ _ _ c.in_ok-load_paths.ensures.none_met (record { failed = c.ready.ensures.same.failed; bad = c.ready.ensures.same.bad; met = c.ready.ensures.same.met })

pub returns-in-Err-clause-met_only : goal.returns-in-Err-clause-met_only
returns-in-Err-clause-met_only g c = MeetsNone-trans _ _ _ c.in_ok-load_paths.ensures.none_met (record { failed = c.ready.ensures.same.failed; bad = c.ready.ensures.same.bad; met = c.ready.ensures.same.met })
