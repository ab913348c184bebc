use Rattle.std.proofs.Common.{ap, ◌∙◌}
use Rattle.std.specs.FinMap as map
use Rattle.h2_maps.specs.Maps.{one_inserted}
use Rattle.h2_forest.specs.HandleLaws.{handles_total, exact_handles}
use Rattle.h2_forest.proofs.handles.Handles.insert.Goals as goal

pub returns-clause-ok : goal.returns-clause-ok
returns-clause-ok c = one_inserted handles_total exact_handles c.self.inside.open.entries c.insert.new.self.entries (c.args.client, c.args.number) (c.args.pfs, c.args.inode) c.in_ok-insert.ensures.updates.0 ∙ ap (λ m. map.insert m (c.args.client, c.args.number) (c.args.pfs, c.args.inode)) c.self.view_is
