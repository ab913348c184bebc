use Rattle.std.proofs.Common.{ap, ◌∙◌}
use Rattle.std.specs.FinMap as map
use Rattle.h2_maps.specs.Maps.{one_removed}
use Rattle.h2_forest.specs.HandleLaws.{handles_total, exact_handles}
use Rattle.h2_forest.proofs.handles.Handles.remove.Goals as goal

pub returns : goal.returns
returns c = one_removed handles_total exact_handles c.self.inside.open.entries c.remove.new.self.entries (c.args.client, c.args.number) c.remove.ensures.updates.0 ∙ ap (λ m. map.remove m (c.args.client, c.args.number)) c.self.view_is
