use Rattle.std.proofs.Common.{ap, sym, ◌∙◌}
use Rattle.std.specs.FinMap as map
use Rattle.h2_maps.specs.Maps.{get-lookup}
use Rattle.h2_forest.specs.HandleLaws.{handles_total, exact_handles}
use Rattle.h2_forest.proofs.handles.Handles.find.Goals as goal

pub returns : goal.returns
returns c = c.copied.ensures ∙ c.get.ensures.value ∙ sym (get-lookup handles_total exact_handles c.self.inside.open.entries (c.args.client, c.args.number)) ∙ ap (λ m. map.get m (c.args.client, c.args.number)) c.self.view_is
