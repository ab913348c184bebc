use Rattle.std.proofs.Common.{ap, sym, ◌∙◌}
use Rattle.std.specs.FinMap as map
use Rattle.std.specs.FinMap.{nat_cmp-IsAntisymmetric}
use Rattle.std.specs.Cmp.{nat_cmp_total}
use Rattle.h2_maps.specs.Maps.{get-lookup}
use Rattle.h2_forest.proofs.table.Table.node.Goals as goal

pub returns : goal.returns
returns c = c.get.ensures.value ∙ sym (get-lookup nat_cmp_total nat_cmp-IsAntisymmetric c.self.inside.nodes.entries c.args.number) ∙ ap (λ m. map.get m c.args.number) c.self.view_is
