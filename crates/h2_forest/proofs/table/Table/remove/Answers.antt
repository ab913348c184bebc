use Rattle.std.proofs.Common.{ap, ◌∙◌}
use Rattle.std.specs.FinMap as map
use Rattle.std.specs.FinMap.{nat_cmp-IsAntisymmetric}
use Rattle.std.specs.Cmp.{nat_cmp_total}
use Rattle.h2_maps.specs.Maps.{one_removed}
use Rattle.h2_forest.proofs.table.Table.remove.Goals as goal

pub returns : goal.returns
returns c = one_removed nat_cmp_total nat_cmp-IsAntisymmetric c.self.inside.nodes.entries c.remove.new.self.entries c.args.number c.remove.ensures.updates.0 ∙ ap (λ m. map.remove m c.args.number) c.self.view_is
