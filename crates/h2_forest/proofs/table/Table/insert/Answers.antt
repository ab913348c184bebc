use Rattle.std.proofs.Common.{ap, ◌∙◌}
use Rattle.std.specs.FinMap as map
use Rattle.std.specs.FinMap.{nat_cmp-IsAntisymmetric}
use Rattle.std.specs.Cmp.{nat_cmp_total}
use Rattle.h2_maps.specs.Maps.{one_inserted}
use Rattle.h2_forest.proofs.table.Table.insert.Goals as goal

pub returns-clause-ok : goal.returns-clause-ok
returns-clause-ok c = one_inserted nat_cmp_total nat_cmp-IsAntisymmetric c.self.inside.nodes.entries c.insert.new.self.entries c.args.number c.args.node c.in_ok-insert.ensures.updates.0 ∙ ap (λ m. map.insert m c.args.number c.args.node) c.self.view_is
