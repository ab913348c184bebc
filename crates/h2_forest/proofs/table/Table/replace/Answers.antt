use Rattle.std.proofs.Common.{ap, sym, ◌∙◌, subst}
use Rattle.std.specs.Prelude.{IsSome}
use Rattle.std.specs.FinMap as map
use Rattle.std.specs.FinMap.{nat_cmp-IsAntisymmetric}
use Rattle.std.specs.Cmp.{nat_cmp_total}
use Rattle.h2_maps.specs.Maps.{get-lookup, one_inserted}
use Rattle.h2_forest.specs.TableLaws.{none_here}
use Rattle.h2_forest.proofs.table.Table.replace.Goals as goal

pub unreachable-requires : goal.unreachable-requires
unreachable-requires c = none_here _ (ap (λ m. map.get m c.args.number) (sym c.self.view_is) ∙ get-lookup nat_cmp_total nat_cmp-IsAntisymmetric c.self.inside.nodes.entries c.args.number ∙ c.in-Err.ensures.absent) c.requires

pub unwrap-requires : goal.unwrap-requires
unwrap-requires c = subst IsSome (ap (λ m. map.get m c.args.number) (sym c.self.view_is) ∙ get-lookup nat_cmp_total nat_cmp-IsAntisymmetric c.self.inside.nodes.entries c.args.number ∙ sym c.in-Ok.ensures.old) c.requires

pub returns-clause-before : goal.returns-clause-before
returns-clause-before c = ap (λ m. map.get m c.args.number) (sym c.self.view_is) ∙ get-lookup nat_cmp_total nat_cmp-IsAntisymmetric c.self.inside.nodes.entries c.args.number ∙ sym c.in-Ok.ensures.old ∙ c.unwrap.ensures

pub returns-clause-after : goal.returns-clause-after
returns-clause-after c = one_inserted nat_cmp_total nat_cmp-IsAntisymmetric c.self.inside.nodes.entries c.insert.new.self.entries c.args.number c.args.node c.in-Ok.ensures.updates.0 ∙ ap (λ m. map.insert m c.args.number c.args.node) c.self.view_is
