use Rattle.std.proofs.Common.{◌≡◌, ap, sym, ◌∙◌}
use Rattle.std.specs.FinMap as map
use Rattle.std.specs.FinMap.{nat_cmp-IsAntisymmetric}
use Rattle.std.specs.Cmp.{nat_cmp_total}
use Rattle.h2_maps.specs.Maps.{get-lookup, one_inserted, none_here}
use Rattle.h2_contents.proofs.pages.Pages.replace.Goals as goal

pub unreachable-requires : goal.unreachable-requires
unreachable-requires c = none_here _ (ap (λ m. map.get m c.args.number) (sym c.self.view_is) ∙ get-lookup nat_cmp_total nat_cmp-IsAntisymmetric c.self.inside.pages.entries c.args.number ∙ c.in_default.ensures.absent) c.requires

pub returns : goal.returns
returns c = one_inserted nat_cmp_total nat_cmp-IsAntisymmetric c.self.inside.pages.entries c.insert.new.self.entries c.args.number c.args.page c.in-Ok.ensures.updates.0 ∙ ap (λ m. map.insert m c.args.number c.args.page) c.self.view_is
