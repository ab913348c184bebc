use Rattle.std.proofs.Common.{◌≡◌}
use Rattle.std.specs.Prelude.{not, Some, ◌||◌}
use Rattle.std.specs.List.{filter}
use Rattle.std.specs.Ordering.{nat_cmp}
use Rattle.std.specs.Cmp.{nat_cmp_total}
use Rattle.std.specs.FinMap.{empty, nat_cmp-IsAntisymmetric}
use Rattle.h2_maps.specs.Maps.{put_all}
use Rattle.h2_forest.specs.Table.{is_orphan}
use Rattle.h2_forest.specs.Forest.{is_named}
use Rattle.h2_forest.specs.declared.table.Node.{Node}
use Rattle.h2_forest.proofs.table.Table.copy_trimmed.Given as goal

abbrev pub invariant-loop-number : goal.invariant-loop-number
invariant-loop-number l =
    put_all nat_cmp_total nat_cmp-IsAntisymmetric l.copy (filter (λ x. is_named l.handles l.pfs x.0 || not (is_orphan (Some x.1))) l.number-iterator)
    ≡ put_all nat_cmp_total nat_cmp-IsAntisymmetric (empty {X = Node} {R = nat_cmp}) (filter (λ x. is_named l.handles l.pfs x.0 || not (is_orphan (Some x.1))) l.initial.number-iterator)
