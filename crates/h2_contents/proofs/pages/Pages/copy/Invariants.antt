use Rattle.std.proofs.Common.{◌≡◌, ℕ, List}
use Rattle.std.specs.Ordering.{nat_cmp}
use Rattle.std.specs.Cmp.{nat_cmp_total}
use Rattle.std.specs.FinMap.{from_entries, empty, nat_cmp-IsAntisymmetric}
use Rattle.h2_maps.specs.Maps.{put_all}
use Rattle.h2_contents.proofs.pages.Pages.copy.Given as goal

abbrev pub invariant-loop-number : goal.invariant-loop-number
invariant-loop-number l =
    put_all nat_cmp_total nat_cmp-IsAntisymmetric (from_entries {R = nat_cmp} l.pages.entries) l.number-iterator
    ≡ put_all nat_cmp_total nat_cmp-IsAntisymmetric (empty {X = List ℕ} {R = nat_cmp}) l.initial.number-iterator
