use Rattle.std.proofs.Common.{◌≡◌, ℕ}
use Rattle.std.specs.Ordering.{nat_cmp}
use Rattle.std.specs.Cmp.Lexicographic.{slice_cmp, nat_list_cmp_total}
use Rattle.std.specs.FinMap.{from_entries, empty, slice_cmp-IsAntisymmetric, nat_cmp-IsAntisymmetric}
use Rattle.h2_maps.specs.Maps.{put_all}
use Rattle.h2_forest.proofs.directory.Directory.copy.Given as goal

abbrev pub invariant-loop-name : goal.invariant-loop-name
invariant-loop-name l =
    put_all nat_list_cmp_total (slice_cmp-IsAntisymmetric nat_cmp-IsAntisymmetric) (from_entries {R = slice_cmp nat_cmp} l.entries.entries) l.name-iterator
    ≡ put_all nat_list_cmp_total (slice_cmp-IsAntisymmetric nat_cmp-IsAntisymmetric) (empty {X = ℕ} {R = slice_cmp nat_cmp}) l.initial.name-iterator
