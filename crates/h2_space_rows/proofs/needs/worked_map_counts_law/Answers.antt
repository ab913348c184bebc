use Rattle.std.proofs.Common.{refl}
use Rattle.h2_space_rows.proofs.needs.worked_map_counts_law.Goals as goal

pub returns : goal.returns
returns c = record { least = refl; leaves = refl; two_nodes = refl; nodes = refl; two_levels = refl; most = refl }
