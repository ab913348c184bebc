use Rattle.std.proofs.Common.{◌-◌}
use Rattle.h2_contents.proofs.writing.+write_from.Given as goal

abbrev pub decreases-write_from : goal.decreases-write_from
decreases-write_from l = l.last - l.number
