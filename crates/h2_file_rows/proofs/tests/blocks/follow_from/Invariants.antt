use Rattle.std.proofs.Common.{length}
use Rattle.h2_file.specs.Linking.{FollowFrom}
use Rattle.h2_file_rows.proofs.tests.blocks.follow_from.Given as goal

abbrev pub invariant-loop-r : goal.invariant-loop-r
invariant-loop-r l = FollowFrom l.key l.rest → FollowFrom l.fn.first l.fn.refs

abbrev pub decreases-loop-r : goal.decreases-loop-r
decreases-loop-r l = length l.rest
