use Rattle.std.proofs.Common.{◌≡◌, ◌++◌, map}
use Rattle.h2_cmd.specs.Planning.{piece_of}
use Rattle.h2_cmd.proofs.planning.add_writes.Given as goal

abbrev pub invariant-loop-write : goal.invariant-loop-write
invariant-loop-write l = l.pieces.items ≡ l.fn.pieces.items ++ map piece_of l.yielded
