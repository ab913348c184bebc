use Rattle.std.proofs.Common.{All}
use Rattle.h2_inode.specs.Inode.{IsInode}
use Rattle.h2_codec_bench.proofs.inodes.inodes.Given as goal

abbrev pub invariant-loop-b : goal.invariant-loop-b
invariant-loop-b l = All IsInode l.inodes.items
