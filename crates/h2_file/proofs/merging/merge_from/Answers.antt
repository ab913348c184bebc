use Rattle.std.proofs.Common.{◌+◌, ◌-◌, arith}
use Rattle.h2_file.proofs.Merged.{part_laid}
use Rattle.h2_file.proofs.merging.merge_from.Goals as goal

pub returns-clause-laid : goal.returns-clause-laid
returns-clause-laid c = part_laid c.args.bytes.now c.args.block.now c.put_bytes.new.b c.args.from c.min-count.result (c.args.from + c.min-count.result - c.args.from) (omega arith) (omega arith) c.min-count.ensures (omega arith) c.put_bytes.ensures
