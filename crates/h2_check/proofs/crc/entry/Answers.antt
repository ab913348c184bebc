use Rattle.std.proofs.Common.{arith}
use Rattle.h2_check.proofs.TableLemmas.{TABLE-at}
use Rattle.h2_check.proofs.crc.entry.Goals as goal

pub returns : goal.returns
returns c = TABLE-at c.args.row c.args.byte c.requires (omega arith)
