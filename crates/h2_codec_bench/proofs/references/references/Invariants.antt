use Rattle.std.proofs.Common.{All}
use Rattle.h2_ref.specs.Ref.{IsValid}
use Rattle.h2_codec_bench.proofs.references.references.Given as goal

abbrev pub invariant-loop-i : goal.invariant-loop-i
invariant-loop-i l = All IsValid l.refs.items
