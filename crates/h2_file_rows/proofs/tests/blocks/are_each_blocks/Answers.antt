use Rattle.std.proofs.Common.{arith}
use Rattle.std.proofs.lemmas.Option.{slice_get_within}
use Rattle.h2_file.specs.Linking.{IsBlock}
use Rattle.h2_file_rows.proofs.Blocks.{at_place, one_more}
use Rattle.h2_file_rows.proofs.tests.blocks.are_each_blocks.Goals as goal

pub loop-i-preserved : goal.loop-i-preserved
loop-i-preserved c = one_more IsBlock c.args.refs.now c.loop-i.i _ c.loop-i.invariant (at_place c.args.refs.now c.loop-i.i _ c.loop-i-test.true) (c.is_block.ensures c.if-not-is_block.false)

pub returns : goal.returns
returns c = λ _ j r read. c.loop-i.invariant j r (let lt = slice_get_within _ j r read in let past = c.loop-i-test.false in omega (arith, lt, past)) read
