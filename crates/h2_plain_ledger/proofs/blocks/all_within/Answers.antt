use Rattle.std.proofs.Common.{◌⊎◌, refl, sym, ◌∙◌, arith}
use Rattle.std.specs.List.{Contains}
use Rattle.h2_num.specs.declared.block.Block.{Block}
use Rattle.h2_plain_ledger.proofs.Members.{one_more_member}
use Rattle.h2_plain_ledger.proofs.blocks.all_within.Goals as goal

pub returns-then-not-is_in_either : goal.returns-then-not-is_in_either
returns-then-not-is_in_either c = (λ t. absurd (cc), λ all. sym c.if-not-is_in_either.true ∙ c.is_in_either.ensures.1 (all c.loop-block.block-index _ c.loop-block-test.true))

pub loop-block-preserved : goal.loop-block-preserved
loop-block-preserved c =
    one_more_member (λ (b : Block). Contains c.args.first.now b ⊎ Contains c.args.second.now b) c.args.blocks.now c.loop-block.block-index _ c.loop-block-test.true
    (c.is_in_either.ensures.0 c.if-not-is_in_either.false) c.loop-block.invariant

pub returns : goal.returns
returns c = (λ t k d lt. c.loop-block.invariant k d (omega arith), λ all. refl)
