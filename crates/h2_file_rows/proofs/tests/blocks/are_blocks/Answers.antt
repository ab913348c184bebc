use Rattle.h2_file_rows.proofs.tests.blocks.are_blocks.Goals as goal

pub returns : goal.returns
returns c = λ ok. record { each = c.are_each_blocks.ensures c.if-not-are_each_blocks.false; run = c.is_run.ensures ok }
