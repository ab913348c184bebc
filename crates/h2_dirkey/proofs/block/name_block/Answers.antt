use Rattle.h2_num.specs.Places.{places}
use Rattle.h2_dirkey.proofs.BlockLemmas.{laid}
use Rattle.h2_dirkey.proofs.block.name_block.Goals as goal

pub returns : goal.returns
returns c = laid c.args.name.now (places c.put_bytes.new.b) c.requires.long c.requires.few c.put_bytes.ensures
