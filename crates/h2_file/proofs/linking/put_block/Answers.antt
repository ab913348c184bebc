use Rattle.h2_file.proofs.Linked.{block_takes}
use Rattle.h2_file.proofs.linking.put_block.Goals as goal

pub insert-requires-clause-takes : goal.insert-requires-clause-takes
insert-requires-clause-takes g c = block_takes _ _ _ c.requires.sound c.requires.root c.requires.contents c.requires.block

pub returns-clause-puts : goal.returns-clause-puts
returns-clause-puts g c = record { old = _; inserts = c.in-Ok.ensures.ok; path = c.in-Ok.ensures.path; paths = c.in-Ok.ensures.paths }
