use Rattle.h2_num.specs.Places.{places}
use Rattle.h2_freeleaf.proofs.Blocks.{map_valid}
use Rattle.h2_freeleaf.proofs.planning.add_block.Goals as goal

pub returns-clause-valid : goal.returns-clause-valid
returns-clause-valid c = map_valid c.args.level c.args.number c.args.zone (places c.args.block.now) (λ k. c.fits-block k) c.requires.level c.requires.zone c.requires.number.0 c.requires.number.1
