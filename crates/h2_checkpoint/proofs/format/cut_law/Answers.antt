use Rattle.h2_checkpoint.proofs.Cuts.{cut_law}
use Rattle.h2_checkpoint.proofs.format.cut_law.Goals as goal

pub returns : goal.returns
returns g c = record { law = cut_law g.V.VolumeFormat.format }
