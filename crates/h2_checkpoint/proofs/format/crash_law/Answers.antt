use Rattle.h2_checkpoint.proofs.Runs.{crash_law}
use Rattle.h2_checkpoint.proofs.format.crash_law.Goals as goal

pub returns : goal.returns
returns g c = record { law = crash_law g.V.VolumeFormat.format }
