use Rattle.h2_image.specs.VolumeLaws.{volume_lawful}
use Rattle.h2_image.proofs.laws.format_law.Goals as goal

pub returns : goal.returns
returns c = volume_lawful
