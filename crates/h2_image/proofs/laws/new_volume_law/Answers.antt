use Rattle.h2_image.specs.NewVolumeLaws.{new_volume_off_slots}
use Rattle.h2_image.proofs.laws.new_volume_law.Goals as goal

pub returns : goal.returns
returns c = new_volume_off_slots
