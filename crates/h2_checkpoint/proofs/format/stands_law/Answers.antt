use Rattle.std.proofs.Common.{[], refl}
use Rattle.h2_checkpoint.proofs.Calls.{stands_opened, read_on, put_on, freeze_on}
use Rattle.h2_checkpoint.proofs.View.{newest_now, view_now}
use Rattle.h2_checkpoint.proofs.format.stands_law.Goals as goal

pub returns : goal.returns
returns g c = record {
  opens = λ laws opening x o. stands_opened g.V.VolumeFormat.format laws x.moment opening x.trace [] x o refl;
  reads = λ laws start opening before old new newest flush marks le keeps s. read_on g.V.VolumeFormat.format laws start opening before marks old new newest flush le keeps s;
  writes = λ laws start opening before old new newest flush marks at bytes le off tried s. put_on g.V.VolumeFormat.format laws start opening before marks old new at bytes newest flush le off tried s;
  freezes = λ laws start opening before x newest f marks plan others s. freeze_on g.V.VolumeFormat.format laws start opening before marks x newest f plan others s;
  newest = λ laws start opening before x checkpoint flush marks s. newest_now g.V.VolumeFormat.format laws _ x.image checkpoint flush s.survives.present.kept;
  queued = λ laws start opening before x newest f p stage marks s. view_now g.V.VolumeFormat.format laws _ x.image newest f p stage s.survives.present.kept;
}
