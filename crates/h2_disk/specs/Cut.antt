-- What a power cut leaves of a disk in memory, by a choice.
use Rattle.std.specs.Prelude.{ℕ, take}
use Rattle.h2_num.specs.Places.{Places}
use Rattle.h2_disk.specs.Laid.{laid}
use Rattle.h2_disk.specs.Trace.{Trace, Opened, Wrote, Synced, durable}
use Rattle.h2_disk.specs.declared.choice.Choice.{Choice}
use Rattle.h2_disk.specs.declared.choice.Choice.TheVariants.{Old, New, Torn}

-- the image after all of a trace whose writes were all done
abbrev pub newest : Trace → Places
newest (Opened image) = image
newest (Wrote began at bytes t) = laid at bytes (newest t)
newest (Synced done image t) = image

-- the image after all of it, but that of the last write, if no sync came after it, only the first k bytes were kept
abbrev pub torn : ℕ → Trace → Places
torn k (Opened image) = image
torn k (Wrote began at bytes t) = laid at (take k bytes) (newest t)
torn k (Synced done image t) = image

-- the image that a cut after all of it leaves
abbrev pub image_cut : Choice → Trace → Places
image_cut Old t = durable t
image_cut New t = newest t
image_cut (Torn k) t = torn k t
