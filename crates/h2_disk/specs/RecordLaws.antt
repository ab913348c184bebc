-- Laws of the record of a disk in memory.
use Rattle.std.specs.Prelude.{◌≡◌, ◌≤◌, ℕ, List, [], ◌∷◌, reverse, refl}
use Rattle.std.proofs.Common.{ap, sym, ◌∙◌}
use Rattle.h2_disk.specs.Laid.{laid}
use Rattle.h2_disk.specs.Trace.{latest, LeftAt}
use Rattle.h2_disk.specs.TraceLaws.{up_to-all}
use Rattle.h2_disk.specs.Cut.{newest}
use Rattle.h2_disk.specs.CutLaws.{cut_left}
use Rattle.h2_disk.specs.declared.choice.Choice.TheVariants.{New}
use Rattle.h2_disk.specs.Record.{image_after, image_of, trace_after, trace_of}
use Rattle.h2_disk.specs.declared.entry.Entry.{Entry}
use Rattle.h2_disk.specs.declared.entry.Entry.TheVariants.{Laid, Write, Sync}

-- all writes of a record were done
pub newest-after : (entries : List Entry) → newest (trace_after entries) ≡ image_after entries
newest-after [] = refl
newest-after (Laid at bytes ∷ older) = refl
newest-after (Write began at bytes ∷ older) = ap (laid at bytes) (newest-after older)
newest-after (Sync done ∷ older) = refl

-- what a disk in memory reads is the newest image of its trace
pub newest-of : (entries : List Entry) → newest (trace_of entries) ≡ image_of entries
newest-of entries = newest-after (reverse entries)

-- what a disk in memory reads is among what a cut after all of it may leave
pub record_left : (entries : List Entry) (moment : ℕ) → latest (trace_of entries) ≤ moment → LeftAt (trace_of entries) moment (image_of entries)
record_left entries moment past k unwritten =
    let same = ap newest (up_to-all (trace_of entries) moment past) ∙ newest-of entries in
    ap (λ image. image k) (sym same) ∙ cut_left New (trace_of entries) moment k unwritten
