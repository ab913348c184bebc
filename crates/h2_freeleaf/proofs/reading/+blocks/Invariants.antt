use Rattle.std.proofs.Common.{◌≡◌, ◌≤◌, ◌+◌, ◌*◌}
use Rattle.std.specs.Prelude.{IsTrue}
use Rattle.h2_disk.specs.Disk.{Keeps}
use Rattle.h2_header.specs.Map.{zones_under}
use Rattle.h2_freeleaf.specs.Reading.{FillsTo, KeepsSegments}
use Rattle.h2_freeleaf.proofs.Filling.{LeadBelow}
use Rattle.h2_freeleaf.proofs.reading.+blocks.Given as goal

abbrev pub decreases-read_under : goal.decreases-read_under
decreases-read_under g l = 2 * l.level

abbrev pub decreases-read_eight : goal.decreases-read_eight
decreases-read_eight g l = 2 * l.level + 1

abbrev pub invariant-read_eight-loop-i : goal.invariant-read_eight-loop-i
invariant-read_eight-loop-i g l = record {
  keeps : IsTrue g.D.Disk.tells → Keeps (g.D.Disk.image l.fn.disk) (g.D.Disk.image l.disk) (g.D.Disk.trace l.fn.disk) (g.D.Disk.trace l.disk);
  time : g.D.Disk.moment l.disk ≡ g.D.Disk.moment l.fn.disk;
  later : g.D.Disk.faults l.fn.disk ≤ g.D.Disk.faults l.disk;
  leads : IsTrue g.D.Disk.tells → LeadBelow l.i (g.D.Disk.image l.fn.disk) l.h.zones l.h.map_number l.segments.items l.level l.zone l.refs;
  kept : KeepsSegments l.fn.segments.items l.segments.items;
  count : FillsTo l.h.zones (l.zone + zones_under l.level * l.i) l.segments.items;
}
