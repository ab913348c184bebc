use Rattle.std.proofs.Common.{◌≡◌, ◌≤◌, length}
use Rattle.std.specs.Prelude.{IsTrue}
use Rattle.h2_cmd.proofs.Slots.{HasRead}
use Rattle.h2_cmd.proofs.formatting.read_slots.Given as goal

abbrev pub invariant-loop-slot : goal.invariant-loop-slot
invariant-loop-slot g l = record {
  size : length l.headers ≡ 4;
  read : IsTrue g.D.Disk.tells → HasRead l.slot (g.D.Disk.image l.fn.disk) (g.D.Disk.image l.disk) (g.D.Disk.trace l.fn.disk) (g.D.Disk.trace l.disk) l.headers;
  time : g.D.Disk.moment l.disk ≡ g.D.Disk.moment l.fn.disk;
  later : g.D.Disk.faults l.fn.disk ≤ g.D.Disk.faults l.disk;
  wants : g.D.Disk.wants l.disk ≡ g.D.Disk.wants l.fn.disk;
}
