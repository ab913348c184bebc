use Rattle.std.proofs.Common.{◌≤◌, length, take}
use Rattle.std.specs.Io.KnownBytes.{Appends}
use Rattle.h2_disk.proofs.file.transfer.put.Given as goal

abbrev pub invariant-loop : goal.invariant-loop
invariant-loop g l = record {
  within : l.done ≤ length l.bytes;
  written : Appends (g.F.Write.contents l.initial.writer) (g.F.Write.contents l.writer) (take l.done l.bytes);
}
