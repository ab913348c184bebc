use Rattle.std.proofs.Common.{◌≤◌, length, take}
use Rattle.std.specs.Io.KnownBytes.{Consumes}
use Rattle.h2_disk.proofs.file.transfer.fill.Given as goal

abbrev pub invariant-loop : goal.invariant-loop
invariant-loop g l = record {
  within : l.done ≤ length l.buf;
  given : Consumes (g.F.Read.remaining l.initial.reader) (g.F.Read.remaining l.reader) (take l.done l.buf);
}
