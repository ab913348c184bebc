use Rattle.std.proofs.Common.{◌≡◌, List, length}
use Rattle.h2_script.specs.declared.line.Line.{Line}
use Rattle.h2_script.specs.Scripts.{AreLines}
use Rattle.h2_script.specs.Reading.{IsReadSoFar}
use Rattle.h2_script.proofs.FirstFaults.{texts}
use Rattle.h2_script.proofs.parsing.read_lines.Given as goal

abbrev pub invariant-loop-line : goal.invariant-loop-line
invariant-loop-line l = (l.number ≡ length l.yielded) × (before : List Line) × IsReadSoFar before l.reading × AreLines (texts l.yielded) before
