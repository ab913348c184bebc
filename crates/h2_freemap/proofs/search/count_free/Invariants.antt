use Rattle.std.proofs.Common.{◌≡◌, ◌*◌}
use Rattle.std.specs.List.{AllWithin}
use Rattle.h2_codes.specs.Codes.{IsSegment}
use Rattle.h2_freemap.specs.Space.{code_in}
use Rattle.h2_codes.specs.Free.{free_below}
use Rattle.h2_freemap.proofs.search.count_free.Given as goal

abbrev pub invariant-loop-segment : goal.invariant-loop-segment
invariant-loop-segment l = record { count : l.free ≡ free_below (code_in l.segments) (256 * l.segment-index); segments : AllWithin IsSegment l.segments 0 l.segment-index }
