-- What a flush writes lies on the disk.
use Rattle.std.specs.Prelude.{◌≤◌, ◌+◌, ◌^◌, length, All}
use Rattle.h2_checkpoint.specs.declared.flushing.Flushing.{Flushing}

-- its pieces and its header lie below the disk's end
pub record FitsDisk (flush : Flushing) : Type 0 where
  pub pieces : All (λ piece. piece.at + length piece.bytes ≤ 2 ^ 34) flush.pieces.items
  pub header : flush.place + length flush.header ≤ 2 ^ 34
