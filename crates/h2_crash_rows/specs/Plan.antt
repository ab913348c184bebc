-- The plan of the volume of the small format, by which the premises of making one are tried.
use Rattle.std.specs.Prelude.{ℕ, List, [], ◌∷◌, replicate}
use Rattle.h2_checkpoint.specs.declared.piece.Piece.{Piece}
use Rattle.h2_checkpoint.specs.Queue.{entry_of}
use Rattle.h2_checkpoint.specs.Checkpoint.{Frozen}
use Rattle.h2_checkpoint.specs.Toy.{toy}
use Rattle.h2_crash_rows.specs.Mounts.{made}

-- the bytes of header 1: its number, and zeros
abbrev pub header_written : List ℕ
header_written = 1 ∷ replicate 65535 0

-- the one block, with its byte
abbrev pub piece_written : Piece
piece_written = record { at = 65536; bytes = 7 ∷ [] }

-- all that is written before the header
abbrev pub pieces_written : List Piece
pieces_written = piece_written ∷ []

-- the flush that makes the volume
abbrev pub frozen : Frozen toy
frozen = record { checkpoint = made; bytes = header_written; queue = entry_of piece_written ∷ [] }
