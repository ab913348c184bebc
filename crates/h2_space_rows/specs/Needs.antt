-- Two states of a volume's space, by which the need of blocks is tried.
use Rattle.std.specs.Prelude.{[], Some, None}
use Rattle.h2_freemap.specs.Space.{Space}

-- the space of four zones after mounting: no cursor and no pin; its segments don't count for a need, and none is given
abbrev pub mounted : Space
mounted = record { zones = 4; segments = []; small = None; middle = None; pins = []; spare = 0 }

-- two blocks of 1 KiB were taken in chunk 257
abbrev pub two_taken : Space
two_taken = record mounted { small = Some (record { chunk = 257; used = 2048 }) }
