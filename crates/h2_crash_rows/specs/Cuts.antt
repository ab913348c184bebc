-- A disk that was written and synced, by which the definitions of power cuts are tried.
use Rattle.std.specs.Prelude.{[], ◌∷◌}
use Rattle.h2_num.specs.Places.{Places, places}
use Rattle.h2_disk.specs.Trace.{Trace, Opened, Wrote, Synced}

-- an image of zeros
abbrev pub zeros : Places
zeros = λ k. 0

-- 1 at place 2, and zeros elsewhere
abbrev pub image_synced : Places
image_synced = places (0 ∷ 0 ∷ 1 ∷ [])

-- over zeros, 1 began to be written at place 2 at moment 1, and a sync was done at moment 3
abbrev pub synced : Trace
synced = Synced 3 image_synced (Wrote 1 2 (1 ∷ []) (Opened zeros))

-- and at moment 4, 5 and 6 began to be written at places 2 and 3
abbrev pub unsynced : Trace
unsynced = Wrote 4 2 (5 ∷ 6 ∷ []) synced

-- or the byte that is durable at place 2 was written once more
abbrev pub again : Trace
again = Wrote 4 2 (1 ∷ []) synced

-- two bytes were written over zeros by one write
abbrev pub two_bytes : Trace
two_bytes = Wrote 1 0 (5 ∷ 6 ∷ []) (Opened zeros)

-- or the first of them alone
abbrev pub one_byte : Trace
one_byte = Wrote 1 0 (5 ∷ []) (Opened zeros)
