-- Blocks of the freemap, by which their places are tried.
use Rattle.std.specs.Prelude.{ℕ}
use Rattle.h2_geom.specs.Places.{MapBlock}

-- a block by its level, the zone with which it begins, and its copy
abbrev pub map_block : ℕ → ℕ → ℕ → MapBlock
map_block level zone copy = record { level = level; zone = zone; copy = copy }
