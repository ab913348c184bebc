-- An entry of a flush's queue, by which the definition of entries that are apart is tried.
use Rattle.std.specs.Prelude.{ℕ, [], ◌∷◌}
use Rattle.h2_checkpoint.specs.Queue.{Entry}

-- two bytes that go to a place
abbrev pub two_at : ℕ → Entry
two_at place = record { at = place; bytes = 8 ∷ 9 ∷ [] }
