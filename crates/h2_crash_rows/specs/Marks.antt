-- What was noted of two flushes, by which the definition of where a cut lands is tried.
use Rattle.std.specs.Prelude.{◌≡◌, ℕ, List, [], ◌∷◌}
use Rattle.h2_checkpoint.specs.Marks.{Mark, Froze, Header_out, Header_done}

-- header 2 went out at moment 10 and was done at 12, header 3 went out at 19; forests are numbers here
abbrev pub marks : List (Mark ℕ)
marks = Header_out 3 19 ∷ Froze 3 300 ∷ Header_done 2 12 ∷ Header_out 2 10 ∷ Froze 2 200 ∷ []

-- the forest that stood first under header 1
abbrev pub first_forest : ℕ → ℕ → Type 0
first_forest n forest = (n ≡ 1) × (forest ≡ 100)
