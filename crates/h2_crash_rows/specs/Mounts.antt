-- A volume of the small format, by which the definition of mounting is tried.
use Rattle.std.specs.Prelude.{ℕ, cond, nat_eq, List, [], ◌∷◌}
use Rattle.h2_num.specs.Places.{Places}
use Rattle.h2_checkpoint.specs.Checkpoint.{Checkpoint}
use Rattle.h2_checkpoint.specs.Marks.{Mark, Froze, Header_out}
use Rattle.h2_checkpoint.specs.Toy.{ToyHeader, toy}

-- header 1, whose block stands right behind slot 0
abbrev pub first_header : ToyHeader
first_header = record { number = 1; place = 65536 }

-- header 1 in slot 0, and 7 in its block
abbrev pub image_made : Places
image_made = λ k. cond (nat_eq k 0) 1 (cond (nat_eq k 65536) 7 0)

-- the checkpoint of header 1, whose forest is the byte of its block
abbrev pub made : Checkpoint toy
made = record { header = first_header; view = image_made; forest = 7 }

-- header 1 went out at moment 4
abbrev pub out_marks : List (Mark ℕ)
out_marks = Header_out 1 4 ∷ Froze 1 7 ∷ []
