-- The lines that are printed, each with its line feed.
use Rattle.std.specs.Prelude.{◌≡◌, ◌⊎◌, ℕ, ◌-◌, ◌*◌, List, [], ◌∷◌, ◌++◌, codes}
use Rattle.std.specs.Fmt.{decimal}
use Rattle.h2_num.specs.Causes.{Rose}
use Rattle.h2_io.specs.Sink.{GrowsByFront}

-- the byte at which a line ends
abbrev pub line_feed : List ℕ
line_feed = 10 ∷ []

-- the line that is printed where the words ask for nothing
abbrev pub usage_line : List ℕ
usage_line = codes "usage: h2 COMMAND IMAGE [ARGUMENTS]" ++ line_feed

-- the line that is printed where the disk failed
abbrev pub disk_fault_line : List ℕ
disk_fault_line = codes "disk fault" ++ line_feed

-- the number of the newest header
abbrev pub already_line : ℕ → List ℕ
already_line number = codes "already formatted: header " ++ (decimal number ++ line_feed)

-- a zone has 2048 chunks, of which 256 are reserved, and one chunk holds the two inodes
abbrev pub formatted_line : ℕ → List ℕ
formatted_line zones =
    codes "formatted zones " ++ (decimal zones ++ (codes " chunks " ++ (decimal (2048 * zones) ++ (codes " reserved " ++ (decimal (256 * zones)
    ++ (codes " free " ++ (decimal (1792 * zones - 1) ++ line_feed)))))))

-- what a sink tells of itself at one time
pub record SinkState : Type 0 where
  pub held : List ℕ
  pub faults : ℕ

-- a sink by its trait's members
abbrev pub sink_state : {K : Type 0} → (K → List ℕ) → (K → ℕ) → K → SinkState
sink_state held faults sink = record { held = held sink; faults = faults sink }

-- the whole line was printed
abbrev pub PrintsWhole : List ℕ → SinkState → SinkState → Type 0
PrintsWhole line old new = new.held ≡ old.held ++ line

-- the sink failed, and a front of the line was printed
abbrev pub PrintsFront : List ℕ → SinkState → SinkState → Type 0
PrintsFront line old new = Rose old.faults new.faults × GrowsByFront line old.held new.held

-- the line was printed, as far as the sink took it
abbrev pub Prints : List ℕ → SinkState → SinkState → Type 0
Prints line old new = PrintsWhole line old new ⊎ PrintsFront line old new

-- a front of one of the lines was printed, or nothing
abbrev pub PrintsSome : List ℕ → List ℕ → Type 0
PrintsSome old new = GrowsByFront usage_line old new ⊎ GrowsByFront disk_fault_line old new
    ⊎ ((zones : ℕ) × GrowsByFront (formatted_line zones) old new) ⊎ ((number : ℕ) × GrowsByFront (already_line number) old new)
