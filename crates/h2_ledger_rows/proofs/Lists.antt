-- Which applies some lists of moves have.
use Rattle.std.proofs.Common.{◌<◌, ◌*◌, ℕ, zero, suc, List, [], ◌∷◌, length, Contains, arith, subst}
use Rattle.std.specs.List.{AllByRecursion}
use Rattle.h2_ledger.specs.Moves.{Move, take_next, take_first, take_whole, adopt, relink, reserve, freeze, freeze_of_pass, complete, begin_pass, begin_scan, end_pass, apply}
use Rattle.h2_ledger.specs.Passes.{IsComplete, AreSuccessive}

-- a property of all moves is one of each
pub of_each : (P : Move → Type 0) (moves : List Move) (move : Move) → AllByRecursion P moves → Contains moves move → P move
of_each P [] move all (k, lt, e) = absurd (let f : k < 0 = lt in omega arith)
of_each P (first ∷ moves) move (here, rest) (zero, lt, e) = subst P e here
of_each P (first ∷ moves) move (here, rest) (suc k, lt, e) = of_each P moves move rest (k, (let f : suc k < length (first ∷ moves) = lt in omega arith), e)

-- the number of the segment that a pass applies by the move, from 1 on; else 0
abbrev pub segment_by : Move → ℕ
segment_by (take_next size b) = 0
segment_by (take_first size b) = 0
segment_by (take_whole b) = 0
segment_by (adopt b) = 0
segment_by relink = 0
segment_by reserve = 0
segment_by freeze = 0
segment_by freeze_of_pass = 0
segment_by complete = 0
segment_by begin_pass = 0
segment_by begin_scan = 0
segment_by end_pass = 0
segment_by (apply number segment) = suc segment

-- the number of the pass that applies a segment by the move; else 0
abbrev pub pass_by : Move → ℕ
pass_by (take_next size b) = 0
pass_by (take_first size b) = 0
pass_by (take_whole b) = 0
pass_by (adopt b) = 0
pass_by relink = 0
pass_by reserve = 0
pass_by freeze = 0
pass_by freeze_of_pass = 0
pass_by complete = 0
pass_by begin_pass = 0
pass_by begin_scan = 0
pass_by end_pass = 0
pass_by (apply number segment) = number

-- an apply of each of two segments is a complete pass
pub two_segments : (number : ℕ) (moves : List Move) → Contains moves (apply number 0) → Contains moves (apply number 1) → IsComplete 512 number moves
two_segments number moves first second zero lt = first
two_segments number moves first second (suc zero) lt = second
two_segments number moves first second (suc (suc s)) lt = absurd (let f : 256 * suc (suc s) < 512 = lt in omega arith)

-- passes whose numbers follow each other have none between them
pub successive : (p : ℕ) (moves : List Move) → IsComplete 512 p moves → IsComplete 512 (suc p) moves → AreSuccessive 512 p (suc p) moves
successive p moves first second = record { first = first; second = second; none_between = λ r low high all. absurd (omega arith) }
