-- The statuses by their numbers.
use Rattle.std.proofs.Common.{◌≡◌, ◌⊎◌, ℕ, List, [], ◌∷◌, refl, subst, inl, inr, arith}
use Rattle.std.specs.Prelude.{IsTrue, Contains}
use Rattle.h2_cmd.specs.declared.status.Status.{Status}
use Rattle.h2_cmd.specs.declared.status.Status.TheVariants.{Done, Usage, SinkFault, DiskFault, NoMemory, AlreadyFormatted}
use Rattle.h2_cmd.specs.Status.{code_of}
use Rattle.h2_num.specs.Places.{Places}
use Rattle.h2_checkpoint.specs.Stands.{DiskState}
use Rattle.h2_cmd.specs.declared.command_line.Request.{Request}
use Rattle.h2_cmd.specs.declared.command_line.Request.TheVariants.{Format}
use Rattle.h2_cmd.specs.Formatting.{SameElsewhere, LeavesVolume, CutsFormat}
use Rattle.h2_cmd.specs.Lines.{PrintsWhole, PrintsFront, formatted_line}
use Rattle.h2_cmd.specs.Run.{Run, HasMade, Ends, IsServed, EndsAs, CutsAs, SameElsewhereAs, LeavesVolumeAs}
use Rattle.h2_cmd.specs.CommandLine.{Asks}
use Rattle.h2_cmd.specs.CommandLineLaws.{one_request}

known_code : (s : Status) → Contains (0 ∷ 1 ∷ 4 ∷ 5 ∷ 7 ∷ 8 ∷ []) (code_of s)
known_code Done = (0, omega arith, refl)
known_code Usage = (1, omega arith, refl)
known_code SinkFault = (2, omega arith, refl)
known_code DiskFault = (3, omega arith, refl)
known_code NoMemory = (4, omega arith, refl)
known_code AlreadyFormatted = (5, omega arith, refl)

pub known : (n : ℕ) (s : Status) → n ≡ code_of s → Contains (0 ∷ 1 ∷ 4 ∷ 5 ∷ 7 ∷ 8 ∷ []) n
known n s is = rw is (known_code s)

pub front_of : (zones : ℕ) (run : Run) (n : ℕ) (s : Status) → Ends zones run s → n ≡ code_of s → n ≡ 4 → IsTrue run.sink_tells → PrintsFront (formatted_line zones) run.sink_old run.sink_new
front_of zones run n Done e is four tells = absurd (omega arith)
front_of zones run n Usage e is four tells = absurd (omega arith)
front_of zones run n SinkFault e is four tells = e.2 tells
front_of zones run n DiskFault e is four tells = absurd (omega arith)
front_of zones run n NoMemory e is four tells = absurd (omega arith)
front_of zones run n AlreadyFormatted e is four tells = absurd (omega arith)

pub whole_of : (zones : ℕ) (run : Run) (n : ℕ) (s : Status) → Ends zones run s → n ≡ code_of s → n ≡ 0 → IsTrue run.sink_tells → PrintsWhole (formatted_line zones) run.sink_old run.sink_new
whole_of zones run n Done e is four tells = e.1 tells
whole_of zones run n Usage e is four tells = absurd (omega arith)
whole_of zones run n SinkFault e is four tells = absurd (omega arith)
whole_of zones run n DiskFault e is four tells = absurd (omega arith)
whole_of zones run n NoMemory e is four tells = absurd (omega arith)
whole_of zones run n AlreadyFormatted e is four tells = absurd (omega arith)

pub made_of : (zones : ℕ) (run : Run) (n : ℕ) (s : Status) → Ends zones run s → n ≡ code_of s → (n ≡ 0) ⊎ (n ≡ 4) → HasMade zones run
made_of zones run n Done e is which = e.0
made_of zones run n Usage e is which = absurd e
made_of zones run n SinkFault e is which = e.0
made_of zones run n DiskFault e is (inl zero) = absurd (omega arith)
made_of zones run n DiskFault e is (inr four) = absurd (omega arith)
made_of zones run n NoMemory e is (inl zero) = absurd (omega arith)
made_of zones run n NoMemory e is (inr four) = absurd (omega arith)
made_of zones run n AlreadyFormatted e is (inl zero) = absurd (omega arith)
made_of zones run n AlreadyFormatted e is (inr four) = absurd (omega arith)

-- a refusal by its number
pub refusal_line : (P : Type 0) (n : ℕ) (s : Status) → (s ≡ NoMemory) ⊎ ((s ≡ Usage) × P) → n ≡ code_of s → n ≡ 1 → P
refusal_line P n s (inl no_memory) is one = let seven : n ≡ 7 = rw no_memory at is in absurd (omega arith)
refusal_line P n s (inr said) is one = said.1

-- the words that ask for a volume

pub asks_served : (words : List (List ℕ)) (request : Request) → Asks words request → IsServed request
asks_served words (Format zones) asks = asks.2

module _ (words : List (List ℕ)) (request : Request) (asks : Asks words request) (zones : ℕ) (asked : Asks words (Format zones)) where
  same_request : request ≡ Format zones
  same_request = one_request words request (Format zones) asks asked

  pub ends_format : (run : Run) (status : Status) → EndsAs request run status → Ends zones run status
  ends_format run status e = subst (λ (r : Request). EndsAs r run status) same_request e

  pub cuts_format : (old new : DiskState) → CutsAs request old new → CutsFormat zones old new
  cuts_format old new cuts = subst (λ (r : Request). CutsAs r old new) same_request cuts

  pub elsewhere_format : (old new : Places) → SameElsewhereAs request old new → SameElsewhere zones old new
  elsewhere_format old new same = let P : Request → Type 0 = λ r. SameElsewhereAs r old new in subst P same_request same

  pub untouched_format : (old new : DiskState) → LeavesVolumeAs request old new → LeavesVolume old new
  untouched_format old new leaves = let P : Request → Type 0 = λ r. LeavesVolumeAs r old new in subst P same_request leaves
