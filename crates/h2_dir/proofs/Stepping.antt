-- A walk, one step after the other.
use Rattle.std.specs.Prelude.{◌≡◌, ℕ, true, List, ◌∷◌, Option, Result, Ok}
use Rattle.h2_set.specs.Forest.{Forest, IsSound}
use Rattle.h2_set.specs.Calls.{KeepsBeside}
use Rattle.h2_inode.specs.Nodes.{Fields, held_by, Visits}
use Rattle.h2_inode.specs.VisitLaws.{visits_trans}
use Rattle.h2_dir.specs.declared.fault.DirFault.{DirFault}
use Rattle.h2_dir.specs.Walking.{LoadsStep, LoadsWalk, StepEnds, WalkEnds}
use Rattle.h2_dir.proofs.Loading.{steps_load}
use Rattle.h2_dir.proofs.Unchanging.{beside_visits}
use Rattle.h2_dir.proofs.Walked.{ends_on}

-- A walk of the names began in forest f at inode `start`. In forest g it has come to inode `number`, and these names
-- are left: whatever they come to, all the names come to, and where they load no node but theirs, no other was loaded.
pub record IsOnTheWay {B : Type 0} (fields : B → Option Fields) (f g : Forest) (now : ℕ → B) (pfs start number : ℕ) (names left : List (List ℕ)) : Type 0 where
  pub ends : (h : Forest) (new : ℕ → B) (result : Result ℕ DirFault) → Visits g h → KeepsBeside g h now new → WalkEnds g h (held_by fields new) pfs number left result → WalkEnds f h (held_by fields new) pfs start names result
  pub loads : (h : Forest) (new : ℕ → B) → Visits g h → KeepsBeside g h now new → LoadsWalk g h (held_by fields new) pfs number left → LoadsWalk f h (held_by fields new) pfs start names

-- at the beginning all are left
pub way_begins : {B : Type 0} (fields : B → Option Fields) (f : Forest) (now : ℕ → B) (pfs start : ℕ) (names : List (List ℕ)) → IsOnTheWay fields f f now pfs start start names names
way_begins fields f now pfs start names = record { ends = λ h new result v beside rest. rest; loads = λ h new v beside rest. rest }

-- after one more step
pub way_goes_on : {B : Type 0} (fields : B → Option Fields) (f g h : Forest) (now then : ℕ → B) (pfs start number next : ℕ) (name : List ℕ) (names left : List (List ℕ)) → IsSound g → g.stands pfs ≡ true → Visits g h → KeepsBeside g h now then
    → StepEnds g h (held_by fields then) pfs number name (Ok next) → LoadsStep g h (held_by fields then) pfs number name → IsOnTheWay fields f g now pfs start number names (name ∷ left) → IsOnTheWay fields f h then pfs start next names left
way_goes_on fields f g h now then pfs start number next name names left sound stands step beside ends loads way = record {
  ends = λ k new result v after rest. way.ends k new result (visits_trans g h k step v) (beside_visits g h k now then new step beside after) (ends_on fields g h k then new pfs number next name left result sound stands step.sound step v after ends rest);
  loads = λ k new v after rest. way.loads k new (visits_trans g h k step v) (beside_visits g h k now then new step beside after) (steps_load fields g h k then new pfs number next name left step.sound v after ends loads rest);
}
