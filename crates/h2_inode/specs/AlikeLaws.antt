-- All trees stand for what they stood for over loads.
use Rattle.std.proofs.Common.{◌≡◌, ℕ, false, Option, Some}
use Rattle.h2_ref.specs.declared.reference.Ref.{Ref}
use Rattle.h2_set.specs.Forest.{Forest, IsSound}
use Rattle.h2_set.specs.Calls.{Walks, Unchanged, KeepsBeside}
use Rattle.h2_inode.specs.Nodes.{Fields, Told, held_by, IsInodeLeaf, IsAsTold, Seeks}
use Rattle.h2_inode.specs.Loaded.{StandsAlike, view_of}
use Rattle.h2_inode.specs.LoadedLaws.{alike_one, walks_reread, unchanged_reread, seeks_reread, beside_holds}

-- over loads of indirect blocks
pub walks_alike : {B : Type 0} (fields : B → Option Fields) (f g : Forest) (old new : ℕ → B) (was now : Ref → Option Told) → IsSound f → Walks f g → KeepsBeside f g old new → ((r : Ref) (x : Told) → was r ≡ Some x → now r ≡ Some x) → StandsAlike (view_of fields f old was) (view_of fields g new now)
walks_alike fields f g old new was now sound walks beside told =
    alike_one (walks_reread (view_of fields f old was) (view_of fields g new now) sound walks (beside_holds fields f g old new was now beside) told)

-- over a load that failed
pub unchanged_alike : {B : Type 0} (fields : B → Option Fields) (f g : Forest) (old new : ℕ → B) (was now : Ref → Option Told) → IsSound f → Unchanged f g → KeepsBeside f g old new → ((r : Ref) (x : Told) → was r ≡ Some x → now r ≡ Some x) → StandsAlike (view_of fields f old was) (view_of fields g new now)
unchanged_alike fields f g old new was now sound same beside told =
    alike_one (unchanged_reread (view_of fields f old was) (view_of fields g new now) sound same (beside_holds fields f g old new was now beside) told)

-- over the load of an inode
pub seeks_alike : {B : Type 0} (fields : B → Option Fields) (f g : Forest) (old new : ℕ → B) (was now : Ref → Option Told) (top c : ℕ) (leaf : Ref) → IsSound f → IsInodeLeaf f top leaf → Seeks f g top leaf.key c → KeepsBeside f g old new → ((r : Ref) (x : Told) → was r ≡ Some x → now r ≡ Some x) → ((x : Told) → f.stands c ≡ false → was leaf ≡ Some x → IsAsTold g (held_by fields new) c x) → StandsAlike (view_of fields f old was) (view_of fields g new now)
seeks_alike fields f g old new was now top c leaf sound is seeks beside told as_told =
    alike_one (seeks_reread (view_of fields f old was) (view_of fields g new now) top c leaf sound is seeks (beside_holds fields f g old new was now beside) told as_told)
