-- What is asked of the targets of entries can become less after a walk.
use Rattle.std.specs.Prelude.{ℕ, List, refl}
use Rattle.h2_forest.specs.declared.table.Node.{Node}
use Rattle.h2_inode.specs.Access.{Access}
use Rattle.h2_inode.specs.Following.{itself}
use Rattle.h2_inode.specs.FollowLaws.{itself_follows}
use Rattle.h2_meaning.specs.Node.{HasMembers}
use Rattle.h2_meaning.specs.CarryLaws.{members_carried}

pub targets_weaken : (a : Access) (S T : ℕ → ℕ → Type 0) → ((target number : ℕ) → S target number → T target number) → (t : a.Tree) (members : List (ℕ × Node)) → HasMembers a S t members → HasMembers a T t members
targets_weaken a S T f t members h = members_carried (itself a) (itself_follows a) S T f t t members refl h
