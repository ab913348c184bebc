-- What a tree holds stands in the order of the keys.
use Rattle.std.specs.Prelude.{◌<◌, ℕ, ◌^◌, List, AllPairs}
use Rattle.h2_forest.specs.declared.table.Node.{Node}
use Rattle.h2_forest.specs.declared.pfs.Pfs.{Pfs}
use Rattle.h2_forest.specs.Forest.{PlainForest}
use Rattle.h2_inode.specs.Access.{Access}
use Rattle.h2_meaning.specs.Node.{IsMember, HasMembers}
use Rattle.h2_meaning.specs.Forest.{IsWhole, IsForest}
use Rattle.h2_inode.specs.ListLaws.{keys_ascend}

-- the numbers of members ascend
pub numbers_ascend : (a : Access) (T : ℕ → ℕ → Type 0) (t : a.Tree) (members : List (ℕ × Node)) → HasMembers a T t members → AllPairs (λ (x y : ℕ × Node). x.0 < y.0) members
numbers_ascend a T t members h = keys_ascend (λ (x : ℕ × Node). x.0) (IsMember a T t) (λ r x m. m.number_is) h.leaves members h.each 0 (2 ^ 64) h.has.ordered

-- the ids of a forest's PFSs ascend
pub ids_ascend : (a : Access) (t : a.Tree) (next : ℕ) (f : PlainForest) → IsForest a t next f → AllPairs (λ (p q : Pfs). p.id < q.id) f.pfss
ids_ascend a t next f h = keys_ascend (λ (p : Pfs). p.id) (IsWhole a t) (λ r p m. m.named.id_is) h.list.leaves f.pfss h.each 0 (2 ^ 64) h.list.has.ordered
