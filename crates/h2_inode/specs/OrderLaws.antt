-- What a tree holds stands in the order of the keys.
use Rattle.std.specs.Prelude.{◌<◌, ℕ, ◌^◌, List, AllPairs}
use Rattle.h2_inode.specs.Access.{Access}
use Rattle.h2_inode.specs.PfsList.{ListedPfs, IsPfs, IsPfsList}
use Rattle.h2_inode.specs.ListLaws.{keys_ascend}

-- the ids of listed PFSs ascend
pub listed_ids_ascend : (a : Access) (t : a.Tree) (next : ℕ) (pfss : List ListedPfs) → IsPfsList a t next pfss → AllPairs (λ (p q : ListedPfs). p.id < q.id) pfss
listed_ids_ascend a t next pfss h = keys_ascend (λ (p : ListedPfs). p.id) (IsPfs a t) (λ r p m. m.id_is) h.leaves pfss h.each 0 (2 ^ 64) h.has.ordered
