-- A number is in a table exactly where a leaf has it.
use Rattle.std.specs.Prelude.{◌≡◌, ◌≢◌, ◌<◌, ℕ, List, slice_index_or, AllPairs, Contains, Some}
use Rattle.std.proofs.Common.{ap, sym, ◌∙◌, arith}
use Rattle.std.specs.Cmp.{nat_cmp_total}
use Rattle.std.specs.FinMap.{nat_cmp-IsAntisymmetric, get}
use Rattle.h2_ref.specs.declared.reference.Ref.{Ref}
use Rattle.h2_inode.specs.Access.{Access}
use Rattle.h2_inode.specs.FoundLaws.{held_in, held_by}
use Rattle.h2_forest.specs.declared.table.Node.{Node}
use Rattle.h2_forest.specs.Table.{Table}
use Rattle.h2_meaning.specs.Node.{IsMember, HasMembers}
use Rattle.h2_meaning.specs.Forest.{InTable, IsTable}
use Rattle.h2_meaning.specs.OrderLaws.{numbers_ascend}

pub numbers_differ : (a : Access) (T : ℕ → ℕ → Type 0) (t : a.Tree) (members : List (ℕ × Node)) → HasMembers a T t members → AllPairs (λ (x y : ℕ × Node). x.0 ≢ y.0) members
numbers_differ a T t members h = λ i j d lt len e. let less : (slice_index_or members i d).0 < (slice_index_or members j d).0 = numbers_ascend a T t members h i j d lt len in absurd (omega (arith, less, e))

pub node_of_leaf : (a : Access) (t : a.Tree) (next : ℕ) (table : Table) (h : IsTable a t next table) (r : Ref) → Contains h.has.leaves r
    → (m : ℕ × Node) × IsMember a (InTable table) t r m × (get table m.0 ≡ Some m.1)
node_of_leaf a t next table h r at =
    let g = held_in nat_cmp_total nat_cmp-IsAntisymmetric (IsMember a (InTable table) t) h.has.leaves h.members h.has.each (numbers_differ a (InTable table) t h.members h.has) r at in
    (g.0, g.1, ap (λ v. get v (g.0).0) h.table_is ∙ g.2)

pub leaf_of_node : (a : Access) (t : a.Tree) (next : ℕ) (table : Table) (h : IsTable a t next table) (number : ℕ) (node : Node) → get table number ≡ Some node
    → (r : Ref) × Contains h.has.leaves r × IsMember a (InTable table) t r (number, node)
leaf_of_node a t next table h number node e =
    held_by nat_cmp_total nat_cmp-IsAntisymmetric (IsMember a (InTable table) t) h.has.leaves h.members h.has.each number node (sym (ap (λ v. get v number) h.table_is) ∙ e)
