use Rattle.std.proofs.Common.{◌≡◌}
use Rattle.std.specs.Prelude.{ℕ, nat_eq, ◌&&◌}
use Rattle.std.specs.List.{list_any}
use Rattle.h2_forest.proofs.handles.Handles.has.Given as goal

abbrev pub invariant-loop-at : goal.invariant-loop-at
invariant-loop-at l =
    list_any (λ (x : ℕ × ℕ). nat_eq x.0 l.pfs && nat_eq x.1 l.inode) l.at-iterator
    ≡ list_any (λ (x : ℕ × ℕ). nat_eq x.0 l.pfs && nat_eq x.1 l.inode) l.initial.at-iterator
