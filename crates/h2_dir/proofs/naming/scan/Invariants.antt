use Rattle.std.proofs.Common.{◌≡◌, ℕ, ◌<◌, Some}
use Rattle.std.specs.Prelude.{slice_get}
use Rattle.h2_ref.specs.declared.reference.Ref.{Ref}
use Rattle.h2_set.specs.Calls.{Unchanged, MeetsNone, KeepsBeside}
use Rattle.h2_dir.specs.Names.{IsEntryNamed}
use Rattle.h2_dir.proofs.naming.scan.Given as goal

abbrev pub invariant-loop-i : goal.invariant-loop-i
invariant-loop-i g l =
    let f = g.N.Sets.forest l.fn.n in
    record {
      same : Unchanged f (g.N.Sets.forest l.n);
      beside : KeepsBeside f (g.N.Sets.forest l.n) (g.N.Sets.beside l.fn.n) (g.N.Sets.beside l.n);
      later : g.N.Sets.later l.fn.n l.n;
      none_met : MeetsNone f (g.N.Sets.forest l.n);
      none : (i : ℕ) (leaf : Ref) → i < l.i → slice_get l.leaves i ≡ Some leaf → IsEntryNamed f leaf l.name → ⊥;
    }
