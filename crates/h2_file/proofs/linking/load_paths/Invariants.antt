use Rattle.std.proofs.Common.{◌≡◌, ◌<◌, ℕ, Option, Some, slice_get}
use Rattle.h2_ref.specs.declared.reference.Ref.{Ref}
use Rattle.h2_set.specs.Forest.{Reaches}
use Rattle.h2_set.specs.Calls.{Walks, MeetsNone, KeepsBeside}
use Rattle.h2_file.specs.Linking.{LoadsEach, KeepsOthers}
use Rattle.h2_file.proofs.linking.load_paths.Given as goal

abbrev pub invariant-loop-at : goal.invariant-loop-at
invariant-loop-at g l =
    let f = g.N.Sets.forest l.fn.n in
    let now = g.N.Sets.forest l.n in
    record {
      walks : Walks f now;
      touched : LoadsEach f now l.root.0 l.refs;
      apart : KeepsOthers f now l.root.0;
      beside : KeepsBeside f now (g.N.Sets.beside l.fn.n) (g.N.Sets.beside l.n);
      later : g.N.Sets.later l.fn.n l.n;
      none_met : MeetsNone f now;
      loaded : (j : ℕ) (r : Ref) → slice_get l.refs j ≡ Some r → j < l.at → (o : Option Ref) × Reaches now r.key l.root.0 o;
    }
