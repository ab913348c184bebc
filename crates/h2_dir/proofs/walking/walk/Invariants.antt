use Rattle.std.proofs.Common.{ℕ, Bool, List}
use Rattle.std.specs.Prelude.{drop}
use Rattle.h2_ref.specs.declared.reference.Ref.{Ref}
use Rattle.h2_set.specs.Forest.{LeavesOf}
use Rattle.h2_set.specs.Calls.{MeetsNone, KeepsBeside}
use Rattle.h2_inode.specs.Nodes.{Visits}
use Rattle.h2_inode.specs.Loaded.{StandsAlike, view_of}
use Rattle.h2_dir.specs.Knowing.{KnowsWay}
use Rattle.h2_dir.proofs.Agreed.{AgreesOnTheWay}
use Rattle.h2_dir.proofs.Stepping.{IsOnTheWay}
use Rattle.h2_dir.proofs.walking.walk.Given as goal

abbrev pub invariant-loop-i : goal.invariant-loop-i
invariant-loop-i g l =
    let f = g.N.Sets.forest l.fn.n in
    let h = g.N.Sets.forest l.n in
    let was = view_of g.N.Nodes.fields f (g.N.Sets.beside l.fn.n) (g.N.Nodes.told l.fn.n) in
    let now = view_of g.N.Nodes.fields h (g.N.Sets.beside l.n) (g.N.Nodes.told l.n) in
    record {
      visits : Visits f h;
      way : IsOnTheWay g.N.Nodes.fields f h (g.N.Sets.beside l.n) l.pfs.0 1 l.number l.names (drop l.i l.names);
      known : (may : ℕ → ℕ → Bool) (leaves : List Ref) → LeavesOf f l.pfs.0 leaves → KnowsWay was may l.pfs.0 leaves 1 l.names → KnowsWay now may l.pfs.0 leaves l.number (drop l.i l.names);
      agrees : (may : ℕ → ℕ → Bool) (leaves : List Ref) → LeavesOf f l.pfs.0 leaves → KnowsWay was may l.pfs.0 leaves 1 l.names → AgreesOnTheWay was may l.pfs.0 leaves 1 l.number l.names (drop l.i l.names);
      alike : StandsAlike was now;
      beside : KeepsBeside f h (g.N.Sets.beside l.fn.n) (g.N.Sets.beside l.n);
      later : g.N.Sets.later l.fn.n l.n;
      none_met : MeetsNone f h;
    }
