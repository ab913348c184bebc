use Rattle.std.proofs.Common.{take}
use Rattle.h2_set.specs.Calls.{Unchanged, MeetsNone, KeepsBeside}
use Rattle.h2_inode.specs.Access.{OneByOne}
use Rattle.h2_dir.specs.Listing.{SaysEntry}
use Rattle.h2_dir.proofs.listing.all_named.Given as goal

abbrev pub invariant-loop-i : goal.invariant-loop-i
invariant-loop-i g l =
    let f = g.N.Sets.forest l.fn.n in
    record {
      same : Unchanged f (g.N.Sets.forest l.n);
      beside : KeepsBeside f (g.N.Sets.forest l.n) (g.N.Sets.beside l.fn.n) (g.N.Sets.beside l.n);
      later : g.N.Sets.later l.fn.n l.n;
      none_met : MeetsNone f (g.N.Sets.forest l.n);
      each : OneByOne (SaysEntry f) (take l.i l.leaves) l.all.items;
    }
