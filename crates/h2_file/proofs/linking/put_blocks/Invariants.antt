use Rattle.std.proofs.Common.{take}
use Rattle.h2_set.specs.Calls.{MeetsNone, KeepsBeside}
use Rattle.h2_file.specs.Linking.{PutsEach}
use Rattle.h2_file.proofs.linking.put_blocks.Given as goal

abbrev pub invariant-loop-i : goal.invariant-loop-i
invariant-loop-i g l =
    let f = g.N.Sets.forest l.fn.n in
    let now = g.N.Sets.forest l.n in
    record {
      puts : PutsEach l.at.0 f (take l.i l.refs) now;
      beside : KeepsBeside f now (g.N.Sets.beside l.fn.n) (g.N.Sets.beside l.n);
      later : g.N.Sets.later l.fn.n l.n;
      none_met : MeetsNone f now;
    }
