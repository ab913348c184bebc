use Rattle.std.proofs.Common.{◌≡◌, true, List}
use Rattle.h2_ref.specs.declared.reference.Ref.{Ref}
use Rattle.h2_set.specs.Forest.{LeavesOf}
use Rattle.h2_set.specs.Calls.{Walks, MeetsNone, KeepsBeside}
use Rattle.h2_tree.specs.Changes.{Under, WalksUnder, LoadsIn}
use Rattle.h2_tree.proofs.Climb.{LeadsTo, LedBack}
use Rattle.h2_tree.proofs.Known.{Known}
use Rattle.h2_tree.proofs.looking_up.lookup.Given as goal

abbrev pub invariant-loop-i : goal.invariant-loop-i
invariant-loop-i g l =
    let f = g.N.Sets.forest l.n in
    record {
      walks : Walks (g.N.Sets.forest l.fn.n) f;
      under : WalksUnder (g.N.Sets.forest l.fn.n) f l.fn.root.0;
      inside : Under f l.at.0 l.fn.root.0;
      touched : LoadsIn (g.N.Sets.forest l.fn.n) f l.fn.root.0 l.key l.key;
      stands : f.stands l.at.0 ≡ true;
      tree : f.root l.at.0 ≡ (let first = g.N.Sets.forest l.fn.n in first.root l.fn.root.0);
      leads : LeadsTo f l.key l.fn.root.0 l.at.0;
      known : (leaves : List Ref) → LeavesOf (g.N.Sets.forest l.fn.n) l.fn.root.0 leaves → Known f l.at.0;
      led : LedBack (g.N.Sets.forest l.fn.n) l.key l.fn.root.0 l.at.0;
      beside : KeepsBeside (g.N.Sets.forest l.fn.n) f (g.N.Sets.beside l.fn.n) (g.N.Sets.beside l.n);
      later : g.N.Sets.later l.fn.n l.n;
      none_met : MeetsNone (g.N.Sets.forest l.fn.n) f;
    }

abbrev pub decreases-loop-i : goal.decreases-loop-i
decreases-loop-i g l = let f = g.N.Sets.forest l.n in f.bits l.at.0
