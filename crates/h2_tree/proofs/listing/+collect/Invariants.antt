use Rattle.std.proofs.Common.{◌≡◌, List, ◌++◌, take}
use Rattle.std.specs.Prelude.{filter}
use Rattle.h2_ref.specs.declared.reference.Ref.{Ref}
use Rattle.h2_set.specs.Forest.{refs, HasLeaves}
use Rattle.h2_set.specs.Calls.{Walks, MeetsNone, KeepsBeside}
use Rattle.h2_tree.specs.Changes.{is_between, LoadsIn}
use Rattle.h2_tree.specs.Listing.{Adds}
use Rattle.h2_tree.proofs.listing.+collect.Given as goal

abbrev pub decreases-collect : goal.decreases-collect
decreases-collect g l = let f = g.N.Sets.forest l.n.now in f.bits l.at.0

abbrev pub invariant-loop-i : goal.invariant-loop-i
invariant-loop-i g l =
    let f = g.N.Sets.forest l.fn.n in
    record {
      walks : Walks f (g.N.Sets.forest l.n);
      touched : LoadsIn f (g.N.Sets.forest l.n) l.at.0 l.from l.to;
      beside : KeepsBeside f (g.N.Sets.forest l.n) (g.N.Sets.beside l.fn.n) (g.N.Sets.beside l.n);
      later : g.N.Sets.later l.fn.n l.n;
      none_met : MeetsNone f (g.N.Sets.forest l.n);
      gathered : Adds (g.N.Sets.forest l.n) l.from l.to l.at.0 (take l.i (refs f l.at.0)) l.fn.out.items l.out.items;
      told : (front : List Ref) → HasLeaves f l.at.0 (take l.i (refs f l.at.0)) front → l.out.items ≡ l.fn.out.items ++ filter (is_between l.from l.to) front;
    }
