use Rattle.std.proofs.Common.{◌≡◌, ◌≤◌, ℕ, List, Some, take, slice_get}
use Rattle.std.specs.Prelude.{map}
use Rattle.h2_ref.specs.declared.reference.Ref.{Ref}
use Rattle.h2_set.specs.Calls.{MeetsNone, KeepsBeside}
use Rattle.h2_set.specs.Forest.{IsRootOf}
use Rattle.h2_inode.specs.Nodes.{held_by, Visits}
use Rattle.h2_inode.specs.Access.{OneByOne}
use Rattle.h2_inode.specs.Loaded.{StandsAlike, view_of}
use Rattle.h2_inode.specs.PfsList.{ListedPfs}
use Rattle.h2_pfs.specs.Mets.{met_of}
use Rattle.h2_pfs.specs.Meets.{MetBy, LoadsPfss}
use Rattle.h2_pfs.proofs.scanning.meet_all.Given as goal

abbrev pub invariant-loop-i : goal.invariant-loop-i
invariant-loop-i g l =
    let f = g.N.Sets.forest l.fn.n in
    let now = g.N.Sets.forest l.n in
    record {
      visits : Visits f now;
      loads : LoadsPfss f now l.root.0;
      alike : StandsAlike (view_of g.N.Nodes.fields f (g.N.Sets.beside l.fn.n) (g.N.Nodes.told l.fn.n)) (view_of g.N.Nodes.fields now (g.N.Sets.beside l.n) (g.N.Nodes.told l.n));
      beside : KeepsBeside f now (g.N.Sets.beside l.fn.n) (g.N.Sets.beside l.n);
      later : g.N.Sets.later l.fn.n l.n;
      none_met : MeetsNone f now;
      met : (pfss : List ListedPfs) × OneByOne (MetBy f now (held_by g.N.Nodes.fields (g.N.Sets.beside l.fn.n)) (held_by g.N.Nodes.fields (g.N.Sets.beside l.n)) (g.N.Nodes.told l.fn.n) l.root.0) (take l.i l.leaves) pfss × (l.out.items ≡ map met_of pfss);
      named : (j c : ℕ) (r : Ref) → l.i ≤ j → slice_get l.leaves j ≡ Some r → IsRootOf now l.root.0 r.key c → IsRootOf f l.root.0 r.key c;
    }
