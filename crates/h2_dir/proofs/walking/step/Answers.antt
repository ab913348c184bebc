use Rattle.std.proofs.Common.{◌≡◌, ◌∷◌, Some, Err, subst, sym, Option, inl, inr}
use Rattle.h2_ref.specs.declared.reference.Ref.{Ref}
use Rattle.h2_set.specs.Forest.{Reaches, IsRootOf}
use Rattle.h2_set.specs.Ranges.{find as leaf_with}
use Rattle.h2_inode.specs.Nodes.{held_by, IsUnloaded, Seeks}
use Rattle.h2_inode.specs.VisitLaws.{walks_visit, seeks_visit, unchanged_visits, visits_trans, visits_leaf}
use Rattle.h2_dir.specs.declared.fault.DirFault.TheVariants as fault
use Rattle.h2_dir.specs.Walking.{IsMember, StepEnds, LoadsStep, by_inode}
use Rattle.h2_inode.specs.Loaded.{View, view_of}
use Rattle.h2_inode.specs.LoadedLaws.{alike_trans, walks_reread, seeks_reread, beside_holds}
use Rattle.h2_dir.specs.Knowing.{KnowsWay}
use Rattle.h2_dir.proofs.Way.{way_alike, way_block, way_found, way_next, good_trouble}
use Rattle.h2_dir.proofs.Unchanging.{beside_visits}
use Rattle.h2_dir.proofs.Searched.{loads_same}
use Rattle.h2_inode.specs.AlikeLaws.{walks_alike, unchanged_alike, seeks_alike}
use Rattle.h2_dir.proofs.Loading.{path_loads, inode_loads, search_loads, failed_loads}
use Rattle.h2_dir.proofs.Walked.{cause_earlier, inode_before, pfs_leaf, pfs_stays, step_found, step_fails, step_trouble}
use Rattle.h2_dir.proofs.Agreed.{trouble_agrees, nothing_agrees, found_agrees_on, failed_agrees_on}
use Rattle.h2_set.specs.MetLaws.{MeetsNone-refl, MeetsNone-trans}
use Rattle.h2_dir.proofs.Meeting.{fault_met_after, handed_fault_met}
use Rattle.h2_dir.proofs.walking.step.Goals as goal

pub leaf_of-requires-clause-stands : goal.leaf_of-requires-clause-stands
leaf_of-requires-clause-stands g c = c.requires.pfs.has.stands

pub returns-in_default-clause-visits : goal.returns-in_default-clause-visits
returns-in_default-clause-visits g c = walks_visit _ _ c.in_ok-found.ensures.walks

pub returns-in_default-clause-ends : goal.returns-in_default-clause-ends
returns-in_default-clause-ends g c = inl (subst (λ (o : Option Ref). Reaches (g.N.Sets.forest c.leaf_of.new.n) c.args.number c.args.pfs.0 o) c.in_default.is c.in_ok-found.ensures.path)

pub seek-requires-clause-leaf : goal.seek-requires-clause-leaf
seek-requires-clause-leaf g c =
    let h = g.N.Sets.forest c.leaf_of.new.n in
    let walks = c.in_ok-found.ensures.walks in
    let root = pfs_stays g.N.Nodes.fields _ h _ _ c.args.pfs.0 (walks_visit _ h walks) c.in_ok-found.ensures.beside c.requires.pfs in
    let path : Reaches h c.args.number c.args.pfs.0 (Some c.in-Some.leaf) = subst (λ (o : Option Ref). Reaches h c.args.number c.args.pfs.0 o) c.in-Some.is c.in_ok-found.ensures.path in
    (pfs_leaf h _ c.args.pfs.0 c.args.number c.in-Some.leaf walks.sound root path).0

pub returns-in_err-dir-clause-visits : goal.returns-in_err-dir-clause-visits
returns-in_err-dir-clause-visits g c = visits_trans _ _ _ (walks_visit _ _ c.in_ok-found.ensures.walks) (unchanged_visits _ _ c.in_err-dir.ensures.same)

pub returns-in-Ok-clause-visits : goal.returns-in-Ok-clause-visits
returns-in-Ok-clause-visits g c = visits_trans _ _ _ (visits_trans _ _ _ (walks_visit _ _ c.in_ok-found.ensures.walks) (seeks_visit _ _ _ _ _ c.in_ok-dir.ensures.ok)) (walks_visit _ _ c.in-Ok.ensures.walks)

pub returns-in-Ok-clause-beside : goal.returns-in-Ok-clause-beside
returns-in-Ok-clause-beside g c =
    let first = walks_visit _ _ c.in_ok-found.ensures.walks in
    let second = seeks_visit _ _ _ _ _ c.in_ok-dir.ensures.ok in
    beside_visits _ _ _ _ _ _ (visits_trans _ _ _ first second) (beside_visits _ _ _ _ _ _ first c.in_ok-found.ensures.beside c.in_ok-dir.ensures.beside) c.in-Ok.ensures.beside

pub returns-in-Ok-clause-later : goal.returns-in-Ok-clause-later
returns-in-Ok-clause-later g c = g.met.N.Sets.later_later _ _ _ (g.met.N.Sets.later_later _ _ _ c.in_ok-found.ensures.later c.in_ok-dir.ensures.later) c.in-Ok.ensures.later

pub returns-in-Err-clause-visits : goal.returns-in-Err-clause-visits
returns-in-Err-clause-visits g c = visits_trans _ _ _ (visits_trans _ _ _ (walks_visit _ _ c.in_ok-found.ensures.walks) (seeks_visit _ _ _ _ _ c.in_ok-dir.ensures.ok)) (walks_visit _ _ c.in-Err.ensures.walks)

pub returns-in-Err-clause-beside : goal.returns-in-Err-clause-beside
returns-in-Err-clause-beside g c =
    let first = walks_visit _ _ c.in_ok-found.ensures.walks in
    let second = seeks_visit _ _ _ _ _ c.in_ok-dir.ensures.ok in
    beside_visits _ _ _ _ _ _ (visits_trans _ _ _ first second) (beside_visits _ _ _ _ _ _ first c.in_ok-found.ensures.beside c.in_ok-dir.ensures.beside) c.in-Err.ensures.beside

pub returns-in-Err-clause-later : goal.returns-in-Err-clause-later
returns-in-Err-clause-later g c = g.met.N.Sets.later_later _ _ _ (g.met.N.Sets.later_later _ _ _ c.in_ok-found.ensures.later c.in_ok-dir.ensures.later) c.in-Err.ensures.later

pub returns-in-Ok-clause-ends : goal.returns-in-Ok-clause-ends
returns-in-Ok-clause-ends g c =
    let h = g.N.Sets.forest c.leaf_of.new.n in
    let k = g.N.Sets.forest c.seek.new.self in
    let walks = c.in_ok-found.ensures.walks in
    let root = pfs_stays g.N.Nodes.fields _ h _ _ c.args.pfs.0 (walks_visit _ h walks) c.in_ok-found.ensures.beside c.requires.pfs in
    let path : Reaches h c.args.number c.args.pfs.0 (Some c.in-Some.leaf) = subst (λ (o : Option Ref). Reaches h c.args.number c.args.pfs.0 o) c.in-Some.is c.in_ok-found.ensures.path in
    let there = pfs_leaf h _ c.args.pfs.0 c.args.number c.in-Some.leaf walks.sound root path in
    let seeks = c.in_ok-dir.ensures.ok in
    let inode = c.in_ok-dir.ensures.inode.0 in
    let has = c.in_ok-dir.ensures.inode.1 in
    let member : IsMember k (held_by g.N.Nodes.fields (g.N.Sets.beside c.seek.new.self)) c.args.pfs.0 c.args.number c.in_ok-dir.dir.0 inode = record {
      leaf = c.in-Some.leaf;
      is_leaf = visits_leaf h k c.args.pfs.0 c.in-Some.leaf walks.sound (seeks_visit _ _ _ _ _ seeks) there.0;
      key_is = there.1;
      named = subst (λ n. IsRootOf k c.args.pfs.0 n c.in_ok-dir.dir.0) there.1 seeks.named;
      has = has;
    } in
    step_found g.N.Nodes.fields k _ _ _ c.args.pfs.0 c.args.number c.in_ok-dir.dir.0 c.in-Ok._key inode c.args.name.now c.in-Ok.entry seeks.brings.sound (walks_visit _ _ c.in-Ok.ensures.walks) c.in-Ok.ensures.beside member (c.in-Ok.ensures.kind inode has) c.in-Ok.ensures.found

pub returns-in-Err-clause-ends : goal.returns-in-Err-clause-ends
returns-in-Err-clause-ends g c =
    let h = g.N.Sets.forest c.leaf_of.new.n in
    let k = g.N.Sets.forest c.seek.new.self in
    let walks = c.in_ok-found.ensures.walks in
    let root = pfs_stays g.N.Nodes.fields _ h _ _ c.args.pfs.0 (walks_visit _ h walks) c.in_ok-found.ensures.beside c.requires.pfs in
    let path : Reaches h c.args.number c.args.pfs.0 (Some c.in-Some.leaf) = subst (λ (o : Option Ref). Reaches h c.args.number c.args.pfs.0 o) c.in-Some.is c.in_ok-found.ensures.path in
    let there = pfs_leaf h _ c.args.pfs.0 c.args.number c.in-Some.leaf walks.sound root path in
    let seeks = c.in_ok-dir.ensures.ok in
    let inode = c.in_ok-dir.ensures.inode.0 in
    let has = c.in_ok-dir.ensures.inode.1 in
    let member : IsMember k (held_by g.N.Nodes.fields (g.N.Sets.beside c.seek.new.self)) c.args.pfs.0 c.args.number c.in_ok-dir.dir.0 inode = record {
      leaf = c.in-Some.leaf;
      is_leaf = visits_leaf h k c.args.pfs.0 c.in-Some.leaf walks.sound (seeks_visit _ _ _ _ _ seeks) there.0;
      key_is = there.1;
      named = subst (λ n. IsRootOf k c.args.pfs.0 n c.in_ok-dir.dir.0) there.1 seeks.named;
      has = has;
    } in
    step_fails g.N.Nodes.fields _ k _ _ _ c.args.pfs.0 c.args.number c.in_ok-dir.dir.0 inode c.args.name.now c.in-Err.fault c.requires.sound seeks.brings.sound (visits_trans _ _ _ (walks_visit _ _ walks) (seeks_visit _ _ _ _ _ seeks)) (walks_visit _ _ c.in-Err.ensures.walks) c.in-Err.ensures.beside member (c.in-Err.ensures.err inode has)

pub returns-in_err-found-clause-visits : goal.returns-in_err-found-clause-visits
returns-in_err-found-clause-visits g c = walks_visit _ _ c.in_err-found.ensures.walks

pub returns-in_err-dir-clause-ends : goal.returns-in_err-dir-clause-ends
returns-in_err-dir-clause-ends g c =
    let f = g.N.Sets.forest c.args.n.now in
    let h = g.N.Sets.forest c.leaf_of.new.n in
    let k = g.N.Sets.forest c.seek.new.self in
    let walks = c.in_ok-found.ensures.walks in
    let root = pfs_stays g.N.Nodes.fields _ h _ _ c.args.pfs.0 (walks_visit _ h walks) c.in_ok-found.ensures.beside c.requires.pfs in
    let path : Reaches h c.args.number c.args.pfs.0 (Some c.in-Some.leaf) = subst (λ (o : Option Ref). Reaches h c.args.number c.args.pfs.0 o) c.in-Some.is c.in_ok-found.ensures.path in
    let there = pfs_leaf h _ c.args.pfs.0 c.args.number c.in-Some.leaf walks.sound root path in
    let same = unchanged_visits h k c.in_err-dir.ensures.same in
    let unloaded : IsUnloaded h c.args.pfs.0 c.args.number = subst (λ n. IsUnloaded h c.args.pfs.0 n) there.1 c.in_err-dir.ensures.unloaded in
    let cause = cause_earlier f h k c.in_err-dir.field-0.0 (walks_visit f h walks) c.in_err-dir.ensures.err in
    let loads = by_inode c.in-Some.leaf (visits_leaf h k c.args.pfs.0 c.in-Some.leaf walks.sound same there.0) there.1 (inode_before f h c.args.pfs.0 c.args.number (walks_visit f h walks) c.requires.pfs.has.stands unloaded) in
    let ends : StepEnds f k (held_by g.N.Nodes.fields (g.N.Sets.beside c.seek.new.self)) c.args.pfs.0 c.args.number c.args.name.now (Err (fault.Trouble c.in_err-dir.field-0.0)) = (cause, inr loads) in
    step_trouble f k _ c.args.pfs.0 c.args.number c.args.name.now c.in_err-dir.field-0.0 c.from_residual-in_err-dir.result c.from_residual-in_err-dir.ensures.1 ends

-- what all trees stand for

pub returns-in_err-found-clause-alike : goal.returns-in_err-found-clause-alike
returns-in_err-found-clause-alike g c = walks_alike g.N.Nodes.fields _ _ _ _ _ _ c.requires.sound c.in_err-found.ensures.walks c.in_err-found.ensures.beside (g.met.N.Nodes.told_later _ _ c.in_err-found.ensures.later)

pub returns-in_default-clause-alike : goal.returns-in_default-clause-alike
returns-in_default-clause-alike g c = walks_alike g.N.Nodes.fields _ _ _ _ _ _ c.requires.sound c.in_ok-found.ensures.walks c.in_ok-found.ensures.beside (g.met.N.Nodes.told_later _ _ c.in_ok-found.ensures.later)

pub returns-in_err-dir-clause-alike : goal.returns-in_err-dir-clause-alike
returns-in_err-dir-clause-alike g c =
    let walks = c.in_ok-found.ensures.walks in
    let first = walks_alike g.N.Nodes.fields _ _ _ _ _ _ c.requires.sound walks c.in_ok-found.ensures.beside (g.met.N.Nodes.told_later _ _ c.in_ok-found.ensures.later) in
    alike_trans first (unchanged_alike g.N.Nodes.fields _ _ _ _ _ _ walks.sound c.in_err-dir.ensures.same c.in_err-dir.ensures.beside (g.met.N.Nodes.told_later _ _ c.in_err-dir.ensures.later))

pub returns-in-Ok-clause-alike : goal.returns-in-Ok-clause-alike
returns-in-Ok-clause-alike g c =
    let h = g.N.Sets.forest c.leaf_of.new.n in
    let k = g.N.Sets.forest c.seek.new.self in
    let walks = c.in_ok-found.ensures.walks in
    let root = pfs_stays g.N.Nodes.fields _ h _ _ c.args.pfs.0 (walks_visit _ h walks) c.in_ok-found.ensures.beside c.requires.pfs in
    let path : Reaches h c.args.number c.args.pfs.0 (Some c.in-Some.leaf) = subst (λ (o : Option Ref). Reaches h c.args.number c.args.pfs.0 o) c.in-Some.is c.in_ok-found.ensures.path in
    let there = pfs_leaf h _ c.args.pfs.0 c.args.number c.in-Some.leaf walks.sound root path in
    let first = walks_alike g.N.Nodes.fields _ _ _ _ _ _ c.requires.sound walks c.in_ok-found.ensures.beside (g.met.N.Nodes.told_later _ _ c.in_ok-found.ensures.later) in
    let second = seeks_alike g.N.Nodes.fields _ _ _ _ _ _ c.args.pfs.0 c.in_ok-dir.dir.0 c.in-Some.leaf walks.sound there.0 c.in_ok-dir.ensures.ok c.in_ok-dir.ensures.beside (g.met.N.Nodes.told_later _ _ c.in_ok-dir.ensures.later) c.in_ok-dir.ensures.told in
    alike_trans first (alike_trans second (walks_alike g.N.Nodes.fields _ _ _ _ _ _ c.in_ok-dir.ensures.ok.brings.sound c.in-Ok.ensures.walks c.in-Ok.ensures.beside (g.met.N.Nodes.told_later _ _ c.in-Ok.ensures.later)))

pub returns-in-Err-clause-alike : goal.returns-in-Err-clause-alike
returns-in-Err-clause-alike g c =
    let h = g.N.Sets.forest c.leaf_of.new.n in
    let k = g.N.Sets.forest c.seek.new.self in
    let walks = c.in_ok-found.ensures.walks in
    let root = pfs_stays g.N.Nodes.fields _ h _ _ c.args.pfs.0 (walks_visit _ h walks) c.in_ok-found.ensures.beside c.requires.pfs in
    let path : Reaches h c.args.number c.args.pfs.0 (Some c.in-Some.leaf) = subst (λ (o : Option Ref). Reaches h c.args.number c.args.pfs.0 o) c.in-Some.is c.in_ok-found.ensures.path in
    let there = pfs_leaf h _ c.args.pfs.0 c.args.number c.in-Some.leaf walks.sound root path in
    let first = walks_alike g.N.Nodes.fields _ _ _ _ _ _ c.requires.sound walks c.in_ok-found.ensures.beside (g.met.N.Nodes.told_later _ _ c.in_ok-found.ensures.later) in
    let second = seeks_alike g.N.Nodes.fields _ _ _ _ _ _ c.args.pfs.0 c.in_ok-dir.dir.0 c.in-Some.leaf walks.sound there.0 c.in_ok-dir.ensures.ok c.in_ok-dir.ensures.beside (g.met.N.Nodes.told_later _ _ c.in_ok-dir.ensures.later) c.in_ok-dir.ensures.told in
    alike_trans first (alike_trans second (walks_alike g.N.Nodes.fields _ _ _ _ _ _ c.in_ok-dir.ensures.ok.brings.sound c.in-Err.ensures.walks c.in-Err.ensures.beside (g.met.N.Nodes.told_later _ _ c.in-Err.ensures.later)))

-- which nodes are loaded

pub returns-in_err-found-clause-loads : goal.returns-in_err-found-clause-loads
returns-in_err-found-clause-loads g c = path_loads (g.N.Sets.forest c.args.n.now) (g.N.Sets.forest c.leaf_of.new.n) _ c.args.pfs.0 c.args.number c.args.name.now c.requires.pfs.has.root c.in_err-found.ensures.tree

pub returns-in_default-clause-loads : goal.returns-in_default-clause-loads
returns-in_default-clause-loads g c = path_loads (g.N.Sets.forest c.args.n.now) (g.N.Sets.forest c.leaf_of.new.n) _ c.args.pfs.0 c.args.number c.args.name.now c.requires.pfs.has.root c.in_ok-found.ensures.tree

pub returns-in_err-dir-clause-loads : goal.returns-in_err-dir-clause-loads
returns-in_err-dir-clause-loads g c = path_loads (g.N.Sets.forest c.args.n.now) (g.N.Sets.forest c.seek.new.self) _ c.args.pfs.0 c.args.number c.args.name.now c.requires.pfs.has.root (loads_same _ _ _ _ _ _ c.in_ok-found.ensures.tree c.in_err-dir.ensures.same)

pub returns-in-Ok-clause-loads : goal.returns-in-Ok-clause-loads
returns-in-Ok-clause-loads g c =
    let h = g.N.Sets.forest c.leaf_of.new.n in
    let k = g.N.Sets.forest c.seek.new.self in
    let walks = c.in_ok-found.ensures.walks in
    let root = pfs_stays g.N.Nodes.fields _ h _ _ c.args.pfs.0 (walks_visit _ h walks) c.in_ok-found.ensures.beside c.requires.pfs in
    let path : Reaches h c.args.number c.args.pfs.0 (Some c.in-Some.leaf) = subst (λ (o : Option Ref). Reaches h c.args.number c.args.pfs.0 o) c.in-Some.is c.in_ok-found.ensures.path in
    let there = pfs_leaf h _ c.args.pfs.0 c.args.number c.in-Some.leaf walks.sound root path in
    let seeks = c.in_ok-dir.ensures.ok in
    let inode = c.in_ok-dir.ensures.inode.0 in
    let has = c.in_ok-dir.ensures.inode.1 in
    let member : IsMember k (held_by g.N.Nodes.fields (g.N.Sets.beside c.seek.new.self)) c.args.pfs.0 c.args.number c.in_ok-dir.dir.0 inode = record {
      leaf = c.in-Some.leaf;
      is_leaf = visits_leaf h k c.args.pfs.0 c.in-Some.leaf walks.sound (seeks_visit _ _ _ _ _ seeks) there.0;
      key_is = there.1;
      named = subst (λ n. IsRootOf k c.args.pfs.0 n c.in_ok-dir.dir.0) there.1 seeks.named;
      has = has;
    } in
    let f = g.N.Sets.forest c.args.n.now in
    let first : LoadsStep f h (held_by g.N.Nodes.fields (g.N.Sets.beside c.leaf_of.new.n)) c.args.pfs.0 c.args.number c.args.name.now = path_loads f h (held_by g.N.Nodes.fields (g.N.Sets.beside c.leaf_of.new.n)) c.args.pfs.0 c.args.number c.args.name.now c.requires.pfs.has.root c.in_ok-found.ensures.tree in
    let sought = subst (λ n. Seeks h k c.args.pfs.0 n c.in_ok-dir.dir.0) there.1 seeks in
    let second = inode_loads g.N.Nodes.fields f h k _ _ c.args.pfs.0 c.args.number c.in_ok-dir.dir.0 inode c.args.name.now walks.sound c.in_ok-dir.ensures.beside (seeks_visit _ _ _ _ _ seeks) sought member first in
    search_loads g.N.Nodes.fields f k (g.N.Sets.forest c.find.new.n) _ _ c.args.pfs.0 c.args.number c.in_ok-dir.dir.0 inode c.args.name.now seeks.brings.sound (walks_visit _ _ c.in-Ok.ensures.walks) c.in-Ok.ensures.beside member c.in-Ok.ensures.touched second (c.in-Ok.ensures.kind inode has)

pub returns-in-Err-clause-loads : goal.returns-in-Err-clause-loads
returns-in-Err-clause-loads g c =
    let h = g.N.Sets.forest c.leaf_of.new.n in
    let k = g.N.Sets.forest c.seek.new.self in
    let walks = c.in_ok-found.ensures.walks in
    let root = pfs_stays g.N.Nodes.fields _ h _ _ c.args.pfs.0 (walks_visit _ h walks) c.in_ok-found.ensures.beside c.requires.pfs in
    let path : Reaches h c.args.number c.args.pfs.0 (Some c.in-Some.leaf) = subst (λ (o : Option Ref). Reaches h c.args.number c.args.pfs.0 o) c.in-Some.is c.in_ok-found.ensures.path in
    let there = pfs_leaf h _ c.args.pfs.0 c.args.number c.in-Some.leaf walks.sound root path in
    let seeks = c.in_ok-dir.ensures.ok in
    let inode = c.in_ok-dir.ensures.inode.0 in
    let has = c.in_ok-dir.ensures.inode.1 in
    let member : IsMember k (held_by g.N.Nodes.fields (g.N.Sets.beside c.seek.new.self)) c.args.pfs.0 c.args.number c.in_ok-dir.dir.0 inode = record {
      leaf = c.in-Some.leaf;
      is_leaf = visits_leaf h k c.args.pfs.0 c.in-Some.leaf walks.sound (seeks_visit _ _ _ _ _ seeks) there.0;
      key_is = there.1;
      named = subst (λ n. IsRootOf k c.args.pfs.0 n c.in_ok-dir.dir.0) there.1 seeks.named;
      has = has;
    } in
    let f = g.N.Sets.forest c.args.n.now in
    let first : LoadsStep f h (held_by g.N.Nodes.fields (g.N.Sets.beside c.leaf_of.new.n)) c.args.pfs.0 c.args.number c.args.name.now = path_loads f h (held_by g.N.Nodes.fields (g.N.Sets.beside c.leaf_of.new.n)) c.args.pfs.0 c.args.number c.args.name.now c.requires.pfs.has.root c.in_ok-found.ensures.tree in
    let sought = subst (λ n. Seeks h k c.args.pfs.0 n c.in_ok-dir.dir.0) there.1 seeks in
    let second = inode_loads g.N.Nodes.fields f h k _ _ c.args.pfs.0 c.args.number c.in_ok-dir.dir.0 inode c.args.name.now walks.sound c.in_ok-dir.ensures.beside (seeks_visit _ _ _ _ _ seeks) sought member first in
    failed_loads g.N.Nodes.fields f k (g.N.Sets.forest c.find.new.n) _ _ c.args.pfs.0 c.args.number c.in_ok-dir.dir.0 inode c.args.name.now seeks.brings.sound (walks_visit _ _ c.in-Err.ensures.walks) c.in-Err.ensures.beside member c.in-Err.ensures.touched second c.in-Err.fault (c.in-Err.ensures.err inode has) (c.in-Err.ensures.none inode has)

-- what is known on the way

pub returns-in_err-found-clause-good : goal.returns-in_err-found-clause-good
returns-in_err-found-clause-good g c may l names has way = good_trouble c.in_err-found.field-0.0 c.from_residual.result c.from_residual.ensures.1 (c.in_err-found.ensures.good l has)

pub returns-in_err-dir-clause-good : goal.returns-in_err-dir-clause-good
returns-in_err-dir-clause-good g c may l names has way =
    let f = g.N.Sets.forest c.args.n.now in
    let h = g.N.Sets.forest c.leaf_of.new.n in
    let walks = c.in_ok-found.ensures.walks in
    let root = pfs_stays g.N.Nodes.fields f h _ _ c.args.pfs.0 (walks_visit f h walks) c.in_ok-found.ensures.beside c.requires.pfs in
    let path : Reaches h c.args.number c.args.pfs.0 (Some c.in-Some.leaf) = subst (λ (o : Option Ref). Reaches h c.args.number c.args.pfs.0 o) c.in-Some.is c.in_ok-found.ensures.path in
    let there = pfs_leaf h _ c.args.pfs.0 c.args.number c.in-Some.leaf walks.sound root path in
    let u : View = view_of g.N.Nodes.fields f (g.N.Sets.beside c.args.n.now) (g.N.Nodes.told c.args.n.now) in
    let w : View = view_of g.N.Nodes.fields h (g.N.Sets.beside c.leaf_of.new.n) (g.N.Nodes.told c.leaf_of.new.n) in
    let first = walks_reread u w c.requires.sound walks (beside_holds g.N.Nodes.fields f h _ _ (g.N.Nodes.told c.args.n.now) (g.N.Nodes.told c.leaf_of.new.n) c.in_ok-found.ensures.beside) (g.met.N.Nodes.told_later _ _ c.in_ok-found.ensures.later) in
    let known = subst (λ n. KnowsWay u may c.args.pfs.0 l n (c.args.name.now ∷ names)) (sym there.1) way in
    let good = way_block u w first may c.args.pfs.0 l c.in-Some.leaf c.args.name.now names c.requires.pfs.has.stands has (there.0).path c.in_err-dir.field-0.0 known c.in_err-dir.ensures.unloaded c.in_err-dir.ensures.good in
    good_trouble c.in_err-dir.field-0.0 c.from_residual-in_err-dir.result c.from_residual-in_err-dir.ensures.1 good

pub returns-in-Err-clause-good : goal.returns-in-Err-clause-good
returns-in-Err-clause-good g c may l names has way =
    let f = g.N.Sets.forest c.args.n.now in
    let h = g.N.Sets.forest c.leaf_of.new.n in
    let k = g.N.Sets.forest c.seek.new.self in
    let walks = c.in_ok-found.ensures.walks in
    let root = pfs_stays g.N.Nodes.fields f h _ _ c.args.pfs.0 (walks_visit f h walks) c.in_ok-found.ensures.beside c.requires.pfs in
    let path : Reaches h c.args.number c.args.pfs.0 (Some c.in-Some.leaf) = subst (λ (o : Option Ref). Reaches h c.args.number c.args.pfs.0 o) c.in-Some.is c.in_ok-found.ensures.path in
    let there = pfs_leaf h _ c.args.pfs.0 c.args.number c.in-Some.leaf walks.sound root path in
    let u : View = view_of g.N.Nodes.fields f (g.N.Sets.beside c.args.n.now) (g.N.Nodes.told c.args.n.now) in
    let w : View = view_of g.N.Nodes.fields h (g.N.Sets.beside c.leaf_of.new.n) (g.N.Nodes.told c.leaf_of.new.n) in
    let first = walks_reread u w c.requires.sound walks (beside_holds g.N.Nodes.fields f h _ _ (g.N.Nodes.told c.args.n.now) (g.N.Nodes.told c.leaf_of.new.n) c.in_ok-found.ensures.beside) (g.met.N.Nodes.told_later _ _ c.in_ok-found.ensures.later) in
    let known = subst (λ n. KnowsWay u may c.args.pfs.0 l n (c.args.name.now ∷ names)) (sym there.1) way in
    let v : View = view_of g.N.Nodes.fields k (g.N.Sets.beside c.seek.new.self) (g.N.Nodes.told c.seek.new.self) in
    let seeks = c.in_ok-dir.ensures.ok in
    let second = seeks_reread w v c.args.pfs.0 c.in_ok-dir.dir.0 c.in-Some.leaf walks.sound there.0 seeks (beside_holds g.N.Nodes.fields h k _ _ (g.N.Nodes.told c.leaf_of.new.n) (g.N.Nodes.told c.seek.new.self) c.in_ok-dir.ensures.beside) (g.met.N.Nodes.told_later _ _ c.in_ok-dir.ensures.later) c.in_ok-dir.ensures.told in
    way_found u w first may c.args.pfs.0 l c.in-Some.leaf c.args.name.now names c.requires.pfs.has.stands has (there.0).path v second c.in_ok-dir.dir.0 seeks (g.N.Sets.forest c.find.new.n) c.in-Err.fault c.in-Err.ensures.err (c.in-Err.ensures.good may) known

pub returns-in-Ok-clause-onward : goal.returns-in-Ok-clause-onward
returns-in-Ok-clause-onward g c may l names has way =
    let f = g.N.Sets.forest c.args.n.now in
    let h = g.N.Sets.forest c.leaf_of.new.n in
    let k = g.N.Sets.forest c.seek.new.self in
    let walks = c.in_ok-found.ensures.walks in
    let root = pfs_stays g.N.Nodes.fields f h _ _ c.args.pfs.0 (walks_visit f h walks) c.in_ok-found.ensures.beside c.requires.pfs in
    let path : Reaches h c.args.number c.args.pfs.0 (Some c.in-Some.leaf) = subst (λ (o : Option Ref). Reaches h c.args.number c.args.pfs.0 o) c.in-Some.is c.in_ok-found.ensures.path in
    let there = pfs_leaf h _ c.args.pfs.0 c.args.number c.in-Some.leaf walks.sound root path in
    let u : View = view_of g.N.Nodes.fields f (g.N.Sets.beside c.args.n.now) (g.N.Nodes.told c.args.n.now) in
    let w : View = view_of g.N.Nodes.fields h (g.N.Sets.beside c.leaf_of.new.n) (g.N.Nodes.told c.leaf_of.new.n) in
    let first = walks_reread u w c.requires.sound walks (beside_holds g.N.Nodes.fields f h _ _ (g.N.Nodes.told c.args.n.now) (g.N.Nodes.told c.leaf_of.new.n) c.in_ok-found.ensures.beside) (g.met.N.Nodes.told_later _ _ c.in_ok-found.ensures.later) in
    let known = subst (λ n. KnowsWay u may c.args.pfs.0 l n (c.args.name.now ∷ names)) (sym there.1) way in
    let v : View = view_of g.N.Nodes.fields k (g.N.Sets.beside c.seek.new.self) (g.N.Nodes.told c.seek.new.self) in
    let seeks = c.in_ok-dir.ensures.ok in
    let second = seeks_reread w v c.args.pfs.0 c.in_ok-dir.dir.0 c.in-Some.leaf walks.sound there.0 seeks (beside_holds g.N.Nodes.fields h k _ _ (g.N.Nodes.told c.leaf_of.new.n) (g.N.Nodes.told c.seek.new.self) c.in_ok-dir.ensures.beside) (g.met.N.Nodes.told_later _ _ c.in_ok-dir.ensures.later) c.in_ok-dir.ensures.told in
    let next = way_next u w first may c.args.pfs.0 l c.in-Some.leaf c.args.name.now names c.requires.pfs.has.stands has (there.0).path v second c.in_ok-dir.dir.0 seeks c.in-Ok.entry.number c.in-Ok.ensures.kind (c.in-Ok.ensures.agrees may) known in
    way_alike (returns-in-Ok-clause-alike g c) may c.args.pfs.0 l names c.in-Ok.entry.number c.requires.pfs.has.stands has next

-- the answer by what is known

pub returns-in_err-found-clause-agrees : goal.returns-in_err-found-clause-agrees
returns-in_err-found-clause-agrees g c u may l names a stands has way = trouble_agrees u may c.args.pfs.0 c.args.number l c.args.name.now names c.in_err-found.field-0.0 c.from_residual.result c.from_residual.ensures.1

pub returns-in_err-dir-clause-agrees : goal.returns-in_err-dir-clause-agrees
returns-in_err-dir-clause-agrees g c u may l names a stands has way = trouble_agrees u may c.args.pfs.0 c.args.number l c.args.name.now names c.in_err-dir.field-0.0 c.from_residual-in_err-dir.result c.from_residual-in_err-dir.ensures.1

pub returns-in_default-clause-agrees : goal.returns-in_default-clause-agrees
returns-in_default-clause-agrees g c u may l names a stands has way = nothing_agrees u _ a may c.args.pfs.0 c.args.number l c.args.name.now names stands has way (λ m listed. subst (λ (o : Option Ref). o ≡ leaf_with c.args.number m) c.in_default.is (c.in_ok-found.ensures.found m listed))

pub returns-in-Ok-clause-agrees : goal.returns-in-Ok-clause-agrees
returns-in-Ok-clause-agrees g c u may l names a stands has way =
    let f = g.N.Sets.forest c.args.n.now in
    let h = g.N.Sets.forest c.leaf_of.new.n in
    let k = g.N.Sets.forest c.seek.new.self in
    let walks = c.in_ok-found.ensures.walks in
    let root = pfs_stays g.N.Nodes.fields f h _ _ c.args.pfs.0 (walks_visit f h walks) c.in_ok-found.ensures.beside c.requires.pfs in
    let path : Reaches h c.args.number c.args.pfs.0 (Some c.in-Some.leaf) = subst (λ (o : Option Ref). Reaches h c.args.number c.args.pfs.0 o) c.in-Some.is c.in_ok-found.ensures.path in
    let there = pfs_leaf h _ c.args.pfs.0 c.args.number c.in-Some.leaf walks.sound root path in
    let o : View = view_of g.N.Nodes.fields f (g.N.Sets.beside c.args.n.now) (g.N.Nodes.told c.args.n.now) in
    let w : View = view_of g.N.Nodes.fields h (g.N.Sets.beside c.leaf_of.new.n) (g.N.Nodes.told c.leaf_of.new.n) in
    let r = walks_reread o w c.requires.sound walks (beside_holds g.N.Nodes.fields f h _ _ (g.N.Nodes.told c.args.n.now) (g.N.Nodes.told c.leaf_of.new.n) c.in_ok-found.ensures.beside) (g.met.N.Nodes.told_later _ _ c.in_ok-found.ensures.later) in
    let v : View = view_of g.N.Nodes.fields k (g.N.Sets.beside c.seek.new.self) (g.N.Nodes.told c.seek.new.self) in
    let seeks = c.in_ok-dir.ensures.ok in
    let s = seeks_reread w v c.args.pfs.0 c.in_ok-dir.dir.0 c.in-Some.leaf walks.sound there.0 seeks (beside_holds g.N.Nodes.fields h k _ _ (g.N.Nodes.told c.leaf_of.new.n) (g.N.Nodes.told c.seek.new.self) c.in_ok-dir.ensures.beside) (g.met.N.Nodes.told_later _ _ c.in_ok-dir.ensures.later) c.in_ok-dir.ensures.told in
    found_agrees_on u o a may c.args.pfs.0 c.args.number l c.args.name.now names stands has way w v r s c.in-Some.leaf there.1 (there.0).path c.in_ok-dir.dir.0 seeks c.in-Ok.entry.number c.in-Ok.ensures.kind (c.in-Ok.ensures.agrees may)

pub returns-in-Err-clause-agrees : goal.returns-in-Err-clause-agrees
returns-in-Err-clause-agrees g c u may l names a stands has way =
    let f = g.N.Sets.forest c.args.n.now in
    let h = g.N.Sets.forest c.leaf_of.new.n in
    let k = g.N.Sets.forest c.seek.new.self in
    let walks = c.in_ok-found.ensures.walks in
    let root = pfs_stays g.N.Nodes.fields f h _ _ c.args.pfs.0 (walks_visit f h walks) c.in_ok-found.ensures.beside c.requires.pfs in
    let path : Reaches h c.args.number c.args.pfs.0 (Some c.in-Some.leaf) = subst (λ (o : Option Ref). Reaches h c.args.number c.args.pfs.0 o) c.in-Some.is c.in_ok-found.ensures.path in
    let there = pfs_leaf h _ c.args.pfs.0 c.args.number c.in-Some.leaf walks.sound root path in
    let o : View = view_of g.N.Nodes.fields f (g.N.Sets.beside c.args.n.now) (g.N.Nodes.told c.args.n.now) in
    let w : View = view_of g.N.Nodes.fields h (g.N.Sets.beside c.leaf_of.new.n) (g.N.Nodes.told c.leaf_of.new.n) in
    let r = walks_reread o w c.requires.sound walks (beside_holds g.N.Nodes.fields f h _ _ (g.N.Nodes.told c.args.n.now) (g.N.Nodes.told c.leaf_of.new.n) c.in_ok-found.ensures.beside) (g.met.N.Nodes.told_later _ _ c.in_ok-found.ensures.later) in
    let v : View = view_of g.N.Nodes.fields k (g.N.Sets.beside c.seek.new.self) (g.N.Nodes.told c.seek.new.self) in
    let seeks = c.in_ok-dir.ensures.ok in
    let s = seeks_reread w v c.args.pfs.0 c.in_ok-dir.dir.0 c.in-Some.leaf walks.sound there.0 seeks (beside_holds g.N.Nodes.fields h k _ _ (g.N.Nodes.told c.leaf_of.new.n) (g.N.Nodes.told c.seek.new.self) c.in_ok-dir.ensures.beside) (g.met.N.Nodes.told_later _ _ c.in_ok-dir.ensures.later) c.in_ok-dir.ensures.told in
    failed_agrees_on u o a may c.args.pfs.0 c.args.number l c.args.name.now names stands has way w v r s c.in-Some.leaf there.1 (there.0).path c.in_ok-dir.dir.0 seeks k (g.N.Sets.forest c.find.new.n) c.in-Err.fault c.in-Err.ensures.err (c.in-Err.ensures.agrees may)

pub returns-in_err-found-clause-met_only : goal.returns-in_err-found-clause-met_only
returns-in_err-found-clause-met_only g c = handed_fault_met _ _ _ c.from_residual.result c.in_err-found.field-0.0 c.from_residual.ensures.1 (MeetsNone-refl _) c.in_err-found.ensures.met_only

pub returns-in_err-dir-clause-met_only : goal.returns-in_err-dir-clause-met_only
returns-in_err-dir-clause-met_only g c = handed_fault_met _ _ _ c.from_residual-in_err-dir.result c.in_err-dir.field-0.0 c.from_residual-in_err-dir.ensures.1 c.in_ok-found.ensures.none_met c.in_err-dir.ensures.met_only

pub returns-in-Ok-clause-none_met : goal.returns-in-Ok-clause-none_met
returns-in-Ok-clause-none_met g c = MeetsNone-trans _ _ _ (MeetsNone-trans _ _ _ c.in_ok-found.ensures.none_met c.in_ok-dir.ensures.none_met) c.in-Ok.ensures.none_met

pub returns-in-Err-clause-met_only : goal.returns-in-Err-clause-met_only
returns-in-Err-clause-met_only g c = fault_met_after _ _ _ c.in-Err.fault (MeetsNone-trans _ _ _ c.in_ok-found.ensures.none_met c.in_ok-dir.ensures.none_met) c.in-Err.ensures.met_only
