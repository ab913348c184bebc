use Rattle.std.proofs.Common.{◌≡◌, subst, true, ℕ, List, None}
use Rattle.h2_inode.specs.Nodes.{held_by}
use Rattle.h2_inode.specs.VisitLaws.{walks_visit, visits_trans, visits_path}
use Rattle.h2_inode.specs.PfsList.{ListedPfs}
use Rattle.h2_pfs.specs.declared.fault.PfsFault.{PfsFault}
use Rattle.h2_pfs.specs.declared.fault.PfsFault.TheVariants.{Trouble as Troubled}
use Rattle.h2_pfs.specs.Listing.{HasPfss, id_of}
use Rattle.h2_pfs.specs.Faults.{IsAddFault, FaultMeetsOnly, IsFaultIn}
use Rattle.h2_pfs.specs.Addition.{HasSpace}
use Rattle.h2_inode.specs.LoadedLaws.{alike_trans}
use Rattle.h2_inode.specs.AlikeLaws.{walks_alike}
use Rattle.h2_pfs.proofs.Loading.{tree_loads, loads_trans}
use Rattle.h2_pfs.proofs.Apart.{founds_others}
use Rattle.h2_tree.specs.AnswerLaws.{always_err, beside_on}
use Rattle.h2_pfs.proofs.Answering.{fault_met_after, carried_err}
use Rattle.h2_pfs.proofs.Scanned.{super_stays}
use Rattle.h2_pfs.proofs.Kept.{found_as}
use Rattle.h2_pfs.proofs.Gone.{held_beside}
use Rattle.h2_pfs.proofs.Planted.{free_path, visits_takes}
use Rattle.h2_pfs.proofs.Spaced.{list_stays, fault_before}
use Rattle.h2_pfs.proofs.Added.{added}
use Rattle.h2_pfs.proofs.Single.{founded_one}
use Rattle.h2_inode.specs.NamesOneLaws.{walks_one}
use Rattle.h2_set.specs.MetLaws.{MeetsNone-trans}
use Rattle.h2_pfs.proofs.adding.pfs_add.Goals as goal

pub returns-in_err-make_space-clause-fault : goal.returns-in_err-make_space-clause-fault
returns-in_err-make_space-clause-fault g c =
    let f = g.N.Sets.forest c.args.n.now in
    let h = g.N.Sets.forest c.lookup.new.n in
    let k = g.N.Sets.forest c.make_space.new.n in
    let new = held_by g.N.Nodes.fields (g.N.Sets.beside c.make_space.new.n) in
    let top = c.args.root.0 in
    let e = c.in_err-make_space.field-0.0 in
    let fault = fault_before f h k new top c.args.leaf.key c.as_slice.result.now e c.requires.sound c.requires.super_root.stands c.in_ok-lookup.ensures.walks c.in_err-make_space.ensures.fault in
    carried_err (IsAddFault f k new top c.args.inode.name c.args.leaf.key) c.from_residual-in_err-make_space.result e c.from_residual-in_err-make_space.ensures.1 (subst (λ (z : List ℕ). IsAddFault f k new top z c.args.leaf.key e) c.as_slice.ensures.bytes fault)

pub returns-in_err-make_space-clause-refused : goal.returns-in_err-make_space-clause-refused
returns-in_err-make_space-clause-refused g c =
    let f = g.N.Sets.forest c.args.n.now in
    let old = held_by g.N.Nodes.fields (g.N.Sets.beside c.args.n.now) in
    let was = g.N.Nodes.told c.args.n.now in
    let top = c.args.root.0 in
    let e = c.in_err-make_space.field-0.0 in
    let look = c.in_ok-lookup.ensures in
    let Refused = λ (x : PfsFault). (next : ℕ) (pfss : List ListedPfs) → HasPfss f old was top next pfss → IsFaultIn c.args.inode.name pfss x in
    let refused = λ (next : ℕ) (pfss : List ListedPfs) (has : HasPfss f old was top next pfss). subst (λ (z : List ℕ). IsFaultIn z pfss e) c.as_slice.ensures.bytes (c.in_err-make_space.ensures.refused next pfss (list_stays g.N.Nodes.fields f (g.N.Sets.forest c.lookup.new.n) (g.N.Sets.beside c.args.n.now) (g.N.Sets.beside c.lookup.new.n) was (g.N.Nodes.told c.lookup.new.n) top c.args.leaf.key c.args.leaf.key next pfss c.requires.sound c.requires.super_root.stands look.walks look.touched look.beside (g.met.N.Nodes.told_later _ _ look.later) has)) in
    carried_err Refused c.from_residual-in_err-make_space.result e c.from_residual-in_err-make_space.ensures.1 refused

pub returns-in_err-lookup-clause-refused : goal.returns-in_err-lookup-clause-refused
returns-in_err-lookup-clause-refused g c =
    let f = g.N.Sets.forest c.args.n.now in
    let old = held_by g.N.Nodes.fields (g.N.Sets.beside c.args.n.now) in
    let was = g.N.Nodes.told c.args.n.now in
    let top = c.args.root.0 in
    let Refused = λ (x : PfsFault). (next : ℕ) (pfss : List ListedPfs) → HasPfss f old was top next pfss → IsFaultIn c.args.inode.name pfss x in
    carried_err Refused c.from_residual.result (Troubled c.in_err-lookup.field-0.0) c.from_residual.ensures.1 (λ next pfss has. c.in_err-lookup.ensures.good has.leaves has.has.read)

pub returns-in-Err-clause-refused : goal.returns-in-Err-clause-refused
returns-in-Err-clause-refused g c = λ next pfss has bad. bad

pub returns-in_err-make_space-clause-visits : goal.returns-in_err-make_space-clause-visits
returns-in_err-make_space-clause-visits g c = always_err c.from_residual-in_err-make_space.result (visits_trans _ _ _ (walks_visit _ _ c.in_ok-lookup.ensures.walks) c.in_err-make_space.ensures.visits)

pub returns-in_err-lookup-clause-visits : goal.returns-in_err-lookup-clause-visits
returns-in_err-lookup-clause-visits g c = always_err c.from_residual.result (walks_visit _ _ c.in_err-lookup.ensures.walks)

pub returns-in_err-lookup-clause-alike : goal.returns-in_err-lookup-clause-alike
returns-in_err-lookup-clause-alike g c =
    let look = c.in_err-lookup.ensures in
    always_err c.from_residual.result (walks_alike g.N.Nodes.fields _ _ _ _ _ _ c.requires.sound look.walks look.beside (g.met.N.Nodes.told_later _ _ look.later))

pub returns-in_err-lookup-clause-loads : goal.returns-in_err-lookup-clause-loads
returns-in_err-lookup-clause-loads g c = always_err c.from_residual.result (tree_loads _ _ c.args.root.0 _ _ c.requires.super_root.root c.in_err-lookup.ensures.tree)

pub returns-in_err-make_space-clause-loads : goal.returns-in_err-make_space-clause-loads
returns-in_err-make_space-clause-loads g c =
    let look = c.in_ok-lookup.ensures in
    let super = c.requires.super_root in
    always_err c.from_residual-in_err-make_space.result (loads_trans _ _ _ c.args.root.0 look.walks.sound (look.walks.stays _ super.stands).place.stands c.in_err-make_space.ensures.visits (tree_loads _ _ c.args.root.0 _ _ super.root look.tree) c.in_err-make_space.ensures.loads)

pub returns-in_err-make_space-clause-alike : goal.returns-in_err-make_space-clause-alike
returns-in_err-make_space-clause-alike g c =
    let look = c.in_ok-lookup.ensures in
    always_err c.from_residual-in_err-make_space.result (alike_trans (walks_alike g.N.Nodes.fields _ _ _ _ _ _ c.requires.sound look.walks look.beside (g.met.N.Nodes.told_later _ _ look.later)) c.in_err-make_space.ensures.alike)

pub found-requires-clause-super_root : goal.found-requires-clause-super_root
found-requires-clause-super_root g c = super_stays _ _ c.args.root.0 c.requires.super_root (visits_trans _ _ _ (walks_visit _ _ c.in_ok-lookup.ensures.walks) c.in_ok-make_space.ensures.visits)

pub found-requires-clause-takes : goal.found-requires-clause-takes
found-requires-clause-takes g c = visits_takes _ _ c.args.root.0 c.args.leaf c.requires.super_root.root c.requires.super_root.stands (visits_trans _ _ _ (walks_visit _ _ c.in_ok-lookup.ensures.walks) c.in_ok-make_space.ensures.visits) c.requires.takes

pub found-requires-clause-path : goal.found-requires-clause-path
found-requires-clause-path g c =
    let look = c.in_ok-lookup.ensures in
    let top = c.args.root.0 in
    let stands = c.requires.super_root.stands in
    let path = free_path (g.N.Sets.forest c.args.n.now) (g.N.Sets.forest c.lookup.new.n) top c.args.leaf.key c.in_ok-lookup.field-0 c.requires.sound stands look.walks look.found look.path c.requires.free in
    visits_path look.walks.sound c.in_ok-make_space.ensures.visits (look.walks.stays top stands).place.stands path

pub returns-in-Ok-clause-adds : goal.returns-in-Ok-clause-adds
returns-in-Ok-clause-adds g c =
    let look = c.in_ok-lookup.ensures in
    let made = c.in_ok-make_space.ensures in
    let k = g.N.Sets.forest c.make_space.new.n in
    let mid = held_by g.N.Nodes.fields (g.N.Sets.beside c.make_space.new.n) in
    let visits = visits_trans _ _ _ (walks_visit _ _ look.walks) made.visits in
    let first = c.requires.super_root in
    let super = super_stays _ _ c.args.root.0 first visits in
    record {
      then = k;
      holds = mid;
      tells = g.N.Nodes.told c.make_space.new.n;
      visits = visits;
      loads = loads_trans _ _ _ c.args.root.0 look.walks.sound (look.walks.stays _ first.stands).place.stands made.visits (tree_loads _ _ c.args.root.0 _ _ first.root look.tree) made.loads;
      alike = alike_trans (walks_alike g.N.Nodes.fields _ _ _ _ _ _ c.requires.sound look.walks look.beside (g.met.N.Nodes.told_later _ _ look.later)) made.alike;
      before = held_beside g.N.Nodes.fields _ _ _ _ (beside_on _ _ _ _ _ _ (λ m st. (look.walks.stays m st).place.stands) look.beside made.beside);
      after = held_beside g.N.Nodes.fields _ _ _ _ c.in-Ok.ensures.beside;
      space = subst (λ (z : List ℕ). HasSpace k mid c.args.root.0 z) c.as_slice.ensures.bytes made.space.0;
      founds = c.in-Ok.ensures.founds;
      others = λ now. founds_others g.N.Nodes.fields _ _ _ _ (g.N.Nodes.told c.make_space.new.n) now c.args.root.0 c.args.leaf c.args.inode made.visits.sound super.stands super.root c.in-Ok.ensures.beside c.in-Ok.ensures.founds;
    }

pub returns-in-Ok-clause-listed : goal.returns-in-Ok-clause-listed
returns-in-Ok-clause-listed g c next after known has le less =
    let f = g.N.Sets.forest c.args.n.now in
    let h = g.N.Sets.forest c.lookup.new.n in
    let k = g.N.Sets.forest c.make_space.new.n in
    let look = c.in_ok-lookup.ensures in
    let made = c.in_ok-make_space.ensures in
    let top = c.args.root.0 in
    let super = c.requires.super_root in
    let there = list_stays g.N.Nodes.fields f h (g.N.Sets.beside c.args.n.now) (g.N.Sets.beside c.lookup.new.n) (g.N.Nodes.told c.args.n.now) (g.N.Nodes.told c.lookup.new.n) top c.args.leaf.key c.args.leaf.key next known c.requires.sound super.stands look.walks look.touched look.beside (g.met.N.Nodes.told_later _ _ look.later) has in
    let kept = made.space.1 next known there in
    let space = made.space.0 in
    let absent = found_as c.args.inode.name space.pfss known None kept.1 (subst (λ (z : List ℕ). id_of z space.pfss ≡ None) c.as_slice.ensures.bytes space.absent) in
    let at_k = super_stays f k top super (visits_trans f h k (walks_visit f h look.walks) made.visits) in
    let kind = ((super.allows c.args.leaf).0 (subst (λ m. f.allows m c.args.leaf ≡ true) super.root c.requires.takes.allowed)).0 in
    added g.N.Nodes.fields k (g.N.Sets.forest c.found.new.n) (g.N.Sets.beside c.make_space.new.n) (g.N.Sets.beside c.found.new.n) (g.N.Nodes.told c.make_space.new.n) (g.N.Nodes.told c.found.new.n) top next after c.args.leaf c.args.inode known space.pfss made.visits.sound at_k.stands at_k.root kind c.requires.pfs c.requires.number c.requires.plantable c.in-Ok.ensures.beside space.meets c.in-Ok.ensures.founds absent le less kept.0

pub returns-in-Ok-clause-beside : goal.returns-in-Ok-clause-beside
returns-in-Ok-clause-beside g c =
    let look = c.in_ok-lookup.ensures in
    let made = c.in_ok-make_space.ensures in
    let visits = visits_trans _ _ _ (walks_visit _ _ look.walks) made.visits in
    let first = beside_on _ _ _ _ _ _ (λ m st. (look.walks.stays m st).place.stands) look.beside made.beside in
    beside_on _ _ _ _ _ _ (λ m st. (visits.stays m st).place.stands) first c.in-Ok.ensures.beside

pub returns-in-Ok-clause-later : goal.returns-in-Ok-clause-later
returns-in-Ok-clause-later g c = g.met.N.Sets.later_later _ _ _ (g.met.N.Sets.later_later _ _ _ c.in_ok-lookup.ensures.later c.in_ok-make_space.ensures.later) c.in-Ok.ensures.later

pub returns-in-Err-clause-visits : goal.returns-in-Err-clause-visits
returns-in-Err-clause-visits g c = visits_trans _ _ _ (visits_trans _ _ _ (walks_visit _ _ c.in_ok-lookup.ensures.walks) c.in_ok-make_space.ensures.visits) c.in-Err.ensures.visits

pub returns-in-Err-clause-alike : goal.returns-in-Err-clause-alike
returns-in-Err-clause-alike g c =
    let look = c.in_ok-lookup.ensures in
    alike_trans (alike_trans (walks_alike g.N.Nodes.fields _ _ _ _ _ _ c.requires.sound look.walks look.beside (g.met.N.Nodes.told_later _ _ look.later)) c.in_ok-make_space.ensures.alike) c.in-Err.ensures.alike

pub returns-in-Err-clause-loads : goal.returns-in-Err-clause-loads
returns-in-Err-clause-loads g c =
    let look = c.in_ok-lookup.ensures in
    let made = c.in_ok-make_space.ensures in
    let super = c.requires.super_root in
    let visits = visits_trans _ _ _ (walks_visit _ _ look.walks) made.visits in
    loads_trans _ _ _ c.args.root.0 made.visits.sound (visits.stays _ super.stands).place.stands c.in-Err.ensures.visits (loads_trans _ _ _ c.args.root.0 look.walks.sound (look.walks.stays _ super.stands).place.stands made.visits (tree_loads _ _ c.args.root.0 _ _ super.root look.tree) made.loads) c.in-Err.ensures.loads

pub returns-in-Err-clause-beside : goal.returns-in-Err-clause-beside
returns-in-Err-clause-beside g c =
    let look = c.in_ok-lookup.ensures in
    let made = c.in_ok-make_space.ensures in
    let visits = visits_trans _ _ _ (walks_visit _ _ look.walks) made.visits in
    let first = beside_on _ _ _ _ _ _ (λ m st. (look.walks.stays m st).place.stands) look.beside made.beside in
    beside_on _ _ _ _ _ _ (λ m st. (visits.stays m st).place.stands) first c.in-Err.ensures.beside

pub returns-in_err-lookup-clause-one : goal.returns-in_err-lookup-clause-one
returns-in_err-lookup-clause-one g c names = walks_one _ _ names c.in_err-lookup.ensures.walks

pub returns-in_err-make_space-clause-one : goal.returns-in_err-make_space-clause-one
returns-in_err-make_space-clause-one g c names =
    let look = c.in_ok-lookup.ensures in
    c.in_err-make_space.ensures.visits.names_one look.walks.sound (walks_one _ _ names look.walks)

pub returns-in-Err-clause-one : goal.returns-in-Err-clause-one
returns-in-Err-clause-one g c names =
    let look = c.in_ok-lookup.ensures in
    let made = c.in_ok-make_space.ensures in
    c.in-Err.ensures.visits.names_one made.visits.sound (made.visits.names_one look.walks.sound (walks_one _ _ names look.walks))

pub returns-in-Ok-clause-one : goal.returns-in-Ok-clause-one
returns-in-Ok-clause-one g c names =
    let f = g.N.Sets.forest c.args.n.now in
    let h = g.N.Sets.forest c.lookup.new.n in
    let k = g.N.Sets.forest c.make_space.new.n in
    let look = c.in_ok-lookup.ensures in
    let made = c.in_ok-make_space.ensures in
    let super = super_stays f k c.args.root.0 c.requires.super_root (visits_trans f h k (walks_visit f h look.walks) made.visits) in
    founded_one k (g.N.Sets.forest c.found.new.n) (held_by g.N.Nodes.fields (g.N.Sets.beside c.found.new.n)) c.args.root.0 c.args.leaf c.args.inode super.stands super.root c.in-Ok.ensures.founds (made.visits.names_one look.walks.sound (walks_one f h names look.walks))

pub returns-in_err-lookup-clause-met_only : goal.returns-in_err-lookup-clause-met_only
returns-in_err-lookup-clause-met_only g c =
    let Met = FaultMeetsOnly (g.N.Sets.forest c.args.n.now) (g.N.Sets.forest c.lookup.new.n) in
    carried_err Met c.from_residual.result (Troubled c.in_err-lookup.field-0.0) c.from_residual.ensures.1 c.in_err-lookup.ensures.met_only

pub returns-in_err-make_space-clause-met_only : goal.returns-in_err-make_space-clause-met_only
returns-in_err-make_space-clause-met_only g c =
    let Met = FaultMeetsOnly (g.N.Sets.forest c.args.n.now) (g.N.Sets.forest c.make_space.new.n) in
    carried_err Met c.from_residual-in_err-make_space.result c.in_err-make_space.field-0.0 c.from_residual-in_err-make_space.ensures.1 (fault_met_after _ _ _ c.in_err-make_space.field-0.0 c.in_ok-lookup.ensures.none_met c.in_err-make_space.ensures.met_only)

pub returns-in-Ok-clause-none_met : goal.returns-in-Ok-clause-none_met
returns-in-Ok-clause-none_met g c = MeetsNone-trans _ _ _ (MeetsNone-trans _ _ _ c.in_ok-lookup.ensures.none_met c.in_ok-make_space.ensures.none_met) c.in-Ok.ensures.none_met

pub returns-in-Err-clause-met_only : goal.returns-in-Err-clause-met_only
returns-in-Err-clause-met_only g c = MeetsNone-trans _ _ _ (MeetsNone-trans _ _ _ c.in_ok-lookup.ensures.none_met c.in_ok-make_space.ensures.none_met) c.in-Err.ensures.none_met
