use Rattle.std.proofs.Common.{◌≡◌, ◌+◌, sym, subst, List, rules}
use Rattle.std.specs.Prelude.{All, ◌⊎◌}
use Rattle.h2_ref.specs.declared.faults.Trouble.{Trouble}
use Rattle.h2_ref.specs.declared.faults.Trouble.TheVariants.{NoMemory}
use Rattle.h2_ref.specs.declared.reference.Ref.{Ref}
use Rattle.h2_ref.specs.Ref.{IsValid}
use Rattle.h2_set.specs.StayLaws.{Walks-trans, Unchanged-walks}
use Rattle.h2_tree.specs.Changes.{LoadsIn, Lists}
use Rattle.h2_inode.specs.VisitLaws.{walks_visit, visits_inode}
use Rattle.h2_dir.proofs.Paths.{lists_valid, lists_same}
use Rattle.h2_set.specs.Forest.{LeavesOf}
use Rattle.h2_set.specs.Calls.{IsBad}
use Rattle.h2_dir.specs.Names.{AllNamed, AnyLongCandidate}
use Rattle.h2_dir.proofs.Known.{carried_err, no_bad_search}
use Rattle.h2_dir.specs.Finding.{MayLoad}
use Rattle.h2_dir.proofs.Unchanging.{beside_walks}
use Rattle.h2_dir.proofs.Searched.{loads_same, scanned_stays, candidate_loads}
use Rattle.h2_set.specs.MetLaws.{MeetsNone-refl, MeetsNone-trans, handed_met_only}
use Rattle.h2_dir.proofs.searching.search.Goals as goal

pub range-requires-clause-stands : goal.range-requires-clause-stands
range-requires-clause-stands g c = (c.requires.inode.1).stands

pub scan-requires-clause-valid : goal.scan-requires-clause-valid
scan-requires-clause-valid g c =
    let walks = c.in_ok-leaves.ensures.walks in
    let i = c.requires.inode in
    let now = visits_inode g.N.Nodes.fields _ _ _ _ _ i.0 (walks_visit _ _ walks) c.in_ok-leaves.ensures.beside i.1 in
    subst (λ (xs : List Ref). All IsValid xs) (sym c.deref.ensures.value) (lists_valid _ _ _ _ _ i.0 _ walks.sound now c.in_ok-leaves.ensures.lists)

pub returns-in_err-place-clause-walks : goal.returns-in_err-place-clause-walks
returns-in_err-place-clause-walks g c = Walks-trans _ _ _ c.in_ok-leaves.ensures.walks (Unchanged-walks _ _ c.in_err-place.ensures.same)

pub returns-in_err-place-clause-touched : goal.returns-in_err-place-clause-touched
returns-in_err-place-clause-touched g c =
    let f = g.N.Sets.forest c.args.n.now in
    subst (λ k. LoadsIn f (g.N.Sets.forest c.scan.new.n) c.args.dir.0 k (k + 32767)) c.requires.least (loads_same _ _ _ _ _ _ c.in_ok-leaves.ensures.tree c.in_err-place.ensures.same)

pub returns-in_err-leaves-clause-touched : goal.returns-in_err-leaves-clause-touched
returns-in_err-leaves-clause-touched g c = subst (λ k. LoadsIn (g.N.Sets.forest c.args.n.now) (g.N.Sets.forest c.range.new.n) c.args.dir.0 k (k + 32767)) c.requires.least c.in_err-leaves.ensures.tree

pub returns-clause-walks : goal.returns-clause-walks
returns-clause-walks g c = Walks-trans _ _ _ c.in_ok-leaves.ensures.walks (Unchanged-walks _ _ c.in_ok-place.ensures.same)

pub returns-clause-lists : goal.returns-clause-lists
returns-clause-lists g c =
    let walks = c.in_ok-leaves.ensures.walks in
    let stands = (walks.stays c.args.dir.0 (c.requires.inode.1).stands).place.stands in
    subst (λ k. Lists (g.N.Sets.forest c.scan.new.n) c.args.dir.0 k (k + 32767) c.in_ok-leaves.leaves.items) c.requires.least (lists_same _ _ _ _ _ _ walks.sound stands c.in_ok-place.ensures.same c.in_ok-leaves.ensures.lists)

pub returns-clause-scanned : goal.returns-clause-scanned
returns-clause-scanned g c = scanned_stays _ _ _ _ _ c.in_ok-place.place c.deref.ensures.value (λ r. sym (c.in_ok-place.ensures.same.fixed.name r)) c.in_ok-place.ensures.scanned

pub returns-clause-touched : goal.returns-clause-touched
returns-clause-touched g c =
    let f = g.N.Sets.forest c.args.n.now in
    subst (λ k. LoadsIn f (g.N.Sets.forest c.scan.new.n) c.args.dir.0 k (k + 32767)) c.requires.least (loads_same _ _ _ _ _ _ c.in_ok-leaves.ensures.tree c.in_ok-place.ensures.same)

pub returns-in_err-place-clause-unread : goal.returns-in_err-place-clause-unread
returns-in_err-place-clause-unread g c =
    let f = g.N.Sets.forest c.args.n.now in
    let now = g.N.Sets.forest c.scan.new.n in
    let items = c.in_ok-leaves.leaves.items in
    let name = c.args.name.now in
    let e = c.in_err-place.field-0.0 in
    let walks = c.in_ok-leaves.ensures.walks in
    let stands = (walks.stays c.args.dir.0 (c.requires.inode.1).stands).place.stands in
    let lists = subst (λ k. Lists now c.args.dir.0 k (k + 32767) items) c.requires.least (lists_same _ _ _ _ _ _ walks.sound stands c.in_err-place.ensures.same c.in_ok-leaves.ensures.lists) in
    let unread : (e ≡ NoMemory) ⊎ AnyLongCandidate items name = subst (λ (xs : List Ref). (e ≡ NoMemory) ⊎ AnyLongCandidate xs name) c.deref.ensures.value c.in_err-place.ensures.unread in
    let loads : MayLoad f now c.args.dir.0 name e = candidate_loads f now c.args.dir.0 name items e lists unread in
    search (loads, rules)

pub returns-clause-beside : goal.returns-clause-beside
returns-clause-beside g c = beside_walks _ _ _ _ _ _ c.in_ok-leaves.ensures.walks c.in_ok-leaves.ensures.beside c.in_ok-place.ensures.beside

pub returns-in_err-leaves-clause-good : goal.returns-in_err-leaves-clause-good
returns-in_err-leaves-clause-good g c =
    let f = g.N.Sets.forest c.args.n.now in
    let good : (l : List Ref) → LeavesOf f c.args.dir.0 l → AllNamed f l → IsBad c.in_err-leaves.field-0.0 → ⊥ = λ l has named. c.in_err-leaves.ensures.good l has in
    search (good, rules)

pub returns-in_err-place-clause-good : goal.returns-in_err-place-clause-good
returns-in_err-place-clause-good g c =
    let f = g.N.Sets.forest c.args.n.now in
    let Good : Trouble → Type 0 = λ e. (l : List Ref) → LeavesOf f c.args.dir.0 l → AllNamed f l → IsBad e → ⊥ in
    carried_err Good c.from_residual-in_err-place.result c.in_err-place.field-0.0 c.from_residual-in_err-place.ensures.1
    (no_bad_search f (g.N.Sets.forest c.range.new.n) _ c.in_ok-leaves.leaves.items _ c.args.dir.0 c.in_err-place.field-0.0 c.in_ok-leaves.ensures.walks.fixed.name c.deref.ensures.value c.in_ok-leaves.ensures.found c.in_err-place.ensures.good)

pub returns-in_err-leaves-clause-met_only : goal.returns-in_err-leaves-clause-met_only
returns-in_err-leaves-clause-met_only g c = handed_met_only _ _ _ c.from_residual.result c.in_err-leaves.field-0.0 c.from_residual.ensures.1 (MeetsNone-refl _) c.in_err-leaves.ensures.met_only

pub returns-in_err-place-clause-met_only : goal.returns-in_err-place-clause-met_only
returns-in_err-place-clause-met_only g c = handed_met_only _ _ _ c.from_residual-in_err-place.result c.in_err-place.field-0.0 c.from_residual-in_err-place.ensures.1 c.in_ok-leaves.ensures.none_met c.in_err-place.ensures.met_only

pub returns-clause-none_met : goal.returns-clause-none_met
returns-clause-none_met g c = MeetsNone-trans _ _ _ c.in_ok-leaves.ensures.none_met c.in_ok-place.ensures.none_met
