use Rattle.std.proofs.Common.{sym, subst, List, rules}
use Rattle.std.specs.Prelude.{All, ◌≡◌, ◌⊎◌}
use Rattle.h2_ref.specs.declared.faults.Trouble.TheVariants.{NoMemory}
use Rattle.h2_ref.specs.declared.reference.Ref.{Ref}
use Rattle.h2_set.specs.StayLaws.{Walks-refl, Walks-trans, Unchanged-walks}
use Rattle.h2_inode.specs.VisitLaws.{walks_visit, visits_inode}
use Rattle.h2_inode.specs.Access.{OneByOne}
use Rattle.h2_dir.specs.Listing.{IsEntryLeaf, SaysEntry, AnyLongName, ListMayLoad, ListFails}
use Rattle.h2_dir.specs.declared.fault.DirFault.TheVariants as fault
use Rattle.h2_set.specs.Calls.{HasCause, IsBad}
use Rattle.h2_dir.specs.Names.{AllNamed}
use Rattle.h2_dir.specs.Finding.{IsBadBlock}
use Rattle.h2_dir.proofs.Known.{named_kept, entries_named}
use Rattle.h2_dir.proofs.Walked.{cause_earlier}
use Rattle.h2_dir.proofs.Listed.{entry_leaves, each_stays}
use Rattle.h2_dir.proofs.Paths.{lists_same}
use Rattle.h2_dir.proofs.Searched.{loads_same, loads_none}
use Rattle.h2_dir.proofs.Told.{lists_entries, long_loads}
use Rattle.h2_set.specs.MetLaws.{MeetsNone-refl, MeetsNone-trans}
use Rattle.h2_dir.proofs.Meeting.{handed_fault_met}
use Rattle.h2_dir.proofs.listing.list.Goals as goal

pub returns-then-not-is_directory-clause-walks : goal.returns-then-not-is_directory-clause-walks
returns-then-not-is_directory-clause-walks g c = Walks-refl _ c.requires.sound

pub all_named-requires-clause-leaves : goal.all_named-requires-clause-leaves
all_named-requires-clause-leaves g c =
    let i = c.requires.inode in
    let walks = c.in_ok-leaves.ensures.walks in
    let kind = (c.is_directory.ensures i.0 i.1).0 c.if-not-is_directory.false in
    let leaves = entry_leaves _ _ _ _ _ i.0 c.in_ok-leaves.leaves.items walks.sound (visits_inode g.N.Nodes.fields _ _ _ _ _ _ (walks_visit _ _ walks) c.in_ok-leaves.ensures.beside i.1) kind c.in_ok-leaves.ensures.lists in
    subst (λ (xs : List Ref). All IsEntryLeaf xs) (sym c.deref.ensures.value) leaves

pub returns-in_err-all-clause-walks : goal.returns-in_err-all-clause-walks
returns-in_err-all-clause-walks g c = Walks-trans _ _ _ c.in_ok-leaves.ensures.walks (Unchanged-walks _ _ c.in_err-all.ensures.same)

pub returns-in-Ok-clause-walks : goal.returns-in-Ok-clause-walks
returns-in-Ok-clause-walks g c = Walks-trans _ _ _ c.in_ok-leaves.ensures.walks (Unchanged-walks _ _ c.in_ok-all.ensures.same)

pub returns-clause-walks : goal.returns-clause-walks
returns-clause-walks g c = Walks-trans _ _ _ c.in_ok-leaves.ensures.walks (Unchanged-walks _ _ c.in_ok-all.ensures.same)

pub returns-in-Ok-clause-listing : goal.returns-in-Ok-clause-listing
returns-in-Ok-clause-listing g c =
    let walks = c.in_ok-leaves.ensures.walks in
    let i = c.requires.inode in
    let stands = (walks.stays c.args.dir.0 (i.1).stands).place.stands in
    record {
      leaves = c.in_ok-leaves.leaves.items;
      all = lists_same _ _ _ _ _ _ walks.sound stands c.in_ok-all.ensures.same c.in_ok-leaves.ensures.lists;
      named = c.in_ok-all.all.items;
      each = each_stays (g.N.Sets.forest c.range.new.n) (g.N.Sets.forest c.all_named.new.n) _ _ c.in_ok-all.ensures.same.fixed.name (subst (λ (xs : List Ref). OneByOne (SaysEntry (g.N.Sets.forest c.range.new.n)) xs c.in_ok-all.all.items) c.deref.ensures.value c.in_ok-all.ensures.each);
      same = c.sort_by_name.ensures.same;
      sorted = c.in-Ok.ensures.sorted;
    }

pub returns-in-Ok-clause-entries : goal.returns-in-Ok-clause-entries
returns-in-Ok-clause-entries g c may size es h =
    let f = g.N.Sets.forest c.args.n.now in
    let middle = g.N.Sets.forest c.range.new.n in
    let items = c.in_ok-leaves.leaves.items in
    let each : OneByOne (SaysEntry middle) items c.in_ok-all.all.items = subst (λ (xs : List Ref). OneByOne (SaysEntry middle) xs c.in_ok-all.all.items) c.deref.ensures.value c.in_ok-all.ensures.each in
    let told = each_stays middle f items c.in_ok-all.all.items (λ r. sym (c.in_ok-leaves.ensures.walks.fixed.name r)) each in
    lists_entries f _ _ may c.args.dir.0 size es h items c.in_ok-all.all.items c.sort_by_name.new.all.items c.in_ok-leaves.ensures.found told c.sort_by_name.ensures.same c.in-Ok.ensures.sorted

pub returns-in_err-all-clause-err : goal.returns-in_err-all-clause-err
returns-in_err-all-clause-err g c i h =
    let f = g.N.Sets.forest c.args.n.now in
    let middle = g.N.Sets.forest c.range.new.n in
    let now = g.N.Sets.forest c.all_named.new.n in
    let walks = c.in_ok-leaves.ensures.walks in
    let stands = (walks.stays c.args.dir.0 h.stands).place.stands in
    let lists = lists_same middle now c.args.dir.0 _ _ c.in_ok-leaves.leaves.items walks.sound stands c.in_err-all.ensures.same c.in_ok-leaves.ensures.lists in
    let kind = (c.is_directory.ensures i h).0 c.if-not-is_directory.false in
    let unread : (c.in_err-all.field-0.0 ≡ NoMemory) ⊎ AnyLongName c.in_ok-leaves.leaves.items = subst (λ (xs : List Ref). (c.in_err-all.field-0.0 ≡ NoMemory) ⊎ AnyLongName xs) c.deref.ensures.value c.in_err-all.ensures.unread in
    let loads : ListMayLoad f now c.args.dir.0 c.in_err-all.field-0.0 = long_loads f now c.args.dir.0 _ _ c.in_ok-leaves.leaves.items _ lists unread in
    let cause : HasCause f now c.in_err-all.field-0.0 = cause_earlier f middle now _ (walks_visit _ _ walks) c.in_err-all.ensures.err in
    let fails : ListFails f now i.kind c.args.dir.0 (fault.Trouble c.in_err-all.field-0.0) = (kind, cause, loads) in
    search (fails, rules)

pub returns-in_err-all-clause-touched : goal.returns-in_err-all-clause-touched
returns-in_err-all-clause-touched g c = loads_same _ _ _ _ _ _ c.in_ok-leaves.ensures.tree c.in_err-all.ensures.same

pub returns-in-Ok-clause-touched : goal.returns-in-Ok-clause-touched
returns-in-Ok-clause-touched g c = loads_same _ _ _ _ _ _ c.in_ok-leaves.ensures.tree c.in_ok-all.ensures.same

pub returns-clause-touched : goal.returns-clause-touched
returns-clause-touched g c = loads_same _ _ _ _ _ _ c.in_ok-leaves.ensures.tree c.in_ok-all.ensures.same

pub returns-then-not-is_directory-clause-touched : goal.returns-then-not-is_directory-clause-touched
returns-then-not-is_directory-clause-touched g c = loads_none _ _ _ _

pub returns-in_err-leaves-clause-good : goal.returns-in_err-leaves-clause-good
returns-in_err-leaves-clause-good g c may size es h =
    let good : IsBadBlock (fault.Trouble c.in_err-leaves.field-0.0) → ⊥ = c.in_err-leaves.ensures.good h.leaves h.has.read in
    search (good, rules)

pub returns-in_err-all-clause-good : goal.returns-in_err-all-clause-good
returns-in_err-all-clause-good g c may size es h =
    let f = g.N.Sets.forest c.args.n.now in
    let middle = g.N.Sets.forest c.range.new.n in
    let items = c.in_ok-leaves.leaves.items in
    let e = c.in_err-all.field-0.0 in
    let named = named_kept f middle _ h.leaves items c.in_ok-leaves.ensures.walks.fixed.name (c.in_ok-leaves.ensures.found h.leaves h.has.read) (entries_named _ _ _ _ _ _ _ h) in
    let good : IsBadBlock (fault.Trouble e) → ⊥ = subst (λ (xs : List Ref). AllNamed middle xs → IsBad e → ⊥) c.deref.ensures.value c.in_err-all.ensures.good named in
    search (good, rules)

pub returns-then-not-is_directory-clause-none : goal.returns-then-not-is_directory-clause-none
returns-then-not-is_directory-clause-none g c i h not m stands = stands

pub returns-in_err-leaves-clause-none : goal.returns-in_err-leaves-clause-none
returns-in_err-leaves-clause-none g c i h not = absurd (not ((c.is_directory.ensures i h).0 c.if-not-is_directory.false))

pub returns-in_err-all-clause-none : goal.returns-in_err-all-clause-none
returns-in_err-all-clause-none g c i h not = absurd (not ((c.is_directory.ensures i h).0 c.if-not-is_directory.false))

pub returns-in-Ok-clause-none : goal.returns-in-Ok-clause-none
returns-in-Ok-clause-none g c i h not = absurd (not ((c.is_directory.ensures i h).0 c.if-not-is_directory.false))

pub returns-clause-none : goal.returns-clause-none
returns-clause-none g c i h not = absurd (not ((c.is_directory.ensures i h).0 c.if-not-is_directory.false))

pub returns-in_err-leaves-clause-met_only : goal.returns-in_err-leaves-clause-met_only
returns-in_err-leaves-clause-met_only g c = handed_fault_met _ _ _ c.from_residual.result c.in_err-leaves.field-0.0 c.from_residual.ensures.1 (MeetsNone-refl _) c.in_err-leaves.ensures.met_only

pub returns-in_err-all-clause-met_only : goal.returns-in_err-all-clause-met_only
returns-in_err-all-clause-met_only g c = handed_fault_met _ _ _ c.from_residual-in_err-all.result c.in_err-all.field-0.0 c.from_residual-in_err-all.ensures.1 c.in_ok-leaves.ensures.none_met c.in_err-all.ensures.met_only

pub returns-in-Ok-clause-none_met : goal.returns-in-Ok-clause-none_met
returns-in-Ok-clause-none_met g c = MeetsNone-trans _ _ _ c.in_ok-leaves.ensures.none_met c.in_ok-all.ensures.none_met

pub returns-clause-met_only : goal.returns-clause-met_only
returns-clause-met_only g c = MeetsNone-trans _ _ _ c.in_ok-leaves.ensures.none_met c.in_ok-all.ensures.none_met
