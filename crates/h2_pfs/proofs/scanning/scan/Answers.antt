use Rattle.std.proofs.Common.{◌≡◌, ◌⊎◌, sym, subst, ℕ, List}
use Rattle.std.specs.Prelude.{map}
use Rattle.h2_ref.specs.declared.faults.Trouble.{Trouble}
use Rattle.h2_ref.specs.declared.faults.Trouble.TheVariants.{NoMemory}
use Rattle.h2_set.specs.Calls.{HasCause, IsBad}
use Rattle.h2_inode.specs.Nodes.{held_by}
use Rattle.h2_inode.specs.VisitLaws.{walks_visit, visits_trans}
use Rattle.h2_inode.specs.Access.{OneByOne}
use Rattle.h2_inode.specs.LoadedLaws.{alike_trans}
use Rattle.h2_inode.specs.PfsList.{ListedPfs}
use Rattle.h2_pfs.specs.Listing.{HasPfss, KeepsPfss}
use Rattle.h2_pfs.specs.Mets.{met_of}
use Rattle.h2_pfs.specs.Meets.{Meets, MetBy, AreKnown, AreLeaves, InodeMissing}
use Rattle.h2_pfs.specs.Faults.{IsTrouble}
use Rattle.h2_inode.specs.AlikeLaws.{walks_alike}
use Rattle.h2_pfs.proofs.Answering.{carried_err, on_ok, on_err}
use Rattle.h2_pfs.proofs.Loading.{tree_loads, loads_trans}
use Rattle.h2_pfs.proofs.Scanned.{listed_leaves, super_stays}
use Rattle.h2_pfs.proofs.Known.{known_after}
use Rattle.h2_pfs.proofs.Listed.{meets_after, listed_after, trouble_after}
use Rattle.h2_set.specs.MetLaws.{MeetsNone-refl, ok_none_met, err_met_only, handed_met_only}
use Rattle.h2_pfs.proofs.scanning.scan.Goals as goal

pub meet_all-requires-clause-leaves : goal.meet_all-requires-clause-leaves
meet_all-requires-clause-leaves g c =
    let range = c.in_ok-leaves.ensures in
    subst (AreLeaves (g.N.Sets.forest c.range.new.n) c.args.root.0) (sym c.deref.ensures.value) (listed_leaves _ _ _ range.walks.sound (super_stays _ _ _ c.requires.super_root (walks_visit _ _ range.walks)) range.lists)

pub returns-in_err-leaves-clause-visits : goal.returns-in_err-leaves-clause-visits
returns-in_err-leaves-clause-visits g c = walks_visit _ _ c.in_err-leaves.ensures.walks

pub returns-in_err-leaves-clause-alike : goal.returns-in_err-leaves-clause-alike
returns-in_err-leaves-clause-alike g c =
    let range = c.in_err-leaves.ensures in
    walks_alike g.N.Nodes.fields _ _ _ _ _ _ c.requires.sound range.walks range.beside (g.met.N.Nodes.told_later _ _ range.later)

pub returns-in_err-leaves-clause-loads : goal.returns-in_err-leaves-clause-loads
returns-in_err-leaves-clause-loads g c = tree_loads _ _ c.args.root.0 _ _ c.requires.super_root.root c.in_err-leaves.ensures.tree

pub returns-clause-met : goal.returns-clause-met
returns-clause-met g c =
    let f = g.N.Sets.forest c.args.n.now in
    let h = g.N.Sets.forest c.range.new.n in
    let f' = g.N.Sets.forest c.meet_all.new.n in
    let range = c.in_ok-leaves.ensures in
    let fields = g.N.Nodes.fields in
    let old = g.N.Sets.beside c.args.n.now in
    let mid = g.N.Sets.beside c.range.new.n in
    let new = held_by fields (g.N.Sets.beside c.meet_all.new.n) in
    let was = g.N.Nodes.told c.args.n.now in
    let told = g.N.Nodes.told c.range.new.n in
    let now = g.N.Nodes.told c.meet_all.new.n in
    let top = c.args.root.0 in
    let stands = c.requires.super_root.stands in
    let Met = λ (pfss : List ListedPfs). OneByOne (MetBy h f' (held_by fields mid) new told top) c.deref.result.now pfss in
    let keeps = λ (pfss : List ListedPfs) (all : Met pfss) (next : ℕ) (known : List ListedPfs) (has : HasPfss f (held_by fields old) was top next known). listed_after fields f h f' old mid new was told now top next c.in_ok-leaves.leaves.items c.deref.result.now pfss known c.requires.sound range.walks.sound stands range.walks range.touched range.beside (g.met.N.Nodes.told_later _ _ range.later) range.found c.deref.ensures.value c.meet_all.ensures.visits all has in
    let meets = λ (pfss : List ListedPfs) (all : Met pfss). meets_after h f' (held_by fields mid) new told top c.in_ok-leaves.leaves.items c.deref.result.now pfss range.walks.sound (range.walks.stays top stands).place.stands c.meet_all.ensures.visits range.lists c.deref.ensures.value all in
    on_ok (λ v. (pfss : List ListedPfs) × Met pfss × (v.items ≡ map met_of pfss)) (λ v. (pfss : List ListedPfs) × Meets f' new top pfss × (v.items ≡ map met_of pfss) × KeepsPfss f f' (held_by fields old) new was now top pfss) c.meet_all.result (λ v m. (m.0, meets m.0 m.1, m.2, keeps m.0 m.1)) c.meet_all.ensures.met

pub returns-in_err-leaves-clause-good : goal.returns-in_err-leaves-clause-good
returns-in_err-leaves-clause-good g c =
    let f = g.N.Sets.forest c.args.n.now in
    let old = held_by g.N.Nodes.fields (g.N.Sets.beside c.args.n.now) in
    let was = g.N.Nodes.told c.args.n.now in
    let top = c.args.root.0 in
    let e = c.in_err-leaves.field-0.0 in
    let Good = λ (x : Trouble). (next : ℕ) (pfss : List ListedPfs) → HasPfss f old was top next pfss → IsBad x → ⊥ in
    carried_err Good c.from_residual.result e c.from_residual.ensures.1 (λ next pfss has. c.in_err-leaves.ensures.good has.leaves has.has.read)

pub returns-clause-good : goal.returns-clause-good
returns-clause-good g c =
    let f = g.N.Sets.forest c.args.n.now in
    let h = g.N.Sets.forest c.range.new.n in
    let range = c.in_ok-leaves.ensures in
    let fields = g.N.Nodes.fields in
    let old = g.N.Sets.beside c.args.n.now in
    let mid = g.N.Sets.beside c.range.new.n in
    let was = g.N.Nodes.told c.args.n.now in
    let told = g.N.Nodes.told c.range.new.n in
    let top = c.args.root.0 in
    let Known = λ (e : Trouble). AreKnown h (held_by fields mid) told top c.deref.result.now → IsBad e → ⊥ in
    let Good = λ (e : Trouble). (next : ℕ) (pfss : List ListedPfs) → HasPfss f (held_by fields old) was top next pfss → IsBad e → ⊥ in
    on_err Known Known Good c.meet_all.result (λ e good same next pfss has. good (known_after fields f h old mid was told top next c.in_ok-leaves.leaves.items c.deref.result.now pfss c.requires.super_root.stands range.walks range.touched range.beside (g.met.N.Nodes.told_later _ _ range.later) range.found c.deref.ensures.value has)) c.meet_all.ensures.good c.meet_all.ensures.good

pub returns-clause-visits : goal.returns-clause-visits
returns-clause-visits g c = visits_trans _ _ _ (walks_visit _ _ c.in_ok-leaves.ensures.walks) c.meet_all.ensures.visits

pub returns-clause-alike : goal.returns-clause-alike
returns-clause-alike g c =
    let range = c.in_ok-leaves.ensures in
    alike_trans (walks_alike g.N.Nodes.fields _ _ _ _ _ _ c.requires.sound range.walks range.beside (g.met.N.Nodes.told_later _ _ range.later)) c.meet_all.ensures.alike

pub returns-clause-loads : goal.returns-clause-loads
returns-clause-loads g c =
    let range = c.in_ok-leaves.ensures in
    let super = c.requires.super_root in
    loads_trans _ _ _ c.args.root.0 range.walks.sound (range.walks.stays _ super.stands).place.stands c.meet_all.ensures.visits (tree_loads _ _ c.args.root.0 _ _ super.root range.tree) c.meet_all.ensures.loads

pub returns-clause-err : goal.returns-clause-err
returns-clause-err g c =
    let f = g.N.Sets.forest c.args.n.now in
    let h = g.N.Sets.forest c.range.new.n in
    let f' = g.N.Sets.forest c.meet_all.new.n in
    let range = c.in_ok-leaves.ensures in
    let top = c.args.root.0 in
    on_err (HasCause h f') (λ e. (e ≡ NoMemory) ⊎ InodeMissing h h top) (IsTrouble f f' top) c.meet_all.result (λ e cause only. trouble_after f h f' top e range.walks.sound c.requires.super_root.stands (walks_visit f h range.walks) c.meet_all.ensures.visits cause only) c.meet_all.ensures.err c.meet_all.ensures.unloaded

pub returns-in_err-leaves-clause-met_only : goal.returns-in_err-leaves-clause-met_only
returns-in_err-leaves-clause-met_only g c = handed_met_only _ _ _ c.from_residual.result c.in_err-leaves.field-0.0 c.from_residual.ensures.1 (MeetsNone-refl _) c.in_err-leaves.ensures.met_only

pub returns-clause-none_met : goal.returns-clause-none_met
returns-clause-none_met g c = ok_none_met _ _ _ c.meet_all.result c.in_ok-leaves.ensures.none_met c.meet_all.ensures.none_met

pub returns-clause-met_only : goal.returns-clause-met_only
returns-clause-met_only g c = err_met_only _ _ _ c.meet_all.result c.in_ok-leaves.ensures.none_met c.meet_all.ensures.met_only
