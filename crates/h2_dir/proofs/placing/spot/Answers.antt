use Rattle.std.proofs.Common.{ℕ, List, subst, rules}
use Rattle.std.specs.Prelude.{Option, map}
use Rattle.h2_ref.specs.declared.reference.Ref.{Ref}
use Rattle.h2_set.specs.StayLaws.{Walks-refl}
use Rattle.h2_inode.specs.VisitLaws.{walks_visit, visits_inode}
use Rattle.h2_dirkey.specs.Key.{IsPicked}
use Rattle.h2_dirkey.specs.NameLaws.{no_fault}
use Rattle.h2_dir.specs.Names.{Scanned, NoneNamed, IsPlaceOfName}
use Rattle.h2_dir.proofs.Agreeing.{found_between, missing_between}
use Rattle.h2_dir.specs.declared.fault.DirFault.TheVariants as fault
use Rattle.h2_dir.specs.Finding.{IsBadBlock}
use Rattle.h2_dir.proofs.Known.{entries_named}
use Rattle.h2_dir.proofs.Searched.{scanned_stays, loads_none}
use Rattle.h2_dir.proofs.Spotting.{spot_there, taken_there, is_some}
use Rattle.h2_set.specs.MetLaws.{MeetsNone-refl}
use Rattle.h2_dir.proofs.Meeting.{handed_fault_met}
use Rattle.h2_dir.proofs.placing.spot.Goals as goal

pub returns-then-not-is_directory-clause-walks : goal.returns-then-not-is_directory-clause-walks
returns-then-not-is_directory-clause-walks g c = Walks-refl _ c.requires.sound

pub unreachable-requires : goal.unreachable-requires
unreachable-requires g c = no_fault c.args.name.now c.in_default.field-0 c.requires.good c.in_default.ensures

pub returns-in_default-place-clause-err : goal.returns-in_default-place-clause-err
returns-in_default-place-clause-err g c i h =
    let f = g.N.Sets.forest c.search.new.n in
    let items = c.in_ok-candidates.candidates.leaves.items in
    let at : IsPlaceOfName f items c.args.name.now c.in_default-place.field-0 = subst (λ (o : Option ℕ). Scanned f items c.args.name.now o) c.in_default-place.is c.in_ok-candidates.ensures.scanned in
    ((c.is_directory.ensures i h).0 c.if-not-is_directory.false, taken_there f c.args.dir.0 c.args.name.now items c.in_default-place.field-0 c.requires.good c.in_ok-candidates.ensures.lists at)

pub returns-in_default-place-clause-agrees : goal.returns-in_default-place-clause-agrees
returns-in_default-place-clause-agrees g c may size entries h =
    let f = g.N.Sets.forest c.args.n.now in
    let items = c.in_ok-candidates.candidates.leaves.items in
    let scanned = scanned_stays _ f items items c.args.name.now c.in_ok-candidates.candidates.place (λ i. items) c.in_ok-candidates.ensures.walks.fixed.name c.in_ok-candidates.ensures.scanned in
    let at : IsPlaceOfName f items c.args.name.now c.in_default-place.field-0 = subst (λ (o : Option ℕ). Scanned f items c.args.name.now o) c.in_default-place.is scanned in
    is_some _ _ (found_between _ _ _ _ _ _ _ h c.args.name.now items c.in_default-place.field-0 at.leaf at.named.entry c.in_ok-candidates.ensures.told at.read at.named at.named.entry_is)

pub returns-in-Ok-free_key-clause-spot : goal.returns-in-Ok-free_key-clause-spot
returns-in-Ok-free_key-clause-spot g c =
    let f = g.N.Sets.forest c.search.new.n in
    let items = c.in_ok-candidates.candidates.leaves.items in
    let walks = c.in_ok-candidates.ensures.walks in
    let none : NoneNamed f items c.args.name.now = subst (λ (o : Option ℕ). Scanned f items c.args.name.now o) c.in-None.is c.in_ok-candidates.ensures.scanned in
    let i = c.requires.inode.0 in
    let has = c.requires.inode.1 in
    let now = visits_inode g.N.Nodes.fields _ f _ _ c.args.dir.0 i (walks_visit _ f walks) c.in_ok-candidates.ensures.beside has in
    let picked = subst (λ (xs : List Ref). IsPicked c.in-Ok.least (map (λ (r : Ref). r.key) xs) c.in-Ok-free_key.key) c.deref.ensures.value c.in-Ok-free_key.ensures in
    spot_there f _ c.args.dir.0 i c.args.name.now items c.in-Ok-free_key.key c.requires.good walks.sound now ((c.is_directory.ensures i has).0 c.if-not-is_directory.false) c.in_ok-candidates.ensures.lists none
    (subst (λ k. IsPicked k (map (λ (r : Ref). r.key) items) c.in-Ok-free_key.key) c.in-Ok.ensures.1 picked)

pub returns-in-Ok-free_key-clause-agrees : goal.returns-in-Ok-free_key-clause-agrees
returns-in-Ok-free_key-clause-agrees g c may size entries h =
    let f = g.N.Sets.forest c.args.n.now in
    let items = c.in_ok-candidates.candidates.leaves.items in
    let scanned = scanned_stays _ f items items c.args.name.now c.in_ok-candidates.candidates.place (λ i. items) c.in_ok-candidates.ensures.walks.fixed.name c.in_ok-candidates.ensures.scanned in
    let none : NoneNamed f items c.args.name.now = subst (λ (o : Option ℕ). Scanned f items c.args.name.now o) c.in-None.is scanned in
    missing_between _ _ _ _ _ _ _ h c.args.name.now items c.in_ok-candidates.ensures.told none

pub returns-then-not-is_directory-clause-touched : goal.returns-then-not-is_directory-clause-touched
returns-then-not-is_directory-clause-touched g c = loads_none _ _ _ _

pub returns-in_err-candidates-clause-good : goal.returns-in_err-candidates-clause-good
returns-in_err-candidates-clause-good g c may size entries h =
    let good : IsBadBlock (fault.Trouble c.in_err-candidates.field-0.0) → ⊥ = c.in_err-candidates.ensures.good h.leaves h.has.read (entries_named _ _ _ _ _ _ _ h) in
    search (good, rules)

pub returns-then-not-is_directory-clause-none : goal.returns-then-not-is_directory-clause-none
returns-then-not-is_directory-clause-none g c i h not m stands = stands

pub returns-in_err-candidates-clause-none : goal.returns-in_err-candidates-clause-none
returns-in_err-candidates-clause-none g c i h not = absurd (not ((c.is_directory.ensures i h).0 c.if-not-is_directory.false))

pub returns-in_default-place-clause-none : goal.returns-in_default-place-clause-none
returns-in_default-place-clause-none g c i h not = absurd (not ((c.is_directory.ensures i h).0 c.if-not-is_directory.false))

pub returns-in-Ok-free_key-clause-none : goal.returns-in-Ok-free_key-clause-none
returns-in-Ok-free_key-clause-none g c i h not = absurd (not ((c.is_directory.ensures i h).0 c.if-not-is_directory.false))

pub returns-in_err-candidates-clause-met_only : goal.returns-in_err-candidates-clause-met_only
returns-in_err-candidates-clause-met_only g c = handed_fault_met _ _ _ c.from_residual.result c.in_err-candidates.field-0.0 c.from_residual.ensures.1 (MeetsNone-refl _) c.in_err-candidates.ensures.met_only
