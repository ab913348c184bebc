use Rattle.std.proofs.Common.{◌≡◌, ℕ, List, Some, sym, subst, rules}
use Rattle.std.specs.Prelude.{slice_get, Option}
use Rattle.h2_ref.specs.declared.reference.Ref.{Ref}
use Rattle.h2_set.specs.StayLaws.{Walks-refl}
use Rattle.h2_dirkey.specs.NameLaws.{no_fault}
use Rattle.h2_dir.specs.Names.{Scanned, NoneNamed, IsPlaceOfName}
use Rattle.h2_dir.proofs.Agreeing.{found_between, missing_between, missing_agrees}
use Rattle.h2_dir.specs.declared.fault.DirFault.TheVariants as fault
use Rattle.h2_dir.specs.Finding.{IsBadBlock}
use Rattle.h2_dir.proofs.Known.{entries_named}
use Rattle.h2_dir.proofs.Searched.{found_there, missing_there, scanned_stays, loads_none}
use Rattle.h2_set.specs.MetLaws.{MeetsNone-refl}
use Rattle.h2_dir.proofs.Meeting.{handed_fault_met}
use Rattle.h2_dir.proofs.finding.find.Goals as goal

pub returns-then-not-is_directory-clause-walks : goal.returns-then-not-is_directory-clause-walks
returns-then-not-is_directory-clause-walks g c = Walks-refl _ c.requires.sound

pub returns-in_default-clause-walks : goal.returns-in_default-clause-walks
returns-in_default-clause-walks g c = Walks-refl _ c.requires.sound

pub returns-in_default-clause-agrees : goal.returns-in_default-clause-agrees
returns-in_default-clause-agrees g c may size entries h = missing_agrees _ _ _ _ _ _ _ h c.args.name.now (λ leaf at under named. no_fault c.args.name.now c.in_default.field-0 under.good c.in_default.ensures)

pub returns-in-Some-clause-found : goal.returns-in-Some-clause-found
returns-in-Some-clause-found g c =
    let f = g.N.Sets.forest c.search.new.n in
    let items = c.in_ok-candidates.candidates.leaves.items in
    let at : IsPlaceOfName f items c.args.name.now c.in-Some.i = subst (λ (o : Option ℕ). Scanned f items c.args.name.now o) c.in-Some.is c.in_ok-candidates.ensures.scanned in
    found_there f _ _ items c.in-Some.i _ _ c.in-Ok.ensures.0 c.in_ok-candidates.ensures.lists at (λ leaf read. c.entry_at.ensures leaf (subst (λ (xs : List Ref). slice_get xs c.in-Some.i ≡ Some leaf) (sym c.deref.ensures.value) read))

pub returns-in-Some-clause-agrees : goal.returns-in-Some-clause-agrees
returns-in-Some-clause-agrees g c may size entries h =
    let f = g.N.Sets.forest c.args.n.now in
    let items = c.in_ok-candidates.candidates.leaves.items in
    let scanned = scanned_stays _ f items items c.args.name.now c.in_ok-candidates.candidates.place (λ i. items) c.in_ok-candidates.ensures.walks.fixed.name c.in_ok-candidates.ensures.scanned in
    let at : IsPlaceOfName f items c.args.name.now c.in-Some.i = subst (λ (o : Option ℕ). Scanned f items c.args.name.now o) c.in-Some.is scanned in
    let says = c.entry_at.ensures at.leaf (subst (λ (xs : List Ref). slice_get xs c.in-Some.i ≡ Some at.leaf) (sym c.deref.ensures.value) at.read) in
    found_between _ _ _ _ _ _ _ h c.args.name.now items c.in-Some.i at.leaf _ c.in_ok-candidates.ensures.told at.read at.named says.1

pub returns-clause-err : goal.returns-clause-err
returns-clause-err g c i h =
    let f = g.N.Sets.forest c.search.new.n in
    let items = c.in_ok-candidates.candidates.leaves.items in
    let none : NoneNamed f items c.args.name.now = subst (λ (o : Option ℕ). Scanned f items c.args.name.now o) c.in-None.is c.in_ok-candidates.ensures.scanned in
    ((c.is_directory.ensures i h).0 c.if-not-is_directory.false, missing_there f _ _ items c.in_ok-candidates.ensures.lists none)

pub returns-clause-agrees : goal.returns-clause-agrees
returns-clause-agrees g c may size entries h =
    let f = g.N.Sets.forest c.args.n.now in
    let items = c.in_ok-candidates.candidates.leaves.items in
    let scanned = scanned_stays _ f items items c.args.name.now c.in_ok-candidates.candidates.place (λ i. items) c.in_ok-candidates.ensures.walks.fixed.name c.in_ok-candidates.ensures.scanned in
    let none : NoneNamed f items c.args.name.now = subst (λ (o : Option ℕ). Scanned f items c.args.name.now o) c.in-None.is scanned in
    missing_between _ _ _ _ _ _ _ h c.args.name.now items c.in_ok-candidates.ensures.told none

pub returns-then-not-is_directory-clause-touched : goal.returns-then-not-is_directory-clause-touched
returns-then-not-is_directory-clause-touched g c = loads_none _ _ _ _

pub returns-in_default-clause-touched : goal.returns-in_default-clause-touched
returns-in_default-clause-touched g c = loads_none _ _ _ _

pub returns-then-not-is_directory-clause-none : goal.returns-then-not-is_directory-clause-none
returns-then-not-is_directory-clause-none g c i h not m stands = stands

pub returns-in_default-clause-none : goal.returns-in_default-clause-none
returns-in_default-clause-none g c i h not m stands = stands

pub returns-in_err-candidates-clause-none : goal.returns-in_err-candidates-clause-none
returns-in_err-candidates-clause-none g c i h not = absurd (not ((c.is_directory.ensures i h).0 c.if-not-is_directory.false))

pub returns-in-Some-clause-none : goal.returns-in-Some-clause-none
returns-in-Some-clause-none g c i h not = absurd (not ((c.is_directory.ensures i h).0 c.if-not-is_directory.false))

pub returns-clause-none : goal.returns-clause-none
returns-clause-none g c i h not = absurd (not ((c.is_directory.ensures i h).0 c.if-not-is_directory.false))

pub returns-in_err-candidates-clause-good : goal.returns-in_err-candidates-clause-good
returns-in_err-candidates-clause-good g c may size entries h =
    let good : IsBadBlock (fault.Trouble c.in_err-candidates.field-0.0) → ⊥ = c.in_err-candidates.ensures.good h.leaves h.has.read (entries_named _ _ _ _ _ _ _ h) in
    search (good, rules)

pub returns-in_err-candidates-clause-met_only : goal.returns-in_err-candidates-clause-met_only
returns-in_err-candidates-clause-met_only g c = handed_fault_met _ _ _ c.from_residual.result c.in_err-candidates.field-0.0 c.from_residual.ensures.1 (MeetsNone-refl _) c.in_err-candidates.ensures.met_only
