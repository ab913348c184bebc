-- Over calls one after another no fault of the disk was met where none was met in any of them, and just the last one's
-- where none was met before it.
use Rattle.std.proofs.Common.{◌≡◌, refl, sym, ◌∙◌, ap, subst, Result, Ok, Err, IfErr, IsErrAnd}
use Rattle.std.specs.Prelude.{OnOk}
use Rattle.h2_num.specs.Causes.{one_more}
use Rattle.h2_ref.specs.declared.faults.Trouble.{Trouble}
use Rattle.h2_ref.specs.declared.faults.Trouble.TheVariants.{Failed, Bad, NoMemory}
use Rattle.h2_set.specs.Forest.{Forest}
use Rattle.h2_set.specs.Calls.{MeetsNone, MeetsOnly}

pub MeetsNone-refl : (f : Forest) → MeetsNone f f
MeetsNone-refl f = record { failed = refl; bad = refl; met = refl }

pub MeetsNone-trans : (f g h : Forest) → MeetsNone f g → MeetsNone g h → MeetsNone f h
MeetsNone-trans f g h a b = record { failed = b.failed ∙ a.failed; bad = b.bad ∙ a.bad; met = b.met ∙ a.met }

-- where none was met before, just what is told of the last call was met in all of them
pub MeetsOnly-after : (f g h : Forest) (e : Trouble) → MeetsNone f g → MeetsOnly g h e → MeetsOnly f h e
MeetsOnly-after f g h Failed before after = (after.0 ∙ ap one_more before.failed, after.1 ∙ before.bad, after.2 ∙ before.met)
MeetsOnly-after f g h (Bad place why) before after = (after.0 ∙ before.failed, after.1 ∙ ap one_more before.bad)
MeetsOnly-after f g h NoMemory before after = MeetsNone-trans f g h before after

-- want of memory is no fault of the disk
pub no_memory_met : (f g : Forest) (e : Trouble) → e ≡ NoMemory → MeetsNone f g → MeetsOnly f g e
no_memory_met f g e is none = subst (MeetsOnly f g) (sym is) none

-- where none was met before the last call, what that call says of itself is said of all of them
pub ok_none_met : {T E : Type 0} (f g h : Forest) (r : Result T E) → MeetsNone f g → OnOk r (MeetsNone g h) → OnOk r (MeetsNone f h)
ok_none_met f g h (Ok v) before after = MeetsNone-trans f g h before after
ok_none_met f g h (Err e) before after = tt

pub err_met_only : {T : Type 0} (f g h : Forest) (r : Result T Trouble) → MeetsNone f g → IfErr r (MeetsOnly g h) → IfErr r (MeetsOnly f h)
err_met_only f g h (Ok v) before after = tt
err_met_only f g h (Err e) before after = MeetsOnly-after f g h e before after

-- and so where its error is handed on
pub handed_met_only : {T : Type 0} (f g h : Forest) (r : Result T Trouble) (e : Trouble) → IsErrAnd r (λ x. x ≡ e) → MeetsNone f g → MeetsOnly g h e → IfErr r (MeetsOnly f h)
handed_met_only f g h (Ok v) e same before after = tt
handed_met_only f g h (Err x) e same before after = MeetsOnly-after f g h x before (subst (MeetsOnly g h) (sym same) after)
