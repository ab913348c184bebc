-- What holds of answers.
use Rattle.std.proofs.Common.{arith, ◌≡◌, sym, subst, Result, Ok, Err}
use Rattle.std.specs.Prelude.{IfOk, IfErr}
use Rattle.std.specs.Result.{IsErrAnd}
use Rattle.h2_ref.specs.declared.faults.Trouble.{Trouble}
use Rattle.h2_ref.specs.declared.faults.Trouble.TheVariants.{Failed, Bad, NoMemory}
use Rattle.h2_set.specs.Forest.{Forest}
use Rattle.h2_set.specs.Calls.{HasCause, MeetsNone}
use Rattle.h2_set.specs.MetLaws.{MeetsNone-trans, MeetsOnly-after}
use Rattle.h2_inode.specs.Nodes.{Visits}
use Rattle.h2_pfs.specs.declared.fault.PfsFault.{PfsFault}
use Rattle.h2_pfs.specs.declared.fault.PfsFault.TheVariants.{NoPfs, Exists, Full, InUse, Trouble as Troubled}
use Rattle.h2_pfs.specs.Faults.{FaultMeetsOnly}

-- what holds of an error holds where it is handed on
pub carried_err : {T E : Type 0} (P : E → Type 0) (r : Result T E) (e : E) → IsErrAnd r (λ x. x ≡ e) → P e → IfErr r P
carried_err P (Ok v) e same p = tt
carried_err P (Err x) e same p = subst P (sym same) p

-- answers with more
pub on_ok : {T E : Type 0} (P Q : T → Type 0) (r : Result T E) → ((v : T) → P v → Q v) → IfOk r P → IfOk r Q
on_ok P Q (Ok v) step p = step v p
on_ok P Q (Err e) step p = tt

pub on_err : {T E : Type 0} (P Q R : E → Type 0) (r : Result T E) → ((e : E) → P e → Q e → R e) → IfErr r P → IfErr r Q → IfErr r R
on_err P Q R (Ok v) step p q = tt
on_err P Q R (Err e) step p q = step e p q

-- a cause that came after loads
pub cause_after : (f h g : Forest) (t : Trouble) → Visits f h → HasCause h g t → HasCause f g t
cause_after f h g Failed visits cause = let failed = visits.failed in grind arith
cause_after f h g (Bad place why) visits cause =
    let bad = visits.bad in
    let rose = cause.0 in
    (grind arith, cause.1)
cause_after f h g NoMemory visits cause = tt

-- just what the last call's fault tells was met in all calls, where none was met before it
pub fault_met_after : (f g h : Forest) (e : PfsFault) → MeetsNone f g → FaultMeetsOnly g h e → FaultMeetsOnly f h e
fault_met_after f g h NoPfs before after = MeetsNone-trans f g h before after
fault_met_after f g h Exists before after = MeetsNone-trans f g h before after
fault_met_after f g h Full before after = MeetsNone-trans f g h before after
fault_met_after f g h (InUse handles) before after = MeetsNone-trans f g h before after
fault_met_after f g h (Troubled t) before after = MeetsOnly-after f g h t before after
