-- Which faults of the disk were met by calls one after another.
use Rattle.std.specs.Prelude.{◌≡◌, IsErrAnd, IfErr, Result, Ok, Err}
use Rattle.std.proofs.Common.{sym, subst}
use Rattle.h2_ref.specs.declared.faults.Trouble.{Trouble}
use Rattle.h2_set.specs.Forest.{Forest}
use Rattle.h2_set.specs.Calls.{MeetsNone, MeetsOnly}
use Rattle.h2_set.specs.MetLaws.{MeetsNone-trans, MeetsOnly-after}
use Rattle.h2_dir.specs.declared.fault.DirFault.{DirFault}
use Rattle.h2_dir.specs.declared.fault.DirFault.TheVariants as fault
use Rattle.h2_dir.specs.Finding.{FaultMeetsOnly}

-- just what the last call's fault tells was met in all calls, where none was met before it
pub fault_met_after : (f g h : Forest) (why : DirFault) → MeetsNone f g → FaultMeetsOnly g h why → FaultMeetsOnly f h why
fault_met_after f g h fault.NoEntry before after = MeetsNone-trans f g h before after
fault_met_after f g h fault.Exists before after = MeetsNone-trans f g h before after
fault_met_after f g h fault.NotDir before after = MeetsNone-trans f g h before after
fault_met_after f g h (fault.Trouble e) before after = MeetsOnly-after f g h e before after

-- and so where a trouble is handed on
pub handed_fault_met : {X : Type 0} (f g h : Forest) (result : Result X DirFault) (e : Trouble) → IsErrAnd result (λ why. why ≡ fault.Trouble e) → MeetsNone f g → MeetsOnly g h e → IfErr result (FaultMeetsOnly f h)
handed_fault_met f g h (Ok x) e is before after = absurd is
handed_fault_met f g h (Err why) e is before after = subst (FaultMeetsOnly f h) (sym is) (MeetsOnly-after f g h e before after)
