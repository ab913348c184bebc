-- Refusals that are passed on.
use Rattle.std.proofs.Common.{◌≡◌, subst, sym}
use Rattle.std.specs.Prelude.{Result, Ok, Err, MatchResult, IsErrAnd}
use Rattle.h2_script.specs.declared.fault.LineFault.{LineFault}
use Rattle.h2_script.specs.declared.fault.Refusal.{Refusal}
use Rattle.h2_script.specs.declared.fault.Refusal.TheVariants.{Fault, NoMemory}
use Rattle.h2_script.specs.Refusals.{RefusedBy}

weaker : (Has Now : LineFault → Type 0) (e : Refusal) → RefusedBy Has e → ((why : LineFault) → Has why → Now why) → RefusedBy Now e
weaker Has Now (Fault why) h more = more why h
weaker Has Now NoMemory h more = tt

pub passed_on : {T : Type 0} (P : T → Type 0) (Has Now : LineFault → Type 0) (r : Result T Refusal) (e : Refusal) → IsErrAnd r (λ x. x ≡ e) → RefusedBy Has e → ((why : LineFault) → Has why → Now why) → MatchResult r P (RefusedBy Now)
passed_on P Has Now (Ok x) e is h more = absurd is
passed_on P Has Now (Err x) e is h more = subst (RefusedBy Now) (sym is) (weaker Has Now e h more)
