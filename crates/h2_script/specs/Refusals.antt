-- Why a part of a line isn't read.
use Rattle.h2_script.specs.declared.fault.LineFault.{LineFault}
use Rattle.h2_script.specs.declared.fault.Refusal.{Refusal}
use Rattle.h2_script.specs.declared.fault.Refusal.TheVariants.{Fault, NoMemory}

-- a fault with the property, or want of memory
abbrev pub RefusedBy : (LineFault → Type 0) → Refusal → Type 0
RefusedBy Has (Fault why) = Has why
RefusedBy Has NoMemory = Unit {0}
