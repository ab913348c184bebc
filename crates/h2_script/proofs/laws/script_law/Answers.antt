use Rattle.h2_script.specs.ScriptLaws.{script_is_lawful}
use Rattle.h2_script.proofs.OneScript.{one_script, no_fault, one_fault}
use Rattle.h2_script.proofs.laws.script_law.Goals as goal

pub returns : goal.returns
returns c = record { one_script = one_script; no_fault = no_fault; one_fault = one_fault; lawful = script_is_lawful }
