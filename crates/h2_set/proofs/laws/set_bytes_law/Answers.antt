use Rattle.h2_set.specs.SetBytesLaws.{SetBytes-same, set_one, set_spelling}
use Rattle.h2_set.specs.SetFaultLaws.{no_set_fault, set_fault_one}
use Rattle.h2_set.proofs.laws.set_bytes_law.Goals as goal

pub returns-clause-one_spelling : goal.returns-clause-one_spelling
returns-clause-one_spelling c = set_spelling

pub returns-clause-one_value : goal.returns-clause-one_value
returns-clause-one_value c = set_one

pub returns-clause-local : goal.returns-clause-local
returns-clause-local c = SetBytes-same

pub returns-clause-refused : goal.returns-clause-refused
returns-clause-refused c = λ n refs b fault h set. no_set_fault n refs b fault set h

pub returns-clause-one_refusal : goal.returns-clause-one_refusal
returns-clause-one_refusal c = set_fault_one
