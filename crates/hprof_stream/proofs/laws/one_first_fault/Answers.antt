use Rattle.hprof_stream.proofs.Faults.{first_fault_once, no_fault_no_first}
use Rattle.hprof_stream.proofs.laws.one_first_fault.Goals as goal

pub returns-clause-one : goal.returns-clause-one
returns-clause-one c = first_fault_once

pub returns-clause-none : goal.returns-clause-none
returns-clause-none c = no_fault_no_first
