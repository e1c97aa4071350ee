use Rattle.std.proofs.Common.{rules}
use Rattle.hprof_text.specs.ModifiedUtf8.{unit_bytes}
use Rattle.hprof_text.proofs.encoding.push_unit.Goals as goal

pub returns-in_err-extend_from_slice-in-0 : goal.returns-in_err-extend_from_slice-in-0
unfolding unit_bytes
returns-in_err-extend_from_slice-in-0 c = search rules

pub returns-in_ok-extend_from_slice-in-0 : goal.returns-in_ok-extend_from_slice-in-0
unfolding unit_bytes
returns-in_ok-extend_from_slice-in-0 c = search rules

pub returns-in_ok-extend_from_slice-in_default : goal.returns-in_ok-extend_from_slice-in_default
unfolding unit_bytes
returns-in_ok-extend_from_slice-in_default c = search rules
