use Rattle.std.proofs.Common.{rules}
use Rattle.hprof_text.proofs.encoding.encode_units.Goals as goal

pub returns-in_err-bytes : goal.returns-in_err-bytes
returns-in_err-bytes c = search rules

pub returns-in_err-push_unit : goal.returns-in_err-push_unit
returns-in_err-push_unit c = search rules
