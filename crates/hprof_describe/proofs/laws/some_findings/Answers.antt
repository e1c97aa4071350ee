use Rattle.hprof_describe.proofs.OneFinding.{findings_exist}
use Rattle.hprof_describe.proofs.laws.some_findings.Goals as goal

pub returns : goal.returns
returns c = findings_exist
