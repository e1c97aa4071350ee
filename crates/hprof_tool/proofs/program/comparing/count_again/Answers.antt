use Rattle.std.proofs.Common.{subst}
use Rattle.std.specs.Prelude.{⊤}
use Rattle.hprof_stream.specs.declared.limits.Limits.{Limits}
use Rattle.hprof_engine.specs.Joining.{fault_of}
use Rattle.hprof_stored.specs.Storing.{HaveObject}
use Rattle.hprof_diff.specs.Comparing.{Counts}
use Rattle.hprof_tool.proofs.Making.{are_usual}
use Rattle.hprof_tool.proofs.program.comparing.count_again.Goals as goal

pub returns-clause-counts : goal.returns-clause-counts
returns-clause-counts g c =
    let usual = c.usual.ensures in
    subst (λ (limits : Limits). Counts g.R.Source.left g.R.Source.health g.R.Source.pulls HaveObject ⊤ limits c.args.readers.now
    c.count_stored.new.readers (fault_of c.count_stored.result)) (are_usual c.usual.result usual.item usual.reads usual.bytes)
    c.count_stored.ensures.counts
