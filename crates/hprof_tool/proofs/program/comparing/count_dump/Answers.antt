use Rattle.std.proofs.Common.{subst}
use Rattle.hprof_stream.specs.declared.limits.Limits.{Limits}
use Rattle.hprof_engine.specs.Joining.{fault_of, none_known}
use Rattle.hprof_diff.specs.Comparing.{Counts}
use Rattle.hprof_tool.proofs.Comparing.{counts_too}
use Rattle.hprof_tool.proofs.Making.{are_usual}
use Rattle.hprof_tool.proofs.program.comparing.count_dump.Goals as goal

pub returns-in-None-clause-counts : goal.returns-in-None-clause-counts
returns-in-None-clause-counts g c =
    let usual = c.usual.ensures in
    counts_too g.R.Source.left g.R.Source.health g.R.Source.pulls c.args.readers.now c.count_parts.new.readers
    (fault_of c.count_parts.result)
    (subst (λ (limits : Limits). Counts g.R.Source.left g.R.Source.health g.R.Source.pulls none_known ⊥ limits c.args.readers.now
    c.count_parts.new.readers (fault_of c.count_parts.result)) (are_usual c.usual.result usual.item usual.reads usual.bytes)
    c.count_parts.ensures.counts)
