use Rattle.hprof_diff.specs.KeptLabels.{labels_distinct}
use Rattle.hprof_diff.proofs.differences.push_new.Goals as goal

pub returns-clause-apart : goal.returns-clause-apart
returns-clause-apart c = labels_distinct c.args.new.now c.keys-label-items.ensures.ordered
