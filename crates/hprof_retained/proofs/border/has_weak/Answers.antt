use Rattle.hprof_edges.specs.LeftOut.{fields_in}
use Rattle.hprof_retained.proofs.BorderLists.{class_by_run}
use Rattle.hprof_retained.proofs.border.has_weak.Goals as goal

pub returns : goal.returns
returns c =
    class_by_run (fields_in c.args.weak.now) c.of.result.now c.args.class c.of.ensures.exact c.is_empty.result c.is_empty.ensures
