use Rattle.std.proofs.Common.{refl}
use Rattle.hprof_heap.specs.HeapFacts.{facts_of, size_of}
use Rattle.hprof_passes.specs.Passing.{whole_itself}
use Rattle.hprof_reports.proofs.check.write_check.Goals as goal

pub returns-clause-bytes : goal.returns-clause-bytes
unfolding facts_of
returns-clause-bytes g c =
    let facts = facts_of c.args.heap.now in
    c.write_counts.ensures.bytes facts
    (whole_itself (size_of c.args.heap.now) facts facts (record {
      same = refl;
      fit = c.holds_of_heap.ensures.fit;
      ordered = c.holds_of_heap.ensures.ordered;
    })) c.table_len.ensures
