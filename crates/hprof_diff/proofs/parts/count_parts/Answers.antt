use Rattle.std.proofs.Common.{Some, None}
use Rattle.hprof_heap.specs.Heap.{heap_of}
use Rattle.hprof_heap.specs.HeapFacts.{facts_of, size_of}
use Rattle.hprof_diff.proofs.Counting.{read_counts, wants_counts}
use Rattle.hprof_diff.proofs.parts.count_parts.Goals as goal

-- the parts were refused
pub returns-in-Err-clause-counts : goal.returns-in-Err-clause-counts
returns-in-Err-clause-counts g c =
    let e = c.in-Err.ensures in
    read_counts g.R.Source.left g.R.Source.health g.R.Source.pulls c.args.limits c.args.readers.now c.read_heap.new.readers
    (Some c.in-Err.fault) e.reads e.kind e.no_other

pub returns-in-Ok-of-clause-counts : goal.returns-in-Ok-of-clause-counts
returns-in-Ok-of-clause-counts g c =
    let e = c.in-Ok.ensures in
    read_counts g.R.Source.left g.R.Source.health g.R.Source.pulls c.args.limits c.args.readers.now c.read_heap.new.readers None e.reads
    e.kind e.no_other

pub returns-in-Ok-of-clause-totals : goal.returns-in-Ok-of-clause-totals
unfolding facts_of size_of
returns-in-Ok-of-clause-totals g c = λ parts told. record {
  heap = heap_of c.in-Ok.heap;
  agree = c.in-Ok.ensures.ok parts told;
  are_totals = c.in-Ok-of.ensures;
}

-- memory ran out when all were read
pub returns-clause-counts : goal.returns-clause-counts
returns-clause-counts g c =
    wants_counts g.R.Source.left g.R.Source.health g.R.Source.pulls c.args.limits c.args.readers.now c.read_heap.new.readers
    c.in-Ok.ensures.reads
