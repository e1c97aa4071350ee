use Rattle.std.proofs.Common.{◌∙◌, rules}
use Rattle.hprof_heap.specs.Heap.{rows_in}
use Rattle.hprof_rows.proofs.DumpTables.{heap_subs, subs_writable}
use Rattle.hprof_heap.proofs.heap.Heap.sub_rows.Goals as goal

pub new-requires : goal.new-requires
new-requires c =
    let heap = c.args.self.now in
    rw (c.iter.ensures, c.rows.ensures.all, c.rows-2.ensures.all) (subs_writable (rows_in heap) heap.sound)

pub returns-clause-all : goal.returns-clause-all
returns-clause-all c =
    let heap = c.args.self.now in
    c.new.ensures.all ∙ rw (c.iter.ensures, c.rows.ensures.all, c.rows-2.ensures.all) (heap_subs (rows_in heap) heap.sound)

pub returns-clause-ids : goal.returns-clause-ids
returns-clause-ids c = search rules
