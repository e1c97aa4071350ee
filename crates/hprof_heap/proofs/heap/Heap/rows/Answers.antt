use Rattle.std.proofs.Common.{sym, subst, ◌∙◌, rules}
use Rattle.hprof_rows.specs.Tables.{number_of_table, stands_in}
use Rattle.hprof_rows.specs.Order.{IsCanonicalOrder}
use Rattle.hprof_rows.proofs.ReadBack.{passed_ordered}
use Rattle.hprof_heap.specs.Heap.{heap_of, rows_in}
use Rattle.hprof_heap.proofs.TableRows.{rows_read}
use Rattle.hprof_heap.proofs.heap.Heap.rows.Goals as goal

pub new-requires : goal.new-requires
new-requires c = let heap = c.args.self.now in (rows_read (rows_in heap) heap.sound c.args.table c.rows.result c.rows.ensures).readable

pub returns-clause-all : goal.returns-clause-all
returns-clause-all c =
    let heap = c.args.self.now in
    c.new.ensures.all ∙ (rows_read (rows_in heap) heap.sound c.args.table c.rows.result c.rows.ensures).all

pub returns-clause-ordered : goal.returns-clause-ordered
returns-clause-ordered c =
    let heap = c.args.self.now in
    subst IsCanonicalOrder
    (sym (c.new.ensures.all ∙ (rows_read (rows_in heap) heap.sound c.args.table c.rows.result c.rows.ensures).all))
    (passed_ordered (stands_in (number_of_table c.args.table)) (heap_of heap).facts heap.sound.heap.ordered)

pub returns-clause-ids : goal.returns-clause-ids
returns-clause-ids c = search rules
