use Rattle.std.proofs.Common.{◌+◌, List, drop, get_or, sym, subst}
use Rattle.std.proofs.lemmas.Result.{err_from_is_err_and}
use Rattle.hprof_tables.proofs.Missing.{on_err}
use Rattle.hprof_rows.specs.declared.table.Table.{Table}
use Rattle.hprof_rows.specs.declared.table.Table.TheVariants.{Names}
use Rattle.hprof_heap.specs.Heap.{heap_of, rows_in}
use Rattle.hprof_rows.specs.HeapValue.{HeapValue}
use Rattle.hprof_heap.specs.Join.{IsBetween, LacksFact}
use Rattle.hprof_heap.proofs.JoinHeaps.{TakesSome, all_tables, all_facts, takes_none, takes_next, takes_between, still_agree, lacks_in}
use Rattle.hprof_rows.proofs.Tables.{drop_from}
use Rattle.hprof_heap.proofs.heap.Heap.join_tables.Goals as goal

pub loop-table-init : goal.loop-table-init
loop-table-init c =
    let other = c.args.other.now in
    takes_none (heap_of c.args.self.now) (heap_of other) all_tables c.args.self.now.sound.heap (all_facts (rows_in other) other.sound)

pub join_table-requires-clause-agree : goal.join_table-requires-clause-agree
join_table-requires-clause-agree c =
    let old = heap_of c.args.self.now in
    let other = heap_of c.args.other.now in
    let now = heap_of c.loop-table.self in
    still_agree old other c.requires.ids c.requires.agree now
    (takes_between old other c.requires.ids c.requires.agree (drop c.loop-table.table-index all_tables) now c.loop-table.invariant)

pub returns-in_err-join_table-clause-err : goal.returns-in_err-join_table-clause-err
returns-in_err-join_table-clause-err c =
    let old = heap_of c.args.self.now in
    let other = heap_of c.args.other.now in
    let now = heap_of c.loop-table.self in
    let error = err_from_is_err_and c.from_residual.result c.from_residual.ensures.1 in
    rw error.1 (subst (IsBetween old other) (sym c.in_err-join_table.ensures.err)
    (takes_between old other c.requires.ids c.requires.agree (drop c.loop-table.table-index all_tables) now c.loop-table.invariant))

pub returns-in_err-join_table-clause-absent : goal.returns-in_err-join_table-clause-absent
returns-in_err-join_table-clause-absent c =
    let other = heap_of c.args.other.now in
    let now = heap_of c.loop-table.self in
    on_err c.from_residual.result
    (subst (λ (new : HeapValue). LacksFact new other) (sym c.in_err-join_table.ensures.err)
    (lacks_in (get_or all_tables c.loop-table.table-index Names) now other c.in_err-join_table.ensures.absent))

pub loop-table-preserved : goal.loop-table-preserved
loop-table-preserved c =
    let old = heap_of c.args.self.now in
    let other = heap_of c.args.other.now in
    let mid = heap_of c.loop-table.self in
    let place = c.loop-table.table-index in
    takes_next old other mid (heap_of c.join_table.new.self) (get_or all_tables place Names) (drop (place + 1) all_tables)
    (subst (λ (left : List Table). TakesSome old other left mid) (drop_from all_tables place Names c.loop-table-test.true)
    c.loop-table.invariant)
    c.in_ok-join_table.ensures.ok
