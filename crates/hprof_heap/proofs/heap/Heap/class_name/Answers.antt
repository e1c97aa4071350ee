use Rattle.std.proofs.Common.{ℕ, Some, None}
use Rattle.hprof_rows.specs.declared.number_rows.LoadRow.{LoadRow}
use Rattle.hprof_heap.specs.Heap.{rows_in}
use Rattle.hprof_tables.specs.Relation.{rows_of}
use Rattle.hprof_tables.specs.Rows.{rows_left}
use Rattle.hprof_heap.proofs.ClassName.{passed_nothing, passed_one, passed_named, passed_all, named_among}
use Rattle.hprof_heap.proofs.heap.Heap.class_name.Goals as goal

pub loop-serial-init : goal.loop-serial-init
loop-serial-init c = rw c.into_iter-serial-iterator.ensures.into_iter_gives
    (passed_nothing c.args.class (rows_of c.args.self.now.tables.loads) (rows_left c.rows-serial-items.result)
    c.rows-serial-items.ensures.all
    c.rows-serial-items.ensures.ascending)

pub loop-serial-preserved : goal.loop-serial-preserved
loop-serial-preserved c =
    passed_one c.args.class (rows_of c.args.self.now.tables.loads) _ (c.in-Some._serial, c.in-Some.row.now) (rows_left c.next.new.self)
    c.in-Some.ensures.steps
    c.loop-serial.invariant c.if-row-class.false

pub returns-then-row-class : goal.returns-then-row-class
returns-then-row-class c =
    let heap = c.args.self.now in
    let row : ℕ × LoadRow = (c.in-Some._serial, c.in-Some.row.now) in
    named_among (rows_in heap) c.args.class (Some row.1.name) heap.sound
    (passed_named c.args.class (rows_of heap.tables.loads) _ row (rows_left c.next.new.self) c.in-Some.ensures.steps c.loop-serial.invariant
    c.if-row-class.true)

pub returns : goal.returns
returns c =
    let heap = c.args.self.now in
    named_among (rows_in heap) c.args.class None heap.sound
    (passed_all c.args.class (rows_of heap.tables.loads) (rows_left c.loop-serial._serial-iterator) c.in-None.ensures.steps.0
    c.loop-serial.invariant)
