use Rattle.hprof_items.specs.FactValue.{value_of}
use Rattle.hprof_heap.specs.Heap.{rows_in}
use Rattle.hprof_heap.specs.Tables.{rows_in_tables}
use Rattle.hprof_rows.proofs.EachTable.{fact_stated}
use Rattle.hprof_heap.proofs.heap.Heap.state.Goals as goal

pub invariant_of-self : goal.invariant_of-self
invariant_of-self c =
    let heap = c.args.self.now in
    let stated = fact_stated c.state.result (rows_in heap) (rows_in_tables c.state.new.self) heap.sound (value_of c.args.fact.now)
    c.requires.fits c.state.ensures in
    record { sound = stated.are_heap }

pub returns-clause-ok : goal.returns-clause-ok
returns-clause-ok c =
    let heap = c.args.self.now in
    (fact_stated c.state.result (rows_in heap) (rows_in_tables c.state.new.self) heap.sound (value_of c.args.fact.now)
    c.requires.fits c.state.ensures).ok

pub returns-clause-err : goal.returns-clause-err
returns-clause-err c =
    let heap = c.args.self.now in
    (fact_stated c.state.result (rows_in heap) (rows_in_tables c.state.new.self) heap.sound (value_of c.args.fact.now)
    c.requires.fits c.state.ensures).err

pub returns-clause-absent : goal.returns-clause-absent
returns-clause-absent c =
    let heap = c.args.self.now in
    (fact_stated c.state.result (rows_in heap) (rows_in_tables c.state.new.self) heap.sound (value_of c.args.fact.now)
    c.requires.fits c.state.ensures).absent
