use Rattle.hprof_heap.specs.Tables.{rows_in_tables}
use Rattle.hprof_heap.proofs.JoinTables.{can_join, table_joined}
use Rattle.hprof_heap.proofs.heap.Heap.join_table.Goals as goal

pub invariant_of-self : goal.invariant_of-self
invariant_of-self c =
    let can = can_join c.args.self.now c.args.other.now c.requires.ids c.requires.agree in
    record { sound = (table_joined can c.args.table c.join.result (rows_in_tables c.join.new.self) c.join.ensures).are_heap }

pub returns-clause-ok : goal.returns-clause-ok
returns-clause-ok c =
    let can = can_join c.args.self.now c.args.other.now c.requires.ids c.requires.agree in
    (table_joined can c.args.table c.join.result (rows_in_tables c.join.new.self) c.join.ensures).takes

pub returns-clause-err : goal.returns-clause-err
returns-clause-err c =
    let can = can_join c.args.self.now c.args.other.now c.requires.ids c.requires.agree in
    (table_joined can c.args.table c.join.result (rows_in_tables c.join.new.self) c.join.ensures).same

pub returns-clause-absent : goal.returns-clause-absent
returns-clause-absent c =
    let can = can_join c.args.self.now c.args.other.now c.requires.ids c.requires.agree in
    (table_joined can c.args.table c.join.result (rows_in_tables c.join.new.self) c.join.ensures).lacks
