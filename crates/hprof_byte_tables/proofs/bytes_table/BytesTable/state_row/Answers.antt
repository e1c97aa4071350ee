use Rattle.std.proofs.Common.{Option, Bool, Some, ap, subst, ◌∙◌, rules}
use Rattle.std.specs.Option.{option_map}
use Rattle.hprof_byte_tables.specs.Spans.{lying, rows_lying, the_bytes}
use Rattle.hprof_tables.specs.Relation.{States}
use Rattle.hprof_byte_tables.specs.StatedBytes.{bytes_of}
use Rattle.hprof_tables.specs.SortedTable.{entries_of}
use Rattle.hprof_byte_tables.proofs.Spans.{row_lying, stated_by, visited, visited-within}
use Rattle.hprof_tables.proofs.SortedList.{at_err}
use Rattle.hprof_byte_tables.proofs.bytes_table.BytesTable.state_row.Goals as goal

pub invariant_of-self : goal.invariant_of-self
invariant_of-self c =
    let table = c.args.self.now in
    record {
      sound = visited-within table.bytes.items c.visit.new.room.items (bytes_of c.args.row) (entries_of table.rows)
          (entries_of c.visit.new.self) c.args.key
          c.visit.result table.sound c.visit.ensures.ok c.visit.ensures.err c.visit.ensures.kept;
    }

pub returns-in_err-visit-clause-absent : goal.returns-in_err-visit-clause-absent
returns-in_err-visit-clause-absent c =
    let table = c.args.self.now in
    at_err c.from_residual.result _ (row_lying table.bytes.items (entries_of table.rows) c.args.key
    ∙ ap (option_map (lying table.bytes.items)) c.in_err-visit.ensures.absent)

pub returns-in-None-clause-ok : goal.returns-in-None-clause-ok
returns-in-None-clause-ok c =
    let table = c.args.self.now in
    let old = entries_of table.rows in
    let new = entries_of c.visit.new.self in
    subst (λ (answer : Option Bool). States the_bytes (rows_lying table.bytes.items old) c.args.key (bytes_of c.args.row) (stated_by answer)
    (rows_lying c.visit.new.room.items new))
    c.in-None.is
    (visited table.bytes.items c.visit.new.room.items (bytes_of c.args.row) old new c.args.key c.in_ok-visit.field-0 table.sound
    c.in_ok-visit.ensures.ok c.in_ok-visit.ensures.kept)

pub returns-in-Some-true-clause-ok : goal.returns-in-Some-true-clause-ok
returns-in-Some-true-clause-ok c =
    let table = c.args.self.now in
    let old = entries_of table.rows in
    let new = entries_of c.visit.new.self in
    subst (λ (answer : Option Bool). States the_bytes (rows_lying table.bytes.items old) c.args.key (bytes_of c.args.row) (stated_by answer)
    (rows_lying c.visit.new.room.items new))
    (c.in-Some-true.is ∙ ap (λ (same : Bool). Some same) c.in-Some-true.field-0-test)
    (visited table.bytes.items c.visit.new.room.items (bytes_of c.args.row) old new c.args.key c.in_ok-visit.field-0 table.sound
    c.in_ok-visit.ensures.ok c.in_ok-visit.ensures.kept)

pub returns-in-Some-false-clause-ok : goal.returns-in-Some-false-clause-ok
returns-in-Some-false-clause-ok c =
    let table = c.args.self.now in
    let old = entries_of table.rows in
    let new = entries_of c.visit.new.self in
    subst (λ (answer : Option Bool). States the_bytes (rows_lying table.bytes.items old) c.args.key (bytes_of c.args.row) (stated_by answer)
    (rows_lying c.visit.new.room.items new))
    (c.in-Some-false.is ∙ ap (λ (same : Bool). Some same) c.in-Some-false.field-0-test)
    (visited table.bytes.items c.visit.new.room.items (bytes_of c.args.row) old new c.args.key c.in_ok-visit.field-0 table.sound
    c.in_ok-visit.ensures.ok c.in_ok-visit.ensures.kept)

pub returns-in_err-visit-clause-err : goal.returns-in_err-visit-clause-err
returns-in_err-visit-clause-err c = search rules

pub returns-in_err-visit-clause-left : goal.returns-in_err-visit-clause-left
returns-in_err-visit-clause-left c = search rules

pub returns-in-None-clause-put : goal.returns-in-None-clause-put
returns-in-None-clause-put c = search rules

pub returns-in-Some-true-clause-kept : goal.returns-in-Some-true-clause-kept
returns-in-Some-true-clause-kept c = search rules
