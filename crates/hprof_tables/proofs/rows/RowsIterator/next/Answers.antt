use Rattle.std.proofs.Common.{length, ap, rules}
use Rattle.hprof_tables.specs.PlacedRows.{rows_at}
use Rattle.hprof_tables.specs.SortedTable.{entries_left}
use Rattle.hprof_tables.proofs.PlacedRows.{first_within, left_within, placed-first}
use Rattle.hprof_tables.proofs.rows.RowsIterator.next.Goals as goal

pub returns-in_err-key-clause-steps : goal.returns-in_err-key-clause-steps
unfolding rows_at
returns-in_err-key-clause-steps g c = search rules

pub returns-clause-steps : goal.returns-clause-steps
returns-clause-steps g c =
    let rows = c.args.self.now in
    placed-first rows.rows.now (entries_left rows.entries) (c.in_ok-key.key, c.in_ok-key.place.now) (entries_left c.next.new.self)
    c.index-self-place.result rows.sound c.in_ok-key.ensures.steps

pub returns-clause-goes : goal.returns-clause-goes
returns-clause-goes g c =
    let rows = c.args.self.now in
    let count = ap length (placed-first rows.rows.now (entries_left rows.entries) (c.in_ok-key.key, c.in_ok-key.place.now)
    (entries_left c.next.new.self) c.index-self-place.result rows.sound c.in_ok-key.ensures.steps) in
    search rules

pub invariant_of-self : goal.invariant_of-self
invariant_of-self g c =
    let rows = c.args.self.now in
    record {
      sound = left_within rows.rows.now (entries_left rows.entries) (entries_left c.next.new.self) c.next.result rows.sound
          c.next.ensures.steps;
    }

pub offset_bounds-self-place : goal.offset_bounds-self-place
offset_bounds-self-place g c =
    let rows = c.args.self.now in
    let there = first_within rows.rows.now (entries_left rows.entries) (c.in_ok-key.key, c.in_ok-key.place.now) (entries_left
    c.next.new.self)
    rows.sound c.in_ok-key.ensures.steps in
    search rules

pub bounds-self-place : goal.bounds-self-place
bounds-self-place g c =
    let rows = c.args.self.now in
    first_within rows.rows.now (entries_left rows.entries) (c.in_ok-key.key, c.in_ok-key.place.now) (entries_left c.next.new.self)
    rows.sound c.in_ok-key.ensures.steps
