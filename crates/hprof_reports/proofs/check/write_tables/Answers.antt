use Rattle.std.proofs.Common.{get_or, subst, rules}
use Rattle.std.specs.Io.KnownBytes.{Appends}
use Rattle.std.proofs.lemmas.Result.{err_from_is_err_and}
use Rattle.hprof_devices.proofs.Writes.{WritesFront}
use Rattle.hprof_rows.specs.declared.table.Table.TheVariants.{Names}
use Rattle.hprof_reports.specs.Check.{all_tables, table_line}
use Rattle.hprof_reports.proofs.CheckLines.{table_line_of}
use Rattle.hprof_reports.proofs.Slices.{slice_more, slice_stops, slice_all}
use Rattle.hprof_reports.proofs.check.write_tables.Goals as goal

pub returns-in_err-write_count-clause-bytes : goal.returns-in_err-write_count-clause-bytes
returns-in_err-write_count-clause-bytes g c = λ all whole counted.
    let place = c.loop-table.table-index in
    let mid = g.W.Target.written c.loop-table.target in
    let new = g.W.Target.written c.write_count.new.target in
    let p = err_from_is_err_and c.from_residual.result c.from_residual.ensures.1 in
    slice_stops (table_line all) (g.W.Target.written c.args.target.now) mid new all_tables place c.from_residual.result p.0 Names
    c.loop-table-test.true p.1 (c.loop-table.invariant.wrote all whole counted)
    (subst (WritesFront mid new)
    (table_line_of all (get_or all_tables place Names) c.table_word.result.now c.count_of.result c.table_word.ensures
    (c.count_of.ensures all whole counted))
    c.in_err-write_count.ensures.bytes)

pub loop-table-preserved : goal.loop-table-preserved
loop-table-preserved g c =
    let place = c.loop-table.table-index in
    let mid = g.W.Target.written c.loop-table.target in
    let new = g.W.Target.written c.write_count.new.target in
    record {
      wrote = λ all whole counted.
          slice_more (table_line all) (g.W.Target.written c.args.target.now) mid new all_tables place Names
          c.loop-table-test.true (c.loop-table.invariant.wrote all whole counted)
          (subst (Appends mid new)
          (table_line_of all (get_or all_tables place Names) c.table_word.result.now c.count_of.result c.table_word.ensures
          (c.count_of.ensures all whole counted))
          c.in_ok-write_count.ensures.bytes);
      well = c.in_ok-write_count.ensures.health;
    }

pub returns-clause-bytes : goal.returns-clause-bytes
returns-clause-bytes g c = λ all whole counted.
    slice_all (table_line all) (g.W.Target.written c.args.target.now) (g.W.Target.written c.loop-table.target)
    all_tables c.loop-table.table-index c.loop-table-test.false (c.loop-table.invariant.wrote all whole counted)

pub returns-clause-health : goal.returns-clause-health
returns-clause-health g c = search rules

pub returns-in_err-write_count-clause-health : goal.returns-in_err-write_count-clause-health
returns-in_err-write_count-clause-health g c = search rules
