use Rattle.std.proofs.Common.{List, codes, refl, sym, subst, zero, rules}
use Rattle.std.specs.List.{flat_map}
use Rattle.std.proofs.lemmas.Result.{err_from_is_err_and}
use Rattle.hprof_devices.proofs.Writes.{Writes-then, Writes-stops}
use Rattle.hprof_items.specs.FactValue.{FactValue}
use Rattle.hprof_rows.specs.declared.table.Table.TheVariants as tables
use Rattle.hprof_reports.specs.Check.{IsBadName, all_tables, check_text, table_line}
use Rattle.hprof_reports.specs.Counts.{IsCountOf}
use Rattle.hprof_lines.specs.Line.{count_line}
use Rattle.hprof_reports.proofs.CheckLines.{check_stops_at_parts, check_after_parts}
use Rattle.hprof_reports.proofs.check.write_counts.Goals as goal

pub returns-in_err-write_parts-clause-bytes : goal.returns-in_err-write_parts-clause-bytes
returns-in_err-write_parts-clause-bytes g c = λ facts whole counted.
    let parts = c.args.summaries.now in
    let bad = c.count_bad_names-bad.result in
    let r = c.from_residual.result in
    let p = err_from_is_err_and r c.from_residual.ensures.1 in (
      check_text parts facts bad,
      (
        bad,
        subst (λ (l : List FactValue). IsCountOf IsBadName l bad) (sym (whole.others tables.Names (λ e. cc)))
            c.count_bad_names-bad.ensures,
        refl,
      ),
      check_stops_at_parts parts facts bad (g.W.Target.written c.args.target.now) (g.W.Target.written c.write_parts.new.target) r p.0 p.1
          c.in_err-write_parts.ensures.bytes,
    )

pub returns-in_err-write_tables-clause-bytes : goal.returns-in_err-write_tables-clause-bytes
returns-in_err-write_tables-clause-bytes g c = λ facts whole counted.
    let parts = c.args.summaries.now in
    let bad = c.count_bad_names-bad.result in
    let mid = g.W.Target.written c.write_parts.new.target in
    let new = g.W.Target.written c.write_tables.new.target in
    let r = c.from_residual-in_err-write_tables.result in
    let p = err_from_is_err_and r c.from_residual-in_err-write_tables.ensures.1 in (
      check_text parts facts bad,
      (
        bad,
        subst (λ (l : List FactValue). IsCountOf IsBadName l bad) (sym (whole.others tables.Names (λ e. cc)))
            c.count_bad_names-bad.ensures,
        refl,
      ),
      check_after_parts parts facts bad (g.W.Target.written c.args.target.now) mid new r c.in_ok-write_parts.ensures.bytes
          (Writes-stops mid new r p.0 (flat_map (table_line facts) all_tables) (count_line (codes "bad names") bad) p.1
          (c.in_err-write_tables.ensures.bytes facts whole counted)),
    )

pub returns-clause-bytes : goal.returns-clause-bytes
returns-clause-bytes g c = λ facts whole counted.
    let parts = c.args.summaries.now in
    let bad = c.count_bad_names-bad.result in
    let mid = g.W.Target.written c.write_parts.new.target in
    let last = g.W.Target.written c.write_tables.new.target in
    let new = g.W.Target.written c.write_count.new.target in
    let r = c.write_count.result in (
      check_text parts facts bad,
      (
        bad,
        subst (λ (l : List FactValue). IsCountOf IsBadName l bad) (sym (whole.others tables.Names (λ e. cc)))
            c.count_bad_names-bad.ensures,
        refl,
      ),
      check_after_parts parts facts bad (g.W.Target.written c.args.target.now) mid new r c.in_ok-write_parts.ensures.bytes
          (Writes-then mid last new zero r (flat_map (table_line facts) all_tables) (count_line (codes "bad names") bad)
          (c.in_ok-write_tables.ensures.bytes facts whole counted) c.write_count.ensures.bytes),
    )

pub returns-clause-health : goal.returns-clause-health
returns-clause-health g c = search rules

pub returns-in_err-write_parts-clause-health : goal.returns-in_err-write_parts-clause-health
returns-in_err-write_parts-clause-health g c = search rules

pub returns-in_err-write_tables-clause-health : goal.returns-in_err-write_tables-clause-health
returns-in_err-write_tables-clause-health g c = search rules
