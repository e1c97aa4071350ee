use Rattle.std.proofs.Common.{◌++◌}
use Rattle.std.specs.List.{flat_map}
use Rattle.std.proofs.lemmas.List.{nil_from_length}
use Rattle.hprof_meaning.specs.Stated.{class_of_row}
use Rattle.hprof_meaning.proofs.ClassLists.{rows_all, rows_more}
use Rattle.hprof_meaning.proofs.gathering.push_of_rows.Goals as goal

pub loop-row-preserved : goal.loop-row-preserved
loop-row-preserved c =
    rows_more (c.args.classes.now.items ++ flat_map class_of_row c.args.rows.now) c.loop-row.classes.items c.push_of_row.new.classes.items
    c.in-Some.row.now c.in-Some.after.now c.loop-row.rest.now c.in-Some.ensures.cases.0 c.in_ok-push_of_row.ensures c.loop-row.invariant

pub returns : goal.returns
returns c =
    rows_all (c.args.classes.now.items ++ flat_map class_of_row c.args.rows.now) c.loop-row.classes.items c.loop-row.rest.now
    (nil_from_length c.loop-row.rest.now c.in_default.ensures.cases) c.loop-row.invariant
