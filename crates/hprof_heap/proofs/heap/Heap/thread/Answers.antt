use Rattle.std.proofs.Common.{Some, ap, refl, ◌∙◌}
use Rattle.std.specs.Option.{option_map}
use Rattle.hprof_items.specs.FactValue.{FactValue, value_of}
use Rattle.hprof_tables.specs.Relation.{rows_of}
use Rattle.hprof_rows.specs.declared.key.Key.TheVariants as keys
use Rattle.hprof_rows.specs.NumberRows.{start_numbers}
use Rattle.hprof_rows.proofs.EachTable.{look_up_by}
use Rattle.hprof_heap.specs.Heap.{rows_in}
use Rattle.hprof_heap.proofs.heap.Heap.thread.Goals as goal

pub returns-in_err-row : goal.returns-in_err-row
returns-in_err-row c =
    let heap = c.args.self.now in
    ap (option_map value_of) c.from_residual.ensures
    ∙ look_up_by (rows_in heap) heap.sound (keys.Thread c.args.serial) start_numbers
    (rows_of heap.tables.starts) _ refl c.in_err-row.ensures

pub returns : goal.returns
returns c =
    let heap = c.args.self.now in
    ap (λ (fact : FactValue). Some fact) c.fact.ensures.value
    ∙ look_up_by (rows_in heap) heap.sound (keys.Thread c.args.serial) start_numbers (rows_of heap.tables.starts) _ refl c.in_ok-row.ensures
