use Rattle.std.proofs.Common.{Some, ap, refl, sym, ◌∙◌}
use Rattle.std.specs.Option.{option_map}
use Rattle.std.specs.Prelude.{ℤ}
use Rattle.hprof_items.specs.FactValue.{FactValue, value_of, Frame}
use Rattle.hprof_tables.specs.Relation.{rows_of}
use Rattle.hprof_rows.specs.declared.key.Key.TheVariants as keys
use Rattle.hprof_rows.specs.NumberRows.{frame_numbers}
use Rattle.hprof_rows.proofs.EachTable.{look_up_by}
use Rattle.hprof_rows.proofs.HeapRows.{line_again}
use Rattle.hprof_heap.specs.Heap.{rows_in}
use Rattle.hprof_heap.proofs.heap.Heap.frame.Goals as goal

pub returns-in_err-row : goal.returns-in_err-row
returns-in_err-row c =
    let heap = c.args.self.now in
    ap (option_map value_of) c.from_residual.ensures
    ∙ look_up_by (rows_in heap) heap.sound (keys.Frame c.args.id) frame_numbers (rows_of heap.tables.frames) _ refl c.in_err-row.ensures

pub returns : goal.returns
returns c =
    let heap = c.args.self.now in
    let row = c.in_ok-row.row.now in
    ap (λ (fact : FactValue). Some fact) c.fact.ensures.value
    ∙ ap (λ (line : ℤ). Some (Frame c.args.id row.method row.signature row.source row.class_serial line)) (sym (line_again row.line))
    ∙ look_up_by (rows_in heap) heap.sound (keys.Frame c.args.id) frame_numbers (rows_of heap.tables.frames) _ refl c.in_ok-row.ensures
