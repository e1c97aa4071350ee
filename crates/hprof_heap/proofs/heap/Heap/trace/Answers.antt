use Rattle.std.proofs.Common.{Some, ap, sym, ◌∙◌, rules}
use Rattle.std.specs.Option.{option_map}
use Rattle.hprof_items.specs.FactValue.{FactValue, value_of}
use Rattle.hprof_rows.specs.declared.key.Key.TheVariants as keys
use Rattle.hprof_rows.specs.Content.{trace_fact}
use Rattle.hprof_rows.proofs.EachTable.{look_up_key, right_key, key_fits}
use Rattle.hprof_rows.proofs.HeapRows.{row_is_trace}
use Rattle.hprof_heap.specs.Heap.{rows_in}
use Rattle.hprof_heap.proofs.heap.Heap.trace.Goals as goal

pub returns-in_err-kept-clause-value : goal.returns-in_err-kept-clause-value
returns-in_err-kept-clause-value c =
    let heap = c.args.self.now in
    ap (option_map value_of) c.from_residual.ensures ∙ ap (option_map (trace_fact heap.tables.ids c.args.serial)) c.in_err-kept.ensures
    ∙ sym (look_up_key (rows_in heap) heap.sound (keys.Trace c.args.serial))

pub decode_trace-requires : goal.decode_trace-requires
decode_trace-requires c =
    let heap = c.args.self.now in
    let key = keys.Trace c.args.serial in
    let kept = c.in_ok-kept.kept.now in
    let is = sym c.in_ok-kept.ensures in
    row_is_trace heap.tables.ids c.args.serial kept (right_key (rows_in heap) heap.sound key kept is)
    (key_fits (rows_in heap) heap.sound key kept is)

pub returns-clause-value : goal.returns-clause-value
returns-clause-value c =
    let heap = c.args.self.now in
    ap (λ (fact : FactValue). Some fact) c.decode_trace.ensures.value
    ∙ ap (option_map (trace_fact heap.tables.ids c.args.serial)) c.in_ok-kept.ensures
    ∙ sym (look_up_key (rows_in heap) heap.sound (keys.Trace c.args.serial))

pub returns-clause-lists : goal.returns-clause-lists
returns-clause-lists c = search rules

pub returns-in_err-kept-clause-lists : goal.returns-in_err-kept-clause-lists
returns-in_err-kept-clause-lists c = search rules
