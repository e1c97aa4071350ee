use Rattle.std.proofs.Common.{Some, ap, sym, ◌∙◌, rules}
use Rattle.std.specs.Option.{option_map}
use Rattle.hprof_items.specs.FactValue.{FactValue, value_of}
use Rattle.hprof_rows.specs.declared.key.Key.TheVariants as keys
use Rattle.hprof_rows.specs.Content.{object_fact}
use Rattle.hprof_rows.proofs.EachTable.{look_up_key, right_key, key_fits}
use Rattle.hprof_rows.proofs.KeptObjects.{row_keeps}
use Rattle.hprof_heap.specs.Heap.{rows_in}
use Rattle.hprof_heap.proofs.heap.Heap.object_near.Goals as goal

pub returns-in_err-kept-clause-value : goal.returns-in_err-kept-clause-value
returns-in_err-kept-clause-value c =
    let heap = c.args.self.now in
    ap (option_map value_of) c.from_residual.ensures ∙ ap (option_map (object_fact heap.tables.ids c.args.id)) c.in_err-kept.ensures
    ∙ sym (look_up_key (rows_in heap) heap.sound (keys.Object c.args.id))

pub decode_object-requires : goal.decode_object-requires
decode_object-requires c =
    let heap = c.args.self.now in
    let key = keys.Object c.args.id in
    let bytes = c.in_ok-kept.kept.now in
    let is = sym c.in_ok-kept.ensures in (
      object_fact heap.tables.ids c.args.id bytes,
      row_keeps heap.tables.ids c.args.id bytes (right_key (rows_in heap) heap.sound key bytes is)
          (key_fits (rows_in heap) heap.sound key bytes is),
    )

pub returns-clause-value : goal.returns-clause-value
returns-clause-value c =
    let heap = c.args.self.now in
    let key = keys.Object c.args.id in
    let bytes = c.in_ok-kept.kept.now in
    let is = sym c.in_ok-kept.ensures in
    ap (λ (fact : FactValue). Some fact) (c.decode_object.ensures.fact (object_fact heap.tables.ids c.args.id bytes)
    (row_keeps heap.tables.ids c.args.id bytes (right_key (rows_in heap) heap.sound key bytes is)
    (key_fits (rows_in heap) heap.sound key bytes is)))
    ∙ ap (option_map (object_fact heap.tables.ids c.args.id)) c.in_ok-kept.ensures ∙ sym (look_up_key (rows_in heap) heap.sound key)

pub returns-clause-lists : goal.returns-clause-lists
returns-clause-lists c = search rules

pub returns-in_err-kept-clause-lists : goal.returns-in_err-kept-clause-lists
returns-in_err-kept-clause-lists c = search rules
