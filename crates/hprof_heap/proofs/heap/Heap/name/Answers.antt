use Rattle.std.proofs.Common.{ap, ◌∙◌, sym}
use Rattle.std.specs.Option.{option_map}
use Rattle.hprof_items.specs.FactValue.{value_of, Name}
use Rattle.hprof_rows.specs.declared.key.Key.TheVariants as keys
use Rattle.hprof_rows.proofs.EachTable.{look_up_key}
use Rattle.hprof_heap.specs.Heap.{rows_in}
use Rattle.hprof_heap.proofs.heap.Heap.name.Goals as goal

pub returns-in_err-text : goal.returns-in_err-text
returns-in_err-text c =
    let heap = c.args.self.now in
    ap (option_map value_of) c.from_residual.ensures ∙ ap (option_map (Name c.args.id)) c.in_err-text.ensures
    ∙ sym (look_up_key (rows_in heap) heap.sound (keys.Name c.args.id))

pub returns : goal.returns
returns c =
    let heap = c.args.self.now in
    ap (option_map (Name c.args.id)) c.in_ok-text.ensures ∙ sym (look_up_key (rows_in heap) heap.sound (keys.Name c.args.id))
