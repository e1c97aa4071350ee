-- The report `objects` is one text.
use Rattle.std.proofs.Common.{◌≡◌, ℕ, List, sym, ap, ◌∙◌}
use Rattle.hprof_values.specs.declared.ids.IdSize.{IdSize}
use Rattle.hprof_items.specs.FactValue.{FactValue}
use Rattle.hprof_histogram.specs.declared.row.Kind.{Kind}
use Rattle.hprof_histogram.proofs.ObjectOrder.{one_list}
use Rattle.hprof_lines.specs.ObjectsText.{IsObjectsText, objects_text}

pub one_objects_text : (ids : IdSize) (facts : List FactValue) (kind : Kind) (one other : List ℕ) → IsObjectsText ids facts kind one
    → IsObjectsText ids facts kind other → one ≡ other
one_objects_text ids facts kind one other is is_too =
    is.is ∙ ap objects_text (one_list ids facts kind is.objects is_too.objects is.are_objects is_too.are_objects) ∙ sym is_too.is
