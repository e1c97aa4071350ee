-- The objects of a kind, each with its bytes, and their order.
use Rattle.std.specs.Prelude.{List, map}
use Rattle.std.specs.Cmp.{IsTotalOrder}
use Rattle.std.proofs.lemmas.Cmp.{nat_cmp_total, on_total, then_total, back_total}
use Rattle.hprof_values.specs.declared.ids.IdSize.{IdSize}
use Rattle.hprof_items.specs.FactValue.{FactValue}
use Rattle.hprof_histogram.specs.declared.objects.SizedObject.{SizedObject}
use Rattle.hprof_histogram.specs.declared.row.Kind.{Kind}
use Rattle.hprof_histogram.specs.Histogram.{of_kind}
use Rattle.hprof_histogram.specs.Objects.{object_cmp, sized_of}

pub object_cmp_total : IsTotalOrder object_cmp
object_cmp_total =
    then_total (back_total (on_total (λ (object : SizedObject). object.bytes) nat_cmp_total))
    (on_total (λ (object : SizedObject). object.id) nat_cmp_total)

-- those of the kind among these
abbrev pub of_these : IdSize → Kind → List FactValue → List SizedObject
of_these ids kind facts = map (sized_of ids) (of_kind kind facts)
