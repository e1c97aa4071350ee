use Rattle.std.proofs.Common.{◌∙◌, ap, sym}
use Rattle.hprof_values.specs.declared.ids.IdSize.{IdSize}
use Rattle.hprof_heap.specs.HeapFacts.{facts_of, size_of}
use Rattle.hprof_heap.specs.ObjectDump.{fact_of_object}
use Rattle.hprof_histogram.specs.Histogram.{size_of_object}
use Rattle.hprof_retained.proofs.SizeFound.{size_found, size_of_dump}
use Rattle.hprof_retained.proofs.sizes.size_of_node.Goals as goal

pub returns-in-Some : goal.returns-in-Some
returns-in-Some c =
    let ids = size_of c.args.heap.now in
    size_found ids (facts_of c.args.heap.now) c.args.node c.find_object_near.result _ c.find_object_near.ensures
    (c.bytes_of_dump.ensures ∙ ap (λ (i : IdSize). size_of_object i (fact_of_object c.in-Some.dump)) c.id_size.ensures.value
    ∙ sym (ap (size_of_dump ids) c.in-Some.is))

pub returns-in-None : goal.returns-in-None
returns-in-None c =
    let ids = size_of c.args.heap.now in
    size_found ids (facts_of c.args.heap.now) c.args.node c.find_object_near.result _ c.find_object_near.ensures
    (sym (ap (size_of_dump ids) c.in-None.is))
