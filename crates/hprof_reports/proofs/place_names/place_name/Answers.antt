use Rattle.hprof_heap.specs.HeapFacts.{facts_of, size_of}
use Rattle.hprof_naming.proofs.Namings.{of_text}
use Rattle.hprof_reports.proofs.Places.{named_field, named_static}
use Rattle.hprof_reports.proofs.place_names.place_name.Goals as goal

pub returns-in-Static-clause-name : goal.returns-in-Static-clause-name
returns-in-Static-clause-name c = λ skips edge.
    let it = c.args.edge in
    named_static (size_of c.args.heap.now) (facts_of c.args.heap.now) it.from it.position it.to it.via c.static_name.result c.in-Static.is
    c.static_name.ensures.some c.static_name.ensures.none edge.1

pub returns-in-Field-clause-name : goal.returns-in-Field-clause-name
returns-in-Field-clause-name c =
    let it = c.args.edge in
    of_text _ _ c.field_name.result (λ name named skips edge.
    named_field (size_of c.args.heap.now) (facts_of c.args.heap.now) it.from it.position it.to it.via name c.in-Field.is
    (named skips) edge.1) c.field_name.ensures.name
