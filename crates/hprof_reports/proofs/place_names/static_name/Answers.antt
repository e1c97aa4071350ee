use Rattle.hprof_heap.specs.HeapFacts.{facts_of}
use Rattle.hprof_heap.specs.ClassDump.{class_value}
use Rattle.hprof_reports.proofs.Places.{static_found}
use Rattle.hprof_reports.proofs.place_names.static_name.Goals as goal

pub returns-clause-some : goal.returns-clause-some
returns-clause-some c =
    let it = c.in_ok-dump in
    static_found (facts_of c.args.heap.now) c.args.class c.args.place
    (class_value it.dump) c.in_ok-field.field it.ensures.found it.ensures.id
    c.in_ok-field.ensures
