use Rattle.hprof_heap.specs.HeapFacts.{facts_of}
use Rattle.hprof_heap.specs.ClassDump.{class_value}
use Rattle.hprof_reports.proofs.KnownChains.{same_above}
use Rattle.hprof_reports.proofs.field_names.FieldNames.next_class.Goals as goal

pub returns-in-Some-find_class : goal.returns-in-Some-find_class
returns-in-Some-find_class c = λ skips.
    let it = c.in-Some-find_class in
    same_above (facts_of c.args.heap.now) c.args.class (class_value it.dump) it.ensures.only c.if-class-ne0.true
    (c.is_empty.ensures.0 c.if-is_empty.true)
