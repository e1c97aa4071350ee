use Rattle.std.proofs.Common.{◌∙◌}
use Rattle.hprof_heap.specs.Heap.{heap_of}
use Rattle.hprof_engine.proofs.Answers.{told_length}
use Rattle.hprof_engine.proofs.joined.join_with.Goals as goal

pub returns-in-Ok-clause-joined : goal.returns-in-Ok-clause-joined
returns-in-Ok-clause-joined g c = λ parts told.
    let heap = heap_of c.in-Ok.heap in
    record {
      ids = heap.ids;
      millis = heap.millis;
      rows = heap.facts;
      agree = c.in-Ok.ensures.heap parts told;
      parts_count = c.make_to.auto.readers ∙ told_length g.R.Source.left c.args.readers.now parts told;
      facts_count = c.count.ensures;
    }
