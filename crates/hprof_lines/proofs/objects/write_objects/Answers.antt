use Rattle.std.proofs.Common.{refl}
use Rattle.std.specs.Prelude.{⊤}
use Rattle.hprof_heap.specs.HeapFacts.{facts_of, size_of}
use Rattle.hprof_passes.specs.Passing.{IsItself}
use Rattle.hprof_histogram.proofs.ObjectOrder.{some_list}
use Rattle.hprof_lines.specs.ObjectsText.{IsObjectsText, objects_text}
use Rattle.hprof_lines.proofs.PassedEnds.{in_memory}
use Rattle.hprof_lines.proofs.objects.write_objects.Goals as goal

-- memory may be wanted before the first line
pub returns-in-Err-clause-bytes : goal.returns-in-Err-clause-bytes
returns-in-Err-clause-bytes g c =
    let ids = size_of c.args.heap.now in
    let facts = facts_of c.args.heap.now in
    in_memory (IsItself ids facts) ⊤ (λ fault. ⊥) (λ all. IsObjectsText ids all c.args.kind) g.W.Target.written g.W.Target.health
    c.args.target.now
    c.write_objects_over.new.target facts (record {
      same = refl;
      fit = c.holds_of_heap.ensures.fit;
      ordered = c.holds_of_heap.ensures.ordered;
    }) (let objects = some_list ids facts c.args.kind in (
      objects_text objects.0,
      record { objects = objects.0; are_objects = objects.1; is = refl },
    )) c.in-Err.stop c.of_sink.result c.of_sink.ensures c.in-Err.ensures
