use Rattle.std.specs.Prelude.{replicate}
use Rattle.std.proofs.Common.{◌≡◌, ◌∙◌, ap, rules}
use Rattle.hprof_heap.specs.HeapFacts.{facts_of}
use Rattle.hprof_by_label.proofs.Labelled.{labelled_none}
use Rattle.hprof_by_label.proofs.label_sink.LabelSink.new.Goals as goal

pub returns-clause-so_far : goal.returns-clause-so_far
returns-clause-so_far c = λ named ids.
    let facts = facts_of c.args.heap.now in
    let first = c.in_ok-label.label in
    let labels : c.in_ok-of_places.of_places.items ≡ replicate c.len.result first = search rules in
    let sizes : c.in_ok-sizes.sizes.items ≡ replicate c.len-2.result 0 = search rules in
    let label = c.in_ok-label.ensures.labelling named (c.new-labelling.ensures.labelling facts) in
    record {
      labelling = label.0;
      labelled = labelled_none ids facts c.args.retained.now c.label_of_kind.new.self c.in_ok-of_places.of_places.items
          c.in_ok-sizes.sizes.items first (labels ∙ ap (λ n. replicate n first) c.len.ensures)
          (sizes ∙ ap (λ n. replicate n 0) c.len-2.ensures) label.1;
    }
