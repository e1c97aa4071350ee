use Rattle.std.proofs.Common.{rules}
use Rattle.hprof_layouts.specs.Layout.{IsLayout, layout_value}
use Rattle.hprof_graph.specs.LiveHeap.{outcome_of}
use Rattle.hprof_graph.proofs.Outcomes.{answer_tried}
use Rattle.hprof_graph.proofs.live_heap.LiveHeap.layout_now.Goals as goal

pub returns : goal.returns
returns c =
    answer_tried (λ ids facts layout. IsLayout facts c.args.class (layout_value layout)) _ (λ heap layout gives. search rules)
    (λ layout gives ids. search rules) (outcome_of c.args.self.now) c.so_far.result c.try_map.result c.so_far.ensures c.try_map.ensures
