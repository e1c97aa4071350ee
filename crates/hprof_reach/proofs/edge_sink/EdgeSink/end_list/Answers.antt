use Rattle.std.specs.Prelude.{◌↔◌, Contains, slice_index}
use Rattle.std.proofs.Common.{◌≡◌, ◌∙◌, ◌<◌, ℕ, List, Bor, length, sym, ap, subst, arith}
use Rattle.hprof_heap.specs.Classes.{ClassValue, HasDump}
use Rattle.hprof_heap.specs.HeapFacts.{facts_of}
use Rattle.hprof_heap.specs.declared.heap.Heap.{Heap}
use Rattle.hprof_layouts.specs.declared.known.KnownLayouts.{KnownLayouts}
use Rattle.hprof_layouts.specs.Known.{Knows}
use Rattle.hprof_edges.specs.LeftOut.{fields_in}
use Rattle.hprof_edges.specs.declared.left_out.LeftOut.{LeftOut}
use Rattle.hprof_numbers.specs.Lists.{IsListed, count_in}
use Rattle.hprof_numbers.specs.Numbered.{nodes_in}
use Rattle.hprof_reach.specs.EdgesSoFar.{AreMade, LeadsByClass, LeadsByObjects}
use Rattle.hprof_reach.specs.Graph.{targets_in}
use Rattle.hprof_reach.proofs.ClassEdges.{put_by_class}
use Rattle.hprof_reach.proofs.MadeLists.{list_made}
use Rattle.hprof_reach.proofs.edge_sink.EdgeSink.end_list.Goals as goal

pub invariant_of-self-in-Break-branch-2 : goal.invariant_of-self-in-Break-branch-2
invariant_of-self-in-Break-branch-2 c = record {
  room = c.push.ensures.bound;
  few = omega (arith, c.push.ensures.few, c.requires);
  below = c.push.ensures.below c.args.self.now.below;
}

pub invariant_of-self-2 : goal.invariant_of-self-2
invariant_of-self-2 c = record {
  room = c.push.ensures.bound;
  few = omega (arith, c.push.ensures.few, c.requires);
  below = c.push.ensures.below c.args.self.now.below;
}

pub returns-clause-seen : goal.returns-clause-seen
returns-clause-seen c = λ ids facts objects seen.
    let old = c.args.self.now in
    let nodes = nodes_in old.nodes in
    let graph = c.put_class_targets.new.self in
    let push = c.in_ok-push.ensures in
    let node = slice_index nodes (count_in old.lists) in
    let is_node : c.node-node.result ≡ node = c.node-node.ensures ∙ ap (slice_index nodes) c.len.ensures in
    let put = put_by_class facts (facts_of old.graph.heap.now) seen.dumps c.node-node.result node is_node
    (targets_in old.graph) (targets_in graph) (c.in_ok-put_class_targets.ensures.put seen.tells) in
    let tells = c.put_class_targets.ensures.tells seen.tells in
    record {
      dumps = subst (λ (heap : Bor Heap). (dump : ClassValue) → HasDump facts dump ↔ HasDump (facts_of heap.now) dump)
          (sym c.put_class_targets.ensures.heap) seen.dumps;
      knows = subst (λ (known : KnownLayouts). Knows ids facts known) (sym c.put_class_targets.ensures.known) seen.knows;
      tells = record { knows = tells.knows; classes = tells.classes };
      made = subst (λ (left_out : Bor LeftOut). AreMade nodes (LeadsByClass facts)
          (LeadsByObjects ids facts (fields_in left_out.now) objects) c.push.new.self c.clear.new.self.items)
          (sym c.put_class_targets.ensures.left_out)
          (list_made nodes (LeadsByClass facts) (LeadsByObjects ids facts (fields_in old.graph.left_out.now) objects) old.lists
          c.push.new.self (targets_in old.graph) (targets_in graph) c.clear.new.self.items seen.made c.requires put
          push.as_many push.before (λ one. subst (λ (list : List ℕ). IsListed c.push.new.self (count_in old.lists) one
          ↔ ((one < length nodes) × Contains list (slice_index nodes one))) c.deref.ensures.value (push.last one)) c.clear.ensures.items);
    }
