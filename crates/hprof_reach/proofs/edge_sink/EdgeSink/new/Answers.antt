use Rattle.std.specs.Prelude.{◌↔◌}
use Rattle.std.proofs.Common.{[], sym, subst}
use Rattle.hprof_heap.specs.Classes.{HasDump}
use Rattle.hprof_heap.specs.HeapFacts.{facts_of, size_of}
use Rattle.hprof_heap.specs.declared.heap.Heap.{Heap}
use Rattle.hprof_layouts.specs.Known.{Knows}
use Rattle.hprof_layouts.proofs.KnownPlans.{knows_same}
use Rattle.hprof_edges.specs.LeftOut.{fields_in}
use Rattle.hprof_edges.proofs.SeenReferrers.{dumps_same}
use Rattle.hprof_numbers.specs.Numbered.{nodes_in}
use Rattle.hprof_reach.specs.EdgesSoFar.{LeadsByClass, LeadsByObjects}
use Rattle.hprof_reach.specs.Graph.{targets_in}
use Rattle.hprof_reach.proofs.MadeLists.{none_made}
use Rattle.hprof_reach.proofs.edge_sink.EdgeSink.new.Goals as goal

pub returns-clause-seen : goal.returns-clause-seen
returns-clause-seen c = λ all whole.
    let ids = size_of c.args.heap.now in
    let facts = facts_of c.args.heap.now in
    let graph = c.in_ok-graph.graph in
    let heap = c.in_ok-graph.ensures.heap in
    let same = dumps_same ids facts all whole in
    record {
      dumps = λ dump. subst (λ (h : Heap). HasDump all dump ↔ HasDump (facts_of h) dump) (sym heap) (same dump);
      knows = knows_same ids facts all graph.known same
          (subst (λ (h : Heap). Knows (size_of h) (facts_of h) graph.known) heap c.in_ok-graph.ensures.tells.knows);
      tells = c.in_ok-graph.ensures.tells;
      made = none_made (nodes_in c.args.nodes) (LeadsByClass all) (LeadsByObjects ids all (fields_in graph.left_out.now) [])
          c.in_ok-lists.lists (targets_in graph) (λ from to leads. leads.has) c.in_ok-lists.ensures.none c.in_ok-graph.ensures.none;
    }
