use Rattle.std.proofs.Common.{◌≡◌, []}
use Rattle.hprof_heap.specs.HeapFacts.{facts_of, size_of}
use Rattle.hprof_edges.specs.Collecting.{is_edge_wanted}
use Rattle.hprof_edges.specs.EdgeSet.{SetOf, wanted_in}
use Rattle.hprof_numbers.specs.Predecessors.{start_of}
use Rattle.hprof_reach.specs.Index.{IsIndexOf}
use Rattle.hprof_reach.specs.Referring.{PutSoFar}
use Rattle.hprof_reach.proofs.index.ReferrerIndex.put_of_sources.Given as goal

-- the edges from 0 and from the nodes at the places so far were put
abbrev pub invariant-loop-place : goal.invariant-loop-place
invariant-loop-place l = record {
  put : IsIndexOf (size_of l.heap) (facts_of l.heap) l.self → SetOf l.fn.set []
      → PutSoFar (size_of l.heap) (facts_of l.heap) (SetOf l.set) l.self.sources (start_of l.self.sources l.id) l.place l.last;
  keeps : is_edge_wanted (wanted_in l.set) ≡ is_edge_wanted (wanted_in l.fn.set);
}
