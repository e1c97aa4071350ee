use Rattle.std.specs.Prelude.{◌↔◌, Contains, slice_index}
use Rattle.std.proofs.Common.{ℕ, List, sym, subst}
use Rattle.hprof_heap.specs.HeapFacts.{facts_of, size_of}
use Rattle.hprof_numbers.specs.Numbered.{nodes_in}
use Rattle.hprof_reach.specs.Reaching.{IsNode}
use Rattle.hprof_reach.proofs.Wholes.{rooted_same}
use Rattle.hprof_reach.proofs.numbering.graph_over.Goals as goal

pub returns-clause-graph : goal.returns-clause-graph
returns-clause-graph g c =
    let ids = size_of c.args.heap.now in
    let facts = facts_of c.args.heap.now in (
      c.in_ok-numbered.ensures.0,
      λ all make.
          let whole = g.met.O.Objects.whole c.args.objects.now ids facts all make in
          let made = c.in_ok-nodes.ensures.exact.1 all make in
          record {
            nodes = λ id. subst (λ (nodes : List ℕ). Contains nodes id ↔ IsNode all id) (sym made.0)
                (c.in_ok-numbered.ensures.1 all make id);
            as_many = c.in_ok-nodes.ensures.as_many;
            leads = c.in_ok-nodes.ensures.leads;
            edges = made.1;
            starts = λ number.
                let is = c.in-Ok.ensures number in
                let same = rooted_same ids facts all whole (slice_index (nodes_in c.in_ok-nodes.nodes) number) in (
                  λ has. let both = is.0 has in (both.0, same.1 both.1),
                  λ both. is.1 (both.0, same.0 both.1),
                );
          },
    )

pub returns-clause-numbered : goal.returns-clause-numbered
returns-clause-numbered g c = record {
  as_many = c.in_ok-nodes.ensures.as_many;
  leads = c.in_ok-nodes.ensures.leads;
  starts = λ number has. ((c.in-Ok.ensures number).0 has).0;
}
