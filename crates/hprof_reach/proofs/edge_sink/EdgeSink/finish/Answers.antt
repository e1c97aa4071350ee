use Rattle.std.specs.Prelude.{◌↔◌, slice_index}
use Rattle.std.proofs.Common.{◌≡◌, ℕ, List, length, ap, subst, arith}
use Rattle.hprof_rows.proofs.Order.{order_agrees}
use Rattle.hprof_edges.specs.LeftOut.{IsKept}
use Rattle.hprof_edges.specs.declared.field_place.FieldPlace.{FieldPlace}
use Rattle.hprof_numbers.specs.Lists.{IsListed, count_in}
use Rattle.hprof_numbers.specs.Numbered.{nodes_in}
use Rattle.hprof_passes.specs.Passing.{objects_among}
use Rattle.hprof_reach.specs.EdgesMade.{fields_of}
use Rattle.hprof_reach.specs.Reaching.{LeadsBy}
use Rattle.hprof_reach.proofs.ObjectEdges.{all_leads}
use Rattle.hprof_reach.proofs.edge_sink.EdgeSink.finish.Goals as goal

pub returns-clause-leads : goal.returns-clause-leads
returns-clause-leads c = λ number one listed.
    let sink = c.end_lists.new.self in
    let all : count_in sink.lists ≡ c.len-count.result =
    c.in_ok-end_lists.ensures.as_many (omega (arith, c.args.self.few, c.len-count.ensures)) in
    let same = ap (length {A = ℕ}) c.end_lists.ensures.stays.nodes in
    omega (arith, sink.below number one listed, all, same, c.len-count.ensures)

pub returns-clause-exact : goal.returns-clause-exact
returns-clause-exact c = λ ids facts ordered seen from to low within.
    let sink = c.end_lists.new.self in
    let nodes = nodes_in sink.nodes in
    let all : count_in sink.lists ≡ c.len-count.result =
    c.in_ok-end_lists.ensures.as_many (omega (arith, c.args.self.few, c.len-count.ensures)) in
    let same = ap (length {A = ℕ}) c.end_lists.ensures.stays.nodes in
    let there = c.in_ok-end_lists.ensures.seen ids facts (objects_among facts) seen in
    let is = there.made.ended from to (omega (arith, low, all, same, c.len-count.ensures)) in
    let leads = all_leads ids facts (fields_of sink) (order_agrees facts ordered) (slice_index nodes from) (slice_index nodes to) in
    subst (λ (fields : List FieldPlace). IsListed sink.lists from to
    ↔ LeadsBy (IsKept fields facts) ids facts (slice_index nodes from) (slice_index nodes to)) c.end_lists.ensures.stays.fields
    (λ listed. leads.0 (is.0 listed).1, λ it. is.1 (within, leads.1 it))
