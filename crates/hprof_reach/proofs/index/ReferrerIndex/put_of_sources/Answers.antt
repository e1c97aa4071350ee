use Rattle.std.proofs.Common.{◌≡◌, ◌<◌, ℕ, [], sym, ◌∙◌, arith}
use Rattle.hprof_heap.specs.HeapFacts.{facts_of, size_of}
use Rattle.hprof_edges.specs.EdgeSet.{SetOf}
use Rattle.hprof_edges.specs.LeftOut.{fields_in}
use Rattle.hprof_numbers.specs.Predecessors.{end_of, start_of}
use Rattle.hprof_reach.specs.Referring.{StandsAt}
use Rattle.hprof_reach.proofs.Froms.{puts_referrers}
use Rattle.hprof_reach.proofs.Putting.{all_put, node_there, put_next, put_same, put_zero}
use Rattle.hprof_reach.proofs.index.ReferrerIndex.put_of_sources.Goals as goal
use Rattle.hprof_reach.proofs.index.ReferrerIndex.put_of_sources.Goals.{else-from-last, then-from-last+in_ok-known_edges-2}

pub loop-place-init : goal.loop-place-init
loop-place-init c = record {
  put = λ is_index empty.
      let sources = c.args.self.now.sources in
      let ids = size_of c.args.heap.now in
      let facts = facts_of c.args.heap.now in
      let after = SetOf c.known_edges.new.into in
      rw c.start-first.ensures (put_zero ids facts sources (start_of sources c.args.id) after
      (all_put ids facts (fields_in c.none-none.result) c.none-none.ensures after [] 0
      (c.in_ok-known_edges.ensures.holds [] is_index.knows empty)));
  keeps = c.in_ok-known_edges.ensures.keeps;
}

pub loop-place-preserved : goal.loop-place-preserved
loop-place-preserved c =
    let ids = size_of c.args.heap.now in
    let facts = facts_of c.args.heap.now in
    let sources = c.args.self.now.sources in
    let id = c.args.id in
    let start = start_of sources id in
    let place = c.loop-place.place in
    let last = c.loop-place.last in
    let from = c.unwrap_or-from.result in
    let before = SetOf c.loop-place.set in
    let was = c.loop-place.invariant in
    let within : place < end_of sources id = omega (arith, c.loop-place-test.true, c.end-end.ensures) in
    let is : (node : ℕ) → StandsAt sources place node → node ≡ from = λ node stands.
    node_there sources id place last c.node_at.result within c.node_at.ensures.listed node stands ∙ sym c.unwrap_or-from.ensures in
    elim c.if-from-last.branch [
      | then-from-last+in_ok-known_edges-2 w ↦
          let next = w.in_ok-known_edges-2.ensures in
          let after = SetOf w.known_edges-then-from-last.new.into in
          record {
            put = λ is_index empty.
                let so_far = was.put is_index empty in
                rw (w.set-is, w.last-is) (put_next ids facts sources start before place last so_far after from
                (all_put ids facts (fields_in c.none-none.result) c.none-none.ensures after so_far.edges from
                (next.holds so_far.edges is_index.knows so_far.held)) is);
            keeps = rw w.set-is (next.keeps ∙ was.keeps);
          }
      | else-from-last w ↦ record {
        put = λ is_index empty.
            rw (w.set-is, w.last-is) (put_same ids facts sources start before place last (was.put is_index empty)
            (λ node stands. is node stands ∙ w.if-from-last.false));
        keeps = rw w.set-is was.keeps;
      }
    ]

pub returns-clause-put : goal.returns-clause-put
returns-clause-put c = λ is_index empty.
    puts_referrers (size_of c.args.heap.now) (facts_of c.args.heap.now) (SetOf c.loop-place.set) c.args.self.now c.args.id
    c.loop-place.place c.loop-place.last is_index (omega (arith, c.loop-place-test.false, c.end-end.ensures))
    (c.loop-place.invariant.put is_index empty)
