use Rattle.std.specs.Prelude.{◌↔◌, Contains, slice_index}
use Rattle.std.proofs.Common.{◌≡◌, ℕ, length, subst, ◌∙◌, arith}
use Rattle.hprof_numbers.specs.Numbered.{nodes_in}
use Rattle.hprof_numbers.specs.Numbers.{items_in}
use Rattle.hprof_numbers.proofs.Targets.{edges_more}
use Rattle.hprof_numbers.proofs.edges.numbered_edges.Goals as goal

pub put_targets-requires : goal.put_targets-requires
put_targets-requires g c = record {
  fit = λ target number is. omega (arith, c.requires.fit target number is, c.loop-number.invariant.bound);
}

pub loop-number-preserved : goal.loop-number-preserved
loop-number-preserved g c =
    let i = c.loop-number.invariant in
    let nodes = nodes_in c.args.nodes.now in
    let number = c.loop-number.number in
    let targets = c.targets_of.new.targets.items in
    let Leads = g.G.Graph.leads c.args.graph.now in
    let exact : (to : ℕ) → Contains targets to ↔ Leads (slice_index nodes number) to = λ to.
    let told = subst (λ (node : ℕ). Contains targets to ↔ g.G.Graph.leads c.loop-number.graph node to) c.node.ensures
    (c.in_ok-targets_of.ensures.ok to) in
    let still = i.stays (slice_index nodes number) to in
    (λ has. still.0 (told.0 has), λ leads. told.1 (still.1 leads)) in
    record {
      edges = rw (c.in_ok-push_or_widen.ensures, c.len.ensures)
          (edges_more Leads nodes c.args.other (items_in c.loop-number.ends) (items_in c.loop-number.items)
          (items_in c.put_targets.new.items) targets number
          i.edges exact (rw c.deref.ensures.value at c.in_ok-put_targets.ensures.items));
      stays = λ node to.
          let one = c.targets_of.ensures.stays node to in
          let other = i.stays node to in (λ leads. other.0 (one.0 leads), λ leads. one.1 (other.1 leads));
      stands = c.targets_of.ensures.stands;
      bound = omega (arith, i.bound, c.in_ok-put_targets.ensures.bound);
    }

pub returns-clause-edges : goal.returns-clause-edges
returns-clause-edges g c =
    let i = c.loop-number.invariant in
    let all : c.loop-number.number ≡ length (nodes_in c.args.nodes.now) = omega (
      arith,
      c.loop-number-test.false,
      c.loop-number.auto.number-end,
      c.len-number-end.ensures,
    ) in
    record {
      as_many = i.edges.as_many ∙ all;
      exact = λ from number low. i.edges.each from number (omega (arith, low, all));
    }
