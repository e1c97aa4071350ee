use Rattle.std.proofs.Common.{◌≡◌, ◌<◌, ℕ, Some, length, refl, ap, sym, subst, ◌∙◌, arith}
use Rattle.std.specs.Prelude.{slice_index}
use Rattle.hprof_numbers.specs.Lists.{IsListed}
use Rattle.hprof_numbers.specs.Numbered.{nodes_in}
use Rattle.hprof_numbers.specs.Numbers.{items_in}
use Rattle.hprof_numbers.specs.Predecessors.{list_of}
use Rattle.hprof_numbers.proofs.Ascending.{number_of}
use Rattle.hprof_numbers.proofs.Targets.{list_low, list_of_number, number_listed, number_of_list}
use Rattle.hprof_numbers.proofs.building.predecessors_of.Goals as goal

pub numbered_edges-requires-clause-fit : goal.numbered_edges-requires-clause-fit
numbered_edges-requires-clause-fit g c = λ target number is.
    let nodes = nodes_in c.args.nodes in
    let list = list_of_number nodes c.len-others.result c.len-others.ensures target number is in
    omega (arith, list, list_low nodes target, c.len-others.ensures, c.in-Some.ensures)

pub turned-requires : goal.turned-requires
turned-requires g c = λ number one listed.
    let nodes = nodes_in c.args.nodes in
    let others = c.len-others.result in
    let edges = c.in_ok-numbered_edges.ensures.edges in
    let of = number_listed nodes (g.G.Graph.leads c.args.graph.now) (Some others) _ edges number one
    ((c.in_ok-edges.ensures.same number one).0 listed) in
    omega (
      arith,
      list_of_number nodes others c.len-others.ensures of.0 one of.2,
      list_low nodes of.0,
      edges.as_many,
      c.in_ok-edges.ensures.as_many,
    )

pub invariant_of-result : goal.invariant_of-result
invariant_of-result g c = record {
  as_many = omega (arith, c.in_ok-lists.ensures.as_many, c.in_ok-edges.ensures.as_many, c.in_ok-numbered_edges.ensures.edges.as_many);
  within = c.in_ok-lists.lists.within;
}

pub returns-clause-all : goal.returns-clause-all
returns-clause-all g c = λ from to has_from leads.
    let nodes = nodes_in c.args.nodes in
    let has = number_of nodes from has_from in
    let Leads = g.G.Graph.leads c.args.graph.now in
    let number : ℕ = has.0 in
    let low : number < length nodes = has.1 in
    let is : slice_index nodes number ≡ from = has.2 in
    let list = list_of nodes to in
    let edge = (c.in_ok-numbered_edges.ensures.edges.exact number list low).1
    (to, subst (λ (node : ℕ). Leads node to) (sym is) leads, number_of_list nodes c.len-others.result c.len-others.ensures to) in
    let listed = (c.in_ok-lists.ensures.exact number list).1 ((c.in_ok-edges.ensures.same number list).1 edge) in (
      listed.0,
      listed.1,
      listed.2,
      omega (arith, low, listed.3),
      ap (slice_index nodes) listed.3 ∙ is,
    )

pub returns-clause-only : goal.returns-clause-only
returns-clause-only g c = λ from to source.
    let nodes = nodes_in c.args.nodes in
    let Leads = g.G.Graph.leads c.args.graph.now in
    let number = slice_index (items_in c.in_ok-lists.lists.items) source.0 in
    let list = list_of nodes to in
    let listed : IsListed c.in_ok-lists.lists list number = (source.0, source.1, source.2, refl) in
    let edge = (c.in_ok-edges.ensures.same number list).0 ((c.in_ok-lists.ensures.exact number list).0 listed) in
    let of = (c.in_ok-numbered_edges.ensures.edges.exact number list source.3).0 edge in (
      of.0,
      sym (list_of_number nodes c.len-others.result c.len-others.ensures of.0 list of.2),
      subst (λ (node : ℕ). Leads node of.0) source.4 of.1,
    )
