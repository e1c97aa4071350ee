use Rattle.std.specs.Prelude.{◌↔◌, Contains}
use Rattle.std.proofs.Common.{ℕ, List, subst}
use Rattle.hprof_values.specs.declared.ids.IdSize.{IdSize}
use Rattle.hprof_items.specs.FactValue.{FactValue}
use Rattle.hprof_edges.specs.declared.field_place.FieldPlace.{FieldPlace}
use Rattle.hprof_numbers.specs.Numbered.{nodes_in}
use Rattle.hprof_reach.specs.EdgesMade.{AreKeptEdges}
use Rattle.hprof_search.specs.ByLists.{LeadsByList}
use Rattle.hprof_search.specs.Search.{IsSearch}
use Rattle.hprof_retained.specs.Border.{Crossing, IsCrossedTo, crossing_of, starts_of, steps_of}
use Rattle.hprof_retained.proofs.BorderLists.{if_ok_too}
use Rattle.hprof_retained.proofs.CrossedLists.{crossed_by_lists}
use Rattle.hprof_retained.proofs.beyond.reached_outside.Goals as goal

pub search_numbered-requires : goal.search_numbered-requires
search_numbered-requires c = record { stands = record { as_many = c.requires.as_many; within = c.requires.leads } }

pub returns-clause-exact : goal.returns-clause-exact
returns-clause-exact c =
    let nodes = nodes_in c.args.nodes in
    let edges = c.args.edges in
    let others = c.args.border.now.others.items in
    let sources = c.args.border.now.sources.items in
    let search = c.in_ok-search.search in
    let searched : IsSearch (λ node. Contains nodes node × Contains sources node)
    (λ from to. LeadsByList edges nodes from to × Contains nodes to) search =
    subst (λ (starts : List ℕ). IsSearch (λ node. Contains nodes node × Contains starts node)
    (λ from to. LeadsByList edges nodes from to × Contains nodes to) search) c.deref.ensures.value c.in_ok-search.ensures in
    if_ok_too c.reached_among.result
    (λ reached. (crossing : Crossing) → IsSearch (starts_of crossing) (steps_of crossing) search → (node : ℕ)
    → Contains reached.items node ↔ (Contains c.deref-2.result.now node × IsCrossedTo crossing node))
    (λ reached. (ids : IdSize) (facts : List FactValue) (fields : List FieldPlace) → AreKeptEdges ids facts fields nodes edges
    → (node : ℕ) → Contains reached.items node
    ↔ (Contains others node × IsCrossedTo (crossing_of ids facts fields nodes sources) node))
    (λ reached found. λ ids facts fields are node.
    subst (λ (l : List ℕ). Contains reached.items node
    ↔ (Contains l node × IsCrossedTo (crossing_of ids facts fields nodes sources) node)) c.deref-2.ensures.value
    (found (crossing_of ids facts fields nodes sources)
    (crossed_by_lists ids facts fields nodes edges c.requires.as_many c.requires.leads are sources search searched) node))
    c.reached_among.ensures.exact
