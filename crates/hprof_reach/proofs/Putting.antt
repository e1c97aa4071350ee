-- The edges of one node more are put.
use Rattle.std.specs.Prelude.{MatchOption, slice_index, unwrap_or}
use Rattle.std.proofs.Common.{◌≡◌, ◌⊎◌, ◌<◌, ◌+◌, ltb, ℕ}
use Rattle.std.proofs.Common.{Bool, true, false, List, [], ◌++◌, Option, Some, None, length, inl, inr, refl, sym, subst, arith}
use Rattle.std.proofs.lemmas.Bool.{ltb-true, ltb-false}
use Rattle.std.proofs.lemmas.List.Elements.{Contains-append_cases, Contains-append_left, Contains-append_right}
use Rattle.hprof_values.specs.declared.ids.IdSize.{IdSize}
use Rattle.hprof_items.specs.FactValue.{FactValue}
use Rattle.hprof_edges.specs.declared.edge.Edge.{Edge}
use Rattle.hprof_edges.specs.Collecting.{PutBehind}
use Rattle.hprof_edges.specs.declared.field_place.FieldPlace.{FieldPlace}
use Rattle.hprof_edges.specs.Edges.{IsEdge}
use Rattle.hprof_edges.specs.LeftOut.{IsKept}
use Rattle.hprof_edges.proofs.LeftOutEdges.{all_from}
use Rattle.hprof_edges.proofs.PutTogether as together
use Rattle.hprof_numbers.specs.declared.predecessors.Predecessors.{Predecessors}
use Rattle.hprof_numbers.specs.Predecessors.{end_of, nodes_of, number_at}
use Rattle.hprof_reach.specs.Referring.{PutSoFar, StandsAt}

pub earlier : (before place : ℕ) → before < place + 1 → (before < place) ⊎ (before ≡ place)
earlier before place few = by (ltb before place) refl where
  by : (test : Bool) → ltb before place ≡ test → (before < place) ⊎ (before ≡ place)
  by true e = inl (ltb-true before place e)
  by false e = inr (omega (arith, few, ltb-false before place e))

-- the node that stands at a place of a list is what is told of the place
pub node_there : (sources : Predecessors) (id place last : ℕ) (told : Option ℕ) → place < end_of sources id
    → ((from to : ℕ) → place < end_of sources to → number_at sources place < length (nodes_of sources)
    → slice_index (nodes_of sources) (number_at sources place) ≡ from → MatchOption told ⊥ (λ node. node ≡ from))
    → (node : ℕ) → StandsAt sources place node → node ≡ unwrap_or told last
node_there sources id place last None within listed node stands = absurd (listed node id within stands.0 stands.1)
node_there sources id place last (Some one) within listed node stands = sym (listed node id within stands.0 stands.1)

-- where no fields are left out, all edges of a node are put
pub all_put : (ids : IdSize) (facts : List FactValue) (fields : List FieldPlace) → fields ≡ [] → (holds : List Edge → Type 0)
    (edges : List Edge) (node : ℕ)
    → PutBehind holds edges (λ edge. IsEdge ids facts edge × (edge.from ≡ node) × IsKept fields facts edge)
    → PutBehind holds edges (λ edge. IsEdge ids facts edge × (edge.from ≡ node))
all_put ids facts fields none holds edges node put = together.put_same edges holds _ _ put (all_from ids facts fields node none)

module _ (ids : IdSize) (facts : List FactValue) (sources : Predecessors) (start : ℕ) where
  -- those of 0 are put first
  pub put_zero : (holds : List Edge → Type 0) → PutBehind holds [] (λ edge. IsEdge ids facts edge × (edge.from ≡ 0))
      → PutSoFar ids facts holds sources start start 0
  put_zero holds put = record {
    edges = put.more;
    held = put.holds_more;
    only = λ edge has. ((put.exact edge).0 has).0;
    zero = λ edge is from. (put.exact edge).1 (is, from);
    latest = λ edge is from. (put.exact edge).1 (is, from);
    places = λ before up few edge is stands. absurd (omega (arith, up, few));
  }

  module _ (old : List Edge → Type 0) (place last : ℕ) (so_far : PutSoFar ids facts old sources start place last) where
    -- the node at the place is the last one, or none stands there
    pub put_same : ((node : ℕ) → StandsAt sources place node → node ≡ last) → PutSoFar ids facts old sources start (place + 1) last
    put_same is_last = record {
      edges = so_far.edges;
      held = so_far.held;
      only = so_far.only;
      zero = so_far.zero;
      latest = so_far.latest;
      places = λ before up few edge is stands. elim (earlier before place few) [
        | inl early ↦ so_far.places before up early edge is stands
        | inr here ↦ so_far.latest edge is (is_last edge.from (subst (λ (p : ℕ). StandsAt sources p edge.from) here stands))
      ];
    }

    -- the edges of another node are put
    pub put_next : (new : List Edge → Type 0) (node : ℕ)
        → PutBehind new so_far.edges (λ edge. IsEdge ids facts edge × (edge.from ≡ node))
        → ((other : ℕ) → StandsAt sources place other → other ≡ node) → PutSoFar ids facts new sources start (place + 1) node
    put_next new node put is_node = record {
      edges = so_far.edges ++ put.more;
      held = put.holds_more;
      only = λ edge has. elim (Contains-append_cases so_far.edges put.more edge has) [
        | inl there ↦ so_far.only edge there
        | inr more ↦ ((put.exact edge).0 more).0
      ];
      zero = λ edge is from. Contains-append_left so_far.edges put.more edge (so_far.zero edge is from);
      latest = λ edge is from. Contains-append_right so_far.edges put.more edge ((put.exact edge).1 (is, from));
      places = λ before up few edge is stands. elim (earlier before place few) [
        | inl early ↦ Contains-append_left so_far.edges put.more edge (so_far.places before up early edge is stands)
        | inr here ↦ Contains-append_right so_far.edges put.more edge
            ((put.exact edge).1 (is, is_node edge.from (subst (λ (p : ℕ). StandsAt sources p edge.from) here stands)))
      ];
    }
