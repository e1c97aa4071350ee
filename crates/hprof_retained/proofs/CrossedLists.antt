-- A search from the border by the edges that are listed between its nodes.
use Rattle.std.specs.Prelude.{◌↔◌, Contains}
use Rattle.std.proofs.Common.{◌≡◌, ◌<◌, ℕ, List, length, slice_index, sym, subst}
use Rattle.hprof_values.specs.declared.ids.IdSize.{IdSize}
use Rattle.hprof_items.specs.FactValue.{FactValue}
use Rattle.hprof_edges.specs.LeftOut.{IsKept}
use Rattle.hprof_edges.specs.declared.field_place.FieldPlace.{FieldPlace}
use Rattle.hprof_numbers.specs.Lists.{IsListed, LeadsWithin, count_in}
use Rattle.hprof_numbers.specs.declared.lists.Lists.{Lists}
use Rattle.hprof_numbers.proofs.Ascending.{number_of}
use Rattle.hprof_search.specs.ByLists.{LeadsByList}
use Rattle.hprof_search.specs.Search.{IsSearch}
use Rattle.hprof_search.specs.declared.kept_search.Search.{Search}
use Rattle.hprof_reach.specs.EdgesMade.{AreKeptEdges}
use Rattle.hprof_reach.specs.Reaching.{LeadsBy}
use Rattle.hprof_reach.proofs.SameWalks.{search_within}
use Rattle.hprof_retained.specs.Border.{crossing_of, starts_of, steps_of}

module _ (ids : IdSize) (facts : List FactValue) (fields : List FieldPlace) (nodes : List ℕ) (lists : Lists)
    (as_many : count_in lists ≡ length nodes) (within : LeadsWithin lists) (are : AreKeptEdges ids facts fields nodes lists)
    (sources : List ℕ) where
  abbrev Leads : ℕ → ℕ → Type 0
  Leads from to = LeadsBy (IsKept fields facts) ids facts from to

  -- what is listed is the number of a node
  listed_within : (number one : ℕ) → IsListed lists number one → one < length nodes
  listed_within number one listed = subst (λ (n : ℕ). one < n) as_many (within number one listed)

  steps_same : (from to : ℕ) → Contains nodes from → (LeadsByList lists nodes from to × Contains nodes to)
      ↔ steps_of (crossing_of ids facts fields nodes sources) from to
  steps_same from to is_from = (there, back) where
    there : LeadsByList lists nodes from to × Contains nodes to → Leads from to × Contains nodes to
    there step =
        let leads = step.0 in
        let by = (are leads.number leads.one leads.within (listed_within leads.number leads.one leads.listed)).0 leads.listed in (
          subst (λ (n : ℕ). Leads from n) leads.to_is
              (subst (λ (n : ℕ). Leads n (slice_index nodes leads.one)) leads.from_is by),
          step.1,
        )

    back : Leads from to × Contains nodes to → LeadsByList lists nodes from to × Contains nodes to
    back step =
        let at = number_of nodes from is_from in
        let on = number_of nodes to step.1 in
        let by = subst (λ (n : ℕ). Leads (slice_index nodes at.0) n) (sym on.2) (subst (λ (n : ℕ). Leads n to) (sym at.2) step.0) in (
          record {
            number = at.0;
            within = at.1;
            from_is = at.2;
            one = on.0;
            listed = (are at.0 on.0 at.1 on.1).1 by;
            to_is = on.2;
          },
          step.1,
        )

  pub crossed_by_lists : (search : Search)
      → IsSearch (λ node. Contains nodes node × Contains sources node)
      (λ from to. LeadsByList lists nodes from to × Contains nodes to) search
      → IsSearch (starts_of (crossing_of ids facts fields nodes sources)) (steps_of (crossing_of ids facts fields nodes sources)) search
  crossed_by_lists =
      search_within (λ node. Contains nodes node × Contains sources node) (starts_of (crossing_of ids facts fields nodes sources))
      (λ from to. LeadsByList lists nodes from to × Contains nodes to) (steps_of (crossing_of ids facts fields nodes sources))
      (λ node. Contains nodes node) (λ node. (λ start. start, λ start. start)) (λ node start. start.0) steps_same
      (λ from to node step. step.1)
