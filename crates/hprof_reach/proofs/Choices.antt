-- Where edges that are chosen in one way are chosen in another, what the ones lead to the others lead to.
use Rattle.std.specs.Prelude.{◌↔◌, ◌≤◌, ◌+◌, slice_index}
use Rattle.std.proofs.Common.{ℕ, List, Option, Some, None}
use Rattle.hprof_values.specs.declared.ids.IdSize.{IdSize}
use Rattle.hprof_items.specs.FactValue.{FactValue}
use Rattle.hprof_edges.specs.declared.edge.Edge.{Edge}
use Rattle.hprof_edges.specs.Edges.{IsEdge}
use Rattle.hprof_search.specs.Walks.{IsWalk, Reaches}
use Rattle.hprof_reach.specs.declared.reach.Reach.{Reach}
use Rattle.hprof_reach.specs.Reaching.{IsDistanceBy, IsPathBy, IsReachBy, IsStart, IsStepBy, LeadsBy}
use Rattle.hprof_reach.proofs.SameWalks.{has_distance_too, path_too, reaches_too, same_search}

module _ (P Q : Edge → Type 0) (ids : IdSize) (facts : List FactValue)
    (more : (edge : Edge) → IsEdge ids facts edge → P edge → Q edge) where
  pub leads_more : (from to : ℕ) → LeadsBy P ids facts from to → LeadsBy Q ids facts from to
  leads_more from to leads = record {
    via = leads.via;
    position = leads.position;
    edge = leads.edge;
    holds = more (record { from = from; via = leads.via; position = leads.position; to = to }) leads.edge leads.holds;
  }

  step_more : (from to : ℕ) → IsStepBy P ids facts from to → IsStepBy Q ids facts from to
  step_more from to step = (leads_more from to step.0, step.1)

  reaches_more : (count id : ℕ) → Reaches (IsStart facts) (IsStepBy P ids facts) count id
      → Reaches (IsStart facts) (IsStepBy Q ids facts) count id
  reaches_more = reaches_too (IsStart facts) (IsStart facts) (IsStepBy P ids facts) (IsStepBy Q ids facts) (λ node is. is) step_more

  -- a walk along the ones is one along the others
  pub walk_more : (nodes : List ℕ) (id : ℕ) → IsWalk (IsStart facts) (IsStepBy P ids facts) nodes id
      → IsWalk (IsStart facts) (IsStepBy Q ids facts) nodes id
  walk_more nodes id walk = record {
    some = walk.some;
    starts = walk.starts;
    steps = λ place below. step_more (slice_index nodes place) (slice_index nodes (place + 1)) (walk.steps place below);
    ends = walk.ends;
  }

  -- what the others do not lead to the ones do not lead to
  pub unreached : (id : ℕ) → IsDistanceBy Q ids facts id None → IsDistanceBy P ids facts id None
  unreached id none = λ count reaches. none count (reaches_more count id reaches)

  -- the others lead no less near
  pub no_farther : (id far near : ℕ) → IsDistanceBy P ids facts id (Some far) → IsDistanceBy Q ids facts id (Some near) → near ≤ far
  no_farther id far near is too = too.least far (reaches_more far id is.reaches)

module _ (P Q : Edge → Type 0) (ids : IdSize) (facts : List FactValue)
    (same : (edge : Edge) → IsEdge ids facts edge → P edge ↔ Q edge) where
  steps_same : (from to : ℕ) → IsStepBy P ids facts from to ↔ IsStepBy Q ids facts from to
  steps_same from to = (
    step_more P Q ids facts (λ edge is. (same edge is).0) from to,
    step_more Q P ids facts (λ edge is. (same edge is).1) from to,
  )

  pub same_distance : (id : ℕ) (distance : Option ℕ) → IsDistanceBy P ids facts id distance → IsDistanceBy Q ids facts id distance
  same_distance = has_distance_too (IsStart facts) (IsStart facts) (IsStepBy P ids facts) (IsStepBy Q ids facts)
      (λ node. (λ is. is, λ is. is)) steps_same

  pub same_path : (id : ℕ) (path : Option (List ℕ)) → IsPathBy P ids facts id path → IsPathBy Q ids facts id path
  same_path = path_too (IsStart facts) (IsStart facts) (IsStepBy P ids facts) (IsStepBy Q ids facts)
      (λ node. (λ is. is, λ is. is)) steps_same

  pub same_reach : (reach : Reach) → IsReachBy P ids facts reach → IsReachBy Q ids facts reach
  same_reach reach is = same_search (IsStart facts) (IsStart facts) (IsStepBy P ids facts) (IsStepBy Q ids facts)
      (λ node. (λ is. is, λ is. is)) steps_same reach.search is
