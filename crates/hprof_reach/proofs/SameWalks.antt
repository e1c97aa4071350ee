-- Walks over the same starts, and over the same steps from nodes, are the same walks, however these are told.
use Rattle.std.specs.Prelude.{◌↔◌}
use Rattle.std.proofs.Common.{ℕ, zero, suc, List, Option, Some, None, reverse}
use Rattle.hprof_search.specs.declared.kept_search.Search.{Search}
use Rattle.hprof_search.specs.Search.{IsSearch, node_at, node_before, nodes_found}
use Rattle.hprof_search.specs.Walks.{HasDistance, IsDistance, IsFoundFrom, IsLeastBefore, IsOrder, IsPath, IsWayBack, Reaches}

module _ (Starts Others : ℕ → Type 0) (Steps OtherSteps : ℕ → ℕ → Type 0) (starts : (node : ℕ) → Starts node → Others node)
    (steps : (from to : ℕ) → Steps from to → OtherSteps from to) where
  pub reaches_too : (count node : ℕ) → Reaches Starts Steps count node → Reaches Others OtherSteps count node
  reaches_too zero node reaches = starts node reaches
  reaches_too (suc count) node reaches =
      (reaches.0, reaches_too count reaches.0 reaches.1, steps reaches.0 node reaches.2)

-- the steps are the same from nodes; the starts are nodes, and steps from nodes lead to nodes
module _ (Starts Others : ℕ → Type 0) (Steps OtherSteps : ℕ → ℕ → Type 0) (Nodes : ℕ → Type 0)
    (starts : (node : ℕ) → Starts node ↔ Others node) (start_in : (node : ℕ) → Starts node → Nodes node)
    (steps : (from to : ℕ) → Nodes from → Steps from to ↔ OtherSteps from to)
    (step_in : (from to : ℕ) → Nodes from → Steps from to → Nodes to) where
  forth_in : (count node : ℕ) → Reaches Starts Steps count node → Reaches Others OtherSteps count node × Nodes node
  forth_in zero node reaches = ((starts node).0 reaches, start_in node reaches)
  forth_in (suc count) node reaches =
      let before = forth_in count reaches.0 reaches.1 in (
        (reaches.0, before.0, (steps reaches.0 node before.1).0 reaches.2),
        step_in reaches.0 node before.1 reaches.2,
      )

  back_in : (count node : ℕ) → Reaches Others OtherSteps count node → Reaches Starts Steps count node × Nodes node
  back_in zero node reaches = let is = (starts node).1 reaches in (is, start_in node is)
  back_in (suc count) node reaches =
      let before = back_in count reaches.0 reaches.1 in
      let step = (steps reaches.0 node before.1).1 reaches.2 in
      ((reaches.0, before.0, step), step_in reaches.0 node before.1 step)

  forth : (count node : ℕ) → Reaches Starts Steps count node → Reaches Others OtherSteps count node
  forth count node reaches = (forth_in count node reaches).0

  back : (count node : ℕ) → Reaches Others OtherSteps count node → Reaches Starts Steps count node
  back count node reaches = (back_in count node reaches).0

  distance_too : (node count : ℕ) → IsDistance Starts Steps node count → IsDistance Others OtherSteps node count
  distance_too node count is = record {
    reaches = forth count node is.reaches;
    least = λ other reaches. is.least other (back other node reaches);
  }

  distance_back : (node count : ℕ) → IsDistance Others OtherSteps node count → IsDistance Starts Steps node count
  distance_back node count is = record {
    reaches = back count node is.reaches;
    least = λ other reaches. is.least other (forth other node reaches);
  }

  least_too : (count before node : ℕ) → IsLeastBefore Starts Steps count before node → IsLeastBefore Others OtherSteps count before node
  least_too count before node is = record {
    distance = distance_too before count is.distance;
    steps = (steps before node (forth_in count before is.distance.reaches).1).0 is.steps;
    least = λ other at step.
        is.least other (distance_back other count at) ((steps other node (back_in count other at.reaches).1).1 step);
  }

  found_from_too : (count before node : ℕ) → IsFoundFrom Starts Steps count before node → IsFoundFrom Others OtherSteps count before node
  found_from_too zero before node from = from
  found_from_too (suc count) before node from = least_too count before node from

  order_too : (nodes : List ℕ) → IsOrder Starts Steps nodes → IsOrder Others OtherSteps nodes
  order_too nodes is = record {
    reached = λ node. (
      λ has. let of = (is.reached node).0 has in (of.0, distance_too node of.0 of.1),
      λ of. (is.reached node).1 (of.0, distance_back node of.0 of.1),
    );
    once = is.once;
    ascend = λ place other d before below near far at_place at_other.
        is.ascend place other d before below near far (distance_back _ near at_place) (distance_back _ far at_other);
  }

  -- a search over the ones is one over the others
  pub search_within : (search : Search) → IsSearch Starts Steps search → IsSearch Others OtherSteps search
  search_within search is = record {
    order = order_too (nodes_found search) is.order;
    before = λ number count has distance.
        found_from_too count (node_before search number) (node_at search number)
        (is.before number count has (distance_back (node_at search number) count distance));
    levels = λ node count distance. is.levels node count (distance_back node count distance);
  }

  -- a node has the same distance over the others
  distance_within : (node : ℕ) (distance : Option ℕ) → HasDistance Starts Steps node distance
      → HasDistance Others OtherSteps node distance
  distance_within node None none = λ count reaches. none count (back count node reaches)
  distance_within node (Some count) is = distance_too node count is

  way_back_too : (count node : ℕ) (nodes : List ℕ) → IsWayBack Starts Steps count node nodes
      → IsWayBack Others OtherSteps count node nodes
  way_back_too zero node nodes is = (distance_too node zero is.0, is.1)
  way_back_too (suc count) node nodes is = (
    distance_too node (suc count) is.0,
    (is.1.0, is.1.1, is.1.2, least_too count is.1.0 node is.1.3, way_back_too count is.1.0 is.1.1 is.1.4),
  )

  -- and the same path
  path_within : (node : ℕ) (path : Option (List ℕ)) → IsPath Starts Steps node path → IsPath Others OtherSteps node path
  path_within node None none = λ count reaches. none count (back count node reaches)
  path_within node (Some nodes) is = (is.0, way_back_too is.0 node (reverse nodes) is.1)

module _ (Starts Others : ℕ → Type 0) (Steps OtherSteps : ℕ → ℕ → Type 0) (starts : (node : ℕ) → Starts node ↔ Others node)
    (steps : (from to : ℕ) → Steps from to ↔ OtherSteps from to) where
  -- a search over the ones is one over the others
  pub same_search : (search : Search) → IsSearch Starts Steps search → IsSearch Others OtherSteps search
  same_search = search_within Starts Others Steps OtherSteps (λ node. Unit {0}) starts (λ node start. tt) (λ from to node. steps from to)
      (λ from to node step. tt)

  -- a node has the same distance over the others
  pub has_distance_too : (node : ℕ) (distance : Option ℕ) → HasDistance Starts Steps node distance
      → HasDistance Others OtherSteps node distance
  has_distance_too = distance_within Starts Others Steps OtherSteps (λ node. Unit {0}) starts (λ node start. tt)
      (λ from to node. steps from to) (λ from to node step. tt)

  -- and the same path
  pub path_too : (node : ℕ) (path : Option (List ℕ)) → IsPath Starts Steps node path → IsPath Others OtherSteps node path
  path_too = path_within Starts Others Steps OtherSteps (λ node. Unit {0}) starts (λ node start. tt) (λ from to node. steps from to)
      (λ from to node step. tt)
