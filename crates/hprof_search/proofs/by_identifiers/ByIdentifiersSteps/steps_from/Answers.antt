use Rattle.std.proofs.Common.{ℕ, Contains, slice_index, subst}
use Rattle.std.specs.Prelude.{◌↔◌}
use Rattle.std.proofs.lemmas.Result.{on_ok_weaker}
use Rattle.hprof_search.proofs.by_identifiers.ByIdentifiersSteps.steps_from.Goals as goal

pub returns-clause-ok : goal.returns-clause-ok
returns-clause-ok g c =
    let nodes = c.args.numbered.now.nodes.items in
    let node = slice_index nodes c.args.from in
    let leads = g.G.Graph.leads c.args.self.now.graph in
    let given : (to : ℕ) → Contains c.targets_of.new.targets.items to ↔ leads node to =
    subst (λ (n : ℕ). (to : ℕ) → Contains c.targets_of.new.targets.items to ↔ leads n to) c.node.ensures c.in_ok-targets_of.ensures.ok in
    on_ok_weaker c.look_up.result (λ same to within.
    let looked = rw c.deref.ensures.value at (same to within) in (
      λ has. (given (slice_index nodes to)).0 (looked.0 has),
      λ leads. looked.1 ((given (slice_index nodes to)).1 leads),
    )) c.look_up.ensures.ok
