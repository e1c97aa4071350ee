use Rattle.std.proofs.Common.{◌↔◌, ℕ, take}
use Rattle.hprof_search.specs.Finds.{Follows, LeadsOn, finds_of}
use Rattle.hprof_search.proofs.leading.lead_on.Given as goal

abbrev pub invariant-loop-number : goal.invariant-loop-number
invariant-loop-number g l = record {
  follows : Follows (LeadsOn (g.S.Steps.leads l.initial.steps l.numbered.nodes.items) l.numbered.nodes.items (take l.number-index l.level))
      (finds_of l.initial.trail) (finds_of l.trail);
  stays : (node to : ℕ)
      → g.S.Steps.leads l.steps l.numbered.nodes.items node to ↔ g.S.Steps.leads l.initial.steps l.numbered.nodes.items node to;
  stands : g.S.Steps.stands l.steps l.numbered.nodes.items;
}
