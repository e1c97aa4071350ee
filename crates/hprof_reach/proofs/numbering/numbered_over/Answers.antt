use Rattle.std.specs.Prelude.{◌↔◌, Contains}
use Rattle.std.proofs.Common.{ℕ, List, sym, subst}
use Rattle.hprof_reach.specs.Reaching.{IsNode}
use Rattle.hprof_reach.proofs.numbering.numbered_over.Goals as goal

pub returns-in-Ok : goal.returns-in-Ok
returns-in-Ok g c = (
  c.in_ok-nodes.ensures.all.0,
  λ all make node. subst (λ (nodes : List ℕ). Contains nodes node ↔ IsNode all node) (sym c.in-Ok.ensures)
      (c.in_ok-nodes.ensures.all.1 all make node),
)
