use Rattle.hprof_heap.specs.HeapFacts.{facts_of, size_of}
use Rattle.hprof_holders.proofs.EdgeNames.{name_found, weak_found}
use Rattle.hprof_holders.proofs.steps.step_of.Goals as goal

pub returns-clause-found : goal.returns-clause-found
returns-clause-found c = λ edges skips are is.
    let ids = size_of c.args.view.heap.now in
    let facts = facts_of c.args.view.heap.now in
    let agree = c.holds_of_heap.ensures.agree in
    let edge = c.args.edge in
    let left_out = c.is_left_out in
    let weak = c.requires.weak edge is in (
      name_found facts agree ids edges are edge is c.in_ok-name.name (c.in_ok-name.ensures.name skips is),
      weak_found facts agree ids edges are edge is left_out.result
          (λ e. weak.0 (left_out.ensures.0 e), λ told. left_out.ensures.1 (weak.1 told)),
    )
