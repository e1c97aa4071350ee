use Rattle.std.proofs.Common.{subst}
use Rattle.std.specs.Prelude.{IfSome}
use Rattle.hprof_heap.specs.HeapFacts.{facts_of, size_of}
use Rattle.hprof_retained.specs.Weakly.{AreWeaklyHeld}
use Rattle.hprof_keeps.proofs.weakly.is_weakly_held.Goals as goal

pub returns-in-Some-clause-held : goal.returns-in-Some-clause-held
returns-in-Some-clause-held c =
    let ids = size_of c.args.heap.now in
    let facts = facts_of c.args.heap.now in
    c.is_held.ensures ids facts (subst (λ nodes. IfSome nodes (AreWeaklyHeld ids facts)) c.in-Some.is c.requires.weakly)

pub returns-clause-held : goal.returns-clause-held
returns-clause-held c = c.is_held-held.ensures (size_of c.args.heap.now) (facts_of c.args.heap.now) c.in_ok-nodes.ensures
