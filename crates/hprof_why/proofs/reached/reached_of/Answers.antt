use Rattle.std.proofs.Common.{None, Some, subst}
use Rattle.hprof_heap.specs.HeapFacts.{facts_of, size_of}
use Rattle.hprof_edges.specs.LeftOut.{IsKept, fields_in}
use Rattle.hprof_naming.proofs.Namings.{of_text}
use Rattle.hprof_weak.specs.Weak.{IsStrong}
use Rattle.hprof_why.specs.Paths.{IsPathTo}
use Rattle.hprof_why.proofs.Choosing.{path_same, strong_kept}
use Rattle.hprof_why.proofs.HowReached.{reached_otherwise}
use Rattle.hprof_why.proofs.reached.reached_of.Goals as goal

pub returns-in-Some-clause-reached : goal.returns-in-Some-clause-reached
returns-in-Some-clause-reached c =
    let ids = size_of c.args.heap.now in
    let facts = facts_of c.args.heap.now in
    let fields = fields_in c.args.weak.now in
    path_same (IsKept fields facts) (IsStrong facts) ids facts (strong_kept ids facts fields c.requires.weak) c.args.id
    (Some c.in-Some.path)
    (subst (IsPathTo (IsKept fields facts) ids facts c.args.id) c.in-Some.is (c.in_ok-strongly.ensures fields ids facts c.requires.strong))

pub returns-in-None-clause-reached : goal.returns-in-None-clause-reached
returns-in-None-clause-reached c =
    let ids = size_of c.args.heap.now in
    let facts = facts_of c.args.heap.now in
    let fields = fields_in c.args.weak.now in
    let none = path_same (IsKept fields facts) (IsStrong facts) ids facts (strong_kept ids facts fields c.requires.weak) c.args.id None
    (subst (IsPathTo (IsKept fields facts) ids facts c.args.id) c.in-None.is
    (c.in_ok-strongly.ensures fields ids facts c.requires.strong)) in
    of_text _ _ c.reached_without_strong.result (λ how is. reached_otherwise ids facts c.args.id how none is)
    c.reached_without_strong.ensures.reached
