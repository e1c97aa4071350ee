use Rattle.std.proofs.Common.{Option, ap, is_some, subst}
use Rattle.std.specs.Prelude.{IfSome}
use Rattle.hprof_heap.specs.HeapFacts.{facts_of, size_of}
use Rattle.hprof_histogram.specs.declared.counted_kinds.CountedKinds.{CountedKinds}
use Rattle.hprof_histogram.specs.CountedKinds.{IsTally}
use Rattle.hprof_histogram.proofs.Known.{found_with}
use Rattle.hprof_histogram.proofs.counting.count_known.Goals as goal

pub returns-in-Some : goal.returns-in-Some
returns-in-Some g c = (
  c.requires (ap is_some c.in-Some.is),
  λ all made.
      subst (λ (known : Option CountedKinds). IfSome known (λ counts. IsTally (size_of c.args.heap.now) all counts)) c.in-Some.is made.1,
)

pub returns-in-None : goal.returns-in-None
returns-in-None g c =
    let ids = size_of c.args.heap.now in
    let facts = facts_of c.args.heap.now in
    let objects = c.args.objects.now in
    found_with (g.O.Objects.make_up objects ids facts) (g.O.Objects.agree objects ids facts) (g.O.Objects.tells objects ids facts)
    (IsTally ids) ids c.args.known c.count_objects.result c.count_objects.ensures
