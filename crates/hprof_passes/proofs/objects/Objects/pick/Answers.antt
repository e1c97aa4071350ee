use Rattle.std.proofs.Common.{rules}
use Rattle.hprof_heap.specs.HeapFacts.{size_of}
use Rattle.hprof_passes.specs.Passing.{objects_among}
use Rattle.hprof_passes.proofs.GivenOn.{alike_passed, given_between}
use Rattle.hprof_passes.proofs.objects.Objects.pick.Goals as goal

pub returns-clause-given : goal.returns-clause-given
returns-clause-given g c = λ all make.
    let takes = g.T.ObjectSink.takes in
    let refuses = g.T.ObjectSink.refuses in
    let ids = size_of c.args.heap.now in
    let objects = objects_among all in
    let old = c.new-picking.result in
    let passes = c.pass.ensures.given all make in
    let alike = alike_passed takes refuses ids objects c.pass.result old c.pass.new.sink passes in
    given_between takes refuses ids c.args.wanted.now objects c.pass.result old c.pass.new.sink c.new-picking.ensures.into.0 passes
    c.args.sink.now _ (search rules) (search rules)
