use Rattle.hprof_heap.specs.HeapFacts.{facts_of, size_of}
use Rattle.hprof_stored.proofs.Counted.{made_counted}
use Rattle.hprof_stored.proofs.OneContent.{united}
use Rattle.hprof_stored.proofs.agreed.AgreedObjects.count.Goals as goal

pub returns-clause-value : goal.returns-clause-value
returns-clause-value g c =
    let it = c.args.self.now in
    made_counted g.S.Target.written g.S.Target.health g.P.Parts.bytes it.objects it.count it.counted
    (size_of c.args._heap.now) (facts_of c.args._heap.now)

pub returns-clause-agree : goal.returns-clause-agree
returns-clause-agree g c =
    let it = c.args.self.now in united g.S.Target.written g.S.Target.health g.P.Parts.bytes it.objects it.agree
