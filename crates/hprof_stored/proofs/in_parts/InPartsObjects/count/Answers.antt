use Rattle.std.proofs.lemmas.Result.{IfOk-weaker}
use Rattle.hprof_heap.specs.HeapFacts.{facts_of, size_of}
use Rattle.hprof_stored.proofs.Counted.{made_counted}
use Rattle.hprof_stored.proofs.in_parts.InPartsObjects.count.Goals as goal

pub returns-clause-value : goal.returns-clause-value
returns-clause-value g c = λ all make.
    IfOk-weaker c.count_all.result _ _
    (λ count many. made_counted g.S.Target.written g.S.Target.health g.P.Parts.bytes c.args.self.now count many
    (size_of c.args._heap.now) (facts_of c.args._heap.now) all make)
    c.count_all.ensures.count
