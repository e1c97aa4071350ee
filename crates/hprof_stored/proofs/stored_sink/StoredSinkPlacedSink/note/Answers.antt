use Rattle.hprof_stored.specs.Storing.{storing}
use Rattle.hprof_stored.proofs.Noting.{noted_before, noted_within}
use Rattle.hprof_stored.proofs.stored_sink.StoredSinkPlacedSink.note.Goals as goal

pub returns-then-self-clause-holds : goal.returns-then-self-clause-holds
returns-then-self-clause-holds g c = λ limits earlier header bytes more front rest facts held parts behind.
    noted_within g.S.Target.written g.S.Target.health limits earlier bytes more front rest facts c.args.place parts behind
    (storing c.args.self.now) header c.note.new.self c.if-self.true held c.note.ensures.log

pub returns-else-self-clause-holds : goal.returns-else-self-clause-holds
returns-else-self-clause-holds g c = λ limits earlier header bytes more front rest facts held parts behind.
    noted_before g.S.Target.written g.S.Target.health limits earlier bytes more front rest facts c.args.place parts behind
    (storing c.args.self.now) header c.if-self.false held
