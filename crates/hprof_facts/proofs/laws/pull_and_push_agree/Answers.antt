use Rattle.hprof_facts.proofs.Agreeing.{agree, agree_from_start}
use Rattle.hprof_facts.proofs.laws.pull_and_push_agree.Goals as goal

pub returns-clause-start : goal.returns-clause-start
returns-clause-start g c = agree_from_start g.R.Source.left g.R.Source.health g.R.Source.pulls g.Q.Source.left g.Q.Source.health
    g.Q.Source.pulls
    g.S.Sink.begins g.S.Sink.steps g.S.Sink.refuses g.S.Sink.failed

pub returns-clause-place : goal.returns-clause-place
returns-clause-place g c = agree g.R.Source.left g.R.Source.health g.R.Source.pulls g.Q.Source.left g.Q.Source.health g.Q.Source.pulls
    g.S.Sink.begins g.S.Sink.steps g.S.Sink.refuses g.S.Sink.failed
