use Rattle.hprof_stored.proofs.OneContent.{united, united_ok}
use Rattle.hprof_stored.proofs.agreed.AgreedObjects.pick.Goals as goal

pub pick_agreed-requires-clause-agree : goal.pick_agreed-requires-clause-agree
pick_agreed-requires-clause-agree g c =
    united g.S.Target.written g.S.Target.health g.P.Parts.bytes c.args.self.now.objects c.args.self.now.agree

pub returns-clause-agree : goal.returns-clause-agree
returns-clause-agree g c =
    united_ok g.S.Target.written g.S.Target.health g.P.Parts.bytes c.args.self.now.objects c.args.self.now.agree c.pick_agreed.result
