use Rattle.hprof_stored.proofs.OneContent.{apart}
use Rattle.hprof_stored.proofs.agreed.Agreed.new.Goals as goal

pub invariant_of-result-clause-agree : goal.invariant_of-result-clause-agree
invariant_of-result-clause-agree g c =
    apart g.S.Target.written g.S.Target.health g.P.Parts.bytes c.args.objects c.in-Ok.ensures.agree
