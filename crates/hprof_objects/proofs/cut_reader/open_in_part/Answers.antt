use Rattle.std.proofs.Common.{arith}
use Rattle.hprof_objects.proofs.OpeningFaults.{not_there}
use Rattle.hprof_objects.proofs.cut_reader.open_in_part.Goals as goal

pub returns-then-cut-count-clause-fault : goal.returns-then-cut-count-clause-fault
returns-then-cut-count-clause-fault g c =
    not_there c.args.limits (g.P.Parts.bytes c.args.parts.now) c.args.cut.now.stretch (omega (arith, c.count.ensures, c.if-cut-count.true))
