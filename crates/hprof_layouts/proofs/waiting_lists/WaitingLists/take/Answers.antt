use Rattle.std.proofs.Common.{None}
use Rattle.hprof_layouts.proofs.Maps.{counted-taken, waiting-updated}
use Rattle.hprof_layouts.proofs.waiting_lists.WaitingLists.take.Goals as goal

pub returns-clause-taken : goal.returns-clause-taken
returns-clause-taken g c =
    waiting-updated c.args.self.now (record c.args.self.now { lists = c.remove.new.self }) c.args.class None c.remove.ensures.updates.0

pub returns-clause-counted : goal.returns-clause-counted
returns-clause-counted g c =
    counted-taken c.args.self.now (record c.args.self.now { lists = c.remove.new.self }) c.args.class c.remove.ensures.entries
