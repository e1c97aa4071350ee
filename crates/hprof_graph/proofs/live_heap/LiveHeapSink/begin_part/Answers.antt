use Rattle.std.proofs.Common.{refl}
use Rattle.hprof_graph.proofs.Outcomes.{begins_live}
use Rattle.hprof_graph.proofs.live_heap.LiveHeapSink.begin_part.Goals as goal

pub returns-clause-begins : goal.returns-clause-begins
returns-clause-begins c =
    begins_live c.args.self.now c.if-self.false (record c.args.self.now { gatherer = c.begin_part.new.self }) c.if-self.false c.args.header
    c.in_ok-begin_part.ensures.begins refl
