use Rattle.hprof_heap.specs.HeapFacts.{facts_of}
use Rattle.hprof_threads.proofs.ThreadAnswers.{object_once}
use Rattle.hprof_holders.proofs.threads_report.head_line.Goals as goal

pub returns : goal.returns
returns c = λ found threads are are_threads.
    c.object_line.ensures found threads are
    (object_once (facts_of c.args.heap.now) c.holds_of_heap.ensures.agree c.args.serial (threads.object c.args.serial)
    c.thread_object-object.result (are_threads.objects c.args.serial) (c.thread_object-object.ensures c.requires.roots))
