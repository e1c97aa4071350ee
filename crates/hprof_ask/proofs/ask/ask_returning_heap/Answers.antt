use Rattle.std.proofs.Common.{Ok, Err}
use Rattle.hprof_heap.specs.Heap.{heap_of}
use Rattle.hprof_engine.proofs.Answers.{summaries_held}
use Rattle.hprof_ask.specs.InMemory.{value_of}
use Rattle.hprof_ask.proofs.Asking.{asks, held_are, refuses}
use Rattle.hprof_ask.proofs.ask.ask_returning_heap.Goals as goal

pub returns-in-Err-clause-asks : goal.returns-in-Err-clause-asks
returns-in-Err-clause-asks g c =
    let e = c.in-Err.ensures in
    refuses g.R.Source.left g.R.Source.health g.R.Source.pulls g.Q.Asker.left g.Q.Asker.health g.Q.Asker.pulls g.W.Target.written
    g.W.Target.health c.args.limits c.args.readers.now c.read_heap.new.readers c.args.questions.now c.args.target.now c.in-Err.fault
    e.kind e.reads e.no_other

pub returns-in-Ok-converse-clause-asks : goal.returns-in-Ok-converse-clause-asks
returns-in-Ok-converse-clause-asks g c =
    let e = c.in-Ok-read_heap.ensures in
    let it = c.in-Ok-converse.ensures in
    let heap = c.in-Ok-read_heap.heap in
    asks g.R.Source.left g.R.Source.health g.R.Source.pulls g.Q.Asker.left g.Q.Asker.health g.Q.Asker.pulls g.W.Target.written
    g.W.Target.health c.args.limits c.args.readers.now c.read_heap.new.readers c.args.questions.now c.args.target.now
    (heap_of heap) e.ok c.deref.result.now (λ parts told. held_are parts e.told.summaries
    c.read_heap.new.kept.items c.deref.result.now e.told.held c.deref.ensures.value
    (summaries_held g.R.Source.left _ c.args.readers.now _ e.told parts told))
    e.reads c.converse.new.questions c.converse.new.target (Ok c.in-Ok-converse.field-0) (it.dialogue (heap_of heap) (value_of heap))
    it.ends it.lost

pub returns-clause-asks : goal.returns-clause-asks
returns-clause-asks g c =
    let e = c.in-Ok-read_heap.ensures in
    let it = c.in-Err-converse.ensures in
    let heap = c.in-Ok-read_heap.heap in
    asks g.R.Source.left g.R.Source.health g.R.Source.pulls g.Q.Asker.left g.Q.Asker.health g.Q.Asker.pulls g.W.Target.written
    g.W.Target.health c.args.limits c.args.readers.now c.read_heap.new.readers c.args.questions.now c.args.target.now
    (heap_of heap) e.ok c.deref.result.now (λ parts told. held_are parts e.told.summaries
    c.read_heap.new.kept.items c.deref.result.now e.told.held c.deref.ensures.value
    (summaries_held g.R.Source.left _ c.args.readers.now _ e.told parts told))
    e.reads c.converse.new.questions c.converse.new.target (Err c.in-Err-converse.stop) (it.dialogue (heap_of heap) (value_of heap))
    it.ends it.lost

pub converse-requires-clause-leave : goal.converse-requires-clause-leave
converse-requires-clause-leave g c =
    let e = c.in-Ok-read_heap.ensures in
    let heap = c.in-Ok-read_heap.heap in
    λ bytes is after consumes lines are all flushes.
    c.requires.leave (heap_of heap) c.deref.result.now e.ok (λ parts told. held_are parts e.told.summaries
    c.read_heap.new.kept.items c.deref.result.now e.told.held c.deref.ensures.value
    (summaries_held g.R.Source.left _ c.args.readers.now _ e.told parts told))
    bytes is after consumes (all (heap_of heap) (value_of heap)) flushes
