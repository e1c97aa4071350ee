use Rattle.std.proofs.Common.{rules, subst, sym}
use Rattle.hprof_heap.specs.HeapFacts.{facts_of, size_of}
use Rattle.hprof_objects.specs.StoredObjects.{objects_of}
use Rattle.hprof_passes.specs.declared.pass_fault.PassFault.{PassFault}
use Rattle.hprof_passes.specs.Passing.{IfLost}
use Rattle.hprof_stored.specs.declared.in_parts_fault.InPartsFault.{InPartsFault}
use Rattle.hprof_stored.specs.InParts.{TellsPass}
use Rattle.hprof_stored.proofs.PickedPass.{all_given, same_picked, some_given, told_by}
use Rattle.hprof_stored.proofs.in_parts.InParts.pick_agreed.Goals as goal

pub returns-in-Ok-clause-given : goal.returns-in-Ok-clause-given
returns-in-Ok-clause-given g c = λ all make.
    let m = c.pick_agreed in
    let old = c.new-rows.result in
    let takes = g.T.ObjectSink.takes in
    let refuses = g.T.ObjectSink.refuses in
    let wanted = c.args.wanted.now in
    let picks = c.in-Ok.ensures.objects make.reads make.as_read in
    let same = same_picked takes refuses wanted (objects_of make.reads) m.result old m.new.sink (m.ensures.objects make.reads
    make.as_read) in
    all_given g.S.Target.written g.S.Target.health g.P.Parts.bytes g.S.Scratch.unreadable takes refuses c.args.self.now wanted old
    m.new.sink
    (size_of c.args.heap.now) (facts_of c.args.heap.now) all make (search rules) c.args.sink.now _ (search rules) (search rules) picks

pub returns-in-Err-clause-given : goal.returns-in-Err-clause-given
returns-in-Err-clause-given g c = λ all make.
    let m = c.pick_agreed in
    let old = c.new-rows.result in
    let takes = g.T.ObjectSink.takes in
    let refuses = g.T.ObjectSink.refuses in
    let wanted = c.args.wanted.now in
    let picks = c.in-Err.ensures.objects make.reads make.as_read in
    let same = same_picked takes refuses wanted (objects_of make.reads) m.result old m.new.sink (m.ensures.objects make.reads
    make.as_read) in
    some_given g.S.Target.written g.S.Target.health g.P.Parts.bytes g.S.Scratch.unreadable takes refuses c.args.self.now wanted old
    m.new.sink
    (size_of c.args.heap.now) (facts_of c.args.heap.now) all make (search rules) c.args.sink.now _ (search rules) (search rules)
    c.in-Err.stop c.pass_stop.result c.pass_stop.ensures picks

pub returns-in-Err-clause-tells : goal.returns-in-Err-clause-tells
returns-in-Err-clause-tells g c =
    let tells = TellsPass g.S.Target.written g.S.Target.health g.P.Parts.bytes g.S.Scratch.unreadable c.args.self.now
    (size_of c.args.heap.now) (facts_of c.args.heap.now) in
    subst (λ (stop : PassFault g.row.T-Fault.Denot InPartsFault). IfLost tells stop) (sym c.pass_stop.ensures)
    (told_by g.S.Target.written g.S.Target.health g.P.Parts.bytes g.S.Scratch.unreadable g.T.ObjectSink.takes g.T.ObjectSink.refuses
    c.args.self.now c.args.wanted.now c.new-rows.result c.pick_agreed.new.sink (size_of c.args.heap.now) (facts_of c.args.heap.now)
    (search rules) c.in-Err.stop c.in-Err.ensures.objects c.in-Err.ensures.again c.in-Err.ensures.read)
