use Rattle.std.proofs.Common.{ℕ, List, Some, sym, subst}
use Rattle.std.specs.Prelude.{⊤}
use Rattle.hprof_heap.specs.Heap.{heap_of}
use Rattle.hprof_heap.specs.HeapFacts.{facts_of, size_of}
use Rattle.hprof_histogram.specs.CountedKinds.{CountsObject}
use Rattle.hprof_histogram.specs.Known.{MadeUpWith}
use Rattle.hprof_engine.specs.declared.tool_fault.ToolFault.{ToolFault}
use Rattle.hprof_engine.specs.Joining.{AreReadOut, Tell}
use Rattle.hprof_passes.specs.Passing.{IfLost}
use Rattle.hprof_stored.specs.InParts.{HaveUnion, MakeUp, TellsPass}
use Rattle.hprof_stored.specs.Storing.{HaveObject}
use Rattle.hprof_stored.proofs.StoredReads.{some_readers}
use Rattle.hprof_making.specs.Over.{heap_with}
use Rattle.hprof_making.proofs.Made.{AreOfParts, of_loss}
use Rattle.hprof_making.proofs.OfParts.{AreKnown, known_agree, of_parts}
use Rattle.hprof_making.proofs.StoredOf.{are_watched_of}
use Rattle.hprof_diff.specs.Comparing.{Counts}
use Rattle.hprof_diff.proofs.Counting.{all_counts, pass_counts, reading_counts, stored_wants_counts}
use Rattle.hprof_diff.proofs.parts.count_stored.Given.{Over}
use Rattle.hprof_diff.proofs.parts.count_stored.Goals as goal
use Rattle.hprof_diff.proofs.parts.count_stored.Goals.{After-new-objects}

-- the parts were refused
pub returns-in-Err-clause-counts : goal.returns-in-Err-clause-counts
returns-in-Err-clause-counts g c =
    let e = c.in-Err.ensures in
    subst (λ (fault : ToolFault). Counts g.R.Source.left g.R.Source.health g.R.Source.pulls HaveObject ⊤ c.args.limits c.args.readers.now
    c.read_watched.new.readers (Some fault)) (sym c.from.ensures)
    (reading_counts g.R.Source.left g.R.Source.health g.R.Source.pulls c.args.limits c.args.readers.now c.read_watched.new.readers
    (some_readers c.args.readers.now c.if-is_empty.ensures) c.in-Err.fault e.reads e.first.count e.first.so_many e.first.read_out
    e.no_other)

-- counts watched, and are known if the objects are one stretch
known_so : (g : Over) (c : After-new-objects g)
    → AreKnown g.R.Source.left g.S.Target.written g.S.Target.health g.S.Scratch.unreadable g.P.Parts.bytes c.args.readers.now
    (g.S.Target.written c.args.scratch) c.in-Ok.read.0 c.new-objects.result c.counts_to_watch-watch.result
    c.in-Ok.read.1 c.counts_known-known.result
known_so g c = record {
  watches = λ some. (c.counts_to_watch-watch.ensures.some.0 some).1;
  tally = c.counts_to_watch-watch.ensures.tally;
  objects = c.finish-objects.result;
  under = c.new-objects.ensures.objects;
  one = c.counts_known-known.ensures.one;
  same = c.counts_known-known.ensures.same;
}

-- what the objects say of the parts that were read
parts_of : (g : Over) (c : After-new-objects g)
    → let stored = c.in-Ok.read.0 in
    let it = c.new-objects.result in
    (told : List (List ℕ)) → Tell g.R.Source.left c.args.readers.now told
    → AreOfParts (heap_of stored.heap)
    (MadeUpWith (MakeUp g.S.Target.written g.S.Target.health g.P.Parts.bytes it (size_of stored.heap) (facts_of stored.heap))
    (size_of stored.heap) c.counts_known-known.result) (HaveUnion g.S.Target.written g.S.Target.health g.P.Parts.bytes it)
    (TellsPass g.S.Target.written g.S.Target.health g.P.Parts.bytes g.S.Scratch.unreadable it (size_of stored.heap) (facts_of stored.heap))
    told
parts_of g c = λ told tell.
    let left = g.R.Source.left in
    let readers = c.args.readers.now in
    let scratch = g.S.Target.written c.args.scratch in
    let stored = c.in-Ok.read.0 in
    let watch = c.counts_to_watch-watch.result in
    let watched = c.in-Ok.read.1 in
    let it = c.new-objects.result in
    let bytes = c.requires.again (some_readers readers c.if-is_empty.ensures) told tell in
    let law = c.stored_objects_are_those_of_the_parts.ensures in
    of_parts left g.S.Target.written g.S.Target.health g.S.Scratch.unreadable g.P.Parts.bytes readers scratch stored it watch watched
    c.counts_known-known.result c.what_was_watched_is_a_pass.ensures.took (known_so g c) told
    (are_watched_of left g.S.Target.written g.S.Target.health g.P.Parts.bytes CountsObject readers scratch stored it watch watched
    c.args.limits c.finish-objects.result c.args.parts.now c.new-objects.ensures.limits c.new-objects.ensures.objects
    c.new-objects.ensures.parts c.in-Ok.ensures.ok c.finish-objects.ensures.holds told tell bytes.0 bytes.1)
    law.heap law.agree law.disagree law.faults

-- where counts are known, the objects are one stretch
pub over-requires : goal.over-requires
over-requires g c =
    known_agree g.R.Source.left g.S.Target.written g.S.Target.health g.S.Scratch.unreadable g.P.Parts.bytes c.args.readers.now
    (g.S.Target.written c.args.scratch) c.in-Ok.read.0 c.new-objects.result c.counts_to_watch-watch.result c.in-Ok.read.1
    c.counts_known-known.result c.what_was_watched_is_a_pass.ensures.agree
    (known_so g (goal.at.over-requires g c).After-new-objects)

-- the objects were counted
pub returns-in-Ok-over-clause-counts : goal.returns-in-Ok-over-clause-counts
returns-in-Ok-over-clause-counts g c =
    let readers = c.args.readers.now in
    let then = c.read_watched.new.readers in
    let e = c.in-Ok.ensures in
    all_counts g.R.Source.left g.R.Source.health g.R.Source.pulls c.args.limits readers then (some_readers readers c.if-is_empty.ensures)
    e.reads (subst (AreReadOut g.R.Source.left g.R.Source.health g.R.Source.pulls c.args.limits readers then) e.first.so_many
    e.first.read_out)

pub returns-in-Ok-over-clause-totals : goal.returns-in-Ok-over-clause-totals
unfolding facts_of size_of
returns-in-Ok-over-clause-totals g c = λ told tell.
    let are = parts_of g (goal.at.returns-in-Ok-over-clause-totals g c).After-new-objects told tell in
    let heap = heap_of c.in-Ok.read.0.heap in
    let all = are.agree c.in-Ok-over.ensures.0 in
    record {
      heap = heap_with heap all.0;
      agree = all.1;
      are_totals = c.in-Ok-over.ensures.1 all.0 (are.made_up heap.ids heap.millis all.0 all.1).2;
    }

-- memory ran out
pub returns-in-Err-Sink-clause-counts : goal.returns-in-Err-Sink-clause-counts
returns-in-Err-Sink-clause-counts g c =
    let readers = c.args.readers.now in
    let then = c.read_watched.new.readers in
    let e = c.in-Ok.ensures in
    stored_wants_counts g.R.Source.left g.R.Source.health g.R.Source.pulls c.args.limits readers then
    (some_readers readers c.if-is_empty.ensures) e.reads
    (subst (AreReadOut g.R.Source.left g.R.Source.health g.R.Source.pulls c.args.limits readers then) e.first.so_many e.first.read_out)

-- the objects are lost
pub returns-clause-counts : goal.returns-clause-counts
returns-clause-counts g c =
    let left = g.R.Source.left in
    let health = g.R.Source.health in
    let pulls = g.R.Source.pulls in
    let readers = c.args.readers.now in
    let then = c.read_watched.new.readers in
    let e = c.in-Ok.ensures in
    let stored = c.in-Ok.read.0 in
    let known = c.counts_known-known.result in
    let it = c.new-objects.result in
    let some = some_readers readers c.if-is_empty.ensures in
    let fault = c.in-Err-Lost.fault in
    subst (λ (f : ToolFault). Counts left health pulls HaveObject ⊤ c.args.limits readers then (Some f)) (sym c.from-in-Err-Lost.ensures)
    (pass_counts left health pulls c.args.limits readers then some e.reads
    (subst (AreReadOut left health pulls c.args.limits readers then) e.first.so_many e.first.read_out) fault (λ told tell.
    of_loss (heap_of stored.heap)
    (MadeUpWith (MakeUp g.S.Target.written g.S.Target.health g.P.Parts.bytes it (size_of stored.heap) (facts_of stored.heap))
    (size_of stored.heap) known) (HaveUnion g.S.Target.written g.S.Target.health g.P.Parts.bytes it)
    (TellsPass g.S.Target.written g.S.Target.health g.P.Parts.bytes g.S.Scratch.unreadable it (size_of stored.heap) (facts_of stored.heap))
    told
    (parts_of g (goal.at.returns-clause-counts g c).After-new-objects told tell) fault
    (subst (IfLost (TellsPass g.S.Target.written g.S.Target.health g.P.Parts.bytes g.S.Scratch.unreadable it (size_of stored.heap)
    (facts_of stored.heap))) c.in-Err-Lost.field-0-is c.in-Err-Lost.ensures)))
