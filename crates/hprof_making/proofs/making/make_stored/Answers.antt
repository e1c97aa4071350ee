use Rattle.std.proofs.Common.{ℕ, List, Some, refl, sym, subst}
use Rattle.hprof_heap.specs.Heap.{heap_of}
use Rattle.hprof_heap.specs.HeapFacts.{facts_of, size_of}
use Rattle.hprof_histogram.specs.CountedKinds.{CountsObject}
use Rattle.hprof_histogram.specs.Known.{MadeUpWith}
use Rattle.hprof_engine.specs.declared.tool_fault.ToolFault.{ToolFault}
use Rattle.hprof_engine.specs.Joining.{AreReadOut, Tell}
use Rattle.hprof_engine.specs.Makes.{Makes}
use Rattle.hprof_engine.specs.Summaries.{HoldsFirst}
use Rattle.hprof_engine.proofs.Answers.{summaries_held}
use Rattle.hprof_stored.specs.InParts.{HaveUnion, MakeUp, TellsPass}
use Rattle.hprof_stored.specs.StoredMaking.{stored_making}
use Rattle.hprof_stored.proofs.StoredMakes.{reading_makes}
use Rattle.hprof_stored.proofs.StoredReads.{some_readers}
use Rattle.hprof_making.proofs.Made.{AreOfParts, makes_lost, makes_stopped, makes_whole}
use Rattle.hprof_making.proofs.OfParts.{AreKnown, known_agree, of_parts}
use Rattle.hprof_making.proofs.StoredOf.{are_watched_of}
use Rattle.hprof_making.proofs.making.make_stored.Given.{Over}
use Rattle.hprof_making.proofs.making.make_stored.Goals as goal
use Rattle.hprof_making.proofs.making.make_stored.Goals.{After-new-objects}

-- the parts were refused
pub returns-in-Err : goal.returns-in-Err
returns-in-Err g c =
    let e = c.in-Err.ensures in
    let some = some_readers c.args.readers.now c.if-is_empty.ensures in
    subst (λ (fault : ToolFault). Makes g.R.Source.left g.R.Source.health g.R.Source.pulls g.W.Target.written g.W.Target.health
    c.args.limits
    (stored_making (g.M.PassProduct.is_text c.args.product.now) (g.M.PassProduct.refuses c.args.product.now)) c.args.readers.now
    c.read_watched.new.readers c.args.target.now c.args.target.now (Some fault)) (sym c.from.ensures)
    (reading_makes g.R.Source.left g.R.Source.health g.R.Source.pulls c.args.limits c.args.readers.now c.read_watched.new.readers
    g.W.Target.written g.W.Target.health (g.M.PassProduct.is_text c.args.product.now) (g.M.PassProduct.refuses c.args.product.now)
    c.args.target.now c.args.target.now some refl c.in-Err.fault e.reads e.first.count e.first.so_many e.first.read_out e.no_other)

-- counts watched, and are known if the objects are one stretch
known_so : (g : Over) (c : After-new-objects g)
    → AreKnown g.R.Source.left g.S.Target.written g.S.Target.health g.S.Scratch.unreadable g.P.Parts.bytes c.args.readers.now
    (g.S.Target.written c.args.scratch) c.in-Ok-read_watched.read.0 c.new-objects.result c.counts_to_watch-watch.result
    c.in-Ok-read_watched.read.1 c.counts_known-known.result
known_so g c = record {
  watches = λ some. (c.counts_to_watch-watch.ensures.some.0 some).1;
  tally = c.counts_to_watch-watch.ensures.tally;
  objects = c.finish-objects.result;
  under = c.new-objects.ensures.objects;
  one = c.counts_known-known.ensures.one;
  same = c.counts_known-known.ensures.same;
}

-- what the objects say of the parts that were read
parts_of : (g : Over) (c : After-new-objects g)
    → let stored = c.in-Ok-read_watched.read.0 in
    let it = c.new-objects.result in
    (told : List (List ℕ)) → Tell g.R.Source.left c.args.readers.now told
    → AreOfParts (heap_of stored.heap)
    (MadeUpWith (MakeUp g.S.Target.written g.S.Target.health g.P.Parts.bytes it (size_of stored.heap) (facts_of stored.heap))
    (size_of stored.heap) c.counts_known-known.result) (HaveUnion g.S.Target.written g.S.Target.health g.P.Parts.bytes it)
    (TellsPass g.S.Target.written g.S.Target.health g.P.Parts.bytes g.S.Scratch.unreadable it (size_of stored.heap) (facts_of stored.heap))
    told
parts_of g c = λ told tell.
    let left = g.R.Source.left in
    let readers = c.args.readers.now in
    let scratch = g.S.Target.written c.args.scratch in
    let stored = c.in-Ok-read_watched.read.0 in
    let watch = c.counts_to_watch-watch.result in
    let watched = c.in-Ok-read_watched.read.1 in
    let it = c.new-objects.result in
    let bytes = c.requires.again (some_readers readers c.if-is_empty.ensures) told tell in
    let law = c.stored_objects_are_those_of_the_parts.ensures in
    of_parts left g.S.Target.written g.S.Target.health g.S.Scratch.unreadable g.P.Parts.bytes readers scratch stored it watch watched
    c.counts_known-known.result c.what_was_watched_is_a_pass.ensures.took (known_so g c) told
    (are_watched_of left g.S.Target.written g.S.Target.health g.P.Parts.bytes CountsObject readers scratch stored it watch watched
    c.args.limits c.finish-objects.result c.args.parts.now c.new-objects.ensures.limits c.new-objects.ensures.objects
    c.new-objects.ensures.parts c.in-Ok-read_watched.ensures.ok c.finish-objects.ensures.holds told tell bytes.0 bytes.1)
    law.heap law.agree law.disagree law.faults

-- where counts are known, the objects are one stretch
pub write_in_parts-requires-clause-agree : goal.write_in_parts-requires-clause-agree
write_in_parts-requires-clause-agree g c =
    known_agree g.R.Source.left g.S.Target.written g.S.Target.health g.S.Scratch.unreadable g.P.Parts.bytes c.args.readers.now
    (g.S.Target.written c.args.scratch) c.in-Ok-read_watched.read.0 c.new-objects.result c.counts_to_watch-watch.result
    c.in-Ok-read_watched.read.1 c.counts_known-known.result c.what_was_watched_is_a_pass.ensures.agree
    (known_so g (goal.at.write_in_parts-requires-clause-agree g c).After-new-objects)

-- all of it was written
pub returns-in-Ok-write_in_parts : goal.returns-in-Ok-write_in_parts
returns-in-Ok-write_in_parts g c =
    let left = g.R.Source.left in
    let health = g.R.Source.health in
    let pulls = g.R.Source.pulls in
    let readers = c.args.readers.now in
    let e = c.in-Ok-read_watched.ensures in
    let stored = c.in-Ok-read_watched.read.0 in
    let known = c.counts_known-known.result in
    let it = c.new-objects.result in
    let holds = g.M.Summaries.holds c.args.product.now in
    let kept = c.read_watched.new.kept in
    let held = subst (λ (count : ℕ). HoldsFirst left holds readers count kept) e.first.so_many e.first.summaries in
    let out = subst (AreReadOut left health pulls c.args.limits readers c.read_watched.new.readers) e.first.so_many e.first.read_out in
    let some = some_readers readers c.if-is_empty.ensures in
    makes_whole left health pulls c.args.limits readers c.read_watched.new.readers g.W.Target.written g.W.Target.health
    (g.M.PassProduct.is_text c.args.product.now) (g.M.PassProduct.refuses c.args.product.now) c.args.target.now c.write_in_parts.new.target
    some e.reads out c.requires.target (heap_of stored.heap)
    (MadeUpWith (MakeUp g.S.Target.written g.S.Target.health g.P.Parts.bytes it (size_of stored.heap) (facts_of stored.heap))
    (size_of stored.heap) known) (HaveUnion g.S.Target.written g.S.Target.health g.P.Parts.bytes it)
    (TellsPass g.S.Target.written g.S.Target.health g.P.Parts.bytes g.S.Scratch.unreadable it (size_of stored.heap) (facts_of stored.heap))
    held.summaries
    (parts_of g (goal.at.returns-in-Ok-write_in_parts g c).After-new-objects)
    (summaries_held left holds readers kept held) c.in-Ok-write_in_parts.field-0
    (c.in-Ok-write_in_parts.ensures held.summaries held.held)

-- writing stopped
pub returns-in-Err-Sink : goal.returns-in-Err-Sink
returns-in-Err-Sink g c =
    let left = g.R.Source.left in
    let health = g.R.Source.health in
    let pulls = g.R.Source.pulls in
    let readers = c.args.readers.now in
    let e = c.in-Ok-read_watched.ensures in
    let stored = c.in-Ok-read_watched.read.0 in
    let known = c.counts_known-known.result in
    let it = c.new-objects.result in
    let holds = g.M.Summaries.holds c.args.product.now in
    let kept = c.read_watched.new.kept in
    let held = subst (λ (count : ℕ). HoldsFirst left holds readers count kept) e.first.so_many e.first.summaries in
    let out = subst (AreReadOut left health pulls c.args.limits readers c.read_watched.new.readers) e.first.so_many e.first.read_out in
    let some = some_readers readers c.if-is_empty.ensures in
    subst (λ (fault : ToolFault). Makes left health pulls g.W.Target.written g.W.Target.health c.args.limits
    (stored_making (g.M.PassProduct.is_text c.args.product.now) (g.M.PassProduct.refuses c.args.product.now)) readers
    c.read_watched.new.readers c.args.target.now c.write_in_parts.new.target (Some fault)) (sym c.from-in-Err-Sink.ensures)
    (makes_stopped left health pulls c.args.limits readers c.read_watched.new.readers g.W.Target.written g.W.Target.health
    (g.M.PassProduct.is_text c.args.product.now) (g.M.PassProduct.refuses c.args.product.now) c.args.target.now c.write_in_parts.new.target
    some e.reads out c.requires.target (heap_of stored.heap)
    (MadeUpWith (MakeUp g.S.Target.written g.S.Target.health g.P.Parts.bytes it (size_of stored.heap) (facts_of stored.heap))
    (size_of stored.heap) known) (HaveUnion g.S.Target.written g.S.Target.health g.P.Parts.bytes it)
    (TellsPass g.S.Target.written g.S.Target.health g.P.Parts.bytes g.S.Scratch.unreadable it (size_of stored.heap) (facts_of stored.heap))
    held.summaries
    (parts_of g (goal.at.returns-in-Err-Sink g c).After-new-objects)
    (summaries_held left holds readers kept held) c.in-Err-Sink.field-0
    c.in-Err-Sink.stop c.in-Err-Sink.field-0-is (c.in-Err-Sink.ensures held.summaries held.held))

-- the objects are lost
pub returns : goal.returns
returns g c =
    let left = g.R.Source.left in
    let health = g.R.Source.health in
    let pulls = g.R.Source.pulls in
    let readers = c.args.readers.now in
    let e = c.in-Ok-read_watched.ensures in
    let stored = c.in-Ok-read_watched.read.0 in
    let known = c.counts_known-known.result in
    let it = c.new-objects.result in
    let holds = g.M.Summaries.holds c.args.product.now in
    let kept = c.read_watched.new.kept in
    let held = subst (λ (count : ℕ). HoldsFirst left holds readers count kept) e.first.so_many e.first.summaries in
    let out = subst (AreReadOut left health pulls c.args.limits readers c.read_watched.new.readers) e.first.so_many e.first.read_out in
    let some = some_readers readers c.if-is_empty.ensures in
    subst (λ (fault : ToolFault). Makes left health pulls g.W.Target.written g.W.Target.health c.args.limits
    (stored_making (g.M.PassProduct.is_text c.args.product.now) (g.M.PassProduct.refuses c.args.product.now)) readers
    c.read_watched.new.readers c.args.target.now c.write_in_parts.new.target (Some fault)) (sym c.from-in-Err-Lost.ensures)
    (makes_lost left health pulls c.args.limits readers c.read_watched.new.readers g.W.Target.written g.W.Target.health
    (g.M.PassProduct.is_text c.args.product.now) (g.M.PassProduct.refuses c.args.product.now) c.args.target.now c.write_in_parts.new.target
    some e.reads out c.requires.target (heap_of stored.heap)
    (MadeUpWith (MakeUp g.S.Target.written g.S.Target.health g.P.Parts.bytes it (size_of stored.heap) (facts_of stored.heap))
    (size_of stored.heap) known) (HaveUnion g.S.Target.written g.S.Target.health g.P.Parts.bytes it)
    (TellsPass g.S.Target.written g.S.Target.health g.P.Parts.bytes g.S.Scratch.unreadable it (size_of stored.heap) (facts_of stored.heap))
    held.summaries
    (parts_of g (goal.at.returns g c).After-new-objects)
    (summaries_held left holds readers kept held) c.in-Err-Lost.field-0
    c.in-Err-Lost.fault c.in-Err-Lost.field-0-is (c.in-Err-Lost.ensures held.summaries held.held))
