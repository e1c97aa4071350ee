use Rattle.std.proofs.Common.{◌≡◌, ◌+◌, ℕ, Result, Err, refl, sym, ap, subst, ◌∙◌, arith}
use Rattle.hprof_engine.specs.declared.salvaged.Salvaged.{Salvaged}
use Rattle.hprof_engine.specs.declared.tool_fault.ToolFault.{ToolFault}
use Rattle.hprof_engine.proofs.AsJoined.{as_joined}
use Rattle.hprof_engine.proofs.Going.{of_fault}
use Rattle.hprof_heap.specs.HeapFacts.{facts_of, size_of}
use Rattle.hprof_stored.specs.SalvagingStored.{SalvagesStored}
use Rattle.hprof_stored.proofs.SalvageAgain.{not_counted, saved_all, stopped_so, wants_memory}
use Rattle.hprof_stored.proofs.SavedHeaps.{no_readers, none_there, saved_ended}
use Rattle.hprof_stored.proofs.StoredReads.{some_readers}
use Rattle.hprof_stored.proofs.salvaging.salvage_stored.Goals as goal

-- there are no parts
pub returns-then-is_empty-clause-salvages : goal.returns-then-is_empty-clause-salvages
returns-then-is_empty-clause-salvages g c =
    no_readers g.R.Source.left g.R.Source.health g.R.Source.pulls c.args.limits c.args.readers.now g.W.Target.written g.W.Target.health
    c.args.target.now (none_there c.args.readers.now c.if-is_empty.ensures)

-- the parts were not read, or have no heap
pub returns-in_err-saved-clause-salvages : goal.returns-in_err-saved-clause-salvages
returns-in_err-saved-clause-salvages g c =
    let fault = c.in_err-saved.field-0.0 in
    of_fault (λ (r : Result Salvaged ToolFault). SalvagesStored g.R.Source.left g.R.Source.health g.R.Source.pulls c.args.limits
    c.args.readers.now c.save_parts.new.readers g.W.Target.written g.W.Target.health c.args.target.now c.args.target.now r)
    c.from_residual.result fault c.from_residual.ensures.1
    (saved_ended g.R.Source.left g.R.Source.health g.R.Source.pulls c.args.limits c.args.readers.now c.save_parts.new.readers
    g.S.Target.written g.S.Target.health (g.S.Target.written c.args.scratch) g.W.Target.written g.W.Target.health c.args.target.now
    c.args.target.now refl fault c.in_err-saved.ensures)

-- the objects cannot be gone through
pub returns-in-Err-clause-salvages : goal.returns-in-Err-clause-salvages
unfolding facts_of size_of
returns-in-Err-clause-salvages g c =
    let it = c.new-in_parts in
    subst (λ (f : ToolFault). SalvagesStored g.R.Source.left g.R.Source.health g.R.Source.pulls c.args.limits c.args.readers.now
    c.save_parts.new.readers g.W.Target.written g.W.Target.health c.args.target.now c.args.target.now (Err f)) (sym c.from.ensures)
    (not_counted g.R.Source.left g.R.Source.health g.R.Source.pulls c.args.limits c.args.readers.now c.save_parts.new.readers
    g.W.Target.written g.W.Target.health c.args.target.now c.args.target.now g.S.Target.written g.S.Target.health g.P.Parts.bytes
    c.args.parts.now (g.S.Target.written c.args.scratch) c.in_ok-saved.saved c.finish-objects.result c.in_ok-saved.ensures
    c.finish-objects.ensures.holds c.requires.again (some_readers c.args.readers.now c.if-is_empty.ensures) it.result it.ensures.objects
    it.ensures.parts it.ensures.limits refl c.requires.target g.S.Scratch.unreadable c.conflicts_of_objects_come_last.ensures.objects
    c.in-Err.fault c.in-Err.ensures.tells)

-- there are too many facts
pub returns-in_default-checked_add-clause-salvages : goal.returns-in_default-checked_add-clause-salvages
returns-in_default-checked_add-clause-salvages g c =
    let it = c.new-in_parts in
    wants_memory g.R.Source.left g.R.Source.health g.R.Source.pulls c.args.limits c.args.readers.now c.save_parts.new.readers
    g.W.Target.written g.W.Target.health c.args.target.now c.args.target.now g.S.Target.written g.S.Target.health g.P.Parts.bytes
    c.args.parts.now (g.S.Target.written c.args.scratch) c.in_ok-saved.saved c.finish-objects.result c.in_ok-saved.ensures
    c.finish-objects.ensures.holds c.requires.again (some_readers c.args.readers.now c.if-is_empty.ensures) it.result it.ensures.objects
    it.ensures.parts it.ensures.limits refl c.requires.target

-- all was written
pub returns-in-Ok-write_stored_dump-clause-salvages : goal.returns-in-Ok-write_stored_dump-clause-salvages
unfolding facts_of size_of
returns-in-Ok-write_stored_dump-clause-salvages g c =
    let it = c.new-in_parts in
    let wrote = c.in-Ok-write_stored_dump.ensures in
    let number = c.in-Ok-count.count in
    let sum : c.in-Some.facts ≡ c.count-2.result + number = omega arith in
    saved_all g.R.Source.left g.R.Source.health g.R.Source.pulls c.args.limits c.args.readers.now c.save_parts.new.readers
    g.W.Target.written g.W.Target.health c.args.target.now c.write_stored_dump.new.target g.S.Target.written g.S.Target.health
    g.P.Parts.bytes c.args.parts.now (g.S.Target.written c.args.scratch) c.in_ok-saved.saved c.finish-objects.result
    c.in_ok-saved.ensures c.finish-objects.ensures.holds c.requires.again (some_readers c.args.readers.now c.if-is_empty.ensures)
    it.result it.ensures.objects it.ensures.parts it.ensures.limits c.in-Ok-count.ensures.agree
    c.objects_stand_behind.ensures.objects c.objects_stand_behind.ensures.heap c.in-Some.facts number
    (sum ∙ ap (λ (n : ℕ). n + number) c.count-2.ensures)
    c.in-Ok-count.ensures.value wrote.health wrote.dump

pub returns-in-Ok-write_stored_dump-clause-joined : goal.returns-in-Ok-write_stored_dump-clause-joined
returns-in-Ok-write_stored_dump-clause-joined g c = λ none parts told.
    as_joined g.R.Source.left g.R.Source.health g.R.Source.pulls c.args.limits c.args.readers.now c.save_parts.new.readers
    g.W.Target.written g.W.Target.health c.args.target.now c.write_stored_dump.new.target
    (record {
      joined = record { parts = c.in_ok-saved.saved.headed; facts = c.in-Some.facts };
      faults = c.in_ok-saved.saved.faults;
    })
    ((returns-in-Ok-write_stored_dump-clause-salvages g c).saves parts told) none parts told

-- writing stopped
pub returns-clause-salvages : goal.returns-clause-salvages
unfolding facts_of size_of
returns-clause-salvages g c =
    let it = c.new-in_parts in
    let wrote = c.in-Err-write_stored_dump.ensures in
    subst (λ (f : ToolFault). SalvagesStored g.R.Source.left g.R.Source.health g.R.Source.pulls c.args.limits c.args.readers.now
    c.save_parts.new.readers g.W.Target.written g.W.Target.health c.args.target.now c.write_stored_dump.new.target (Err f))
    (sym c.fault_of_stop.ensures)
    (stopped_so g.R.Source.left g.R.Source.health g.R.Source.pulls c.args.limits c.args.readers.now c.save_parts.new.readers
    g.W.Target.written g.W.Target.health c.args.target.now c.write_stored_dump.new.target g.S.Target.written g.S.Target.health
    g.P.Parts.bytes c.args.parts.now (g.S.Target.written c.args.scratch) c.in_ok-saved.saved c.finish-objects.result
    c.in_ok-saved.ensures c.finish-objects.ensures.holds c.requires.again (some_readers c.args.readers.now c.if-is_empty.ensures)
    it.result it.ensures.objects it.ensures.parts it.ensures.limits c.in-Ok-count.ensures.agree
    c.objects_stand_behind.ensures.objects c.objects_stand_behind.ensures.heap c.in-Err-write_stored_dump.stop wrote.dump
    wrote.health wrote.stops wrote.again)
