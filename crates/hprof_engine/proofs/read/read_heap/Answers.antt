use Rattle.std.proofs.Common.{◌≡◌, ◌≤◌, ℕ, List, Result, Ok, Err, arith, sym, subst, length}
use Rattle.std.specs.List.{All}
use Rattle.hprof_devices.specs.declared.health.Health.TheVariants as healths
use Rattle.hprof_values.specs.declared.ids.IdSize.{IdSize}
use Rattle.hprof_items.specs.FactValue.{FactValue}
use Rattle.hprof_items.specs.Spelling.{longest_body}
use Rattle.hprof_heap.specs.State.{IsState}
use Rattle.hprof_engine.specs.declared.tool_fault.ToolFault.{ToolFault}
use Rattle.hprof_engine.specs.Joining.{Tell, fault_of, read_count, IsHindered, IsOkOrConflict, IsOfReading, none_known}
use Rattle.hprof_engine.specs.Makes.{Reads}
use Rattle.hprof_engine.specs.Summaries.{HoldsFirst}
use Rattle.hprof_engine.proofs.Answers.{from_nothing, stopped, answered, reads_alone, found_agree}
use Rattle.hprof_engine.proofs.Going.{of_fault}
use Rattle.hprof_engine.proofs.read.read_heap.Goals as goal

-- reading ended with a fault

pub returns-in_err-read_parts-clause-reads : goal.returns-in_err-read_parts-clause-reads
returns-in_err-read_parts-clause-reads g c =
    of_fault (λ (r : Result _ ToolFault). Reads g.R.Source.left g.R.Source.health g.R.Source.pulls none_known c.args.limits
    c.args.readers.now c.read_parts.new.readers (fault_of r)) c.from_residual.result c.in_err-read_parts.field-0.0 c.from_residual.ensures.1
    (stopped g.R.Source.left g.R.Source.health g.R.Source.pulls c.args.limits c.args.readers.now c.read_parts.new.readers
    c.in_err-read_parts.field-0.0 (g.G.Gather.gathered c.args.gatherer) (g.G.Gather.gathered c.read_parts.new.gatherer)
    c.in_err-read_parts.ensures.read).1

pub returns-in_err-read_parts-clause-kind : goal.returns-in_err-read_parts-clause-kind
returns-in_err-read_parts-clause-kind g c =
    of_fault (λ (r : Result _ ToolFault). IsOfReading (fault_of r)) c.from_residual.result c.in_err-read_parts.field-0.0
    c.from_residual.ensures.1
    (stopped g.R.Source.left g.R.Source.health g.R.Source.pulls c.args.limits c.args.readers.now c.read_parts.new.readers
    c.in_err-read_parts.field-0.0 (g.G.Gather.gathered c.args.gatherer) (g.G.Gather.gathered c.read_parts.new.gatherer)
    c.in_err-read_parts.ensures.read).0

pub returns-in_err-read_parts-clause-told : goal.returns-in_err-read_parts-clause-told
returns-in_err-read_parts-clause-told g c =
    of_fault (λ (r : Result _ ToolFault). HoldsFirst g.R.Source.left (g.S.Summaries.holds c.args.summaries.now)
    c.args.readers.now (read_count (fault_of r) (length c.args.readers.now)) c.read_parts.new.kept) c.from_residual.result
    c.in_err-read_parts.field-0.0 c.from_residual.ensures.1 c.in_err-read_parts.ensures.summaries

pub returns-in_err-read_parts-clause-no_other : goal.returns-in_err-read_parts-clause-no_other
returns-in_err-read_parts-clause-no_other g c = λ parts ids millis facts told state well unhindered.
    let fault = c.in_err-read_parts.field-0.0 in
    let le : c.args.limits.max_item ≤ longest_body = omega arith in
    of_fault (λ (r : Result _ ToolFault). (IsHindered (fault_of r) → ⊥) → IsOkOrConflict (fault_of r)) c.from_residual.result
    fault c.from_residual.ensures.1
    ((stopped g.R.Source.left g.R.Source.health g.R.Source.pulls c.args.limits c.args.readers.now c.read_parts.new.readers fault
    (g.G.Gather.gathered c.args.gatherer) (g.G.Gather.gathered c.read_parts.new.gatherer) c.in_err-read_parts.ensures.read).2 le
    parts ids millis facts told state well) unhindered

-- all parts were read

pub heap_of_all-requires : goal.heap_of_all-requires
heap_of_all-requires g c =
    let read = c.in_ok-read_parts.ensures.read.0 in
    record {
      given = (
        read.given,
        from_nothing (g.G.Gather.gathered c.args.gatherer) (g.G.Gather.gathered c.read_parts.new.gatherer) read.given c.requires.nothing
            read.gathers,
      );
    }

pub returns-clause-ok : goal.returns-clause-ok
returns-clause-ok g c =
    let read = c.in_ok-read_parts.ensures.read.0 in
    let gathers = from_nothing (g.G.Gather.gathered c.args.gatherer) (g.G.Gather.gathered c.read_parts.new.gatherer) read.given
    c.requires.nothing read.gathers in
    found_agree read.given g.G.Gather.heap_in g.R.Source.left c.args.limits c.args.readers.now read.of_readers c.heap_of_all.result
    (c.heap_of_all.ensures.told read.given gathers)

pub returns-clause-reads : goal.returns-clause-reads
returns-clause-reads g c =
    let read = c.in_ok-read_parts.ensures.read in
    let gathers = from_nothing (g.G.Gather.gathered c.args.gatherer) (g.G.Gather.gathered c.read_parts.new.gatherer) read.0.given
    c.requires.nothing read.0.gathers in
    (answered g.R.Source.left g.R.Source.health g.R.Source.pulls c.args.limits c.args.readers.now c.read_parts.new.readers read.0.given
    read.0.of_readers read.1 g.G.Gather.heap_in c.heap_of_all.result (c.heap_of_all.ensures.told read.0.given gathers)).0

pub returns-clause-kind : goal.returns-clause-kind
returns-clause-kind g c =
    let read = c.in_ok-read_parts.ensures.read in
    let gathers = from_nothing (g.G.Gather.gathered c.args.gatherer) (g.G.Gather.gathered c.read_parts.new.gatherer) read.0.given
    c.requires.nothing read.0.gathers in
    (reads_alone read.0.given g.G.Gather.heap_in c.heap_of_all.result (c.heap_of_all.ensures.told read.0.given gathers)).0

pub returns-clause-told : goal.returns-clause-told
returns-clause-told g c =
    let read = c.in_ok-read_parts.ensures.read in
    let gathers = from_nothing (g.G.Gather.gathered c.args.gatherer) (g.G.Gather.gathered c.read_parts.new.gatherer) read.0.given
    c.requires.nothing read.0.gathers in
    let all = (reads_alone read.0.given g.G.Gather.heap_in c.heap_of_all.result (c.heap_of_all.ensures.told read.0.given gathers)).1 in
    subst (λ (count : ℕ). HoldsFirst g.R.Source.left (g.S.Summaries.holds c.args.summaries.now) c.args.readers.now count
    c.read_parts.new.kept) (sym (all (length c.args.readers.now))) c.in_ok-read_parts.ensures.summaries

pub returns-clause-no_other : goal.returns-clause-no_other
returns-clause-no_other g c = λ parts ids millis facts told state well unhindered.
    let read = c.in_ok-read_parts.ensures.read in
    let gathers = from_nothing (g.G.Gather.gathered c.args.gatherer) (g.G.Gather.gathered c.read_parts.new.gatherer) read.0.given
    c.requires.nothing read.0.gathers in
    (answered g.R.Source.left g.R.Source.health g.R.Source.pulls c.args.limits c.args.readers.now c.read_parts.new.readers read.0.given
    read.0.of_readers read.1 g.G.Gather.heap_in c.heap_of_all.result (c.heap_of_all.ensures.told read.0.given gathers)).1
    parts ids millis facts told state
