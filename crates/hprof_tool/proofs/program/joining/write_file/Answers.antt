use Rattle.std.proofs.Common.{◌≡◌, ℕ, List, Some, length, refl, sym, ap, subst, ◌∙◌}
use Rattle.std.specs.Io.Buffered.{writer_inner}
use Rattle.hprof_engine.specs.declared.tool_fault.ToolFault.TheVariants as tool
use Rattle.hprof_tool.specs.Folder.{AreOpened}
use Rattle.hprof_tool.specs.declared.program.refused.Refused.{Refused}
use Rattle.hprof_tool.specs.declared.program.refused.Refused.TheVariants as refusals
use Rattle.hprof_tool.specs.Program.{IsFilesRefusal}
use Rattle.hprof_tool.proofs.Files.{starting_not_of_engine, of_starting, if_the_error, no_memory_is_none, of_making}
use Rattle.hprof_tool.proofs.Streams.{stream_refusal, stream_kind, stream_no_parts}
use Rattle.hprof_tool.proofs.program.joining.write_file.Goals as goal

pub returns-in_err-parts-clause-no_parts : goal.returns-in_err-parts-clause-no_parts
returns-in_err-parts-clause-no_parts g c = λ same.
    let is = rw same at c.from_residual.ensures.1 in
    absurd (starting_not_of_engine
    (g.F.Folder.answered c.args.files.now) c.args.names.now c.args.out.name.now c.in_err-parts.field-0.0 tool.NoParts
    c.in_err-parts.ensures.kind (sym is))

pub returns-in_err-parts-clause-refused : goal.returns-in_err-parts-clause-refused
returns-in_err-parts-clause-refused g c =
    let making = g.P.Made.making c.args.product.now in
    if_the_error _ c.from_residual.result c.in_err-parts.field-0.0 (of_starting making
    (g.F.Folder.answered c.args.files.now) g.F.Part.Source.left g.F.Part.Source.health g.F.Part.Source.pulls c.args.names.now
    c.args.out.name.now _ c.in_err-parts.ensures.kind)
    c.from_residual.ensures.1

pub returns-in-Ok-write_buffered-clause-ok : goal.returns-in-Ok-write_buffered-clause-ok
returns-in-Ok-write_buffered-clause-ok g c = (
  writer_inner c.in_ok-parts.field-0.buffered,
  c.in_ok-parts.ensures.created,
  record {
    parts = c.deref_mut.result.now;
    opened = subst (λ (parts : List _). AreOpened (g.F.Folder.answered c.args.files.now) c.args.names.now parts)
        (sym c.deref_mut.ensures.value) c.in_ok-parts.ensures.opened;
    holds = (c.in-Ok-write_buffered.ensures.ok.1.ok refl).1;
  },
)

pub remove_out-requires : goal.remove_out-requires
remove_out-requires g c = (
  writer_inner c.in_ok-parts.field-0.buffered,
  subst (λ (name : List ℕ). (g.F.Folder.answered c.args.files.now).IsCreated name (writer_inner c.in_ok-parts.field-0.buffered))
      (sym c.as_str-name.ensures) c.in_ok-parts.ensures.created,
)

pub remove_out-requires-in-Err-write_buffered : goal.remove_out-requires-in-Err-write_buffered
remove_out-requires-in-Err-write_buffered g c = (
  writer_inner c.in_ok-parts.field-0.buffered,
  subst (λ (name : List ℕ). (g.F.Folder.answered c.args.files.now).IsCreated name (writer_inner c.in_ok-parts.field-0.buffered))
      (sym c.as_str-name.ensures) c.in_ok-parts.ensures.created,
)

pub returns-clause-refused : goal.returns-clause-refused
returns-clause-refused g c =
    let making = g.P.Made.making c.args.product.now in
    let answered = g.F.Folder.answered c.args.files.now in
    let left = c.in-Err-write_buffered.left in
    let opened = subst (λ (parts : List _). AreOpened answered c.args.names.now parts) (sym c.deref_mut.ensures.value)
    c.in_ok-parts.ensures.opened in
    of_making making answered g.F.Part.Source.left g.F.Part.Source.health g.F.Part.Source.pulls
    c.args.names.now
    c.deref_mut.result.now c.write_buffered.new.readers opened
    c.args.out.name.now left.why
    (stream_kind _ _ _ _ _ making _ _ left.why (Some left.writer) c.in-Err-write_buffered.ensures.stops)
    (stream_refusal _ _ _ _ _ making _ _ left.why (Some left.writer) c.in-Err-write_buffered.ensures.stops)
    (subst answered.HasNone c.as_str-name.ensures c.remove_out-in-Err-write_buffered.ensures)

pub returns-clause-no_parts : goal.returns-clause-no_parts
returns-clause-no_parts g c = λ same.
    let left = c.in-Err-write_buffered.left in
    let none : left.why ≡ refusals.Engine tool.NoParts = cc in
    sym c.in_ok-parts.ensures.count ∙ ap length (sym c.deref_mut.ensures.value)
    ∙ stream_no_parts _ _ _ _ _ _ _ _ left.why (Some left.writer) c.in-Err-write_buffered.ensures.stops none

-- there was no memory to read parts again

pub returns-in-Err-clause-refused : goal.returns-in-Err-clause-refused
returns-in-Err-clause-refused g c =
    subst (λ (why : Refused). IsFilesRefusal (g.P.Made.making c.args.product.now)
    (g.F.Folder.answered c.args.files.now) g.F.Part.Source.left
    g.F.Part.Source.health g.F.Part.Source.pulls c.args.names.now c.args.out.name.now why) (sym c.in-Err.ensures.refused)
    (tt, subst (g.F.Folder.answered c.args.files.now).HasNone c.as_str-name.ensures c.remove_out.ensures)

pub returns-in-Err-clause-no_parts : goal.returns-in-Err-clause-no_parts
returns-in-Err-clause-no_parts g c = λ same. absurd (no_memory_is_none c.in-Err.why c.in-Err.ensures.refused same)
