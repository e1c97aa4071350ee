use Rattle.std.proofs.Common.{◌≡◌, ◌∙◌, List, ℕ, Option, Ok, Err, sym, subst, ap}
use Rattle.std.specs.Io.KnownBytes.{append_known}
use Rattle.std.specs.Io.Buffered.{writer_contents, writer_inner}
use Rattle.hprof_tool.specs.Folder.{AreOpened}
use Rattle.hprof_tool.specs.SalvagedFiles.{SalvagesStream, IsSalvageRefusal}
use Rattle.hprof_tool.specs.declared.program.refused.Refused.{Refused}
use Rattle.hprof_tool.proofs.Files.{if_the_error}
use Rattle.hprof_tool.proofs.Making.{none_added}
use Rattle.hprof_tool.proofs.Saving.{engine_saves, files_saved, starting_saves}
use Rattle.hprof_tool.proofs.program.salvaging.salvage_file.Goals as goal

pub returns-in_err-parts-clause-refused : goal.returns-in_err-parts-clause-refused
returns-in_err-parts-clause-refused g c = if_the_error _ c.from_residual.result c.in_err-parts.field-0.0
    (starting_saves (g.F.Folder.answered c.args.files.now) g.F.Part.Source.left g.F.Part.Source.health g.F.Part.Source.pulls
    g.F.Out.Write.contents c.args.names.now c.args.out.name.now _ c.in_err-parts.ensures.kind) c.from_residual.ensures.1

pub remove_out-requires : goal.remove_out-requires
remove_out-requires g c = (
  writer_inner c.in_ok-parts.field-0.buffered,
  subst (λ (name : List ℕ). (g.F.Folder.answered c.args.files.now).IsCreated name (writer_inner c.in_ok-parts.field-0.buffered))
      (sym c.as_str-name.ensures) c.in_ok-parts.ensures.created,
)

pub remove_out-requires-in-Err : goal.remove_out-requires-in-Err
remove_out-requires-in-Err g c = (
  writer_inner c.in_ok-parts.field-0.buffered,
  subst (λ (name : List ℕ). (g.F.Folder.answered c.args.files.now).IsCreated name (writer_inner c.in_ok-parts.field-0.buffered))
      (sym c.as_str-name.ensures) c.in_ok-parts.ensures.created,
)

pub returns-in-Ok-outcome-clause-ok : goal.returns-in-Ok-outcome-clause-ok
returns-in-Ok-outcome-clause-ok g c =
    let answered = g.F.Folder.answered c.args.files.now in
    let contents = g.F.Out.Write.contents in
    let buffered = c.in_ok-parts.field-0.buffered in
    let made = c.salvage_into-outcome in
    let opened = subst (λ (parts : List _). AreOpened answered c.args.names.now parts) (sym c.deref_mut.ensures.value)
    c.in_ok-parts.ensures.opened in
    let empty : writer_contents contents buffered ≡ contents (writer_inner buffered) =
    ap (append_known (contents (writer_inner buffered))) c.in_ok-parts.ensures.empty ∙ none_added (contents (writer_inner buffered)) in
    let flushed = rw c.in-Ok-outcome.is at made.ensures.flushed in
    let whole : append_known (contents made.result.writer) made.result.unwritten.items ≡ contents made.result.writer =
    rw (flushed, none_added (contents made.result.writer)) in
    let saves = rw c.in-Ok-outcome.is at made.ensures.salvages in (
      writer_inner buffered,
      c.in_ok-parts.ensures.created,
      files_saved answered g.F.Part.Source.left g.F.Part.Source.health g.F.Part.Source.pulls contents c.args.names.now c.args.out.name.now
          c.deref_mut.result.now made.new.readers opened (writer_inner buffered) made.result.writer made.result.unwritten.items
          (contents made.result.writer) (Ok c.in-Ok-outcome.salvaged)
          (subst (λ (holds : Option (List ℕ)). SalvagesStream g.F.Part.Source.left g.F.Part.Source.health g.F.Part.Source.pulls
          c.deref_mut.result.now made.new.readers (contents (writer_inner buffered)) holds (Ok c.in-Ok-outcome.salvaged)) whole
          (subst (λ (held : Option (List ℕ)). SalvagesStream g.F.Part.Source.left g.F.Part.Source.health g.F.Part.Source.pulls
          c.deref_mut.result.now made.new.readers held (append_known (contents made.result.writer) made.result.unwritten.items)
          (Ok c.in-Ok-outcome.salvaged)) empty saves)),
    )

pub returns-clause-refused : goal.returns-clause-refused
returns-clause-refused g c =
    let answered = g.F.Folder.answered c.args.files.now in
    let contents = g.F.Out.Write.contents in
    let buffered = c.in_ok-parts.field-0.buffered in
    let made = c.salvage_into-outcome in
    let opened = subst (λ (parts : List _). AreOpened answered c.args.names.now parts) (sym c.deref_mut.ensures.value)
    c.in_ok-parts.ensures.opened in
    let empty : writer_contents contents buffered ≡ contents (writer_inner buffered) =
    ap (append_known (contents (writer_inner buffered))) c.in_ok-parts.ensures.empty ∙ none_added (contents (writer_inner buffered)) in
    let saves = rw c.in-Err.is at made.ensures.salvages in
    subst (λ (r : Refused). IsSalvageRefusal answered g.F.Part.Source.left g.F.Part.Source.health g.F.Part.Source.pulls contents
    c.args.names.now c.args.out.name.now r) (sym c.from.ensures)
    (engine_saves answered g.F.Part.Source.left g.F.Part.Source.health g.F.Part.Source.pulls contents c.args.names.now c.args.out.name.now
    c.deref_mut.result.now made.new.readers opened (writer_inner buffered) made.result.writer made.result.unwritten.items c.in-Err.fault
    (subst (λ (held : Option (List ℕ)). SalvagesStream g.F.Part.Source.left g.F.Part.Source.health g.F.Part.Source.pulls
    c.deref_mut.result.now made.new.readers held (append_known (contents made.result.writer) made.result.unwritten.items)
    (Err c.in-Err.fault)) empty saves) c.in_ok-parts.ensures.created
    (subst answered.HasNone c.as_str-name.ensures c.remove_out-in-Err.ensures))

-- there was no memory to read parts again

pub returns-in_default-clause-refused : goal.returns-in_default-clause-refused
returns-in_default-clause-refused g c = subst (g.F.Folder.answered c.args.files.now).HasNone c.as_str-name.ensures c.remove_out.ensures
