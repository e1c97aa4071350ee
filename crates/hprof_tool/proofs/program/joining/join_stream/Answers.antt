use Rattle.std.proofs.Common.{◌≡◌, ℕ, List, [], ◌∷◌, ◌++◌, Some, inl, refl, sym, subst, ap, ◌∙◌}
use Rattle.hprof_engine.specs.Makes.{IsDump}
use Rattle.hprof_stored.specs.StoredMaking.{stored_dump_making}
use Rattle.std.specs.Prelude.{IfSome}
use Rattle.hprof_tool.specs.Again.{IsReadyFor}
use Rattle.hprof_tool.specs.Program.{IsRefusal}
use Rattle.hprof_tool.specs.Streams.{IsFrontOfStream}
use Rattle.hprof_tool.proofs.Ends.{if_ok_more, if_err_more}
use Rattle.hprof_tool.proofs.Files.{one_told}
use Rattle.hprof_tool.proofs.Making.{none_added}
use Rattle.hprof_tool.proofs.Streams.{stream_refusal, stream_kind, stream_left}
use Rattle.hprof_tool.proofs.program.joining.join_stream.Goals as goal

pub returns-clause-ok : goal.returns-clause-ok
returns-clause-ok g c =
    let one : c.deref_mut.result.now ≡ c.args.input ∷ [] = c.deref_mut.ensures.value ∙ c.in-Ok.ensures.items
    ∙ ap (λ (l : List g.row.I.Denot). l ++ c.args.input ∷ []) c.new-part.ensures.items in
    if_ok_more _ _ c.write_through_buffer.result
    (λ written makes part told. (makes.1.ok refl).1 (part ∷ []) (one_told g.I.Source.left c.deref_mut.result.now c.args.input part one
    told))
    c.write_through_buffer.ensures.ok

pub returns-clause-kind : goal.returns-clause-kind
returns-clause-kind g c = if_err_more _ _ c.write_through_buffer.result
    (λ stopped stops. stream_kind _ _ _ _ _ stored_dump_making _ _ stopped.why stopped.writer stops)
    c.write_through_buffer.ensures.stops

pub returns-clause-refused : goal.returns-clause-refused
returns-clause-refused g c =
    let read = c.write_through_buffer.new.readers in
    let one : c.deref_mut.result.now ≡ c.args.input ∷ [] = c.deref_mut.ensures.value ∙ c.in-Ok.ensures.items
    ∙ ap (λ (l : List g.row.I.Denot). l ++ c.args.input ∷ []) c.new-part.ensures.items in
    let told_by = λ (part : List ℕ) (told : g.I.Source.left c.args.input ≡ Some part). one_told g.I.Source.left c.deref_mut.result.now
    c.args.input part one told in
    if_err_more _ _ c.write_through_buffer.result (λ stopped stops. (
      (
        read,
        λ part told. subst (λ (l : List g.row.I.Denot). IsRefusal g.I.Source.left g.I.Source.health g.I.Source.pulls l read
            stored_dump_making
            stopped.why (part ∷ [])) one
            (stream_refusal _ _ _ _ _ stored_dump_making _ _ stopped.why stopped.writer stops (part ∷ [])
            (told_by part told)),
      ),
      stream_left _ _ _ _ _ stored_dump_making _ _ (IsFrontOfStream IsDump g.I.Source.left c.args.input)
          (λ held holds writes part told. writes (part ∷ []) (told_by part told)) stopped.why stopped.writer stops,
    )) c.write_through_buffer.ensures.stops

pub returns-in_default-clause-refused : goal.returns-in_default-clause-refused
returns-in_default-clause-refused g c = (([], λ part told. tt), ([], inl (none_added (g.O.Write.contents c.args.output))))

pub write_through_buffer-requires-clause-again : goal.write_through_buffer-requires-clause-again
write_through_buffer-requires-clause-again g c =
    let one : c.deref_mut.result.now ≡ c.args.input ∷ [] = c.deref_mut.ensures.value ∙ c.in-Ok.ensures.items
    ∙ ap (λ (l : List g.row.I.Denot). l ++ c.args.input ∷ []) c.new-part.ensures.items in
    subst (λ (l : List g.row.I.Denot). IfSome c.args.again (IsReadyFor g.I.Source.left g.H.ReadAt.bytes g.S.Target.written
    g.S.Target.health l))
    (sym one) c.requires.again
